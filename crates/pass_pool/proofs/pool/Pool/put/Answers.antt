use Rattle.std.proofs.Common.{refl, ap, ◌∙◌}
use Rattle.lru.specs.LruCache.{lru_cache}
use Rattle.pass_pool.specs.contracts.pool.FileBlockPartialEq.TheImpl as impl
use Rattle.pass_pool.proofs.Staging.{staged_is}
use Rattle.pass_pool.proofs.pool.Pool.put.Goals as goal

pub returns-in-Ok-clause-pairs : goal.returns-in-Ok-clause-pairs
returns-in-Ok-clause-pairs c = rw (← c.self.view_is) (c.in-Ok.ensures.entries
    ∙ ap (λ es. lru_cache es c.self.inside.cache.cap) (staged_is c.self.inside.cache (record { number = c.args.number; block = c.args.block }) c.args.bytes impl.eq-value.it (λ k. refl)))

pub returns-in-Ok-2-clause-pairs : goal.returns-in-Ok-2-clause-pairs
returns-in-Ok-2-clause-pairs c = rw (← c.self.view_is) (c.in-Ok-2.ensures.entries
    ∙ ap (λ es. lru_cache es c.self.inside.cache.cap) (staged_is c.self.inside.cache (record { number = c.args.number; block = c.args.block }) c.args.bytes impl.eq-value.it (λ k. refl)))
