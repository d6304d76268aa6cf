use Rattle.std.proofs.Common.{◌≡◌}
use Rattle.lru.specs.LruCache.{lru_cache}
use Rattle.pass_vault.proofs.Pooling.{without_below}
use Rattle.pass_vault.proofs.unwritten.clear_file.Given as goal

abbrev pub invariant-loop-block : goal.invariant-loop-block
invariant-loop-block l = l.pool ≡ lru_cache (without_below l.fn.number l.block l.fn.pool.entries) l.fn.pool.cap
