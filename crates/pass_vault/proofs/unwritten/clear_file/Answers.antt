use Rattle.std.proofs.Common.{◌≡◌, ◌+◌, ◌∙◌, ℕ, List, sym, ap, arith}
use Rattle.lru.specs.LruCache.{lru_cache}
use Rattle.pass_vault.specs.Pooled.{Blocks}
use Rattle.pass_vault.proofs.Pooling.{Pair, without_below, without_none, without_more, without_all}
use Rattle.pass_vault.proofs.unwritten.clear_file.Goals as goal

pub loop-block-init : goal.loop-block-init
loop-block-init c = ap (λ (es : List Pair). lru_cache es c.args.pool.now.cap) (sym (without_none c.args.number c.args.pool.now.entries))

pub loop-block-preserved : goal.loop-block-preserved
loop-block-preserved c =
    let l = c.loop-block in
    let is = ap (λ (p : Blocks). p.entries) l.invariant in
    c.take.ensures.pairs
    ∙ ap (λ (es : List Pair). lru_cache es l.pool.cap) (without_more c.args.number l.block c.args.pool.now.entries l.pool.entries is c.len-len.ensures.once)
    ∙ ap (λ (p : Blocks). lru_cache (without_below c.args.number (l.block + 1) c.args.pool.now.entries) p.cap) l.invariant

pub returns : goal.returns
returns c =
    let all : c.loop-block.block ≡ 1024 = omega (arith, c.loop-block-test.false, c.loop-block.auto.block-end) in
    c.loop-block.invariant
    ∙ ap (λ (n : ℕ). lru_cache (without_below c.args.number n c.args.pool.now.entries) c.args.pool.now.cap) all
    ∙ ap (λ (es : List Pair). lru_cache es c.args.pool.now.cap) (without_all c.args.number 1024 c.args.pool.now.entries c.requires.within)
