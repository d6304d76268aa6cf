use Rattle.std.proofs.Common.{◌≡◌, ◌∙◌, ◌+◌, ◌-◌, ◌*◌, ◌++◌, ◌∷◌, [], ℕ, List, length, take, drop, ap, sym, subst, arith, length-take}
use Rattle.std.proofs.lemmas.List.{length-append, length-replicate, take_all}
use Rattle.pass_plain.specs.Files.{extended}
use Rattle.pass_table.specs.Tables.{bytes_of, flat, AreWhole}
use Rattle.pass_table.proofs.Flats.{Block, starts, flat_length}
use Rattle.pass_table.proofs.Growing.{flat_push, whole_push, part_more}
use Rattle.pass_table.proofs.table.table_with.Goals as goal

pub block_with-requires : goal.block_with-requires
block_with-requires c =
    let e = ap length c.bytes_in.ensures in
    let t = length-take 4096 (drop (c.loop-block.block * 4096) c.args.bytes.now) in
    omega (arith, e, t)

pub loop-block-preserved : goal.loop-block-preserved
loop-block-preserved c =
    let bytes = c.args.bytes.now in
    let block = c.loop-block.block in
    let old = c.loop-block.table.items in
    let own = c.in_ok-own.own in
    let i = c.loop-block.invariant in
    let is = c.in_ok-push.ensures.items in
    let e = c.blocks_for-count.ensures in
    let least = e.least in
    let part : List ℕ = take 4096 (drop (block * 4096) bytes) in
    let own_is : bytes_of own ≡ extended part 4096 = c.in_ok-own.ensures ∙ ap (λ (xs : List ℕ). extended xs 4096) c.bytes_in.ensures in
    let whole : length (bytes_of own) ≡ 4096 =
    ap length own_is ∙ length-append part _ ∙ (let r = length-replicate {A = ℕ} (4096 - length part) 0 in let t = length-take 4096 (drop (block * 4096) bytes) in omega (arith, r, t)) in
    let more = ap length is ∙ length-append old (own ∷ []) in
    let count = i.count in
    record {
      whole = subst (λ (t : List Block). AreWhole 4096 t) (sym is) (whole_push 4096 old own i.whole whole);
      count = omega (arith, more, count);
      flat = ap flat is ∙ flat_push old own ∙ (λ k. i.flat k ++ own_is k)
          ∙ part_more bytes (block * 4096) 4096 (let test = c.loop-block-test.true in omega (arith, test, least))
          ∙ ap (λ n. extended (take n bytes) n) (let z : block * 4096 + 4096 ≡ (block + 1) * 4096 = omega arith in z);
    }

pub returns-clause-flat : goal.returns-clause-flat
returns-clause-flat c =
    let bytes = c.args.bytes.now in
    let e = c.blocks_for-count.ensures in
    let covers = e.covers in
    let i = c.loop-block.invariant in
    let count = i.count in
    let n = c.loop-block.block in
    let last : n ≡ c.blocks_for-count.result = omega (arith, c.loop-block-test.false, c.loop-block.auto.block-end) in
    let long : length (flat c.loop-block.table.items) ≡ n * 4096 = flat_length 4096 c.loop-block.table.items i.whole ∙ starts (length c.loop-block.table.items) ∙ (omega (arith, count)) in
    i.flat ∙ ap (λ xs. extended xs (n * 4096)) (take_all (n * 4096) bytes (omega (arith, covers, last))) ∙ ap (extended bytes) (sym long)
