use Rattle.std.proofs.Common.{ℕ, ◌≡◌, ◌∙◌, ◌==◌, ◌&&◌, ◌*◌, Bool, false, cond, ap, sym}
use Rattle.std.specs.Prelude.{Some, None}
use Rattle.std.specs.BTreeMap.{get}
use Rattle.pass_plain.specs.Records.{block_size}
use Rattle.pass_range.specs.Laters.{has_size, range_cmp}
use Rattle.pass_range.specs.Tables.{range_at}
use Rattle.pass_range.proofs.Noting.{digest_noted, is_eq-range_cmp, at_same}
use Rattle.pass_range.proofs.later.Later.digest.Goals as goal
use Rattle.pass_entry.proofs.Variants.{none_of}

pub returns : goal.returns
returns c = λ p block.
    let old = c.args.self.now in
    let range = c.args.range in
    let put : get range_cmp c.insert.new.self (range_at p block) ≡ cond ((range.pnode == p) && (range.block == block)) (Some c.args.md5) (get range_cmp old.rows (range_at p block)) =
    c.in_ok-insert.ensures.updates.0 (range_at p block)
    ∙ ap (λ (b : Bool). cond b (Some c.args.md5) (get range_cmp old.rows (range_at p block))) (is_eq-range_cmp range (range_at p block)) in
    digest_noted c.args.md5 (get range_cmp old.rows (range_at p block)) (get range_cmp c.insert.new.self (range_at p block)) ((range.pnode == p) && (range.block == block)) (has_size old p (block * block_size))
    put (at_same range.pnode range.block p block (λ i j. (get range_cmp old.rows (range_at i j) ≡ None) × (has_size old i (j * block_size) ≡ false)) (
      none_of (get range_cmp old.rows range) (sym c.contains_key.ensures ∙ c.if-contains_key.false),
      ap (λ (at : ℕ). has_size old range.pnode (at * 4096)) (sym c.from.ensures) ∙ sym c.has_size.ensures ∙ c.if-has_size.false,
    ))
