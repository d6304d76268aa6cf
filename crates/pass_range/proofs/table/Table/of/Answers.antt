use Rattle.std.proofs.Common.{ℕ, ◌≡◌, ◌∙◌, ◌*◌, sym, ap}
use Rattle.std.specs.Prelude.{None}
use Rattle.std.specs.BTreeMap.{get}
use Rattle.pass_plain.specs.Records.{block_size}
use Rattle.pass_range.specs.Rows.{row_of}
use Rattle.pass_range.specs.Sources.{Touch, row_after}
use Rattle.pass_range.specs.Laters.{has_size, range_cmp}
use Rattle.pass_range.specs.Tables.{range_at}
use Rattle.pass_range.proofs.Noting.{touched_row}
use Rattle.pass_range.proofs.LastRows.{row-touch}
use Rattle.pass_range.proofs.table.Table.of.Goals as goal

pub returns : goal.returns
returns c =
    let later = c.in_ok-later.later in
    let same : (p b : ℕ) → get range_cmp later.rows (range_at p b) ≡ row_of c.args.list.now p b = λ p b.
    sym (touched_row (get range_cmp later.rows (range_at p b)) (has_size later p (b * block_size)))
    ∙ ap (λ (t : Touch). row_after t None) (c.in_ok-later.ensures p b) ∙ sym (row-touch c.args.list.now p b) in
    record {
      ascending = c.in_ok-rows.ensures.ascending;
      rows = λ p b d. let found = c.in_ok-rows.ensures.rows p b d in (λ h. sym (same p b) ∙ found.0 h, λ h. found.1 (same p b ∙ h));
      files = c.in_ok-files.ensures;
    }
