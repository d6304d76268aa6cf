-- What the files have into which every row of the table was read.
use Rattle.std.proofs.Common.{◌≡◌, ◌∙◌, ◌==◌, ◌||◌, ◌&&◌, ◌<◌, ℕ, Bool, true, false, not, cond, List, [], ◌∷◌, map, filter, refl, sym, ap, subst, arith, ⊎_elim}
use Rattle.std.specs.Prelude.{Option, Some, None, is_some, slice_get, bytes_eq}
use Rattle.std.specs.Option.{option_map_or}
use Rattle.std.specs.List.{list_any}
use Rattle.std.proofs.lemmas.Bool.{true≢false}
use Rattle.md5.specs.Md5.{md5}
use Rattle.pass_entry.specs.declared.record.Record.{Record}
use Rattle.pass_entry.proofs.Variants.{some_of}
use Rattle.pass_entry.proofs.Places.{mapped, Contains-place, filter_agrees, Contains-at}
use Rattle.pass_plain.specs.declared.start.Start.{Start}
use Rattle.pass_plain.specs.declared.start.StartFile.{StartFile}
use Rattle.pass_plain.specs.Records.{range_len}
use Rattle.pass_plain.specs.WellLogged.{size_of, ceiling_of}
use Rattle.pass_plain.proofs.Lists.{true_left, true_right, both_true, same_numbers, same_itself, filtered, any_at, any_of}
use Rattle.pass_range.specs.declared.range.Range.{Range}
use Rattle.pass_range.specs.declared.table.Table.{Table}
use Rattle.pass_range.specs.declared.table.TableFile.{TableFile}
use Rattle.pass_range.specs.Places.{place, found_there}
use Rattle.pass_range.specs.Rows.{range, row_of, number_of}
use Rattle.pass_range.specs.Tables.{Row, IsTableOf, AreUnmatched, file_in, is_matched}
use Rattle.pass_range.proofs.Listed.{numbered, ascending_filter, listed_exactly}
use Rattle.pass_recover.specs.Starts.{apps_of, current_node, IsFileOf, IsStartOf, HasBytes}
use Rattle.pass_recover.specs.Fills.{has_block, blocks_in, AreFilled, AreRead, bytes_in, is_same, other_ranges}
use Rattle.pass_recover.proofs.Elements.{in_mapped}
use Rattle.pass_recover.proofs.RowRead.{number-at}

abbrev is_row : ℕ → ℕ → Row → Bool
is_row p block row = row.0.pnode == p && row.0.block == block

-- a block is among those of a file's rows exactly where one of its rows is there
among : (rows : List Row) (p block : ℕ) → list_any (λ (b : ℕ). b == block) (blocks_in rows p) ≡ has_block rows p block
among [] p block = refl
among (row ∷ rows) p block = by_file (row.0.pnode == p) (among rows p block)
  where
    by_file : (t : Bool) → list_any (λ (b : ℕ). b == block) (blocks_in rows p) ≡ has_block rows p block
        → list_any (λ (b : ℕ). b == block) (map (λ (r : Row). r.0.block) (cond t (row ∷ filter (λ (r : Row). r.0.pnode == p) rows) (filter (λ (r : Row). r.0.pnode == p) rows)))
        ≡ ((t && row.0.block == block) || has_block rows p block)
    by_file true rest = ap (λ (b : Bool). row.0.block == block || b) rest
    by_file false rest = rest

-- two tests of a row are the same where one passes exactly where the other does
both_ways : (a b : Bool) → (a ≡ true → b ≡ true) → (b ≡ true → a ≡ true) → a ≡ b
both_ways true b to from = sym (to refl)
both_ways false true to from = absurd (true≢false (sym (from refl)))
both_ways false false to from = refl

module _ (list : List Record) (table : Table) (is : IsTableOf list table) where
  abbrev rows : List Row
  rows = table.rows.items

  row_at : (p block : ℕ) → has_block rows p block ≡ true → is_some (row_of list p block) ≡ true
  row_at p block has =
      let m = any_at (is_row p block) rows has in
      let row = m.1 in
      let pnode = same_numbers row.0.pnode p (true_left (row.0.pnode == p) (row.0.block == block) m.3) in
      let number = same_numbers row.0.block block (true_right (row.0.pnode == p) (row.0.block == block) m.3) in
      let there : row_of list row.0.pnode row.0.block ≡ Some row.1 = (is.rows row.0.pnode row.0.block row.1).0 (Contains-at rows m.0 row m.2) in
      ap (λ (q : ℕ). is_some (row_of list q block)) (sym pnode) ∙ ap (λ (b : ℕ). is_some (row_of list row.0.pnode b)) (sym number) ∙ ap is_some there

  has_at : (p block : ℕ) → is_some (row_of list p block) ≡ true → has_block rows p block ≡ true
  has_at p block some =
      let digest = some_of (row_of list p block) some in
      let there = Contains-place rows (record { pnode = p; block = block }, digest.0) ((is.rows p block digest.0).1 digest.1) in
      any_of (is_row p block) rows there.0 (record { pnode = p; block = block }, digest.0) there.1 (both_true (p == p) (block == block) (same_itself p) (same_itself block))

  pub has_is : (p block : ℕ) → has_block rows p block ≡ is_some (row_of list p block)
  has_is p block = both_ways (has_block rows p block) (is_some (row_of list p block)) (row_at p block) (has_at p block)

  blocks_ascend : (p i j a b : ℕ) → slice_get (blocks_in rows p) i ≡ Some a → slice_get (blocks_in rows p) j ≡ Some b → i < j → a < b
  blocks_ascend p i j a b first second less =
      let kept : List Row = filter (λ (r : Row). r.0.pnode == p) rows in
      let x = mapped (λ (r : Row). r.0.block) kept i a first in
      let y = mapped (λ (r : Row). r.0.block) kept j b second in
      let one = same_numbers x.0.0.pnode p (filtered (λ (r : Row). r.0.pnode == p) rows i x.0 x.1).0 in
      let two = same_numbers y.0.0.pnode p (filtered (λ (r : Row). r.0.pnode == p) rows j y.0 y.1).0 in
      ⊎_elim
      (λ (below : x.0.0.pnode < y.0.0.pnode). absurd (omega (arith, below, one, two)))
      (λ (below : (x.0.0.pnode ≡ y.0.0.pnode) × (x.0.0.block < y.0.0.block)). let e = x.2 in let f = y.2 in omega (arith, below.1, e, f))
      (ascending_filter (λ (r : Row). r.0.pnode == p) rows is.ascending i j x.0.0 y.0.0 less (in_mapped (λ (r : Row). r.0) kept i x.0 x.1) (in_mapped (λ (r : Row). r.0) kept j y.0 y.1))

  module _ (files : List StartFile) (filled : AreFilled list rows files) where
    file_of_list : (i : ℕ) (file : StartFile) → slice_get files i ≡ Some file → IsFileOf list file
    file_of_list i file at =
        let has = filled.each i file at in
        record {
          version = has.version;
          name = has.name;
          size = has.size;
          ascending = λ j k a b first second less. blocks_ascend file.node.pnode j k a b (ap (λ (l : List ℕ). slice_get l j) (sym has.rows) ∙ first) (ap (λ (l : List ℕ). slice_get l k) (sym has.rows) ∙ second) less;
          rows = λ block. ap (list_any (λ (b : ℕ). b == block)) has.rows ∙ among rows file.node.pnode block ∙ has_is file.node.pnode block;
          sized = has.sized ∙ sym has.size;
          zero = λ block none. has.zero block (has_is file.node.pnode block ∙ ap is_some none);
        }

    -- a start of these files is that of the list
    pub start_of : (start : Start) → start.files.items ≡ files → start.ceiling ≡ ceiling_of list → start.apps.items ≡ map (current_node list) (apps_of list) → IsStartOf list start
    start_of start same ceiling apps = record {
      ceiling = ceiling;
      files = ap (map (λ (f : StartFile). f.node.pnode)) same ∙ filled.order;
      each = λ i file at. file_of_list i file (sym (ap (λ (l : List StartFile). slice_get l i) same) ∙ at);
      apps = apps;
    }

    module _ (store : List ℕ) (read : AreRead list rows store files) where
      pub bytes_of : (start : Start) → start.files.items ≡ files → HasBytes list store start
      bytes_of start same = λ number file at block some.
          read number file (sym (ap (λ (l : List StartFile). slice_get l number) same) ∙ at) block (has_is file.node.pnode block ∙ some)

      -- a row that has its digest in the files has it in the area
      same_matched : (i : ℕ) (row : Row) → slice_get rows i ≡ Some row → not (is_same table files row) ≡ not (is_matched table store row)
      same_matched i row at = ap not (by_file (file_in table row.0.pnode) refl)
        where
          by_file : (o : Option TableFile) → file_in table row.0.pnode ≡ o
              → option_map_or (λ (file : TableFile). bytes_eq (md5 (range row.0.block (bytes_in files file.number))) row.1) o true
              ≡ option_map_or (λ (file : TableFile). bytes_eq (md5 (found_there (place file.number row.0.block) (range_len file.size row.0.block) store)) row.1) o true
          by_file None none = refl
          by_file (Some file) is_file =
              let number = numbered (number_of list row.0.pnode) (size_of list row.0.pnode) file (sym (is.files row.0.pnode) ∙ is_file) in
              let there = mapped (λ (f : StartFile). f.node.pnode) files file.number row.0.pnode (ap (λ (l : List ℕ). slice_get l file.number) filled.order ∙ number-at list row.0.pnode file.number number.0) in
              let some : has_block rows there.0.node.pnode row.0.block ≡ true =
              any_of (is_row there.0.node.pnode row.0.block) rows i row at
              (both_true (row.0.pnode == there.0.node.pnode) (row.0.block == row.0.block) (ap (λ (q : ℕ). row.0.pnode == q) there.2 ∙ same_itself row.0.pnode) (same_itself row.0.block)) in
              ap (λ (l : List ℕ). bytes_eq (md5 l) row.1)
              (ap (λ (o : Option StartFile). range row.0.block (option_map_or (λ (f : StartFile). f.bytes.items) o [])) there.1
              ∙ read file.number there.0 there.1 row.0.block some
              ∙ ap (λ (q : ℕ). found_there (place file.number row.0.block) (range_len (size_of list q) row.0.block) store) there.2
              ∙ ap (λ (n : ℕ). found_there (place file.number row.0.block) (range_len n row.0.block) store) (sym number.1))

      -- the ranges that have another digest in the files are those that the area doesn't match
      pub unmatched_of : (ranges : List Range) → ranges ≡ other_ranges table files rows → AreUnmatched list store ranges
      unmatched_of ranges same =
          subst (AreUnmatched list store)
          (sym (same ∙ ap (map (λ (row : Row). row.0)) (filter_agrees (λ (row : Row). not (is_same table files row)) (λ (row : Row). not (is_matched table store row)) rows same_matched)))
          (listed_exactly list table store is)
