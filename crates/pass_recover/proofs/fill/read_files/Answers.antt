use Rattle.std.proofs.Common.{ℕ, ◌≡◌, ◌∙◌, ◌++◌, ◌∷◌, ◌<◌, [], Bool, List, Vec, Global, get_or, take, length, ap, sym, refl, subst, arith, IsTrue}
use Rattle.std.specs.Prelude.{Some, slice_get, if◌then◌else◌}
use Rattle.std.proofs.lemmas.Option.{slice_get_read}
use Rattle.std.proofs.lemmas.List.{append-nil}
use Rattle.pass_outside.specs.Areas.{Image}
use Rattle.pass_outside.specs.Runs.{adds_both}
use Rattle.pass_plain.specs.Records.{range_len}
use Rattle.pass_plain.specs.WellLogged.{size_of}
use Rattle.pass_range.specs.declared.range.Range.{Range}
use Rattle.pass_range.specs.Places.{place, found_there}
use Rattle.pass_range.specs.Tables.{Row}
use Rattle.pass_recover.specs.Fills.{other_ranges}
use Rattle.pass_recover.proofs.RowRead.{row_file, row_within, row_fits, next_filled, next_read, next_ranges}
use Rattle.pass_recover.proofs.fill.read_files.Goals as goal
use Rattle.pass_recover.proofs.fill.read_files.Goals.{then-not-branch+in_ok-push, else-not-branch}

row_at : (rows items : List Row) (i : ℕ) (row : Row) → items ≡ rows → i < length items → row ≡ get_or items i row → (i < length rows) × (slice_get rows i ≡ Some row)
row_at rows items i row value low at =
    let within = subst (λ (l : List Row). i < length l) value low in
    (within, slice_get_read rows (length rows) i row refl within (at ∙ ap (λ (l : List Row). get_or l i row) value))

pub loop-range-preserved-in_default : goal.loop-range-preserved-in_default
loop-range-preserved-in_default g c =
    let row : Row = c.loop-range-item.result in
    let at = row_at c.args.table.now.rows.items c.deref-range-items.result.now c.loop-range.range-index row c.deref-range-items.ensures.value c.loop-range-test.true c.loop-range-item.is in
    let there = row_file c.args.list.now c.args.table.now c.requires.table c.requires.logged c.loop-range.range-index row at.1 in
    absurd (c.in_default.not-Some (record { number = there.0; size = size_of c.args.list.now row.0.pnode }) (c.file.ensures ∙ there.2))

pub index_mut-file-requires : goal.index_mut-file-requires
index_mut-file-requires g c =
    let row : Row = c.loop-range-item.result in
    let at = row_at c.args.table.now.rows.items c.deref-range-items.result.now c.loop-range.range-index row c.deref-range-items.ensures.value c.loop-range-test.true c.loop-range-item.is in
    let low : c.in-Some.place.number < length c.loop-range.files.items =
    row_within c.args.list.now c.args.table.now c.requires.table c.requires.logged c.loop-range.range-index row at.1 c.in-Some.place (sym c.file.ensures ∙ c.in-Some.is) c.loop-range.files.items c.loop-range.invariant.filled in
    omega (arith, low, c.loop-range.files.ok.0)

pub read_row-requires : goal.read_row-requires
read_row-requires g c =
    let row : Row = c.loop-range-item.result in
    let at = row_at c.args.table.now.rows.items c.deref-range-items.result.now c.loop-range.range-index row c.deref-range-items.ensures.value c.loop-range-test.true c.loop-range-item.is in
    let found = sym c.file.ensures ∙ c.in-Some.is in
    let files = c.loop-range.files.items in
    let low = row_within c.args.list.now c.args.table.now c.requires.table c.requires.logged c.loop-range.range-index row at.1 c.in-Some.place found files c.loop-range.invariant.filled in
    let here = slice_get_read files (length files) c.in-Some.place.number c.index_mut-file.result.now refl low c.index_mut-file.ensures.value in
    row_fits c.args.list.now c.args.table.now c.requires.table c.requires.logged c.loop-range.range-index row at.1 c.in-Some.place found files c.loop-range.invariant.filled c.index_mut-file.result.now here

pub loop-range-preserved : goal.loop-range-preserved
loop-range-preserved g c =
    let inv = c.loop-range.invariant in
    let e = c.read_row.ensures in
    let o = c.in_ok-read_row.ensures in
    let first = g.D.Disk.view c.args.disk.now in
    let list = c.args.list.now in
    let table = c.args.table.now in
    let k = c.loop-range.range-index in
    let row : Row = c.loop-range-item.result in
    let at = row_at table.rows.items c.deref-range-items.result.now k row c.deref-range-items.ensures.value c.loop-range-test.true c.loop-range-item.is in
    let there = c.in-Some.place in
    let found = sym c.file.ensures ∙ c.in-Some.is in
    let files = c.loop-range.files.items in
    let low = row_within list table c.requires.table c.requires.logged k row at.1 there found files inv.filled in
    let old = c.index_mut-file.result.now in
    let new = c.read_row.new.file in
    let here = slice_get_read files (length files) there.number old refl low c.index_mut-file.ensures.value in
    let ranges = next_ranges list table c.requires.table c.requires.logged k row at.1 there found files inv.filled old here c.requires.in_range at.0 new o.head o.rows o.len o.others c.in_ok-read_row.field-0 o.matched in
    record {
      filled = next_filled list table c.requires.table c.requires.logged k row at.1 there found files inv.filled old here c.requires.in_range at.0 new o.head o.rows o.len o.others;
      read = λ told. next_read list table c.requires.table c.requires.logged k row at.1 there found files inv.filled old here c.requires.in_range at.0 new o.head o.rows o.len o.others first.seen.store
          (o.given (subst IsTrue (sym inv.tells) told) ∙ ap (λ (i : Image). found_there (place there.number row.0.block) (range_len (length old.bytes.items) row.0.block) i.store) inv.content) (inv.read told);
      unmatched = elim c.if-not-branch.branch [
        | then-not-branch+in_ok-push w ↦ ap (λ (v : Vec Range Global). v.items) w.unmatched-is ∙ w.in_ok-push.ensures.items
            ∙ ap (λ (l : List Range). l ++ row.0 ∷ []) inv.unmatched
            ∙ sym (ranges ∙ ap (λ (b : Bool). other_ranges table files (take k table.rows.items) ++ (if b then [] else row.0 ∷ [])) w.if-not-branch.true)
        | else-not-branch w ↦ ap (λ (v : Vec Range Global). v.items) w.unmatched-is ∙ inv.unmatched
            ∙ sym (ranges ∙ ap (λ (b : Bool). other_ranges table files (take k table.rows.items) ++ (if b then [] else row.0 ∷ [])) w.if-not-branch.false ∙ append-nil (other_ranges table files (take k table.rows.items)))
      ];
      tells = e.tells ∙ inv.tells;
      faults = o.no_fault (λ err. absurd (cc)) ∙ inv.faults;
      content = e.content ∙ inv.content;
      crash = λ i may. inv.crash i (e.crash i may);
      run = adds_both first.may_leave first (g.D.Disk.view c.loop-range.disk) (g.D.Disk.view c.read_row.new.disk) inv.run e.run (λ i x. x) (λ i may. inv.crash i may);
    }
