use Rattle.std.proofs.Common.{◌≡◌, ◌≤◌, ◌++◌, ◌∷◌, [], List, IsTrue, get_or, not, sym, ◌∙◌, ap, subst, arith, Vec, ◌<◌, take, drop, map, filter, length, length-take, length-drop, length-append}
use Rattle.std.proofs.lemmas.List.{take_all}
use Rattle.std.specs.declared.alloc.Global.{Global}
use Rattle.pass_outside.specs.Areas.{Image}
use Rattle.pass_outside.specs.Runs.{adds_both}
use Rattle.pass_range.specs.declared.range.Range.{Range}
use Rattle.pass_range.specs.Tables.{Row, AreUnmatched, is_matched, unmatched_in}
use Rattle.pass_range.proofs.Listed.{one_passes, one_fails, listed_exactly}
use Rattle.pass_range.proofs.listing.unmatched.Goals as goal
use Rattle.pass_range.proofs.listing.unmatched.Goals.{then-not-branch+in_ok-push, else-not-branch}

pub loop-range-preserved : goal.loop-range-preserved
loop-range-preserved g c =
    let inv = c.loop-range.invariant in
    let e = c.is_matched.ensures in
    let first = g.D.Disk.view c.args.disk.now in
    let table = c.args.table.now in
    let row : Row = c.loop-range-item.result in
    let store = first.seen.store in
    let value = c.deref-range-items.ensures.value in
    let at : row ≡ get_or table.rows.items c.loop-range.range-index row = c.loop-range-item.is ∙ ap (λ (l : List Row). get_or l c.loop-range.range-index row) value in
    let low : c.loop-range.range-index < length table.rows.items = subst (λ (l : List Row). c.loop-range.range-index < length l) value c.loop-range-test.true in
    let is : IsTrue first.tells → c.in_ok-is_matched.field-0 ≡ is_matched table store row = λ told.
    c.in_ok-is_matched.ensures.exactly (subst IsTrue (sym inv.tells) told) ∙ ap (λ (i : Image). is_matched table i.store row) inv.content in
    record {
      found = λ told. elim c.if-not-branch.branch [
        | then-not-branch+in_ok-push w ↦ ap (λ (v : Vec Range Global). v.items) w.found-is ∙ w.in_ok-push.ensures.items
            ∙ ap (λ (l : List Range). l ++ row.0 ∷ []) (inv.found told)
            ∙ sym (one_passes (λ r. not (is_matched table store r)) table.rows.items c.loop-range.range-index row low at (ap not (sym (is told) ∙ w.if-not-branch.true)))
        | else-not-branch w ↦ ap (λ (v : Vec Range Global). v.items) w.found-is ∙ inv.found told
            ∙ sym (one_fails (λ r. not (is_matched table store r)) table.rows.items c.loop-range.range-index row low at (ap not (sym (is told) ∙ w.if-not-branch.false)))
      ];
      buffer =
          let items = c.loop-range.buffer.items in
          let new = c.is_matched.new.buffer in
          let same : length new ≡ length items = c.is_matched.auto.buffer ∙ ap length c.deref_mut.ensures.value in
          let rest = length-drop (length new) items in
          let all = length-append new (drop (length new) items) in
          omega (arith, length-take c.loop-range.buffer.len (new ++ drop (length new) items), all, rest, same, c.loop-range.buffer.ok.0, inv.buffer);
      tells = e.tells ∙ inv.tells;
      faults = c.in_ok-is_matched.ensures.went ∙ inv.faults;
      content = e.content ∙ inv.content;
      crash = λ i may. inv.crash i (e.crash i may);
      run = adds_both first.may_leave first (g.D.Disk.view c.loop-range.disk) (g.D.Disk.view c.is_matched.new.disk) inv.run e.run (λ i x. x) (λ i may. inv.crash i may);
    }

pub returns-clause-exactly : goal.returns-clause-exactly
returns-clause-exactly g c = λ told list is.
    let table = c.args.table.now in
    let store = (g.D.Disk.view c.args.disk.now).seen.store in
    let i = c.loop-range.range-index in
    let whole : take i table.rows.items ≡ table.rows.items = take_all i table.rows.items (subst (λ (l : List Row). length l ≤ i) c.deref-range-items.ensures.value c.loop-range-test.false) in
    let found : c.loop-range.found.items ≡ unmatched_in table store =
    c.loop-range.invariant.found told ∙ ap (λ (l : List Row). map (λ (row : Row). row.0) (filter (λ row. not (is_matched table store row)) l)) whole in
    subst (AreUnmatched list store) (sym found) (listed_exactly list table store is)
