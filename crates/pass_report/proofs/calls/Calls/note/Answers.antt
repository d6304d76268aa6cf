use Rattle.std.proofs.Common.{ℕ, sym, subst}
use Rattle.std.specs.Prelude.{Some}
use Rattle.std.specs.Ordering.{nat_cmp}
use Rattle.std.specs.BTreeMap.{BTreeMap, Updates}
use Rattle.pass_report.specs.declared.calls.LastCall.{LastCall}
use Rattle.pass_report.proofs.Answering.{on_at}
use Rattle.pass_report.proofs.Tabling.{table_next}
use Rattle.pass_report.proofs.calls.Calls.note.Goals as goal
use Rattle.pass_entry.proofs.Variants.{on_each_ok}

pub returns : goal.returns
returns c = on_each_ok c.note_child.result _ (λ x ok. λ past ends table.
    let e = c.args.entry.now in
    let call : LastCall = record { number = e.number; ended = c.args.ended } in
    let known : BTreeMap ℕ LastCall → Type 0 = λ m. Updates nat_cmp c.args.self.now.last m e.who (Some call) in
    let updates = subst known (sym c.note_child.ensures.last) c.in_ok-insert.ensures.updates in
    table_next past e c.args.self.now c.note_child.new.self c.args.ended updates ends
    (on_at c.note_child.result _ c.note_child.ensures.made x ok)
    (on_at c.note_child.result _ c.note_child.ensures.kept x ok)
    (on_at c.note_child.result _ c.note_child.ensures.others x ok) table)
