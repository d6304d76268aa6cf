use Rattle.std.proofs.Common.{◌≡◌, ◌-◌, length, sym, subst, arith}
use Rattle.std.specs.Prelude.{slice_get, Some}
use Rattle.pass_entry.specs.declared.entry.Act.TheVariants as act
use Rattle.pass_entry.specs.declared.entry.CallName.TheVariants as calls
use Rattle.pass_entry.specs.declared.entry.Reply.TheVariants as answer
use Rattle.pass_plain.specs.Records.{content_records}
use Rattle.pass_plain.specs.Versions.{nodes_of}
use Rattle.pass_hold.specs.Entering.{MayEnter, Enters}
use Rattle.pass_file.specs.Desks.{entry_on}
use Rattle.pass_file.proofs.desk.FileDesk.put.Goals as goal

pub enter-place-requires-clause-entry : goal.enter-place-requires-clause-entry
enter-place-requires-clause-entry g c =
    let a = c.args in
    subst (λ what. MayEnter a.caller.now.seen (entry_on what a.who a.number calls.Write (act.Put a.out a.at a.bytes) answer.Done) 0) (sym c.what.ensures) c.requires.entry

pub enter-place-requires-clause-rest : goal.enter-place-requires-clause-rest
enter-place-requires-clause-rest g c =
    let a = c.args in
    subst (λ what. a.list.items ≡ content_records g.J.Whose.book.session a.self.now.seen (entry_on what a.who a.number calls.Write (act.Put a.out a.at a.bytes) answer.Done)) (sym c.what.ensures) c.requires.list

pub returns-clause-entry : goal.returns-clause-entry
returns-clause-entry g c =
    let a = c.args in
    subst (λ what. Enters g.J.Whose.book.session a.caller.now c.enter-place.new.caller a.self.now.seen (entry_on what a.who a.number calls.Write (act.Put a.out a.at a.bytes) answer.Done) 0) c.what.ensures c.enter-place.ensures.entry

pub returns-clause-node : goal.returns-clause-node
returns-clause-node g c =
    let r = c.enter-place.result in
    let place = c.enter-place.ensures.at.place in
    let seen = c.enter-place.new.caller.seen in
    subst (λ n. slice_get (nodes_of g.J.Whose.book.session seen) n ≡ Some r.1) (let z : r.0 ≡ length seen - 1 = omega (arith, place) in z) c.enter-place.ensures.at.node
