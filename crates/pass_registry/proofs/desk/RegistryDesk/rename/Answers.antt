use Rattle.std.proofs.Common.{◌∙◌, ℕ, List, ap, sym, subst}
use Rattle.std.specs.Prelude.{if◌then◌else◌, []}
use Rattle.pass_entry.specs.declared.entry.Act.TheVariants as act
use Rattle.pass_entry.specs.declared.entry.CallName.TheVariants as calls
use Rattle.pass_entry.specs.declared.entry.Entry.{Entry}
use Rattle.pass_entry.specs.declared.entry.Reply.{Reply}
use Rattle.pass_plain.specs.Histories.{is_fault}
use Rattle.pass_plain.specs.Records.{move_records as plain_records}
use Rattle.pass_plain.specs.Registries.{registry_after}
use Rattle.pass_plain.specs.States.{registry_step}
use Rattle.pass_book.specs.Tokens.{DeskState}
use Rattle.pass_hold.specs.Callings.{IsEntered}
use Rattle.pass_hold.specs.Entering.{MayEnter}
use Rattle.pass_registry.specs.Desks.{RegistryView, Renaming, on_registry}
use Rattle.pass_registry.specs.Listed.{move_records}
use Rattle.pass_registry.specs.Outcomes.{reply_done}
use Rattle.pass_registry.specs.States.{RegistryState}
use Rattle.pass_registry.proofs.Entered.{registry_entered, registry_now, done_step, done_of, moved_records}
use Rattle.pass_registry.proofs.desk.RegistryDesk.rename.Goals as goal

pub enter-requires-clause-entry : goal.enter-requires-clause-entry
enter-requires-clause-entry g c =
    subst (λ (n : List ℕ). MayEnter c.args.caller.now.seen (on_registry c.args.who c.args.number calls.Rename (act.Move c.room.inside.from n) c.done_reply.result) 0) (sym (c.room.invariant.0)) (subst (λ (n : Renaming). MayEnter c.args.caller.now.seen (on_registry c.args.who c.args.number calls.Rename (act.Move n.from n.to) c.done_reply.result) 0) (sym (c.room.view_is)) (c.requires.entry c.done_reply.result))

pub enter-requires-clause-slip : goal.enter-requires-clause-slip
enter-requires-clause-slip g c =
    let old : RegistryState = c.self.inside.registry in
    let i = c.room.invariant in
    c.move_slip-slip.ensures
    ∙ (λ j. move_records c.find-file.result (c.lost_in.ensures j) c.room.inside.from (i.1 j))
    ∙ moved_records old.registry.names c.room.inside.from c.room.inside.to c.find-file.result c.rename-answer.result c.find-file.ensures.answer c.rename-answer.ensures.answer
    ∙ (λ j. if is_fault (sym c.done_reply.ensures j) then [] else plain_records (sym c.self.invariant.3 j).names c.room.inside.from (sym i.0 j))

pub invariant_of-self : goal.invariant_of-self
invariant_of-self g c =
    let S = g.J.Whose.book.session in
    let d = c.enter.ensures.desk in
    let old : RegistryState = c.self.inside.registry in
    let new : RegistryState = c.rename-answer.new.self in
    let seen = ap (λ (d : DeskState). d.seen) d in
    let entered = subst (λ (r : Reply). IsEntered g.J.Whose.book.session c.args.caller.now.seen c.self.inside.desk.seen c.enter.new.self.seen (on_registry c.args.who c.args.number calls.Rename (act.Move c.room.inside.from c.room.inside.to) r)) c.done_reply.ensures (subst (λ (n : List ℕ). IsEntered g.J.Whose.book.session c.args.caller.now.seen c.self.inside.desk.seen c.enter.new.self.seen (on_registry c.args.who c.args.number calls.Rename (act.Move c.room.inside.from n) c.done_reply.result)) (c.room.invariant.0) c.enter.ensures.entry.entered) in (
      ap (λ (d : DeskState). d.book) d ∙ c.self.invariant.0,
      ap (λ (d : DeskState). d.what) d ∙ c.self.invariant.1,
      done_of S old new c.self.invariant.2 (act.Move c.room.inside.from c.room.inside.to) c.rename-answer.result c.rename-answer.ensures.ok c.rename-answer.ensures.err,
      registry_now S c.args.caller.now.seen c.self.inside.desk.seen c.enter.new.self.seen c.args.who c.args.number calls.Rename (act.Move c.room.inside.from c.room.inside.to) (reply_done c.rename-answer.result) entered old new c.enter.new.desk.seen seen c.self.invariant.3 (done_step old new c.args.who c.args.number calls.Rename (act.Move c.room.inside.from c.room.inside.to) c.rename-answer.result c.rename-answer.ensures.ok c.rename-answer.ensures.err),
    )

pub returns-clause-state : goal.returns-clause-state
returns-clause-state g c =
    let S = g.J.Whose.book.session in
    let d = c.enter.ensures.desk in
    let seen = ap (λ (d : DeskState). d.seen) d in
    let entered = subst (λ (r : Reply). IsEntered g.J.Whose.book.session c.args.caller.now.seen c.self.inside.desk.seen c.enter.new.self.seen (on_registry c.args.who c.args.number calls.Rename (act.Move c.room.inside.from c.room.inside.to) r)) c.done_reply.ensures (subst (λ (n : List ℕ). IsEntered g.J.Whose.book.session c.args.caller.now.seen c.self.inside.desk.seen c.enter.new.self.seen (on_registry c.args.who c.args.number calls.Rename (act.Move c.room.inside.from n) c.done_reply.result)) (c.room.invariant.0) c.enter.ensures.entry.entered) in
    ap (λ (h : List Entry). registry_after S h) seen ∙ registry_entered S c.args.caller.now.seen c.self.inside.desk.seen c.enter.new.self.seen c.args.who c.args.number calls.Rename (act.Move c.room.inside.from c.room.inside.to) (reply_done c.rename-answer.result) entered
    ∙ ap (λ (v : RegistryView). registry_step (registry_after S v.seen) (on_registry c.args.who c.args.number calls.Rename (act.Move c.room.inside.from c.room.inside.to) (reply_done c.rename-answer.result))) c.self.view_is
    ∙ ap (λ (n : Renaming). registry_step (registry_after S c.args.self.now.seen) (on_registry c.args.who c.args.number calls.Rename (act.Move n.from n.to) (reply_done c.rename-answer.result))) (c.room.view_is)
    ∙ ap (λ (r : Reply). registry_step (registry_after S c.args.self.now.seen) (on_registry c.args.who c.args.number calls.Rename (act.Move c.args.room.from c.args.room.to) r)) (sym c.done.ensures)
