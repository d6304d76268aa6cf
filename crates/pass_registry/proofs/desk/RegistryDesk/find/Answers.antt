use Rattle.std.proofs.Common.{◌∙◌, List, ap, subst, refl, sym}
use Rattle.pass_entry.specs.declared.entry.Act.TheVariants as act
use Rattle.pass_entry.specs.declared.entry.Entry.{Entry}
use Rattle.pass_entry.specs.declared.entry.Reply.{Reply}
use Rattle.pass_plain.specs.Places.{kept_by}
use Rattle.pass_plain.specs.Registries.{registry_after}
use Rattle.pass_plain.specs.States.{registry_step}
use Rattle.pass_book.specs.Tokens.{DeskState}
use Rattle.pass_hold.specs.Callings.{IsEntered}
use Rattle.pass_hold.specs.Entering.{MayEnter}
use Rattle.pass_registry.specs.Desks.{RegistryView, on_registry}
use Rattle.pass_registry.specs.Outcomes.{reply_made}
use Rattle.pass_registry.specs.States.{RegistryState}
use Rattle.pass_registry.proofs.Entered.{registry_entered, registry_now, look_step}
use Rattle.pass_registry.proofs.desk.RegistryDesk.find.Goals as goal

pub enter-requires-clause-entry : goal.enter-requires-clause-entry
enter-requires-clause-entry g c =
    subst (λ n. MayEnter c.args.caller.now.seen (on_registry c.args.who c.args.number c.args.call (act.Find c.args.name) c.reply_of.result) n) (ap (λ (r : Reply). kept_by r 2) c.reply_of.ensures ∙ sym c.kept-keep.ensures) (c.requires.entry c.reply_of.result)

pub invariant_of-self : goal.invariant_of-self
invariant_of-self g c =
    let S = g.J.Whose.book.session in
    let d = c.enter.ensures.desk in
    let old : RegistryState = c.self.inside.registry in
    let new : RegistryState = c.self.inside.registry in
    let seen = ap (λ (d : DeskState). d.seen) d in
    let entered = subst (λ (r : Reply). IsEntered g.J.Whose.book.session c.args.caller.now.seen c.self.inside.desk.seen c.enter.new.self.seen (on_registry c.args.who c.args.number c.args.call (act.Find c.args.name) r)) c.reply_of.ensures c.enter.ensures.entry.entered in (
      ap (λ (d : DeskState). d.book) d ∙ c.self.invariant.0,
      ap (λ (d : DeskState). d.what) d ∙ c.self.invariant.1,
      c.self.invariant.2,
      registry_now S c.args.caller.now.seen c.self.inside.desk.seen c.enter.new.self.seen c.args.who c.args.number c.args.call (act.Find c.args.name) (reply_made c.find-answer.result) entered old new c.enter.new.desk.seen seen c.self.invariant.3 (look_step old.registry c.args.who c.args.number c.args.call (act.Find c.args.name) (reply_made c.find-answer.result) refl),
    )

pub returns-clause-state : goal.returns-clause-state
returns-clause-state g c =
    let S = g.J.Whose.book.session in
    let d = c.enter.ensures.desk in
    let seen = ap (λ (d : DeskState). d.seen) d in
    let entered = subst (λ (r : Reply). IsEntered g.J.Whose.book.session c.args.caller.now.seen c.self.inside.desk.seen c.enter.new.self.seen (on_registry c.args.who c.args.number c.args.call (act.Find c.args.name) r)) c.reply_of.ensures c.enter.ensures.entry.entered in
    ap (λ (h : List Entry). registry_after S h) seen ∙ registry_entered S c.args.caller.now.seen c.self.inside.desk.seen c.enter.new.self.seen c.args.who c.args.number c.args.call (act.Find c.args.name) (reply_made c.find-answer.result) entered
    ∙ ap (λ (v : RegistryView). registry_step (registry_after S v.seen) (on_registry c.args.who c.args.number c.args.call (act.Find c.args.name) (reply_made c.find-answer.result))) c.self.view_is
