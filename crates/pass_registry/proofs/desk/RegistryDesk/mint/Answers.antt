use Rattle.std.proofs.Common.{◌∙◌, List, ap, subst, sym}
use Rattle.std.specs.Prelude.{IfOk}
use Rattle.pass_entry.specs.declared.entry.Act.TheVariants as act
use Rattle.pass_entry.specs.declared.entry.Entry.{Entry}
use Rattle.pass_entry.specs.declared.entry.Reply.{Reply}
use Rattle.pass_plain.specs.Places.{kept_by}
use Rattle.pass_plain.specs.Registries.{registry_after}
use Rattle.pass_plain.specs.States.{registry_step}
use Rattle.pass_book.specs.Tokens.{DeskState}
use Rattle.pass_hold.specs.Callings.{IsEntered}
use Rattle.pass_hold.specs.Entering.{MayEnter}
use Rattle.pass_registry.specs.Desks.{RegistryView, IsMade, on_registry}
use Rattle.pass_registry.specs.Outcomes.{reply_made}
use Rattle.pass_registry.specs.States.{RegistryState}
use Rattle.pass_registry.proofs.Entered.{registry_entered, registry_now, made_step, made_of, is_made, mint_grows}
use Rattle.pass_registry.proofs.desk.RegistryDesk.mint.Goals as goal

pub enter-requires-clause-entry : goal.enter-requires-clause-entry
enter-requires-clause-entry g c =
    subst (λ n. MayEnter c.args.caller.now.seen (on_registry c.args.who c.args.number c.args.call (act.Mint c.args.kind) c.reply_of.result) n) (ap (λ (r : Reply). kept_by r c.args.keep) c.reply_of.ensures ∙ sym c.kept-keep.ensures) (c.requires.entry c.reply_of.result)

pub invariant_of-self : goal.invariant_of-self
invariant_of-self g c =
    let S = g.J.Whose.book.session in
    let d = c.enter.ensures.desk in
    let old : RegistryState = c.self.inside.registry in
    let new : RegistryState = c.mint-answer.new.self in
    let seen = ap (λ (d : DeskState). d.seen) d in
    let entered = subst (λ (r : Reply). IsEntered g.J.Whose.book.session c.args.caller.now.seen c.self.inside.desk.seen c.enter.new.self.seen (on_registry c.args.who c.args.number c.args.call (act.Mint c.args.kind) r)) c.reply_of.ensures c.enter.ensures.entry.entered in (
      ap (λ (d : DeskState). d.book) d ∙ c.self.invariant.0,
      ap (λ (d : DeskState). d.what) d ∙ c.self.invariant.1,
      made_of S old new c.self.invariant.2 (act.Mint c.args.kind) old.room c.mint-answer.result c.mint-answer.ensures.ok c.mint-answer.ensures.err,
      registry_now S c.args.caller.now.seen c.self.inside.desk.seen c.enter.new.self.seen c.args.who c.args.number c.args.call (act.Mint c.args.kind) (reply_made c.mint-answer.result) entered old new c.enter.new.desk.seen seen c.self.invariant.3 (made_step old new c.args.who c.args.number c.args.call (act.Mint c.args.kind) old.room c.mint-answer.result c.mint-answer.ensures.ok c.mint-answer.ensures.err),
    )

pub returns-clause-state : goal.returns-clause-state
returns-clause-state g c =
    let S = g.J.Whose.book.session in
    let d = c.enter.ensures.desk in
    let seen = ap (λ (d : DeskState). d.seen) d in
    let entered = subst (λ (r : Reply). IsEntered g.J.Whose.book.session c.args.caller.now.seen c.self.inside.desk.seen c.enter.new.self.seen (on_registry c.args.who c.args.number c.args.call (act.Mint c.args.kind) r)) c.reply_of.ensures c.enter.ensures.entry.entered in
    ap (λ (h : List Entry). registry_after S h) seen ∙ registry_entered S c.args.caller.now.seen c.self.inside.desk.seen c.enter.new.self.seen c.args.who c.args.number c.args.call (act.Mint c.args.kind) (reply_made c.mint-answer.result) entered
    ∙ ap (λ (v : RegistryView). registry_step (registry_after S v.seen) (on_registry c.args.who c.args.number c.args.call (act.Mint c.args.kind) (reply_made c.mint-answer.result))) c.self.view_is

pub returns-clause-made : goal.returns-clause-made
returns-clause-made g c =
    let S = g.J.Whose.book.session in
    let d = c.enter.ensures.desk in
    let old : RegistryState = c.self.inside.registry in
    let new : RegistryState = c.mint-answer.new.self in
    let seen = ap (λ (d : DeskState). d.seen) d in
    let entered = subst (λ (r : Reply). IsEntered g.J.Whose.book.session c.args.caller.now.seen c.self.inside.desk.seen c.enter.new.self.seen (on_registry c.args.who c.args.number c.args.call (act.Mint c.args.kind) r)) c.reply_of.ensures c.enter.ensures.entry.entered in
    let r = c.mint-answer.result in
    let now = registry_now S c.args.caller.now.seen c.self.inside.desk.seen c.enter.new.self.seen c.args.who c.args.number c.args.call (act.Mint c.args.kind) (reply_made c.mint-answer.result) entered old new c.enter.new.desk.seen seen c.self.invariant.3 (made_step old new c.args.who c.args.number c.args.call (act.Mint c.args.kind) old.room c.mint-answer.result c.mint-answer.ensures.ok c.mint-answer.ensures.err) in
    subst (λ (v : RegistryView). IfOk r (λ p. IsMade S v.seen c.enter.new.desk.seen p c.args.kind)) c.self.view_is
    (is_made S c.self.inside.desk.seen c.enter.new.desk.seen old new c.self.invariant.2 c.self.invariant.3 now c.args.kind r c.mint-answer.ensures.answer c.mint-answer.ensures.new (mint_grows old new c.args.kind r c.mint-answer.ensures.ok))
