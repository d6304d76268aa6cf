use Rattle.std.proofs.Common.{◌∙◌, ◌-◌, ℕ, List, ap, sym, subst}
use Rattle.std.specs.Prelude.{IfOk}
use Rattle.std.specs.FinMap as finite_map
use Rattle.pass_entry.specs.declared.entry.Act.TheVariants as act
use Rattle.pass_entry.specs.declared.entry.CallName.TheVariants as calls
use Rattle.pass_entry.specs.declared.entry.Entry.{Entry}
use Rattle.pass_entry.specs.declared.entry.Reply.{Reply}
use Rattle.pass_entry.specs.declared.objects.Kind.TheVariants as kind
use Rattle.pass_plain.specs.Places.{kept_by}
use Rattle.pass_plain.specs.Registries.{registry_after}
use Rattle.pass_plain.specs.States.{registry_step}
use Rattle.pass_book.specs.Tokens.{DeskState}
use Rattle.pass_hold.specs.Callings.{IsEntered}
use Rattle.pass_hold.specs.Entering.{MayEnter}
use Rattle.pass_registry.specs.Desks.{RegistryView, IsMade, on_registry}
use Rattle.pass_registry.specs.Outcomes.{reply_made}
use Rattle.pass_registry.specs.States.{RegistryState}
use Rattle.pass_registry.proofs.Entered.{registry_entered, registry_now, made_step, made_of, is_bound, bind_grows}
use Rattle.pass_registry.proofs.desk.RegistryDesk.bind.Goals as goal

pub enter-requires-clause-entry : goal.enter-requires-clause-entry
enter-requires-clause-entry g c =
    subst (λ (n : List ℕ). MayEnter c.args.caller.now.seen (on_registry c.args.who c.args.number calls.Creat (act.Bind n) c.reply_of.result) c.kept-keep.result) (sym (c.room.invariant.0)) (subst (λ (n : List ℕ). MayEnter c.args.caller.now.seen (on_registry c.args.who c.args.number calls.Creat (act.Bind n) c.reply_of.result) c.kept-keep.result) (sym (c.room.view_is)) (subst (λ n. MayEnter c.args.caller.now.seen (on_registry c.args.who c.args.number calls.Creat (act.Bind c.args.room) c.reply_of.result) n) (ap (λ (r : Reply). kept_by r 2) c.reply_of.ensures ∙ sym c.kept-keep.ensures) (c.requires.entry c.reply_of.result)))

pub invariant_of-self : goal.invariant_of-self
invariant_of-self g c =
    let S = g.J.Whose.book.session in
    let d = c.enter.ensures.desk in
    let old : RegistryState = c.self.inside.registry in
    let new : RegistryState = c.bind-answer.new.self in
    let seen = ap (λ (d : DeskState). d.seen) d in
    let entered = subst (λ (r : Reply). IsEntered g.J.Whose.book.session c.args.caller.now.seen c.self.inside.desk.seen c.enter.new.self.seen (on_registry c.args.who c.args.number calls.Creat (act.Bind c.room.inside.name) r)) c.reply_of.ensures (subst (λ (n : List ℕ). IsEntered g.J.Whose.book.session c.args.caller.now.seen c.self.inside.desk.seen c.enter.new.self.seen (on_registry c.args.who c.args.number calls.Creat (act.Bind n) c.reply_of.result)) (c.room.invariant.0) c.enter.ensures.entry.entered) in (
      ap (λ (d : DeskState). d.book) d ∙ c.self.invariant.0,
      ap (λ (d : DeskState). d.what) d ∙ c.self.invariant.1,
      made_of S old new c.self.invariant.2 (act.Bind c.room.inside.name) (old.room - 1) c.bind-answer.result c.bind-answer.ensures.ok c.bind-answer.ensures.err,
      registry_now S c.args.caller.now.seen c.self.inside.desk.seen c.enter.new.self.seen c.args.who c.args.number calls.Creat (act.Bind c.room.inside.name) (reply_made c.bind-answer.result) entered old new c.enter.new.desk.seen seen c.self.invariant.3 (made_step old new c.args.who c.args.number calls.Creat (act.Bind c.room.inside.name) (old.room - 1) c.bind-answer.result c.bind-answer.ensures.ok c.bind-answer.ensures.err),
    )

pub returns-clause-state : goal.returns-clause-state
returns-clause-state g c =
    let S = g.J.Whose.book.session in
    let d = c.enter.ensures.desk in
    let seen = ap (λ (d : DeskState). d.seen) d in
    let entered = subst (λ (r : Reply). IsEntered g.J.Whose.book.session c.args.caller.now.seen c.self.inside.desk.seen c.enter.new.self.seen (on_registry c.args.who c.args.number calls.Creat (act.Bind c.room.inside.name) r)) c.reply_of.ensures (subst (λ (n : List ℕ). IsEntered g.J.Whose.book.session c.args.caller.now.seen c.self.inside.desk.seen c.enter.new.self.seen (on_registry c.args.who c.args.number calls.Creat (act.Bind n) c.reply_of.result)) (c.room.invariant.0) c.enter.ensures.entry.entered) in
    ap (λ (h : List Entry). registry_after S h) seen ∙ registry_entered S c.args.caller.now.seen c.self.inside.desk.seen c.enter.new.self.seen c.args.who c.args.number calls.Creat (act.Bind c.room.inside.name) (reply_made c.bind-answer.result) entered
    ∙ ap (λ (v : RegistryView). registry_step (registry_after S v.seen) (on_registry c.args.who c.args.number calls.Creat (act.Bind c.room.inside.name) (reply_made c.bind-answer.result))) c.self.view_is
    ∙ ap (λ (n : List ℕ). registry_step (registry_after S c.args.self.now.seen) (on_registry c.args.who c.args.number calls.Creat (act.Bind n) (reply_made c.bind-answer.result))) (c.room.view_is)

pub returns-clause-made : goal.returns-clause-made
returns-clause-made g c =
    let S = g.J.Whose.book.session in
    let d = c.enter.ensures.desk in
    let old : RegistryState = c.self.inside.registry in
    let new : RegistryState = c.bind-answer.new.self in
    let seen = ap (λ (d : DeskState). d.seen) d in
    let entered = subst (λ (r : Reply). IsEntered g.J.Whose.book.session c.args.caller.now.seen c.self.inside.desk.seen c.enter.new.self.seen (on_registry c.args.who c.args.number calls.Creat (act.Bind c.room.inside.name) r)) c.reply_of.ensures (subst (λ (n : List ℕ). IsEntered g.J.Whose.book.session c.args.caller.now.seen c.self.inside.desk.seen c.enter.new.self.seen (on_registry c.args.who c.args.number calls.Creat (act.Bind n) c.reply_of.result)) (c.room.invariant.0) c.enter.ensures.entry.entered) in
    let r = c.bind-answer.result in
    let now = registry_now S c.args.caller.now.seen c.self.inside.desk.seen c.enter.new.self.seen c.args.who c.args.number calls.Creat (act.Bind c.room.inside.name) (reply_made c.bind-answer.result) entered old new c.enter.new.desk.seen seen c.self.invariant.3 (made_step old new c.args.who c.args.number calls.Creat (act.Bind c.room.inside.name) (old.room - 1) c.bind-answer.result c.bind-answer.ensures.ok c.bind-answer.ensures.err) in
    subst (λ (v : RegistryView). IfOk r (λ p. IsMade S v.seen c.enter.new.desk.seen p kind.File)) c.self.view_is
    (is_bound S c.self.inside.desk.seen c.enter.new.desk.seen old new c.self.invariant.2 c.self.invariant.3 now kind.File (finite_map.contains_key old.registry.names c.room.inside.name) r c.bind-answer.ensures.answer c.bind-answer.ensures.new (bind_grows old new c.room.inside.name (old.room - 1) r c.bind-answer.ensures.ok))
