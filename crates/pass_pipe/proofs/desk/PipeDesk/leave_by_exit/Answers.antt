use Rattle.std.proofs.Common.{◌-◌, ap, sym, ◌∙◌, subst, refl}
use Rattle.pass_plain.specs.Legal.{CallerAllows}
use Rattle.pass_hold.specs.Callers.{CallerState}
use Rattle.pass_hold.specs.Entering.{Enters}
use Rattle.pass_flow.specs.Flows.{ObjectView}
use Rattle.pass_pipe.specs.Desks.{leave_entry}
use Rattle.std.specs.Prelude.{[], None}
use Rattle.pass_entry.specs.declared.entry.CallName.TheVariants as calls
use Rattle.pass_flow.proofs.Versioning.{slip_is, versioned_after}
use Rattle.pass_pipe.proofs.Piping.{pipe_there, alike_itself}
use Rattle.pass_pipe.proofs.desk.PipeDesk.leave_by_exit.Goals as goal

pub leave-requires-clause-desk : goal.leave-requires-clause-desk
leave-requires-clause-desk g c = (c.self.invariant.0.of_book, sym (c.what-what.ensures ∙ ap (λ (v : ObjectView). v.what) (sym c.self.view_is)))

pub leave-requires-clause-caller : goal.leave-requires-clause-caller
leave-requires-clause-caller g c = subst (λ o. CallerAllows c.args.caller.now.seen (leave_entry c.args.who c.args.number calls.Exit o c.args.end)) (sym c.what-what.ensures) c.requires.allows

pub leave-requires-clause-slip : goal.leave-requires-clause-slip
leave-requires-clause-slip g c =
    c.new.ensures ∙ slip_is g.J.Whose.book c.args.caller.now.seen c.self.inside.desk c.self.inside.versions (leave_entry c.args.who c.args.number calls.Exit c.what-what.result c.args.end) None c.self.invariant.0
    (c.what-what.ensures ∙ ap (λ (v : ObjectView). v.what) (sym c.self.view_is)) refl refl refl [] refl

pub invariant_of-self : goal.invariant_of-self
invariant_of-self g c = (
  versioned_after g.J.Whose.book c.args.caller.now.seen c.self.inside.desk c.self.inside.versions (leave_entry c.args.who c.args.number calls.Exit c.what-what.result c.args.end) None c.self.invariant.0
      (c.what-what.ensures ∙ ap (λ (v : ObjectView). v.what) (sym c.self.view_is)) refl refl refl c.leave.new.self.seen c.leave.ensures.entry.entered c.self.inside.versions (alike_itself c.self.inside.versions.lineage)
      c.leave.new.desk c.leave.new.self.syncs c.leave.ensures.desk c.leave.ensures.entry.few,
  pipe_there g.J.Whose.book.session c.args.caller.now.seen c.self.inside.desk c.leave.new.desk (leave_entry c.args.who c.args.number calls.Exit c.what-what.result c.args.end)
      (c.what-what.ensures ∙ ap (λ (v : ObjectView). v.what) (sym c.self.view_is)) c.leave.new.self.seen c.leave.ensures.entry.entered c.leave.new.self.syncs c.leave.ensures.desk
      c.self.inside.state c.drop_one.new.state c.self.invariant.1 c.drop_one.ensures,
)

pub returns-clause-entry : goal.returns-clause-entry
returns-clause-entry g c =
    let k = c.args.caller.now in let old : CallerState = record k { own = k.own - 1 } in
    subst (λ (v : ObjectView). Enters g.J.Whose.book.session old c.leave.new.self v.seen (leave_entry c.args.who c.args.number calls.Exit v.what c.args.end) 0) c.self.view_is
    (subst (λ o. Enters g.J.Whose.book.session old c.leave.new.self c.self.inside.desk.seen (leave_entry c.args.who c.args.number calls.Exit o c.args.end) 0)
    (c.what-what.ensures ∙ ap (λ (v : ObjectView). v.what) (sym c.self.view_is)) c.leave.ensures.entry)
