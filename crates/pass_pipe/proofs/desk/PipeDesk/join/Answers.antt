use Rattle.std.proofs.Common.{◌≡◌, ◌≤◌, ◌^◌, length, ap, sym, ◌∙◌, subst, arith}
use Rattle.pass_hold.specs.Callings.{IsEntered}
use Rattle.pass_hold.specs.Entering.{MayEnter}
use Rattle.pass_flow.specs.Flows.{ObjectView}
use Rattle.pass_pipe.specs.Desks.{join_entry}
use Rattle.pass_plain.specs.Pipes.{pipe_after}
use Rattle.pass_book.specs.Tokens.{DeskState}
use Rattle.pass_flow.proofs.Seeing.{versioned_seen}
use Rattle.pass_pipe.proofs.Piping.{entered_before, few_ends, pipe_seen, pipe_there}
use Rattle.pass_pipe.proofs.desk.PipeDesk.join.Goals as goal

pub hold-requires : goal.hold-requires
hold-requires g c =
    let d = c.self.inside.desk in
    let n = c.show.ensures in
    few_ends g.J.Whose.book.session c.args.shelf.now.history d.what c.self.inside.state c.args.end n.legal n.few (c.self.invariant.1 ∙ sym (pipe_seen d.seen c.args.shelf.now.history d.what n.object.0 n.object.1))

pub enter_on-place-requires-clause-object : goal.enter_on-place-requires-clause-object
enter_on-place-requires-clause-object g c =
    let n = c.show.ensures in
    let few : length c.args.shelf.now.history ≤ 2 ^ 32 = let z = n.few in omega (arith, z) in
    versioned_seen g.J.Whose.book c.self.inside.desk c.show.new.desk c.self.inside.versions c.args.shelf.now.history c.show.new.self.syncs c.self.invariant.0 n.object.0 n.object.1 n.legal few n.desk

pub enter_on-place-requires-clause-what : goal.enter_on-place-requires-clause-what
enter_on-place-requires-clause-what g c = c.what-what.ensures ∙ ap (λ (v : ObjectView). v.what) (sym c.self.view_is) ∙ sym (ap (λ (d : DeskState). d.what) c.show.ensures.desk)

pub enter_on-place-requires-clause-place : goal.enter_on-place-requires-clause-place
enter_on-place-requires-clause-place g c = λ low. absurd (let has = c.requires.place in omega (arith, low, has))

pub enter_on-place-requires-clause-entry : goal.enter_on-place-requires-clause-entry
enter_on-place-requires-clause-entry g c = subst (λ o. MayEnter c.args.caller.now.seen (join_entry c.args.who c.args.number o c.args.end) c.args.keep) (sym c.what-what.ensures) c.requires.entry

pub invariant_of-self : goal.invariant_of-self
invariant_of-self g c =
    let d = c.self.inside.desk in
    let n = c.show.ensures in (
      c.enter_on-place.ensures.object,
      pipe_there g.J.Whose.book.session c.args.caller.now.seen c.show.new.desk c.enter_on-place.new.desk (join_entry c.args.who c.args.number c.what-what.result c.args.end)
          (c.what-what.ensures ∙ ap (λ (v : ObjectView). v.what) (sym c.self.view_is) ∙ sym (ap (λ (d : DeskState). d.what) c.show.ensures.desk)) c.enter_on-place.new.caller.seen c.enter_on-place.ensures.entry.entered c.enter_on-place.new.caller.syncs c.enter_on-place.ensures.desk
          c.self.inside.state c.hold.new.self
          (c.self.invariant.1 ∙ sym (pipe_seen d.seen c.args.shelf.now.history d.what n.object.0 n.object.1) ∙ sym (ap (λ (d : DeskState). pipe_after d.seen d.what) n.desk)) c.hold.ensures,
    )

pub returns-clause-entry : goal.returns-clause-entry
returns-clause-entry g c =
    let n = c.show.ensures in
    let d = c.self.inside.desk in
    let e = c.enter_on-place.new.caller in
    let own : c.what-what.result ≡ d.what = c.what-what.ensures ∙ ap (λ (v : ObjectView). v.what) (sym c.self.view_is) in
    let made = c.enter_on-place.ensures.entry in
    let shown = subst (λ (m : DeskState). IsEntered g.J.Whose.book.session c.args.caller.now.seen m.seen e.seen (join_entry c.args.who c.args.number c.what-what.result c.args.end)) n.desk made.entered in
    let moved = subst (λ o. IsEntered g.J.Whose.book.session c.args.caller.now.seen c.args.shelf.now.history e.seen (join_entry c.args.who c.args.number o c.args.end)) own shown in
    let before = entered_before g.J.Whose.book.session c.args.caller.now.seen d.seen c.args.shelf.now.history e.seen (join_entry c.args.who c.args.number d.what c.args.end) n.object.0 n.object.1 moved in
    record {
      entered = subst (λ (v : ObjectView). IsEntered g.J.Whose.book.session c.args.caller.now.seen v.seen e.seen (join_entry c.args.who c.args.number v.what c.args.end)) c.self.view_is before;
      caller = made.caller;
      few = made.few;
    }
