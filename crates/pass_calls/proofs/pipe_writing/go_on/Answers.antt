use Rattle.std.proofs.Common.{◌≡◌, ap, arith, length, refl, sym, ◌∙◌, subst, true, [], ◌∷◌}
use Rattle.std.specs.Prelude.{Err, None, Ok, Result, Some, take}
use Rattle.std.specs.FinMap as finite_map
use Rattle.pass_entry.specs.declared.entry.Act.TheVariants as act
use Rattle.pass_plain.specs.declared.request.Request.TheVariants as requests
use Rattle.pass_plain.specs.Pipes.{pipe_after}
use Rattle.pass_plain.specs.Places.{call_places}
use Rattle.pass_plain.specs.Processes.{process_after}
use Rattle.pass_plain.specs.Replies.{pushed, reply_to}
use Rattle.pass_hold.specs.Callers.{CallerState}
use Rattle.pass_hold.specs.Callings.{HasLooked}
use Rattle.pass_hold.proofs.Callings.{going_looked}
use Rattle.pass_flow.specs.Flows.{ObjectView}
use Rattle.pass_proc.specs.Procs.{ProcView, is_way, proc_with}
use Rattle.pass_proc.specs.UnderWay.{IsUnderWay, IsWay, show_entry}
use Rattle.pass_proc.proofs.Steps.{still, way_looked}
use Rattle.pass_answer.specs.Answers.{Answers}
use Rattle.pass_answer.specs.declared.answer.CallEnd.{CallEnd}
use Rattle.pass_answer.specs.declared.answer.CallEnd.TheVariants as ends
use Rattle.pass_answer.specs.declared.answer.Moved.{Moved}
use Rattle.pass_calls.proofs.PipeWrites.{no_room, places_held, write_waits}
use Rattle.pass_answer.proofs.Waiting.{broke_off, goes_on_at, way_bytes, way_fd, way_itself, went_on}
use Rattle.pass_calls.proofs.pipe_writing.go_on.Goals as goal
use Rattle.pass_calls.proofs.pipe_writing.go_on.Goals.{in-Ok, in-Err}

pub invariant_of-proc : goal.invariant_of-proc
invariant_of-proc g c =
    let S = g.J.Whose.book.session in
    let i = c.proc.inside in
    let e = c.look.ensures in
    let d = c.look.new.caller in
    let its = sym c.take.ensures.value ∙ c.in-Some.is in (
      still S i.process i.number i.caller c.proc.invariant.0 d i.caller.held e.caller e.looked e.few,
      way_looked S i.process.who i.number i.caller.seen d.seen i.process.state (Some c.in-Some.held)
          (subst (λ w. HasLooked S w i.caller.seen d.seen) c.proc.invariant.0.of_who e.looked)
          (subst (λ o. IsWay S i.process.who i.number i.caller.seen i.process.state o) its c.proc.invariant.1),
    )

pub push_step-requires-clause-places : goal.push_step-requires-clause-places
push_step-requires-clause-places g c =
    let S = g.J.Whose.book.session in
    let i = c.proc.inside in
    let w = c.in-Some.held in
    let before = take w.out i.caller.seen in
    let its = sym c.take.ensures.value ∙ c.in-Some.is in
    let under : IsUnderWay S i.process.who i.number before i.caller.seen i.process.state w = subst (λ o. IsWay S i.process.who i.number i.caller.seen i.process.state o) its c.proc.invariant.1 in
    let two = places_held S i.process.who i.number w i.caller.seen i.process.state under before (process_after before i.process.who) under.going c.proc.invariant.0.idle.last in
    let held = c.held.ensures.call ∙ ap (λ who. call_places i.caller.seen who) c.proc.invariant.0.of_who in
    omega (arith, held, two)

pub push_step-requires-clause-object : goal.push_step-requires-clause-object
push_step-requires-clause-object g c =
    let S = g.J.Whose.book.session in
    let i = c.proc.inside in
    let w = c.in-Some.held in
    let its = sym c.take.ensures.value ∙ c.in-Some.is in
    let under : IsUnderWay S i.process.who i.number (take w.out i.caller.seen) i.caller.seen i.process.state w = subst (λ o. IsWay S i.process.who i.number i.caller.seen i.process.state o) its c.proc.invariant.1 in
    c.requires.object w.fd w.bytes
    (ap (λ (v : ProcView). is_way v.way w.fd w.bytes) (sym c.proc.view_is) ∙ ap (λ o. is_way o w.fd w.bytes) its ∙ way_itself w w.fd w.bytes refl refl)
    w.to (ap (λ (v : ProcView). finite_map.get v.state.descriptors w.fd) (sym c.proc.view_is) ∙ under.holds)

pub returns-then-is_full_for-clause-call : goal.returns-then-is_full_for-clause-call
returns-then-is_full_for-clause-call g c = λ fd bytes is.
    let S = g.J.Whose.book.session in
    let a = c.args in
    let i = c.proc.inside in
    let e = c.look.ensures in
    let d = c.look.new.caller in
    let w = c.in-Some.held in
    let before = take w.out i.caller.seen in
    let its : i.way ≡ Some w = sym c.take.ensures.value ∙ c.in-Some.is in
    let old = proc_with i.process i.number i.caller i.way in
    let new = proc_with i.process i.number d (Some w) in
    let under : IsUnderWay S i.process.who i.number before i.caller.seen i.process.state w = subst (λ o. IsWay S i.process.who i.number i.caller.seen i.process.state o) its c.proc.invariant.1 in
    let looked = subst (λ who. HasLooked S who i.caller.seen d.seen) c.proc.invariant.0.of_who e.looked in
    let still_under : IsUnderWay S i.process.who i.number (take w.out d.seen) d.seen i.process.state w = way_looked S i.process.who i.number i.caller.seen d.seen i.process.state (Some w) looked under in
    let going = going_looked S before i.caller.seen d.seen i.process.who i.number (requests.Write w.fd w.bytes) (process_after before i.process.who)
    ((w.out, show_entry i.process.who i.number w) ∷ []) i.process.state under.going looked in
    let own = way_itself w w.fd w.bytes refl refl in
    let mine : is_way (Some w) fd bytes ≡ true = ap (λ o. is_way o fd bytes) (sym its) ∙ ap (λ (v : ProcView). is_way v.way fd bytes) c.proc.view_is ∙ is in
    let what : a.pipe.now.what ≡ w.to.pnode = c.requires.object w.fd w.bytes (ap (λ (v : ProcView). is_way v.way w.fd w.bytes) (sym c.proc.view_is) ∙ ap (λ o. is_way o w.fd w.bytes) its ∙ own)
    w.to (ap (λ (v : ProcView). finite_map.get v.state.descriptors w.fd) (sym c.proc.view_is) ∙ under.holds) in
    let seen : pipe_after d.seen a.pipe.now.what ≡ pipe_after a.pipe.now.seen a.pipe.now.what =
    ap (λ h. pipe_after h a.pipe.now.what) (e.whole ∙ sym (ap (λ (v : ObjectView). v.seen) e.pipe)) ∙ ap (λ o. pipe_after c.look.new.self.seen o) (sym (ap (λ (v : ObjectView). v.what) e.pipe)) ∙ e.same in
    let none = no_room (pushed (pipe_after a.pipe.now.seen a.pipe.now.what) (length c.as_bytes.result.now)) c.is_full_for.result c.is_full_for.ensures c.if-is_full_for.true in
    let unready : reply_to S d.seen w.to.pnode (act.Push w.out w.bytes) ≡ None =
    ap (λ o. pushed (pipe_after d.seen o) (length w.bytes)) (sym what) ∙ ap (λ q. pushed q (length w.bytes)) seen
    ∙ ap (λ n. pushed (pipe_after a.pipe.now.seen a.pipe.now.what) n) (sym (ap length c.as_bytes.ensures.bytes)) ∙ none in
    let more = ap (λ (v : CallerState). v.looks) e.caller in
    let again : CallEnd = ends.Again in
    subst (λ (v : ProcView). Answers S g.J.Whose.places v new (requests.Write fd bytes) (Err again)) c.proc.view_is
    (subst (λ n. Answers S g.J.Whose.places old new (requests.Write n bytes) (Err again)) (way_fd w fd bytes mine)
    (subst (λ b. Answers S g.J.Whose.places old new (requests.Write w.fd b) (Err again)) (way_bytes w fd bytes mine)
    (write_waits S old new i.number (process_after before i.process.who) w before (goes_on_at old w w.fd w.bytes its (ap (λ o. is_way o w.fd w.bytes) its ∙ own)) still_under going unready
    looked.begins (omega (arith, more)) (ap (λ (v : CallerState). v.looked) e.caller) refl refl)))

pub returns-clause-call : goal.returns-clause-call
returns-clause-call g c = λ fd bytes is.
    let S = g.J.Whose.book.session in
    let i = c.proc.inside in
    let d = c.push_step.new.caller in
    let w = c.in-Some.held in
    let before = take w.out i.caller.seen in
    let p = process_after before i.process.who in
    let its : i.way ≡ Some w = sym c.take.ensures.value ∙ c.in-Some.is in
    let old = proc_with i.process i.number i.caller i.way in
    let under : IsUnderWay S i.process.who i.number before i.caller.seen i.process.state w = subst (λ o. IsWay S i.process.who i.number i.caller.seen i.process.state o) its c.proc.invariant.1 in
    let grows = c.push_step.ensures.grows in
    let mine : is_way i.way fd bytes ≡ true = ap (λ (v : ProcView). is_way v.way fd bytes) c.proc.view_is ∙ is in
    elim c.match-push_step.branch [
      | in-Ok x ↦
          subst (λ (end : Result Moved CallEnd). Answers S g.J.Whose.places c.args.proc.now (proc_with i.process i.number d c.take.new.self) (requests.Write fd bytes) end) (sym x.result-is)
          (subst (λ o. Answers S g.J.Whose.places c.args.proc.now (proc_with i.process i.number d o) (requests.Write fd bytes) (Ok x.in-Ok.moved)) (sym c.take.ensures.after)
          (subst (λ (v : ProcView). Answers S g.J.Whose.places v (proc_with i.process i.number d None) (requests.Write fd bytes) (Ok x.in-Ok.moved)) c.proc.view_is
          (went_on S g.J.Whose.places old w its i.process i.number d refl grows fd bytes mine x.in-Ok.moved (x.in-Ok.ensures.call before p under.going))))
      | in-Err x ↦
          let end : CallEnd = ends.Fault x.in-Err.fault in
          subst (λ (end : Result Moved CallEnd). Answers S g.J.Whose.places c.args.proc.now (proc_with i.process i.number d c.take.new.self) (requests.Write fd bytes) end) (sym x.result-is)
          (subst (λ (end : CallEnd). Answers S g.J.Whose.places c.args.proc.now (proc_with i.process i.number d c.take.new.self) (requests.Write fd bytes) (Err end)) (sym x.from.ensures)
          (subst (λ o. Answers S g.J.Whose.places c.args.proc.now (proc_with i.process i.number d o) (requests.Write fd bytes) (Err end)) (sym c.take.ensures.after)
          (subst (λ (v : ProcView). Answers S g.J.Whose.places v (proc_with i.process i.number d None) (requests.Write fd bytes) (Err end)) c.proc.view_is
          (broke_off S g.J.Whose.places old w its i.process i.number d refl grows fd bytes mine x.in-Err.fault (x.in-Err.ensures.call before p under.going)))))
    ]
