use Rattle.std.proofs.Common.{◌≡◌, ◌+◌, ap, arith, refl, sym, ◌∙◌, subst}
use Rattle.std.specs.Prelude.{List, Err, None}
use Rattle.pass_entry.specs.declared.entry.Entry.{Entry}
use Rattle.pass_entry.specs.declared.entry.Reply.TheVariants as answer
use Rattle.pass_plain.specs.declared.request.Request.TheVariants as requests
use Rattle.pass_plain.specs.Processes.{Held}
use Rattle.pass_hold.specs.Callers.{CallerState}
use Rattle.pass_hold.specs.Callings.{HasLooked}
use Rattle.pass_proc.specs.Births.{ChildRoomView}
use Rattle.pass_proc.specs.CallEnds.{HasReplied}
use Rattle.pass_proc.specs.Procs.{proc_with}
use Rattle.pass_proc.specs.Views.{ProcessView}
use Rattle.pass_proc.proofs.Steps.{frees, number_fits, still, way_looked}
use Rattle.pass_answer.specs.Answers.{Answers}
use Rattle.pass_answer.specs.declared.answer.CallEnd.{CallEnd}
use Rattle.pass_answer.proofs.Waiting.{reserved}
use Rattle.pass_answer.proofs.Wrapping.{faulted, full}
use Rattle.pass_lives.specs.Forks.{ForkingView, IsForking}
use Rattle.pass_lives.specs.Pipes.{pipes_from}
use Rattle.pass_lives.proofs.ForkBegins.{begins, mint_may, fork_faulted, faulted_idle, spawn_may, forking}
use Rattle.pass_lives.proofs.forking.begin_fork.Goals as goal

pub room-requires : goal.room-requires
room-requires g c =
    let a = c.args in
    record { new = frees g.J.Whose.book.session a.process.now a.number.now a.caller.now c.requires.proc.0 }

pub overflow_add-number : goal.overflow_add-number
overflow_add-number g c = let a = c.args in number_fits g.J.Whose.book.session a.process.now a.number.now a.caller.now c.requires.proc.0

pub returns-in-Err-clause-proc : goal.returns-in-Err-clause-proc
returns-in-Err-clause-proc g c =
    let S = g.J.Whose.book.session in
    let a = c.args in
    let e = c.in-Err.ensures in
    let d = c.room.new.self in
    reserved S a.process.now c.fork_room.new.process a.number.now d a.way.now c.in_ok-room.ensures.same (
      still S a.process.now a.number.now a.caller.now c.requires.proc.0 d a.caller.now.held e.caller e.looked e.few,
      way_looked S a.process.now.who a.number.now a.caller.now.seen d.seen a.process.now.state a.way.now
          (subst (λ w. HasLooked S w a.caller.now.seen d.seen) c.requires.proc.0.of_who e.looked) c.requires.proc.1,
    )

pub returns-in-Err-clause-call : goal.returns-in-Err-clause-call
returns-in-Err-clause-call g c =
    let S = g.J.Whose.book.session in
    let a = c.args in
    let e = c.in-Err.ensures in
    let d = c.room.new.self in
    subst (λ (q : ProcessView). Answers S g.J.Whose.places (proc_with a.process.now a.number.now a.caller.now a.way.now) (proc_with q a.number.now d a.way.now) requests.Fork (Err c.from.result)) (sym c.in_ok-room.ensures.same)
    (subst (λ (end : CallEnd). Answers S g.J.Whose.places (proc_with a.process.now a.number.now a.caller.now a.way.now) (proc_with a.process.now a.number.now d a.way.now) requests.Fork (Err end)) (sym c.from.ensures)
    (full S g.J.Whose.places a.process.now a.number.now a.caller.now d a.way.now c.requires.proc.0 requests.Fork 132 c.in-Err.full refl refl e.caller e.looked e.full))

pub mint-requires-clause-entry : goal.mint-requires-clause-entry
mint-requires-clause-entry g c reply =
    let is = begins c.requires.proc.0 c.fork_room.new.process c.in_ok-room.ensures.same c.room.new.self c.in_default.ensures.same in
    mint_may is.idle c.pnode-who.ensures reply

pub returns-in-Err-mint-clause-proc : goal.returns-in-Err-mint-clause-proc
returns-in-Err-mint-clause-proc g c =
    let is = begins c.requires.proc.0 c.fork_room.new.process c.in_ok-room.ensures.same c.room.new.self c.in_default.ensures.same in
    let e = c.mint.new.caller in (
      record {
        of_who = ap (λ (x : CallerState). x.who) c.in-Err-mint.ensures.entry.caller ∙ is.of_who;
        own = ap (λ (x : CallerState). x.own) c.in-Err-mint.ensures.entry.caller ∙ is.own;
        idle = faulted_idle is.idle c.pnode-who.ensures c.in-Err-mint.fault c.in-Err-mint.ensures.entry.entered;
        few = c.in-Err-mint.ensures.entry.few;
      },
      tt,
    )

pub returns-in-Err-mint-clause-call : goal.returns-in-Err-mint-clause-call
returns-in-Err-mint-clause-call g c =
    let a = c.args in
    let is = begins c.requires.proc.0 c.fork_room.new.process c.in_ok-room.ensures.same c.room.new.self c.in_default.ensures.same in
    let S = g.J.Whose.book.session in
    let q = c.fork_room.new.process in
    let e = c.mint.new.caller in
    let who : q.who ≡ a.process.now.who = ap (λ (v : ProcessView). v.who) c.in_ok-room.ensures.same in
    let f = c.in-Err-mint.fault in
    let replied = fork_faulted is.idle c.pnode-who.ensures f c.in-Err-mint.ensures.entry.entered in
    subst (λ (end : CallEnd). Answers S g.J.Whose.places (proc_with a.process.now a.number.now a.caller.now a.way.now) (proc_with q (a.number.now + 1) e None) requests.Fork (Err end)) (sym c.from-in-Err-mint.ensures)
    (faulted S g.J.Whose.places (proc_with a.process.now a.number.now a.caller.now a.way.now) requests.Fork refl q (a.number.now + 1) e who f
    (subst (λ (l : List Entry). HasReplied S a.process.now.who l e.seen requests.Fork (answer.Fault f)) (ap (λ (x : CallerState). x.seen) c.in_default.ensures.same)
    (subst (λ w. HasReplied S w c.room.new.self.seen e.seen requests.Fork (answer.Fault f)) who replied)))

pub spawn-out-requires-clause-entry : goal.spawn-out-requires-clause-entry
spawn-out-requires-clause-entry g c =
    let is = begins c.requires.proc.0 c.fork_room.new.process c.in_ok-room.ensures.same c.room.new.self c.in_default.ensures.same in
    spawn_may is.idle c.pnode-who.ensures c.in-Ok.child c.in-Ok.ensures.entry.entered

pub invariant_of-result : goal.invariant_of-result
invariant_of-result g c =
    let its : c.in_ok-room.room.child.child ≡ c.in-Ok.child = ap (λ (r : ChildRoomView). r.child) c.in_ok-room.ensures.child ∙ c.next-child.ensures ∙ sym c.in-Ok.ensures.made.next in
    (omega arith, sym its)

pub returns-in-Ok-clause-forking : goal.returns-in-Ok-clause-forking
returns-in-Ok-clause-forking g c =
    let a = c.args in
    let is = begins c.requires.proc.0 c.fork_room.new.process c.in_ok-room.ensures.same c.room.new.self c.in_default.ensures.same in
    let e = c.spawn-out in
    let room = c.in_ok-room.room.child in
    let its : room.child ≡ c.in-Ok.child = ap (λ (r : ChildRoomView). r.child) c.in_ok-room.ensures.child ∙ c.next-child.ensures ∙ sym c.in-Ok.ensures.made.next in
    let held : room.descriptors ≡ c.fork_room.new.process.state.descriptors =
    ap (λ (r : ChildRoomView). r.descriptors) c.in_ok-room.ensures.child ∙ sym (ap (λ (v : ProcessView). v.state.descriptors) c.in_ok-room.ensures.same) in
    let k : ForkingView = record { before = c.of-before.result.value.seen; child = room.child; descriptors = room.descriptors; rest = pipes_from room.descriptors 0; out = e.result.0; source = e.result.1 } in
    subst (λ (v : ProcessView). IsForking g.J.Whose.book.session (a.number.now + 1) v e.new.caller k) (sym e.ensures.state)
    (forking is.idle c.pnode-who.ensures c.in-Ok.child c.in-Ok.ensures.entry.entered e.new.caller e.result.0 e.ensures.at.place e.ensures.entry.entered
    _ refl refl (ap (λ (x : CallerState). x.who) e.ensures.entry.caller ∙ ap (λ (x : CallerState). x.who) c.in-Ok.ensures.entry.caller ∙ is.of_who)
    (ap (λ (x : CallerState). x.own) e.ensures.entry.caller ∙ ap (λ (x : CallerState). x.own) c.in-Ok.ensures.entry.caller ∙ is.own) e.ensures.entry.few
    k (ap (λ (x : CallerState). x.seen) c.of-before.ensures) its held (ap (λ (h : Held). pipes_from h 0) held) refl e.ensures.at.node)
