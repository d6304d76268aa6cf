use Rattle.std.proofs.Common.{◌≡◌, ◌∙◌, length, refl, sym, subst, ap, true}
use Rattle.std.specs.Prelude.{Some, None, Err, Option, List, ℕ}
use Rattle.std.specs.Option.{option_map_or}
use Rattle.std.specs.FinMap as finite_map
use Rattle.pass_entry.specs.declared.entry.Ask.TheVariants as ask
use Rattle.pass_entry.specs.declared.entry.Reply.TheVariants as answer
use Rattle.pass_entry.specs.declared.objects.Descriptor.{Descriptor}
use Rattle.pass_plain.specs.Pipes.{pipe_after}
use Rattle.pass_plain.specs.Processes.{changed_at, risen, Process, refusal, is_pipe}
use Rattle.pass_plain.specs.Replies.{taken}
use Rattle.pass_plain.specs.declared.request.Request.TheVariants as requests
use Rattle.pass_hold.specs.Callings.{IsEntered, IsIdle, HasLooked}
use Rattle.pass_hold.specs.Entering.{MayEnter}
use Rattle.pass_flow.specs.Flows.{ObjectView}
use Rattle.pass_pipe.specs.Desks.{take_entry}
use Rattle.pass_proc.specs.Procs.{ProcView, proc_with}
use Rattle.pass_proc.specs.Views.{ProcessView}
use Rattle.pass_answer.specs.Answers.{Answers, HasMoved}
use Rattle.pass_answer.specs.declared.answer.CallEnd.{CallEnd}
use Rattle.pass_answer.specs.declared.answer.CallEnd.TheVariants as ends
use Rattle.pass_answer.specs.declared.answer.Moved.{Moved}
use Rattle.pass_answer.specs.declared.answer.Moved.TheVariants as moved
use Rattle.pass_answer.proofs.Between.{looked_on}
use Rattle.pass_calls.proofs.Frame.{answers, asks, has_room, holds, opened, ready, rests, twice}
use Rattle.pass_calls.proofs.PipeReads.{read_ready, read_waits, take_may, gives, gain_may, read_moved, read_idle}
use Rattle.pass_answer.proofs.Ready.{is_there}
use Rattle.pass_calls.proofs.Readiness.{still_full}
use Rattle.pass_calls.proofs.pipe_reading.read_pipe.Goals as goal

pub invariant_of-proc : goal.invariant_of-proc
invariant_of-proc g c =
    let S = g.J.Whose.book.session in let i = c.proc.inside in let l = c.look in let dd = l.new.caller in
    looked_on S i.process i.number i.caller i.way c.proc.invariant dd l.ensures.caller l.ensures.looked l.ensures.few

pub returns-in_default-clause-call : goal.returns-in_default-clause-call
returns-in_default-clause-call g c =
    let S = g.J.Whose.book.session in let a = c.args in let q = c.requires in let i = c.proc.inside in let x = a.pipe.now in let l = c.look in let dd = l.new.caller in
    let looked = subst (λ who. HasLooked S who i.caller.seen dd.seen) c.proc.invariant.0.of_who l.ensures.looked in
    let as_before = ap (λ h. pipe_after h x.what) (l.ensures.whole ∙ sym (ap (λ (v : ObjectView). v.seen) l.ensures.pipe)) ∙ ap (λ what. pipe_after l.new.self.seen what) (sym (ap (λ (v : ObjectView). v.what) l.ensures.pipe)) ∙ l.ensures.same in
    let again : CallEnd = ends.Again in subst (λ (v : ProcView). Answers S g.J.Whose.places v (proc_with i.process i.number dd i.way) (requests.Read a.fd a.len) (Err again)) c.proc.view_is
    (read_waits S (proc_with i.process i.number i.caller i.way) (proc_with i.process i.number dd i.way) a.fd a.len x.what c.proc.invariant.0.idle
    (ap (λ (v : ProcView). refusal v.state (ask.ToRead a.fd)) c.proc.view_is ∙ q.free)
    (λ (y : Descriptor) at. q.object y (ap (λ (v : ProcView). finite_map.get v.state.descriptors a.fd) (sym c.proc.view_is) ∙ at))
    looked
    (ap (λ bytes_of. taken bytes_of a.len) as_before ∙ sym c.in_ok-bytes.ensures ∙ ap (λ (got : Option (List ℕ)). option_map_or (λ bs. Some (answer.Took bs)) got None) c.in_default.is)
    (λ k. record (proc_with i.process i.number dd i.way) { looks = (l.ensures.caller k).looks; looked = (l.ensures.caller k).looked }))

pub invariant_of-proc-in-Err : goal.invariant_of-proc-in-Err
invariant_of-proc-in-Err g c =
    let S = g.J.Whose.book.session in let i = c.proc-2.inside in let l = c.look-in-Err in
    looked_on S i.process i.number i.caller i.way c.proc-2.invariant l.new.caller l.ensures.caller l.ensures.looked l.ensures.few

pub returns-in-Err-clause-call : goal.returns-in-Err-clause-call
returns-in-Err-clause-call g c =
    let S = g.J.Whose.book.session in let a = c.args in let i = c.proc-2.inside in let l = c.look-in-Err in let last = l.new.caller in
    let r = requests.Read a.fd a.len in
    let mid = proc_with i.process i.number i.caller i.way in let new = proc_with i.process i.number last i.way in
    still_full S g.J.Whose.places a.proc.now mid new r (λ k. record new { looks = (l.ensures.caller k).looks; looked = (l.ensures.caller k).looked })
    (l.ensures.whole ∙ sym c.in-Err.ensures.whole ∙ ap (λ (v : ProcView). v.seen) (sym c.proc-2.view_is)) c.in-Err.full c.in-Err.ensures.only
    (subst (λ (v : ProcView). Answers S g.J.Whose.places a.proc.now v r (Err c.in-Err.full)) (sym c.proc-2.view_is) (c.in-Err.ensures.full r refl refl))

pub returns-in-Err-clause-ready : goal.returns-in-Err-clause-ready
returns-in-Err-clause-ready g c =
    let S = g.J.Whose.book.session in let a = c.args in let q = c.requires in let i = c.proc-2.inside in let x = a.pipe.now in let l = c.look-in-Err in let last = l.new.caller in
    let as_before : pipe_after last.seen x.what ≡ pipe_after x.seen x.what =
    ap (λ h. pipe_after h x.what) (l.ensures.whole ∙ sym (ap (λ (v : ObjectView). v.seen) l.ensures.pipe)) ∙ ap (λ what. pipe_after l.new.self.seen what) (sym (ap (λ (v : ObjectView). v.what) l.ensures.pipe)) ∙ l.ensures.same in
    let reply = ap (λ bytes_of. taken bytes_of a.len) as_before ∙ sym c.in_ok-bytes.ensures ∙ ap (λ (got : Option (List ℕ)). option_map_or (λ bs. Some (answer.Took bs)) got None) c.in-Some.is in
    read_ready S a.proc.now (proc_with i.process i.number last i.way) a.fd a.len x.what q.free q.object
    (is_there (taken (pipe_after last.seen x.what) a.len) (answer.Took c.in-Some.bytes) reply) c.in-Err.full

pub take-out-requires-clause-place : goal.take-out-requires-clause-place
take-out-requires-clause-place g c =
    let S = g.J.Whose.book.session in let a = c.args in let n = c.in-Ok.number in let i = c.proc-2.inside in let p = c.reserve.new.self in
    let o = ready (opened S i.process i.number i.caller i.way c.proc-2.invariant.0 a.proc.now (c.proc-2.view_is ∙ c.in-Ok.ensures.same) n c.in-Ok.ensures.number) p c.in_ok-reserve.ensures.same in
    has_room o c.held.ensures.call c.begin.new.shelf c.in-Ok.ensures.places

pub take-out-requires-clause-entry : goal.take-out-requires-clause-entry
take-out-requires-clause-entry g c =
    let S = g.J.Whose.book.session in let a = c.args in let q = c.requires in let n = c.in-Ok.number in let i = c.proc-2.inside in let p = c.reserve.new.self in
    let o = ready (opened S i.process i.number i.caller i.way c.proc-2.invariant.0 a.proc.now (c.proc-2.view_is ∙ c.in-Ok.ensures.same) n c.in-Ok.ensures.number) p c.in_ok-reserve.ensures.same in
    let x = a.pipe.now in let free = asks o (ask.ToRead a.fd) ∙ q.free in
    let its : (d : Descriptor) → finite_map.get p.state.descriptors a.fd ≡ Some d → (is_pipe d ≡ true) × (x.what ≡ d.pnode) = λ d at. q.object d (sym (holds o a.fd) ∙ at) in
    let bytes = c.in-Some.bytes in
    subst (λ who. MayEnter i.caller.seen (take_entry who n x.what a.len bytes) 2) (sym c.pnode-who.ensures) (take_may S i.caller.seen p.who n p.state a.fd a.len bytes x.what o.idle o.some free q.fd q.len.0 q.len.1 its)

pub gain-requires-clause-bytes : goal.gain-requires-clause-bytes
gain-requires-clause-bytes g c =
    let S = g.J.Whose.book.session in let a = c.args in let q = c.requires in let n = c.in-Ok.number in let i = c.proc-2.inside in let p = c.reserve.new.self in
    let o = ready (opened S i.process i.number i.caller i.way c.proc-2.invariant.0 a.proc.now (c.proc-2.view_is ∙ c.in-Ok.ensures.same) n c.in-Ok.ensures.number) p c.in_ok-reserve.ensures.same in
    let x = a.pipe.now in let free = asks o (ask.ToRead a.fd) ∙ q.free in
    let its : (d : Descriptor) → finite_map.get p.state.descriptors a.fd ≡ Some d → (is_pipe d ≡ true) × (x.what ≡ d.pnode) = λ d at. q.object d (sym (holds o a.fd) ∙ at) in
    let bytes = c.in-Some.bytes in let read = c.in_ok-read.read in let copied = c.in_ok-read.ensures.cases in let s = c.take-out in let after = s.new.caller.seen in
    let takes = subst (λ who. IsEntered S i.caller.seen x.seen after (take_entry who n x.what a.len bytes)) c.pnode-who.ensures s.ensures.entry.entered in
    gives S i.caller.seen p.who n p.state a.fd a.len bytes x.what o.idle o.some free q.fd q.len.0 q.len.1 its
    x.seen after s.result.0 s.ensures.at.place takes ∙ sym copied

pub gain-requires-clause-entry : goal.gain-requires-clause-entry
gain-requires-clause-entry g c =
    let S = g.J.Whose.book.session in let a = c.args in let q = c.requires in let n = c.in-Ok.number in let i = c.proc-2.inside in let p = c.reserve.new.self in
    let o = ready (opened S i.process i.number i.caller i.way c.proc-2.invariant.0 a.proc.now (c.proc-2.view_is ∙ c.in-Ok.ensures.same) n c.in-Ok.ensures.number) p c.in_ok-reserve.ensures.same in
    let x = a.pipe.now in let free = asks o (ask.ToRead a.fd) ∙ q.free in
    let its : (d : Descriptor) → finite_map.get p.state.descriptors a.fd ≡ Some d → (is_pipe d ≡ true) × (x.what ≡ d.pnode) = λ d at. q.object d (sym (holds o a.fd) ∙ at) in
    let bytes = c.in-Some.bytes in let s = c.take-out in let after = s.new.caller.seen in
    let takes = subst (λ who. IsEntered S i.caller.seen x.seen after (take_entry who n x.what a.len bytes)) c.pnode-who.ensures s.ensures.entry.entered in
    gain_may S i.caller.seen p.who n p.state a.fd a.len bytes x.what o.idle o.some free q.fd q.len.0 q.len.1 its
    x.seen after s.result.0 s.ensures.at.place takes

pub invariant_of-proc-2 : goal.invariant_of-proc-2
invariant_of-proc-2 g c =
    let S = g.J.Whose.book.session in let a = c.args in let q = c.requires in let n = c.in-Ok.number in let i = c.proc-2.inside in let p = c.reserve.new.self in
    let o = ready (opened S i.process i.number i.caller i.way c.proc-2.invariant.0 a.proc.now (c.proc-2.view_is ∙ c.in-Ok.ensures.same) n c.in-Ok.ensures.number) p c.in_ok-reserve.ensures.same in
    let x = a.pipe.now in let free = asks o (ask.ToRead a.fd) ∙ q.free in
    let its : (d : Descriptor) → finite_map.get p.state.descriptors a.fd ≡ Some d → (is_pipe d ≡ true) × (x.what ≡ d.pnode) = λ d at. q.object d (sym (holds o a.fd) ∙ at) in
    let bytes = c.in-Some.bytes in let read = c.in_ok-read.read in let copied = c.in_ok-read.ensures.cases in let s = c.take-out in let after = s.new.caller.seen in let w = c.gain in
    let e = w.new.caller in
    let takes = subst (λ who. IsEntered S i.caller.seen x.seen after (take_entry who n x.what a.len bytes)) c.pnode-who.ensures s.ensures.entry.entered in
    let state = ap (λ (v : ProcessView). v.state) w.ensures.state ∙ ap (λ bs. record p.state { descriptors = changed_at p.state.descriptors a.fd (risen (length bs)); last_read = bs }) copied in (
      rests o w.new.self e (λ k. (w.ensures.state k).who) (twice i.caller s.new.caller e 2 0 s.ensures.entry.caller w.ensures.entry.caller)
          (subst (λ who. IsIdle S e.seen who n w.new.self.state) (λ k. (sym w.ensures.state k).who)
          (subst (λ (v : Process). IsIdle S e.seen p.who n v) (sym state) (read_idle S i.caller.seen p.who n p.state a.fd a.len bytes x.what o.idle o.some free q.fd q.len.0 q.len.1 its
          x.seen after s.result.0 s.ensures.at.place takes p.seen e.seen w.ensures.entry.entered)))
          w.ensures.entry.few,
      tt,
    )

pub returns-clause-call : goal.returns-clause-call
returns-clause-call g c =
    let S = g.J.Whose.book.session in let a = c.args in let q = c.requires in let n = c.in-Ok.number in let i = c.proc-2.inside in let p = c.reserve.new.self in
    let o = ready (opened S i.process i.number i.caller i.way c.proc-2.invariant.0 a.proc.now (c.proc-2.view_is ∙ c.in-Ok.ensures.same) n c.in-Ok.ensures.number) p c.in_ok-reserve.ensures.same in
    let x = a.pipe.now in let free = asks o (ask.ToRead a.fd) ∙ q.free in
    let its : (d : Descriptor) → finite_map.get p.state.descriptors a.fd ≡ Some d → (is_pipe d ≡ true) × (x.what ≡ d.pnode) = λ d at. q.object d (sym (holds o a.fd) ∙ at) in
    let bytes = c.in-Some.bytes in let read = c.in_ok-read.read in let copied = c.in_ok-read.ensures.cases in let s = c.take-out in let after = s.new.caller.seen in let w = c.gain in
    let e = w.new.caller in
    let takes = subst (λ who. IsEntered S i.caller.seen x.seen after (take_entry who n x.what a.len bytes)) c.pnode-who.ensures s.ensures.entry.entered in
    let state = ap (λ (v : ProcessView). v.state) w.ensures.state ∙ ap (λ bs. record p.state { descriptors = changed_at p.state.descriptors a.fd (risen (length bs)); last_read = bs }) copied in
    let m : Moved = moved.Read (length c.as_bytes.result.now) s.result.1 in
    answers o w.new.self e (λ k. (w.ensures.state k).who) g.J.Whose.places (requests.Read a.fd a.len) refl m
    (subst (λ (v : Process). HasMoved S p.who i.caller.seen e.seen v (requests.Read a.fd a.len) m) (sym state)
    (subst (λ bs. HasMoved S p.who i.caller.seen e.seen (record p.state { descriptors = changed_at p.state.descriptors a.fd (risen (length bytes)); last_read = bytes }) (requests.Read a.fd a.len) (moved.Read (length bs) s.result.1)) (sym (c.as_bytes.ensures.bytes ∙ copied))
    (read_moved S i.caller.seen p.who n p.state a.fd a.len bytes x.what o.idle o.some free q.fd q.len.0 q.len.1 its
    x.seen after s.result.0 s.ensures.at.place takes p.seen e.seen w.ensures.entry.entered s.result.1 s.ensures.at.node)))
