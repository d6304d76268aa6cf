use Rattle.std.proofs.Common.{◌≡◌, ◌+◌, ap, sym, ◌∙◌, subst, true}
use Rattle.std.specs.Prelude.{Ok, None}
use Rattle.pass_plain.specs.Processes.{has_ended}
use Rattle.pass_book.specs.Tokens.{BookState}
use Rattle.pass_proc.specs.Procs.{proc_with}
use Rattle.pass_proc.proofs.Steps.{frees, number_fits}
use Rattle.pass_answer.specs.Answers.{Answers}
use Rattle.pass_answer.proofs.Between.{full_ends, looked_on}
use Rattle.pass_answer.specs.declared.answer.Moved.TheVariants as moved
use Rattle.pass_lives.specs.Waits.{request_of}
use Rattle.pass_lives.specs.declared.waiting.ChildWait.{ChildWait}
use Rattle.pass_lives.specs.declared.waiting.ChildWait.TheVariants as kinds
use Rattle.pass_lives.proofs.Waits.{child_ready, first_may, needed, no_way, rests, second_may, waited, waiting}
use Rattle.pass_lives.proofs.waiting.wait_ended.Goals as goal

pub room-requires : goal.room-requires
room-requires g c = let i = c.proc.inside in record { new = frees g.J.Whose.book.session i.process i.number i.caller c.proc.invariant.0 }

pub invariant_of-proc : goal.invariant_of-proc
invariant_of-proc g c =
    let i = c.proc.inside in
    let e = c.in-Err.ensures in
    looked_on g.J.Whose.book.session i.process i.number i.caller i.way c.proc.invariant c.room.new.self e.caller e.looked e.few

pub overflow_add-number : goal.overflow_add-number
overflow_add-number g c = let i = c.proc.inside in number_fits g.J.Whose.book.session i.process i.number i.caller c.proc.invariant.0

pub returns-in-Err-clause-call : goal.returns-in-Err-clause-call
returns-in-Err-clause-call g c =
    let S = g.J.Whose.book.session in
    let i = c.proc.inside in
    let e = c.in-Err.ensures in
    full_ends S i.process i.number i.caller i.way c.proc.invariant c.room.new.self e.caller e.looked g.J.Whose.places c.args.proc.now c.proc.view_is
    (request_of c.args.wait c.args.child) 3 c.in-Err.full (no_way c.args.wait c.args.child c.args.proc.now.way) (sym (needed c.args.wait c.args.child)) e.full c.from.result c.from.ensures

pub returns-in-Err-clause-ready : goal.returns-in-Err-clause-ready
returns-in-Err-clause-ready g c =
    let a = c.args in
    let i = c.proc.inside in
    let e = c.in-Err.ensures in
    let d = c.room.new.self in
    let ended : has_ended d.seen a.child ≡ true =
    ap (λ h. has_ended h a.child) (e.whole ∙ sym (ap (λ (b : BookState). b.history) e.shelf))
    ∙ ap (λ w. has_ended c.room.new.shelf.history w) (sym c.requires.child) ∙ c.look.ensures.ended in
    child_ready a.wait g.J.Whose.book.session a.proc.now (proc_with i.process i.number d i.way) a.child c.requires.free ended c.from.result

pub reap-out-requires-clause-entry : goal.reap-out-requires-clause-entry
reap-out-requires-clause-entry g c =
    let w = waiting c.proc.invariant.0 c.proc.inside.way c.args.proc.now c.proc.view_is c.args.child c.requires.free c.room.new.self c.in_default.ensures.same in
    first_may kinds.Taking w c.pnode-who.ensures c.requires.child

pub gather-requires-clause-child : goal.gather-requires-clause-child
gather-requires-clause-child g c =
    let w = waiting c.proc.invariant.0 c.proc.inside.way c.args.proc.now c.proc.view_is c.args.child c.requires.free c.room.new.self c.in_default.ensures.same in
    w.free

pub gather-requires-clause-entry : goal.gather-requires-clause-entry
gather-requires-clause-entry g c =
    let w = waiting c.proc.invariant.0 c.proc.inside.way c.args.proc.now c.proc.view_is c.args.child c.requires.free c.room.new.self c.in_default.ensures.same in
    second_may kinds.Taking w c.pnode-who.ensures c.requires.child c.reap-out.ensures.entry.entered c.reap-out.result.0 c.reap-out.ensures.at.place

pub invariant_of-proc-in-Taking : goal.invariant_of-proc-in-Taking
invariant_of-proc-in-Taking g c =
    let w = waiting c.proc.invariant.0 c.proc.inside.way c.args.proc.now c.proc.view_is c.args.child c.requires.free c.room.new.self c.in_default.ensures.same in
    (rests kinds.Taking w c.pnode-who.ensures c.requires.child c.reap-out.ensures.entry.entered c.reap-out.result.0 c.reap-out.ensures.at.place c.gather.new.self c.gather.new.caller c.gather.ensures.entry.entered c.gather.ensures.state c.reap-out.new.caller c.reap-out.ensures.entry.caller c.gather.ensures.entry.caller c.gather.ensures.entry.few, tt)

pub returns-in-Taking-clause-call : goal.returns-in-Taking-clause-call
returns-in-Taking-clause-call g c =
    let w = waiting c.proc.invariant.0 c.proc.inside.way c.args.proc.now c.proc.view_is c.args.child c.requires.free c.room.new.self c.in_default.ensures.same in
    subst (λ (k : ChildWait). Answers g.J.Whose.book.session g.J.Whose.places c.args.proc.now (proc_with c.gather.new.self (c.proc.inside.number + 1) c.gather.new.caller None) (request_of k c.args.child) (Ok moved.Done)) (sym c.in-Taking.is)
    (waited kinds.Taking w c.pnode-who.ensures c.requires.child c.reap-out.ensures.entry.entered c.reap-out.result.0 c.reap-out.ensures.at.place c.gather.new.self c.gather.new.caller c.gather.ensures.entry.entered c.gather.ensures.state g.J.Whose.places)

pub show_end-requires-clause-entry : goal.show_end-requires-clause-entry
show_end-requires-clause-entry g c =
    let w = waiting c.proc.invariant.0 c.proc.inside.way c.args.proc.now c.proc.view_is c.args.child c.requires.free c.room.new.self c.in_default.ensures.same in
    first_may kinds.Quiet w c.pnode-who.ensures c.requires.child

pub release-requires-clause-entry : goal.release-requires-clause-entry
release-requires-clause-entry g c =
    let w = waiting c.proc.invariant.0 c.proc.inside.way c.args.proc.now c.proc.view_is c.args.child c.requires.free c.room.new.self c.in_default.ensures.same in
    second_may kinds.Quiet w c.pnode-who.ensures c.requires.child c.show_end.ensures.entry.entered 0 tt

pub invariant_of-proc-in-Quiet : goal.invariant_of-proc-in-Quiet
invariant_of-proc-in-Quiet g c =
    let w = waiting c.proc.invariant.0 c.proc.inside.way c.args.proc.now c.proc.view_is c.args.child c.requires.free c.room.new.self c.in_default.ensures.same in
    (rests kinds.Quiet w c.pnode-who.ensures c.requires.child c.show_end.ensures.entry.entered 0 tt c.release.new.self c.release.new.caller c.release.ensures.entry.entered c.release.ensures.state c.show_end.new.caller c.show_end.ensures.entry.caller c.release.ensures.entry.caller c.release.ensures.entry.few, tt)

pub returns-in-Quiet-clause-call : goal.returns-in-Quiet-clause-call
returns-in-Quiet-clause-call g c =
    let w = waiting c.proc.invariant.0 c.proc.inside.way c.args.proc.now c.proc.view_is c.args.child c.requires.free c.room.new.self c.in_default.ensures.same in
    subst (λ (k : ChildWait). Answers g.J.Whose.book.session g.J.Whose.places c.args.proc.now (proc_with c.release.new.self (c.proc.inside.number + 1) c.release.new.caller None) (request_of k c.args.child) (Ok moved.Done)) (sym c.in-Quiet.is)
    (waited kinds.Quiet w c.pnode-who.ensures c.requires.child c.show_end.ensures.entry.entered 0 tt c.release.new.self c.release.new.caller c.release.ensures.entry.entered c.release.ensures.state g.J.Whose.places)
