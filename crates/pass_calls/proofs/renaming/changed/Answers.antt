use Rattle.std.proofs.Common.{◌∙◌, refl, sym, subst}
use Rattle.std.specs.Prelude.{None, Result}
use Rattle.pass_entry.specs.declared.entry.Reply.TheVariants as answer
use Rattle.pass_plain.specs.Calls.{name_of}
use Rattle.pass_hold.specs.Callings.{IsEntered}
use Rattle.pass_hold.specs.Entering.{MayEnter}
use Rattle.pass_registry.specs.Desks.{on_registry}
use Rattle.pass_registry.specs.Outcomes.{reply_done}
use Rattle.pass_proc.specs.Procs.{proc_with}
use Rattle.pass_answer.specs.Answers.{Answers}
use Rattle.pass_answer.specs.declared.answer.CallEnd.{CallEnd}
use Rattle.pass_answer.specs.declared.answer.Moved.{Moved}
use Rattle.pass_answer.specs.declared.answer.Moved.TheVariants as moved
use Rattle.pass_calls.specs.Renamings.{act_of_change, request_of_change}
use Rattle.pass_calls.proofs.Frame.{answers, has_room, once, opened, over, replies, rests}
use Rattle.pass_calls.proofs.SingleStep.{change_step, change_stays, change_tells, step_may, there_replied, there_moved, there_idle, change_needs, new_change}
use Rattle.pass_calls.proofs.renaming.changed.Goals as goal
use Rattle.pass_calls.proofs.renaming.changed.Goals.{in-Ok, in-Err}

pub returns-in_err-number : goal.returns-in_err-number
returns-in_err-number g c =
    let S = g.J.Whose.book.session in let a = c.args in let x = a.change in
    record {
      call = over S g.J.Whose.places a.proc.now c.begin.new.proc (request_of_change x) c.from_residual.result c.in_err-number.field-0.0 c.from_residual.ensures.1 (c.in_err-number.ensures.full (request_of_change x) (sym (change_needs x)) (new_change x a.proc.now.way));
    }

pub change_names-requires : goal.change_names-requires
change_names-requires g c =
    let S = g.J.Whose.book.session in let a = c.args in let q = c.requires in let n = c.in_ok-number.number in let i = c.proc.inside in let p = i.process in
    let o = opened S i.process i.number i.caller i.way c.proc.invariant.0 a.proc.now (c.proc.view_is ∙ c.in_ok-number.ensures.same) n c.in_ok-number.ensures.number in
    let x = a.change in let only = change_step p.who p.state x q.within in
    record {
      place = has_room o c.held.ensures.call c.begin.new.shelf c.in_ok-number.ensures.places;
      who = o.who ∙ sym c.pnode-who.ensures;
      entry = λ reply. subst (λ who. MayEnter i.caller.seen (on_registry who n (name_of (request_of_change x)) (act_of_change x) reply) 0) (sym c.pnode-who.ensures) (step_may S i.caller.seen p.who n p.state (request_of_change x) 0 (act_of_change x) only o.idle o.some reply);
    }

pub invariant_of-proc : goal.invariant_of-proc
invariant_of-proc g c =
    let S = g.J.Whose.book.session in let a = c.args in let q = c.requires in let n = c.in_ok-number.number in let i = c.proc.inside in let p = i.process in
    let o = opened S i.process i.number i.caller i.way c.proc.invariant.0 a.proc.now (c.proc.view_is ∙ c.in_ok-number.ensures.same) n c.in_ok-number.ensures.number in
    let x = a.change in let r = a.registry.now in let s = c.change_names in let e = s.new.caller in let only = change_step p.who p.state x q.within in (
      rests o p e refl (once i.caller e 0 s.ensures.entry.caller) (there_idle S i.caller.seen p.who n p.state (request_of_change x) 0 (act_of_change x) only o.idle o.some (reply_done s.result) r.seen e.seen
          (subst (λ who. IsEntered S i.caller.seen r.seen e.seen (on_registry who n (name_of (request_of_change x)) (act_of_change x) (reply_done s.result))) c.pnode-who.ensures s.ensures.entry.entered) (λ past. change_stays past p.state x)) s.ensures.entry.few,
      tt,
    )

pub returns : goal.returns
returns g c =
    let S = g.J.Whose.book.session in let a = c.args in let q = c.requires in let n = c.in_ok-number.number in let i = c.proc.inside in let p = i.process in
    let o = opened S i.process i.number i.caller i.way c.proc.invariant.0 a.proc.now (c.proc.view_is ∙ c.in_ok-number.ensures.same) n c.in_ok-number.ensures.number in
    let x = a.change in let r = a.registry.now in let s = c.change_names in let e = s.new.caller in let only = change_step p.who p.state x q.within in
    record {
      call = elim c.match-change_names.branch [
        | in-Ok v ↦ subst (λ (end : Result Moved CallEnd). Answers S g.J.Whose.places a.proc.now (proc_with p n e None) (request_of_change x) end) (sym v.result-is) (answers o p e refl g.J.Whose.places (request_of_change x) (new_change x a.proc.now.way) moved.Done (there_moved S i.caller.seen p.who n p.state (request_of_change x) 0 (act_of_change x) only o.idle o.some answer.Done r.seen e.seen
            (subst (λ who. IsEntered S i.caller.seen r.seen e.seen (on_registry who n (name_of (request_of_change x)) (act_of_change x) answer.Done)) c.pnode-who.ensures v.in-Ok.ensures.entry.entered) (λ past. change_stays past p.state x) moved.Done refl (λ made. change_tells S e.seen p.state x made)))
        | in-Err v ↦ subst (λ (end : Result Moved CallEnd). Answers S g.J.Whose.places a.proc.now (proc_with p n e None) (request_of_change x) end) (sym v.result-is) (replies o p e refl g.J.Whose.places (request_of_change x) (new_change x a.proc.now.way) v.in-Err.fault (there_replied S i.caller.seen p.who n p.state (request_of_change x) 0 (act_of_change x) only o.idle o.some (answer.Fault v.in-Err.fault) r.seen e.seen
            (subst (λ who. IsEntered S i.caller.seen r.seen e.seen (on_registry who n (name_of (request_of_change x)) (act_of_change x) (answer.Fault v.in-Err.fault))) c.pnode-who.ensures v.in-Err.ensures.entry.entered) (λ past. change_stays past p.state x)))
      ];
    }
