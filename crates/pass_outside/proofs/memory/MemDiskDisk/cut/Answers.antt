use Rattle.std.proofs.Common.{◌≡◌, ◌+◌, ap, ◌∙◌, arith}
use Rattle.pass_outside.specs.declared.change.Change.TheVariants.{Cut}
use Rattle.pass_outside.specs.declared.change.Event.{Event}
use Rattle.pass_outside.specs.Areas.{Image}
use Rattle.pass_outside.specs.Scripts.{Script}
use Rattle.pass_outside.proofs.Kept.{kept_after_cut}
use Rattle.pass_outside.proofs.Steps.{reads_new, ordered_new, may_new, new_may, call_new}
use Rattle.pass_outside.proofs.memory.MemDiskDisk.cut.Goals as goal

pub invariant_of-self-in-Ok : goal.invariant_of-self-in-Ok
invariant_of-self-in-Ok c =
    let d = c.args.self.now in
    let e : Event = record { call = c.calls-call.result; area = c.args.area; change = Cut c.args.len } in
    let same = reads_new d.first d.changes.items c.cut_change.new.events.items e c.in-Ok.ensures.event d.current c.cut_change.new.areas d.log_is d.store_is c.in-Ok.ensures.content in
    let calls : c.begin.new.self.calls ≡ d.plan.calls + 1 = ap (λ (s : Script). s.calls) c.in_ok-begin.ensures.ok.counted in
    record {
      log_is = ap (λ (i : Image). i.log) same;
      store_is = ap (λ (i : Image). i.store) same;
      ordered = omega (arith, calls, ordered_new d.first d.changes.items c.cut_change.new.events.items e c.in-Ok.ensures.event d.plan.calls d.ordered (c.calls-call.ensures ∙ calls));
    }

pub returns-in-Ok-clause-crash : goal.returns-in-Ok-clause-crash
returns-in-Ok-clause-crash c =
    let d = c.args.self.now in
    let e : Event = record { call = c.calls-call.result; area = c.args.area; change = Cut c.args.len } in
    λ i h. may_new d.first d.changes.items c.cut_change.new.events.items e c.in-Ok.ensures.event i h

pub returns-in-Ok-clause-reaches : goal.returns-in-Ok-clause-reaches
returns-in-Ok-clause-reaches c =
    let d = c.args.self.now in
    let e : Event = record { call = c.calls-call.result; area = c.args.area; change = Cut c.args.len } in
    λ i h. new_may d.first d.changes.items c.cut_change.new.events.items e c.in-Ok.ensures.event i h

pub returns-in-Ok-clause-call : goal.returns-in-Ok-clause-call
returns-in-Ok-clause-call c =
    let d = c.args.self.now in
    let e : Event = record { call = c.calls-call.result; area = c.args.area; change = Cut c.args.len } in
    call_new d.first d.changes.items c.cut_change.new.events.items e c.in-Ok.ensures.event _ d.plan c.begin.new.self c.in_ok-begin.ensures.ok (c.calls-call.ensures ∙ ap (λ (s : Script). s.calls) c.in_ok-begin.ensures.ok.counted)

pub returns-in-Ok-clause-kept : goal.returns-in-Ok-clause-kept
returns-in-Ok-clause-kept c = λ keep.
    let d = c.args.self.now in
    kept_after_cut keep d.first d.changes.items c.cut_change.new.events.items c.calls-call.result c.args.area c.args.len c.in-Ok.ensures.event
