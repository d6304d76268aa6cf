use Rattle.std.proofs.Common.{◌≡◌, ◌+◌, ap, sym, ◌∙◌, arith}
use Rattle.pass_outside.specs.declared.change.Change.TheVariants.{Synced}
use Rattle.pass_outside.specs.declared.change.Event.{Event}
use Rattle.pass_outside.specs.Areas.{Image, area_of}
use Rattle.pass_outside.specs.History.{after_all, beginning}
use Rattle.pass_outside.specs.Scripts.{Script}
use Rattle.pass_outside.specs.Images.{with_same}
use Rattle.pass_outside.proofs.Kept.{kept_after_sync}
use Rattle.pass_outside.proofs.Steps.{reads_new, ordered_new, may_new, new_may, seen_new, call_new}
use Rattle.pass_outside.proofs.memory.MemDiskDisk.sync.Goals as goal

pub invariant_of-self-in-Ok : goal.invariant_of-self-in-Ok
invariant_of-self-in-Ok c =
    let d = c.args.self.now in
    let e : Event = record { call = c.calls-call.result; area = c.args.area; change = Synced } in
    let same = reads_new d.first d.changes.items c.push_event.new.events.items e c.in-Ok.ensures.ok d.current d.current d.log_is d.store_is (sym (with_same c.args.area d.current)) in
    let calls : c.begin.new.self.calls ≡ d.plan.calls + 1 = ap (λ (s : Script). s.calls) c.in_ok-begin.ensures.ok.counted in
    record {
      log_is = ap (λ (i : Image). i.log) same;
      store_is = ap (λ (i : Image). i.store) same;
      ordered = omega (arith, calls, ordered_new d.first d.changes.items c.push_event.new.events.items e c.in-Ok.ensures.ok d.plan.calls d.ordered (c.calls-call.ensures ∙ calls));
    }

pub returns-in-Ok-clause-durable : goal.returns-in-Ok-clause-durable
returns-in-Ok-clause-durable c =
    let d = c.args.self.now in
    let e : Event = record { call = c.calls-call.result; area = c.args.area; change = Synced } in
    let seen = seen_new d.first d.changes.items c.push_event.new.events.items e c.in-Ok.ensures.ok ∙ with_same c.args.area (after_all (beginning d.first) d.changes.items).seen in
    λ i may. (may_new d.first d.changes.items c.push_event.new.events.items e c.in-Ok.ensures.ok i may).1 ∙ ap (area_of c.args.area) (sym seen)

pub returns-in-Ok-clause-crash : goal.returns-in-Ok-clause-crash
returns-in-Ok-clause-crash c =
    let d = c.args.self.now in
    let e : Event = record { call = c.calls-call.result; area = c.args.area; change = Synced } in
    λ i may. (may_new d.first d.changes.items c.push_event.new.events.items e c.in-Ok.ensures.ok i may).0

pub returns-in-Ok-clause-reaches : goal.returns-in-Ok-clause-reaches
returns-in-Ok-clause-reaches c =
    let d = c.args.self.now in
    let e : Event = record { call = c.calls-call.result; area = c.args.area; change = Synced } in
    λ i may same. new_may d.first d.changes.items c.push_event.new.events.items e c.in-Ok.ensures.ok i (may, same)

pub returns-in-Ok-clause-call : goal.returns-in-Ok-clause-call
returns-in-Ok-clause-call c =
    let d = c.args.self.now in
    let e : Event = record { call = c.calls-call.result; area = c.args.area; change = Synced } in
    call_new d.first d.changes.items c.push_event.new.events.items e c.in-Ok.ensures.ok _ d.plan c.begin.new.self c.in_ok-begin.ensures.ok (c.calls-call.ensures ∙ ap (λ (s : Script). s.calls) c.in_ok-begin.ensures.ok.counted)

pub returns-in-Ok-clause-kept : goal.returns-in-Ok-clause-kept
returns-in-Ok-clause-kept c = λ keep.
    let d = c.args.self.now in
    kept_after_sync keep d.first d.changes.items c.push_event.new.events.items c.calls-call.result c.args.area c.in-Ok.ensures.ok
