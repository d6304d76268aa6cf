use Rattle.std.proofs.Common.{◌≡◌, ℕ, ◌+◌, List, ap, sym, ◌∙◌, arith}
use Rattle.pass_outside.specs.declared.change.Change.TheVariants.{Wrote}
use Rattle.pass_outside.specs.declared.change.Event.{Event}
use Rattle.pass_outside.specs.Areas.{Image, area_of, with_area, written}
use Rattle.pass_outside.specs.Scripts.{Script}
use Rattle.pass_outside.proofs.Kept.{kept_after_write}
use Rattle.pass_outside.proofs.Steps.{reads_new, ordered_new, call_new, write_follows, write_reaches}
use Rattle.pass_outside.proofs.memory.MemDiskDisk.write_at.Goals as goal

pub invariant_of-self-in-Ok : goal.invariant_of-self-in-Ok
invariant_of-self-in-Ok c =
    let d = c.args.self.now in
    let told = c.in-Ok.ensures.event in
    let copied = ap (λ (l : List ℕ). with_area c.args.area (written (area_of c.args.area d.current) c.args.at l) d.current) (sym told.1) in
    let e : Event = record { call = c.calls-call.result; area = c.args.area; change = Wrote c.args.at told.0 } in
    let same = reads_new d.first d.changes.items c.write_change.new.events.items e told.2 d.current c.write_change.new.areas d.log_is d.store_is (c.in-Ok.ensures.content ∙ copied) in
    let calls : c.begin.new.self.calls ≡ d.plan.calls + 1 = ap (λ (s : Script). s.calls) c.in_ok-begin.ensures.ok.counted in
    record {
      log_is = ap (λ (i : Image). i.log) same;
      store_is = ap (λ (i : Image). i.store) same;
      ordered = omega (arith, calls, ordered_new d.first d.changes.items c.write_change.new.events.items e told.2 d.plan.calls d.ordered (c.calls-call.ensures ∙ calls));
    }

pub returns-in-Ok-clause-crash : goal.returns-in-Ok-clause-crash
returns-in-Ok-clause-crash c =
    let d = c.args.self.now in
    let told = c.in-Ok.ensures.event in
    write_follows d.first d.changes.items c.write_change.new.events.items c.calls-call.result c.args.area c.args.at c.args.bytes.now told.0 told.1 told.2

pub returns-in-Ok-clause-reaches : goal.returns-in-Ok-clause-reaches
returns-in-Ok-clause-reaches c =
    let d = c.args.self.now in
    let told = c.in-Ok.ensures.event in
    write_reaches d.first d.changes.items c.write_change.new.events.items c.calls-call.result c.args.area c.args.at c.args.bytes.now told.0 told.1 told.2

pub returns-in-Ok-clause-call : goal.returns-in-Ok-clause-call
returns-in-Ok-clause-call c =
    let d = c.args.self.now in
    let told = c.in-Ok.ensures.event in
    let e : Event = record { call = c.calls-call.result; area = c.args.area; change = Wrote c.args.at told.0 } in
    call_new d.first d.changes.items c.write_change.new.events.items e told.2 _ d.plan c.begin.new.self c.in_ok-begin.ensures.ok (c.calls-call.ensures ∙ ap (λ (s : Script). s.calls) c.in_ok-begin.ensures.ok.counted)

pub returns-in-Ok-clause-kept : goal.returns-in-Ok-clause-kept
returns-in-Ok-clause-kept c = λ keep.
    let d = c.args.self.now in
    let told = c.in-Ok.ensures.event in
    kept_after_write keep d.first d.changes.items c.write_change.new.events.items c.calls-call.result c.args.area c.args.at c.args.bytes.now told.0 told.1 told.2
