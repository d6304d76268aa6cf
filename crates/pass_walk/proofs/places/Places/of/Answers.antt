use Rattle.std.proofs.Common.{◌≡◌, ◌≤◌, ◌+◌, ◌-◌, ℕ, Some, slice_get, get_or, length, arith, subst, sym, ◌∙◌, length-set}
use Rattle.std.specs.Prelude.{Option, slice_set}
use Rattle.std.specs.Ordering.{nat_cmp}
use Rattle.std.specs.BTreeMap.{get}
use Rattle.std.proofs.lemmas.Option.{slice_get_within, slice_get-get_or}
use Rattle.pass_plain.specs.Traces.{Line}
use Rattle.pass_trace.specs.TraceLines.{plain_line, plain_trace}
use Rattle.pass_trace.specs.declared.trace.TraceLine.{TraceLine}
use Rattle.pass_replay.specs.Lines.{IsNextLine}
use Rattle.pass_walk.specs.Tables.{NextPlace}
use Rattle.pass_walk.proofs.Linked.{get_none, first_after, next_after, plain_at, plain_length}
use Rattle.pass_walk.proofs.places.Places.of.Goals as goal

pub lines-init : goal.lines-init
lines-init c =
    let lines = c.args.lines.now in
    let size = plain_length lines in
    record {
      size = omega (arith, c.in_ok-nexts.ensures.len);
      first = λ process. subst (λ o. IsNextLine (plain_trace lines) process (length lines) o) (sym (get_none c.new-firsts.result process c.new-firsts.ensures.empty))
          (λ k m low at. let within = slice_get_within (plain_trace lines) k m at in absurd (omega (arith, within, size, low)));
      next = λ k m low at. let within = slice_get_within (plain_trace lines) k m at in absurd (omega (arith, within, size, low));
    }

pub lines-preserved : goal.lines-preserved
lines-preserved c =
    let lines = c.args.lines.now in
    let trace = plain_trace lines in
    let i : ℕ = c.lines.place - 1 in
    let one : i + 1 ≡ c.lines.place = omega (arith, c.lines-test.true) in
    let l : TraceLine = get_or lines i c.index-lines-place.result in
    let at : slice_get trace i ≡ Some (plain_line l) = plain_at lines i l (slice_get-get_or lines i c.index-lines-place.result (omega (arith, c.lines-test.true, c.lines.auto.place))) in
    let size : length c.lines.nexts.items ≡ length trace = c.lines.invariant.size ∙ sym (plain_length lines) in
    let first : (process : ℕ) → IsNextLine trace process (i + 1) (get nat_cmp c.lines.firsts process) =
    λ process. subst (λ n. IsNextLine trace process n (get nat_cmp c.lines.firsts process)) (sym one) (c.lines.invariant.first process) in
    let next : (k : ℕ) (m : Line) → i + 1 ≤ k → slice_get trace k ≡ Some m → NextPlace trace c.lines.nexts.items k m =
    λ k m low here. c.lines.invariant.next k m (omega (arith, low, one)) here in
    record {
      size = length-set c.lines.nexts.items i c.in_ok-nexts-2.field-0 ∙ c.lines.invariant.size;
      first = first_after trace i (plain_line l) at c.lines.firsts c.insert.new.self c.in_ok-nexts-2.ensures.updates c.lines.nexts.items size first;
      next = subst (λ (o : Option ℕ). (k : ℕ) (m : Line) → i ≤ k → slice_get trace k ≡ Some m → NextPlace trace (slice_set c.lines.nexts.items i o) k m) (sym c.in_ok-nexts-2.ensures.old)
          (next_after trace i (plain_line l) at c.lines.firsts c.insert.new.self c.in_ok-nexts-2.ensures.updates c.lines.nexts.items size first next);
    }

pub returns : goal.returns
returns c =
    let none : c.lines.place ≡ 0 = omega (arith, c.lines-test.false) in
    record {
      first = λ process. subst (λ n. IsNextLine (plain_trace c.args.lines.now) process n (get nat_cmp c.lines.firsts process)) none (c.lines.invariant.first process);
      next = λ k m at. c.lines.invariant.next k m (omega (arith, none)) at;
    }
