use Rattle.std.proofs.Common.{◌≡◌, ◌≤◌, ◌+◌, ◌-◌, ℕ, List, [], get_or, length, drop, arith, refl, sym, ap, ◌∙◌, length-set}
use Rattle.std.specs.Prelude.{Some, slice_get, slice_set}
use Rattle.std.specs.Ordering.{nat_cmp}
use Rattle.std.specs.BTreeMap.{BTreeMap, Updates}
use Rattle.std.proofs.lemmas.Option.{slice_get_within, slice_get-get_or}
use Rattle.pass_plain.specs.Traces.{Line}
use Rattle.pass_trace.specs.TraceLines.{call_of, plain_line, plain_trace}
use Rattle.pass_trace.specs.declared.trace.TraceLine.{TraceLine}
use Rattle.pass_replay.specs.Lines.{AreLinesBehind}
use Rattle.pass_walk.specs.Behind.{left_behind}
use Rattle.pass_walk.specs.Lefts.{of_child, left_in}
use Rattle.pass_walk.proofs.LeftTables.{none_behind, left_fits, behind_after, lefts_after}
use Rattle.pass_walk.proofs.Linked.{plain_at, plain_length}
use Rattle.pass_walk.proofs.lefts.lefts_of.Goals as goal

-- how many are left at the line before a place, by the table behind it
module _ (lines : List TraceLine) (place : ℕ) (l : TraceLine) (some : 1 ≤ place) (within : place ≤ length lines) (is : l ≡ get_or lines (place - 1) l)
    (old : BTreeMap ℕ ℕ) (behind : (process : ℕ) → left_behind old process ≡ left_in (drop place (plain_trace lines)) process)
    (child own : ℕ) (child_is : child ≡ of_child (left_behind old) (call_of l.command)) (own_is : own ≡ left_behind old l.process) where
  at : slice_get (plain_trace lines) (place - 1) ≡ Some (plain_line l)
  at = plain_at lines (place - 1) l (slice_get-get_or lines (place - 1) l (omega (arith, some, within)) ∙ ap (λ (l : TraceLine). Some l) (sym is))

  its : 1 + child + own ≡ 1 + of_child (left_behind old) (call_of l.command) + left_behind old l.process
  its = λ i. 1 + child_is i + own_is i

  next_behind : (process : ℕ) → left_behind old process ≡ left_in (drop (place - 1 + 1) (plain_trace lines)) process
  next_behind process = behind process ∙ ap (λ n. left_in (drop n (plain_trace lines)) process) (let z : place ≡ place - 1 + 1 = omega (arith, some) in z)

  few_left : AreLinesBehind [] (plain_trace lines) → length lines ≤ 1000000 → 1 + child + own ≤ 2000001
  few_left ordered few =
      let a = left_fits (plain_trace lines) (place - 1) (plain_line l) at old next_behind ordered in
      let b = its in
      let d = plain_length lines in
      omega (arith, a, b, d, few)

  behind_now : (new : BTreeMap ℕ ℕ) → Updates nat_cmp old new l.process (Some (1 + child + own)) → (process : ℕ) → left_behind new process ≡ left_in (drop (place - 1) (plain_trace lines)) process
  behind_now new updates = behind_after (plain_trace lines) (place - 1) (plain_line l) at old next_behind (1 + child + own) its new updates

  lefts_now : (lefts : List ℕ) → length lefts ≡ length lines → ((k : ℕ) (m : Line) → place ≤ k → slice_get (plain_trace lines) k ≡ Some m → slice_get lefts k ≡ Some (left_in (drop k (plain_trace lines)) m.process))
      → (k : ℕ) (m : Line) → place - 1 ≤ k → slice_get (plain_trace lines) k ≡ Some m → slice_get (slice_set lefts (place - 1) (1 + child + own)) k ≡ Some (left_in (drop k (plain_trace lines)) m.process)
  lefts_now lefts size done =
      lefts_after (plain_trace lines) (place - 1) (plain_line l) at old next_behind (1 + child + own) its lefts (size ∙ sym (plain_length lines))
      (λ k m low here. done k m (omega (arith, low, some)) here)

pub lines-init : goal.lines-init
lines-init c =
    let lines = c.args.lines.now in
    let size = plain_length lines in
    record {
      size = omega (arith, c.in_ok-lefts.ensures.len);
      behind = λ process. none_behind (plain_trace lines) c.new-behind.result (length lines) process c.new-behind.ensures.empty (omega (arith, size));
      lefts = λ k m low at. let within = slice_get_within (plain_trace lines) k m at in absurd (omega (arith, within, size, low));
    }

pub overflow_add-left : goal.overflow_add-left
overflow_add-left c =
    let few = few_left c.args.lines.now c.lines.place c.index-lines-place.result (omega (arith, c.lines-test.true)) c.lines.auto.place c.index-lines-place.is c.lines.behind c.lines.invariant.behind
    c.left_to_child.result (left_behind c.lines.behind c.index-lines-place.result.process) c.left_to_child.ensures refl c.requires.ordered c.requires.few in
    omega (arith, few)

pub overflow_add-left-in-lines : goal.overflow_add-left-in-lines
overflow_add-left-in-lines c =
    let few = few_left c.args.lines.now c.lines.place c.index-lines-place.result (omega (arith, c.lines-test.true)) c.lines.auto.place c.index-lines-place.is c.lines.behind c.lines.invariant.behind
    c.left_to_child.result c.left_to.result c.left_to_child.ensures c.left_to.ensures c.requires.ordered c.requires.few in
    omega (arith, few)

pub lines-preserved : goal.lines-preserved
lines-preserved c =
    let lines = c.args.lines.now in
    let some : 1 ≤ c.lines.place = omega (arith, c.lines-test.true) in
    record {
      size = length-set c.lines.lefts.items (c.lines.place - 1) (1 + c.left_to_child.result + c.left_to.result) ∙ c.lines.invariant.size;
      behind = behind_now lines c.lines.place c.index-lines-place.result some c.lines.auto.place c.index-lines-place.is c.lines.behind c.lines.invariant.behind c.left_to_child.result c.left_to.result c.left_to_child.ensures c.left_to.ensures
          c.insert.new.self c.in_ok-insert.ensures.updates;
      lefts = lefts_now lines c.lines.place c.index-lines-place.result some c.lines.auto.place c.index-lines-place.is c.lines.behind c.lines.invariant.behind c.left_to_child.result c.left_to.result c.left_to_child.ensures c.left_to.ensures
          c.lines.lefts.items c.lines.invariant.size c.lines.invariant.lefts;
    }
