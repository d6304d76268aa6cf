-- How many turns are left to each process, from one line earlier on.
use Rattle.std.proofs.Common.{◌≡◌, ◌≤◌, ◌+◌, ℕ, suc, List, [], length, drop, refl, ap, sym, ◌∙◌, arith, inl, inr, cond}
use Rattle.std.specs.Prelude.{Some, slice_get, slice_set}
use Rattle.std.specs.Option.{option_map_or}
use Rattle.std.specs.Ordering.{nat_cmp}
use Rattle.std.specs.BTreeMap.{BTreeMap, Updates, IsEmpty}
use Rattle.std.proofs.lemmas.Bool.{cases_lt}
use Rattle.std.proofs.lemmas.Option.{slice_get_within}
use Rattle.std.proofs.lemmas.List.{drop_all}
use Rattle.pass_plain.specs.Traces.{Line}
use Rattle.pass_plain.proofs.Lists.{some_is, alike, different}
use Rattle.pass_replay.specs.Lines.{AreLinesBehind}
use Rattle.pass_walk.specs.Behind.{left_behind}
use Rattle.pass_walk.specs.Lefts.{of_child, left_in}
use Rattle.pass_walk.proofs.LeftBounds.{left_bound, left_cons}
use Rattle.pass_walk.proofs.Linked.{get_inserted, get_none, set_other}
use Rattle.pass_entry.proofs.Places.{set_here}

-- behind the last line
pub none_behind : (trace : List Line) (behind : BTreeMap ℕ ℕ) (n process : ℕ) → IsEmpty behind → length trace ≤ n → left_behind behind process ≡ left_in (drop n trace) process
none_behind trace behind n process empty past =
    ap (λ o. option_map_or (λ left. left) o 1) (get_none behind process empty) ∙ ap (λ ls. left_in ls process) (sym (drop_all n trace past))

module _ (trace : List Line) (i : ℕ) (m : Line) (at : slice_get trace i ≡ Some m) (old : BTreeMap ℕ ℕ) (behind : (process : ℕ) → left_behind old process ≡ left_in (drop (i + 1) trace) process) where
  of_table : 1 + of_child (left_behind old) m.call + left_behind old m.process ≡ 1 + of_child (λ p. left_in (drop (suc i) trace) p) m.call + left_in (drop (suc i) trace) m.process
  of_table =
      (λ j. 1 + of_child (λ p. behind p j) m.call + behind m.process j)
      ∙ ap (λ n. 1 + of_child (λ p. left_in (drop n trace) p) m.call + left_in (drop n trace) m.process) (let z : i + 1 ≡ suc i = omega arith in z)

  -- what is left from the line on
  pub left_is : 1 + of_child (left_behind old) m.call + left_behind old m.process ≡ left_in (drop i trace) m.process
  left_is =
      of_table
      ∙ sym (left_cons trace i m at m.process
      ∙ ap (λ b. cond b (1 + of_child (λ p. left_in (drop (suc i) trace) p) m.call + left_in (drop (suc i) trace) m.process) (left_in (drop (suc i) trace) m.process)) (alike m.process m.process refl))

  pub left_fits : AreLinesBehind [] trace → 1 + of_child (left_behind old) m.call + left_behind old m.process ≤ 1 + (length trace + length trace)
  left_fits ordered = (let a = left_bound trace i m ordered at in let b = left_is in omega (arith, a, b))

  module _ (left : ℕ) (its : left ≡ 1 + of_child (left_behind old) m.call + left_behind old m.process) where
    pub behind_after : (new : BTreeMap ℕ ℕ) → Updates nat_cmp old new m.process (Some left) → (process : ℕ) → left_behind new process ≡ left_in (drop i trace) process
    behind_after new updates process = elim (get_inserted old new m.process process (Some left) updates) [
      | inl same ↦ ap (λ o. option_map_or (λ left. left) o 1) same.1 ∙ its ∙ left_is ∙ ap (λ p. left_in (drop i trace) p) same.0
      | inr other ↦
          ap (λ o. option_map_or (λ left. left) o 1) other.1 ∙ behind process ∙ ap (λ n. left_in (drop n trace) process) (let z : i + 1 ≡ suc i = omega arith in z)
          ∙ sym (left_cons trace i m at process
          ∙ ap (λ b. cond b (1 + of_child (λ p. left_in (drop (suc i) trace) p) m.call + left_in (drop (suc i) trace) process) (left_in (drop (suc i) trace) process)) (different m.process process other.0))
    ]

    pub lefts_after : (lefts : List ℕ) → length lefts ≡ length trace → ((k : ℕ) (l : Line) → i + 1 ≤ k → slice_get trace k ≡ Some l → slice_get lefts k ≡ Some (left_in (drop k trace) l.process))
        → (k : ℕ) (l : Line) → i ≤ k → slice_get trace k ≡ Some l → slice_get (slice_set lefts i left) k ≡ Some (left_in (drop k trace) l.process)
    lefts_after lefts size done k l low here = elim (cases_lt i k) [
      | inl above ↦ set_other lefts i k left (λ same. omega (arith, above, same)) ∙ done k l (omega (arith, above)) here
      | inr below ↦
          let same : k ≡ i = omega (arith, low, below) in
          let one : m ≡ l = some_is m l (sym at ∙ ap (λ n. slice_get trace n) (sym same) ∙ here) in
          let within = slice_get_within trace i m at in
          ap (λ n. slice_get (slice_set lefts i left) n) same ∙ set_here lefts i left (omega (arith, within, size))
          ∙ ap (λ n. Some n) (its ∙ left_is ∙ ap (λ (l : Line). left_in (drop i trace) l.process) one ∙ ap (λ n. left_in (drop n trace) l.process) (sym same))
    ]
