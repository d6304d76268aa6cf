-- How many turns are left from one line of a process to its next one.
use Rattle.std.proofs.Common.{◌≡◌, ◌≢◌, ◌<◌, ◌≤◌, ◌+◌, ◌-◌, ℕ, zero, suc, List, [], ◌∷◌, length, drop, refl, ap, sym, ◌∙◌, arith, Bool, true, false, ◌==◌, cond}
use Rattle.std.specs.Prelude.{Option, Some, None, slice_get}
use Rattle.std.proofs.lemmas.List.{drop_all}
use Rattle.pass_plain.specs.Traces.{Line}
use Rattle.pass_plain.proofs.Lists.{some_is, alike, different}
use Rattle.pass_replay.specs.Lines.{IsNextLine}
use Rattle.pass_walk.specs.Lefts.{of_child, left_in, left_at}

pub drop_at : {X : Type 0} (xs : List X) (i : ℕ) (x : X) → slice_get xs i ≡ Some x → drop i xs ≡ x ∷ drop (suc i) xs
drop_at [] i x at = absurd (cc)
drop_at (y ∷ xs) zero x at = ap (λ y. y ∷ xs) (some_is y x at)
drop_at (y ∷ xs) (suc i) x at = drop_at xs i x at

drop_past : {X : Type 0} (xs : List X) (i : ℕ) → slice_get xs i ≡ None → drop i xs ≡ []
drop_past [] zero at = refl
drop_past [] (suc i) at = refl
drop_past (y ∷ xs) zero at = absurd (cc)
drop_past (y ∷ xs) (suc i) at = drop_past xs i at

skip_at : (trace : List Line) (process i : ℕ) (o : Option Line) → slice_get trace i ≡ o → ((l : Line) → slice_get trace i ≡ Some l → l.process ≢ process)
    → left_in (drop i trace) process ≡ left_in (drop (suc i) trace) process
skip_at trace process i None at other =
    ap (λ ls. left_in ls process) (drop_past trace i at) ∙ sym (ap (λ ls. left_in ls process) (after trace i at))
  where
    after : (xs : List Line) (i : ℕ) → slice_get xs i ≡ None → drop (suc i) xs ≡ []
    after [] zero at = refl
    after [] (suc i) at = refl
    after (y ∷ xs) zero at = absurd (cc)
    after (y ∷ xs) (suc i) at = after xs i at
skip_at trace process i (Some l) at other =
    ap (λ ls. left_in ls process) (drop_at trace i l at)
    ∙ ap (λ b. cond b (1 + of_child (λ p. left_in (drop (suc i) trace) p) l.call + left_in (drop (suc i) trace) process) (left_in (drop (suc i) trace) process)) (different l.process process (other l at))

skips : (trace : List Line) (process from d : ℕ) → ((k : ℕ) (l : Line) → from ≤ k → k < from + d → slice_get trace k ≡ Some l → l.process ≢ process)
    → left_in (drop from trace) process ≡ left_in (drop (from + d) trace) process
skips trace process from zero none = ap (λ n. left_in (drop n trace) process) (let z : from ≡ from + 0 = omega arith in z)
skips trace process from (suc d) none =
    skips trace process from d (λ k l low high at. none k l low (omega (arith, high)) at)
    ∙ skip_at trace process (from + d) (slice_get trace (from + d)) refl (λ l at. none (from + d) l (omega arith) (omega arith) at)
    ∙ ap (λ n. left_in (drop n trace) process) (let z : suc (from + d) ≡ from + suc d = omega arith in z)

-- what is left from a place on is what is left from the next line on
pub left_from : (trace : List Line) (process from : ℕ) (o : Option ℕ) → IsNextLine trace process from o → left_in (drop from trace) process ≡ left_at trace process o
left_from trace process from None next =
    skips trace process from (length trace) (λ k l low high at. next k l low at)
    ∙ ap (λ ls. left_in ls process) (drop_all (from + length trace) trace (omega arith))
left_from trace process from (Some place) (le, there, none) =
    skips trace process from (place - from) (λ k l low high at. none k l low (omega (arith, le, high)) at)
    ∙ ap (λ n. left_in (drop n trace) process) (let z : from + (place - from) ≡ place = omega (arith, le) in z)

-- a line takes one, and what its child needs
pub left_line : (trace : List Line) (process place : ℕ) (l : Line) (o : Option ℕ) → slice_get trace place ≡ Some l → l.process ≡ process → IsNextLine trace process (place + 1) o
    → left_at trace process (Some place) ≡ 1 + of_child (λ p. left_in (drop (place + 1) trace) p) l.call + left_at trace process o
left_line trace process place l o at own next =
    ap (λ ls. left_in ls process) (drop_at trace place l at)
    ∙ ap (λ b. cond b (1 + of_child (λ p. left_in (drop (suc place) trace) p) l.call + left_in (drop (suc place) trace) process) (left_in (drop (suc place) trace) process)) (alike l.process process own)
    ∙ ap (λ n. 1 + of_child (λ p. left_in (drop n trace) p) l.call + left_in (drop n trace) process) (let z : suc place ≡ place + 1 = omega arith in z)
    ∙ ap (λ n. 1 + of_child (λ p. left_in (drop (place + 1) trace) p) l.call + n) (left_from trace process (place + 1) o next)

-- some turn is left
some_if : (b : Bool) (n m : ℕ) → 1 ≤ m → 1 ≤ cond b (1 + n + m) m
some_if true n m h = omega arith
some_if false n m h = h

pub left_some : (ls : List Line) (process : ℕ) → 1 ≤ left_in ls process
left_some [] process = omega arith
left_some (l ∷ ls) process = some_if (l.process == process) (of_child (λ p. left_in ls p) l.call) (left_in ls process) (left_some ls process)

pub left_at_some : (trace : List Line) (process : ℕ) (o : Option ℕ) → 1 ≤ left_at trace process o
left_at_some trace process None = omega arith
left_at_some trace process (Some place) = left_some (drop place trace) process
