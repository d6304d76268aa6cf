-- From the places of lines to the lines of a process.
use Rattle.std.proofs.Common.{◌≡◌, ◌≢◌, ◌<◌, ◌≤◌, ◌+◌, ◌-◌, ℕ, zero, suc, List, [], ◌∷◌, ◌++◌, length, take, drop, map, refl, ap, sym, ◌∙◌, arith, inl, inr, cond, length-append}
use Rattle.std.specs.Prelude.{Option, Some, None, slice_get}
use Rattle.std.proofs.lemmas.List.{take_all, length-map, append-nil}
use Rattle.std.proofs.lemmas.Bool.{cases_lt}
use Rattle.pass_plain.specs.declared.request.Request.TheVariants as requests
use Rattle.pass_plain.specs.Traces.{Line, LineCall, given, lines_of, calls_of}
use Rattle.pass_replay.specs.Lines.{IsNextLine, IsLineAt}
use Rattle.pass_replay.proofs.Positions.{lines-own, lines-append, line_of_parts}
use Rattle.pass_replay.proofs.Births.{call_at_line}
use Rattle.pass_entry.proofs.Places.{take_one_more, parted, slice_get-last}
use Rattle.pass_entry.proofs.Lists.{different}

take_past : {X : Type 0} (xs : List X) (i : ℕ) → slice_get xs i ≡ None → take (suc i) xs ≡ take i xs
take_past [] zero at = refl
take_past [] (suc i) at = refl
take_past (y ∷ xs) zero at = absurd (cc)
take_past (y ∷ xs) (suc i) at = ap (λ ys. y ∷ ys) (take_past xs i at)

-- no line of the process stands at these places
abbrev NoneBetween : List Line → ℕ → ℕ → ℕ → Type 0
NoneBetween trace process from to = (k : ℕ) (l : Line) → from ≤ k → k < to → slice_get trace k ≡ Some l → l.process ≢ process

count_at : (trace : List Line) (process i : ℕ) (o : Option Line) → slice_get trace i ≡ o → ((l : Line) → slice_get trace i ≡ Some l → l.process ≢ process)
    → length (lines_of (take (suc i) trace) process) ≡ length (lines_of (take i trace) process)
count_at trace process i None at other = ap (λ (ls : List Line). length (lines_of ls process)) (take_past trace i at)
count_at trace process i (Some l) at other =
    ap (λ (ls : List Line). length (lines_of ls process)) (take_one_more trace i l at)
    ∙ ap length (lines-append (take i trace) (l ∷ []) process)
    ∙ ap (λ b. length (lines_of (take i trace) process ++ cond b (l ∷ []) [])) (different l.process process (other l at))
    ∙ ap length (append-nil (lines_of (take i trace) process))

count_none : (trace : List Line) (process from d : ℕ) → NoneBetween trace process from (from + d)
    → length (lines_of (take (from + d) trace) process) ≡ length (lines_of (take from trace) process)
count_none trace process from zero none = ap (λ n. length (lines_of (take n trace) process)) (let z : from + 0 ≡ from = omega arith in z)
count_none trace process from (suc d) none =
    ap (λ n. length (lines_of (take n trace) process)) (let z : from + suc d ≡ suc (from + d) = omega arith in z)
    ∙ count_at trace process (from + d) (slice_get trace (from + d)) refl (λ l at. none (from + d) l (omega arith) (omega arith) at)
    ∙ count_none trace process from d (λ k l low high at. none k l low (omega (arith, high)) at)

count_to : (trace : List Line) (process from to : ℕ) → from ≤ to → NoneBetween trace process from to
    → length (lines_of (take to trace) process) ≡ length (lines_of (take from trace) process)
count_to trace process from to le none =
    ap (λ n. length (lines_of (take n trace) process)) (let z : to ≡ from + (to - from) = omega (arith, le) in z)
    ∙ count_none trace process from (to - from) (λ k l low high at. none k l low (omega (arith, le, high)) at)

-- from a place on, the next line of a process is its line behind those before
from_place : (trace : List Line) (process from done : ℕ) (o : Option ℕ) → length (lines_of (take from trace) process) ≡ done → IsNextLine trace process from o → IsLineAt trace process done o
from_place trace process from done None count next = elim (cases_lt from (length trace)) [
  | inl within ↦
      ap (λ (t : List Line). length (lines_of t process)) (sym (take_all (length trace) trace (omega arith)))
      ∙ count_to trace process from (length trace) (omega (arith, within)) (λ k l low high at. next k l low at) ∙ count
  | inr past ↦ ap (λ (t : List Line). length (lines_of t process)) (sym (take_all from trace past)) ∙ count
]
from_place trace process from done (Some place) count next =
    let (le, (l, at, own), none) = next in
    (l, at, own, count_to trace process from place le none ∙ count)

pub first_line : (trace : List Line) (process : ℕ) (o : Option ℕ) → IsNextLine trace process 0 o → IsLineAt trace process 0 o
first_line trace process o next = from_place trace process 0 0 o refl next

pub next_line : (trace : List Line) (process place done : ℕ) (l : Line) (o : Option ℕ) → slice_get trace place ≡ Some l → l.process ≡ process → length (lines_of (take place trace) process) ≡ done
    → IsNextLine trace process (place + 1) o → IsLineAt trace process (done + 1) o
next_line trace process place done l o at own count next =
    from_place trace process (place + 1) (done + 1) o
    (ap (λ n. length (lines_of (take n trace) process)) (let z : place + 1 ≡ suc place = omega arith in z)
    ∙ ap (λ (ls : List Line). length (lines_of ls process)) (take_one_more trace place l at)
    ∙ ap length (lines-own (take place trace) l process own) ∙ length-append (lines_of (take place trace) process) (l ∷ []) ∙ ap (λ n. n + 1) count) next

-- the line at that place is the process's
pub line_there : (trace : List Line) (process place done : ℕ) (l : Line) → slice_get trace place ≡ Some l → l.process ≡ process → length (lines_of (take place trace) process) ≡ done
    → slice_get (lines_of trace process) done ≡ Some l
line_there trace process place done l at own count =
    ap (λ (t : List Line). slice_get (lines_of t process) done) (parted trace place l at)
    ∙ ap (λ n. slice_get (lines_of (take place trace ++ l ∷ drop (suc place) trace) process) n) (sym count)
    ∙ line_of_parts (take place trace) (drop (suc place) trace) l process own

-- the call of the process behind `done` lines
pub call_at : (trace : List Line) (process done : ℕ) (o : Option ℕ) → IsLineAt trace process done o → (call : LineCall) × (slice_get (calls_of trace process) done ≡ Some call)
call_at trace process done (Some place) (l, at, own, count) = (l.call, call_at_line trace process done l (line_there trace process place done l at own count))
call_at trace process done None count = (given requests.Exit, at_end)
  where
    at_end : slice_get (calls_of trace process) done ≡ Some (given requests.Exit)
    at_end =
        ap (λ n. slice_get (calls_of trace process) n) (sym count ∙ sym (length-map (lines_of trace process) (λ (l : Line). l.call)))
        ∙ slice_get-last (map (λ (l : Line). l.call) (lines_of trace process)) (given requests.Exit)
