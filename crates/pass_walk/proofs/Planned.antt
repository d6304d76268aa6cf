-- What a plan says of the lines of a process.
use Rattle.std.proofs.Common.{◌≡◌, ◌<◌, ◌≤◌, ◌+◌, ℕ, List, [], length, drop, ap, sym, ◌∙◌, subst, arith}
use Rattle.std.specs.Prelude.{Option, Some, Result, Ok, Err, IfOk, slice_get, vec_capacity}
use Rattle.std.specs.Global.{Vec}
use Rattle.std.proofs.lemmas.Option.{slice_get_within}
use Rattle.pass_plain.specs.Traces.{Line}
use Rattle.pass_plain.proofs.Lists.{is_place, some_is}
use Rattle.pass_trace.specs.TraceLines.{plain_line, plain_trace}
use Rattle.pass_trace.specs.declared.trace.TraceLine.{TraceLine}
use Rattle.pass_replay.specs.Lines.{IsLineAt, IsNextLine}
use Rattle.pass_walk.specs.declared.places.Places.{Places}
use Rattle.pass_walk.specs.Lefts.{AreLefts, HasRoomFor, left_at, left_in}
use Rattle.pass_walk.specs.Tables.{ArePlaces}
use Rattle.pass_walk.proofs.LeftLemmas.{left_from}
use Rattle.pass_walk.proofs.Linked.{plain_at}

-- the turns that are left from a line on stand in the table
pub its_left : (trace : List Line) (lefts : List ℕ) → AreLefts trace lefts → (process done : ℕ) (line : Option ℕ) (place : ℕ) → line ≡ Some place → IsLineAt trace process done line
    → slice_get lefts place ≡ Some (left_at trace process line)
its_left trace lefts are process done line place is at =
    let (l, there, own, count) = subst (λ (o : Option ℕ). IsLineAt trace process done o) is at in
    are place l there ∙ ap (λ p. Some (left_in (drop place trace) p)) own ∙ ap (λ o. Some (left_at trace process o)) (sym is)

pub left_within : (trace : List Line) (lefts : List ℕ) → AreLefts trace lefts → (process done : ℕ) (line : Option ℕ) (place : ℕ) → line ≡ Some place → IsLineAt trace process done line → place < length lefts
left_within trace lefts are process done line place is at = slice_get_within lefts place (left_at trace process line) (its_left trace lefts are process done line place is at)

pub left_is : (trace : List Line) (lefts : List ℕ) → AreLefts trace lefts → (process done : ℕ) (line : Option ℕ) (place : ℕ) → line ≡ Some place → IsLineAt trace process done line
    → (n : ℕ) → slice_get lefts place ≡ Some n → n ≡ left_at trace process line
left_is trace lefts are process done line place is at n found = some_is n (left_at trace process line) (sym found ∙ its_left trace lefts are process done line place is at)

-- the place of the next line stands in the table
pub next_within : (lines : List TraceLine) (places : Places) → ArePlaces (plain_trace lines) places → (place : ℕ) → place < length lines → place < length places.nexts.items
next_within lines places are place within =
    let (l, there) = is_place lines place within in
    let (o, at, next) = are.next place (plain_line l) (plain_at lines place l there) in
    slice_get_within places.nexts.items place o at

pub next_is : (lines : List TraceLine) (places : Places) → ArePlaces (plain_trace lines) places → (place : ℕ) (found : Option ℕ) → slice_get places.nexts.items place ≡ Some found
    → (l : Line) → slice_get (plain_trace lines) place ≡ Some l → IsNextLine (plain_trace lines) l.process (place + 1) found
next_is lines places are place found is l at =
    let (o, there, next) = are.next place l at in
    subst (λ o. IsNextLine (plain_trace lines) l.process (place + 1) o) (some_is o found (sym there ∙ is)) next

-- all turns of a trace are left to its first process
pub all_left : (trace : List Line) (process : ℕ) (first : Option ℕ) → IsNextLine trace process 0 first → left_in trace process ≡ left_at trace process first
all_left trace process first next = left_from trace process 0 first next

pub has_room : {X E : Type 0} (trace : List Line) (r : Result (Vec X) E) (most : ℕ) → left_in trace 1 ≡ most → IfOk r (λ v. v.items ≡ []) → IfOk r (λ v. most ≤ vec_capacity v) → IfOk r (λ v. HasRoomFor trace v)
has_room trace (Ok v) most is empty fits = record { empty = empty; fits = omega (arith, is, fits) }
has_room trace (Err e) most is empty fits = tt
