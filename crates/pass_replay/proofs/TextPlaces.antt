-- Where the calls of a trace stand in the order of its text.
use Rattle.std.proofs.Common.{◌≡◌, ◌+◌, ℕ, zero, suc, List, [], ◌∷◌, ◌++◌, length, refl, ap, sym, ◌∙◌, subst, arith, ◌⊎◌, inl, inr, cond, append_assoc, length-append}
use Rattle.std.specs.Prelude.{Some, drop, slice_get, take}
use Rattle.std.proofs.lemmas.List.{append-nil}
use Rattle.pass_entry.proofs.Places.{parted}
use Rattle.pass_plain.specs.Traces.{Line, LineCall, fork_as, lines_of, calls_of}
use Rattle.pass_plain.proofs.Lists.{alike, is_place}
use Rattle.pass_replay.specs.Orders.{Place, exit_in, child_exit, places_from, places_in_order}
use Rattle.pass_replay.proofs.NextCalls.{call_cases}
use Rattle.pass_replay.proofs.Positions.{lines-append, lines-own, stands_at}
use Rattle.pass_replay.proofs.RunSteps.{at_behind}

-- an element stands between a front and a back
pub record IsIn {X : Type 0} (xs : List X) (x : X) : Type 0 where
  pub front : List X
  pub back : List X
  pub parts : xs ≡ front ++ x ∷ back

pub in_at : {X : Type 0} (xs : List X) (x : X) → IsIn xs x → (k : ℕ) × (slice_get xs k ≡ Some x)
in_at xs x is = (length is.front, ap (λ ys. slice_get ys (length is.front)) is.parts ∙ at_behind is.front x is.back)

pub in_right : {X : Type 0} (ys xs : List X) (x : X) → IsIn xs x → IsIn (ys ++ xs) x
in_right ys xs x is = record { front = ys ++ is.front; back = is.back; parts = ap (λ xs. ys ++ xs) is.parts ∙ sym (append_assoc ys is.front (x ∷ is.back)) }

pub in_left : {X : Type 0} (xs ys : List X) (x : X) → IsIn xs x → IsIn (xs ++ ys) x
in_left xs ys x is = record { front = is.front; back = is.back ++ ys; parts = ap (λ xs. xs ++ ys) is.parts ∙ append_assoc is.front (x ∷ is.back) ys }

pub in_behind : {X : Type 0} (y : X) (xs : List X) (x : X) → IsIn xs x → IsIn (y ∷ xs) x
in_behind y xs x is = record { front = y ∷ is.front; back = is.back; parts = ap (λ xs. y ∷ xs) is.parts }

-- the calls from a line on are the end of those of the whole trace
pub from_line : (before xs ys : List Line) (l : Line) → (front : List Place) × (places_from before (xs ++ l ∷ ys) ≡ front ++ places_from (before ++ xs) (l ∷ ys))
from_line before [] ys l = ([], ap (λ b. places_from b (l ∷ ys)) (sym (append-nil before)))
from_line before (x ∷ xs) ys l =
    let (front, is) = from_line (before ++ x ∷ []) xs ys l in
    let own : Place = (x.process, length (lines_of before x.process) + 1) in
    let exit : List Place = exit_in (before ++ x ∷ []) (xs ++ l ∷ ys) x.process in
    let child : List Place = child_exit (xs ++ l ∷ ys) x.call in (
      own ∷ (exit ++ (child ++ front)),
      ap (λ ps. own ∷ (exit ++ (child ++ ps))) (is ∙ ap (λ b. front ++ places_from b (l ∷ ys)) (append_assoc before (x ∷ []) xs))
          ∙ ap (λ ps. own ∷ (exit ++ ps)) (sym (append_assoc child front (places_from (before ++ x ∷ xs) (l ∷ ys))))
          ∙ ap (λ ps. own ∷ ps) (sym (append_assoc exit (child ++ front) (places_from (before ++ x ∷ xs) (l ∷ ys)))),
    )

in_whole : (trace before after : List Line) (l : Line) (c : Place) → trace ≡ before ++ l ∷ after → IsIn (places_from before (l ∷ after)) c → IsIn (places_in_order trace) c
in_whole trace before after l c parts is =
    let (front, from) = from_line [] before after l in
    in_right (exit_in [] trace 1) (places_from [] trace) c
    (subst (λ ps. IsIn ps c) (sym (ap (λ t. places_from [] t) parts ∙ from)) (in_right front (places_from before (l ∷ after)) c is))

exit_there : (before rest : List Line) (process : ℕ) → length (lines_of rest process) ≡ 0 → IsIn {X = Place} (exit_in before rest process) (process, length (lines_of before process) + 1)
exit_there before rest process none =
    subst (λ b. IsIn {X = Place} (cond b ((process, length (lines_of before process) + 1) ∷ []) []) (process, length (lines_of before process) + 1)) (sym (alike (length (lines_of rest process)) 0 none))
    (record { front = []; back = []; parts = refl })

-- the process is the first one, or a line forks it
abbrev pub IsBorn : List Line → ℕ → Type 0
IsBorn trace process = (process ≡ 1) ⊎ ((k : ℕ) × (l : Line) × (slice_get trace k ≡ Some l) × (l.call ≡ fork_as process))

-- each call of a process of the trace stands in the list
pub call_in : (trace : List Line) (process done : ℕ) (call : LineCall) → IsBorn trace process → slice_get (calls_of trace process) done ≡ Some call
    → IsIn {X = Place} (places_in_order trace) (process, done + 1)
call_in trace process done call born at = elim (call_cases trace process done call at) [
  | inl l ↦
      let s = stands_at trace process done l.0 l.1 in
      in_whole trace s.before s.after l.0 (process, done + 1) s.parts (record {
        front = [];
        back = exit_in (s.before ++ l.0 ∷ []) s.after l.0.process ++ (child_exit s.after l.0.call ++ places_from (s.before ++ l.0 ∷ []) s.after);
        parts = λ i. (s.own i, (ap (λ p. length (lines_of s.before p) + 1) s.own ∙ ap (λ n. n + 1) s.count) i)
            ∷ (exit_in (s.before ++ l.0 ∷ []) s.after l.0.process ++ (child_exit s.after l.0.call ++ places_from (s.before ++ l.0 ∷ []) s.after));
      })
  | inr exit ↦ at_test (length (lines_of trace process)) refl exit.1
]
  where
    InText : Type 0
    InText = IsIn {X = Place} (places_in_order trace) (process, done + 1)

    -- the exit behind the fork of a process without lines
    child_of : (k : ℕ) (l : Line) → slice_get trace k ≡ Some l → l.call ≡ fork_as process → length (lines_of trace process) ≡ 0 → done ≡ 0 → InText
    child_of k l at_line forks none is =
        let before = take k trace in
        let after = drop (suc k) trace in
        let parts : trace ≡ before ++ l ∷ after = parted trace k l at_line in
        let size : length (lines_of before process) + length (lines_of (l ∷ after) process) ≡ 0 =
        sym (length-append (lines_of before process) (lines_of (l ∷ after) process)) ∙ ap length (sym (lines-append before (l ∷ after) process)) ∙ ap (λ (t : List Line). length (lines_of t process)) (sym parts) ∙ none in
        let more = length-append (lines_of (l ∷ []) process) (lines_of after process) in
        let split = ap length (lines-append (l ∷ []) after process) in
        let rest : length (lines_of after process) ≡ 0 = omega (arith, size, more, split) in
        let place : IsIn {X = Place} (child_exit after l.call) (process, done + 1) =
        subst (λ (call : LineCall). IsIn {X = Place} (child_exit after call) (process, done + 1)) (sym forks)
        (subst (λ (n : ℕ). IsIn {X = Place} (exit_in [] after process) (process, n + 1)) (sym is) (exit_there [] after process rest)) in
        in_whole trace before after l (process, done + 1) parts
        (in_behind (l.process, length (lines_of before l.process) + 1) (exit_in (before ++ l ∷ []) after l.process ++ (child_exit after l.call ++ places_from (before ++ l ∷ []) after)) (process, done + 1)
        (in_right (exit_in (before ++ l ∷ []) after l.process) (child_exit after l.call ++ places_from (before ++ l ∷ []) after) (process, done + 1)
        (in_left (child_exit after l.call) (places_from (before ++ l ∷ []) after) (process, done + 1) place)))

    -- the exit behind the last line of its process
    own_of : (n : ℕ) → length (lines_of trace process) ≡ suc n → done ≡ suc n → InText
    own_of n some is =
        let (l, at_line) = is_place (lines_of trace process) n (omega (arith, some)) in
        let s = stands_at trace process n l at_line in
        let split : length (lines_of s.before process) + length (lines_of (l ∷ s.after) process) ≡ suc n =
        sym (length-append (lines_of s.before process) (lines_of (l ∷ s.after) process)) ∙ ap length (sym (lines-append s.before (l ∷ s.after) process)) ∙ ap (λ (t : List Line). length (lines_of t process)) (sym s.parts) ∙ some in
        let one : length (lines_of (l ∷ s.after) process) ≡ suc (length (lines_of s.after process)) =
        ap (λ b. length (cond b (l ∷ lines_of s.after process) (lines_of s.after process))) (alike l.process process s.own) in
        let count = s.count in
        let rest : length (lines_of s.after process) ≡ 0 = omega (arith, split, one, count) in
        let upto : length (lines_of (s.before ++ l ∷ []) process) ≡ suc n =
        ap length (lines-own s.before l process s.own) ∙ length-append (lines_of s.before process) (l ∷ []) ∙ (let z : length (lines_of s.before process) + 1 ≡ suc n = omega (arith, count) in z) in
        let place : IsIn {X = Place} (exit_in (s.before ++ l ∷ []) s.after l.process) (process, done + 1) =
        subst (λ (p : ℕ). IsIn {X = Place} (exit_in (s.before ++ l ∷ []) s.after p) (process, done + 1)) (sym s.own)
        (subst (λ (n : ℕ). IsIn {X = Place} (exit_in (s.before ++ l ∷ []) s.after process) (process, n + 1)) (upto ∙ sym is) (exit_there (s.before ++ l ∷ []) s.after process rest)) in
        in_whole trace s.before s.after l (process, done + 1) s.parts
        (in_behind (l.process, length (lines_of s.before l.process) + 1) (exit_in (s.before ++ l ∷ []) s.after l.process ++ (child_exit s.after l.call ++ places_from (s.before ++ l ∷ []) s.after)) (process, done + 1)
        (in_left (exit_in (s.before ++ l ∷ []) s.after l.process) (child_exit s.after l.call ++ places_from (s.before ++ l ∷ []) s.after) (process, done + 1) place))

    at_test : (n : ℕ) → length (lines_of trace process) ≡ n → done ≡ length (lines_of trace process) → InText
    at_test zero none is = elim born [
      | inl first ↦
          in_left (exit_in [] trace 1) (places_from [] trace) (process, done + 1)
          (subst (λ (n : ℕ). IsIn {X = Place} (exit_in [] trace 1) (process, n + 1)) (sym (is ∙ none))
          (subst (λ (p : ℕ). IsIn {X = Place} (exit_in [] trace 1) (p, 1)) (sym first) (exit_there [] trace 1 (ap (λ p. length (lines_of trace p)) (sym first) ∙ none))))
      | inr forked ↦ child_of forked.0 forked.1 forked.2 forked.3 none (is ∙ none)
    ]
    at_test (suc n) some is = own_of n some (is ∙ some)
