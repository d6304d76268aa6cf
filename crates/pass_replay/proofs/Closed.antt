-- Where all processes of a run have made their exit, none of the trace is open.
use Rattle.std.proofs.Common.{◌≡◌, ◌<◌, ◌+◌, ℕ, List, [], ◌∷◌, ◌++◌, length, refl, ap, sym, ◌∙◌, subst, arith, ◌⊎◌, inl, inr, Bool, true, false, not, ◌||◌, ◌==◌, append_assoc}
use Rattle.std.specs.Prelude.{Option, Some, slice_get}
use Rattle.std.specs.Option.{option_map_or}
use Rattle.std.specs.List.{list_any}
use Rattle.std.proofs.lemmas.List.Folds.{list_any-append}
use Rattle.std.proofs.lemmas.Option.{slice_get_within}
use Rattle.std.proofs.lemmas.List.{append-nil}
use Rattle.pass_entry.specs.declared.entry.Entry.{Entry}
use Rattle.pass_entry.proofs.Places.{Contains-place}
use Rattle.pass_plain.specs.Sessions.{Session}
use Rattle.pass_plain.specs.Legal.{is_over}
use Rattle.pass_plain.specs.Traces.{Line, LineCall, given, write_last, fork_as, wait_for, await_for, lines_of, calls_of}
use Rattle.pass_plain.specs.Runs.{pnode_of_process, is_open, first, forked_by}
use Rattle.pass_plain.proofs.Lists.{same_numbers, any_of, same_itself}
use Rattle.pass_replay.specs.Ends.{NoneOpen}
use Rattle.pass_replay.specs.Lines.{is_fork_of, is_there, AreLinesBehind}
use Rattle.pass_replay.specs.Making.{IsRunSoFar}
use Rattle.pass_replay.proofs.Positions.{line_of_parts}
use Rattle.pass_replay.proofs.Begun.{child_has_begun, first_has_begun}
use Rattle.pass_replay.proofs.NextCalls.{over_within, calls_length}

fork_is : (q : ℕ) (call : LineCall) → is_fork_of q call ≡ true → call ≡ fork_as q
fork_is q (fork_as child) is = ap (λ q. fork_as q) (same_numbers child q is)
fork_is q (given r) is = absurd (cc)
fork_is q (write_last fd) is = absurd (cc)
fork_is q (wait_for child) is = absurd (cc)
fork_is q (await_for child) is = absurd (cc)

three : (a b c : Bool) → a || (b || (c || false)) ≡ true → (a || b ≡ true) ⊎ (c ≡ true)
three true b c h = inl refl
three false true c h = inl refl
three false false true h = inr refl
three false false false h = absurd (cc)

module _ (session : Session) (trace : List Line) (behind : AreLinesBehind [] trace) (history : List Entry) (so_far : IsRunSoFar session trace history)
    (exit_over : (p w : ℕ) → pnode_of_process session trace history p ≡ Some w → is_over history w (length (calls_of trace p)) ≡ true) where
  abbrev pnode : ℕ → Option ℕ
  pnode = pnode_of_process session trace history

  -- each line's call of a process that has begun is over
  line_over : (p w k : ℕ) → pnode p ≡ Some w → k < length (lines_of trace p) → is_over history w (k + 1) ≡ true
  line_over p w k at within =
      let least = over_within session history w (length (calls_of trace p)) so_far.run.legal (exit_over p w at) in
      let size = calls_length trace p in
      so_far.run.whole w (k + 1) (so_far.begun p w at) (omega arith) (omega (arith, least, size, within))

  abbrev AllBegun : List Line → Type 0
  AllBegun before = (q : ℕ) → is_there before q ≡ true → (w : ℕ) × (pnode q ≡ Some w)

  begun_next : (before ls : List Line) (l : Line) → trace ≡ before ++ l ∷ ls → is_there before l.process ≡ true → AllBegun before → AllBegun (before ++ l ∷ [])
  begun_next before ls l parts there all = λ q is.
      elim (three (q == 1) (list_any (λ (l : Line). is_fork_of q l.call) before) (is_fork_of q l.call)
      (ap (λ b. (q == 1) || b) (sym (list_any-append (λ (l : Line). is_fork_of q l.call) before (l ∷ []))) ∙ is)) [
        | inl old ↦ all q old
        | inr now ↦
            let (w, at) = all l.process there in
            let k : ℕ = length (lines_of before l.process) in
            let stands : slice_get (lines_of trace l.process) k ≡ Some l = ap (λ (t : List Line). slice_get (lines_of t l.process) k) parts ∙ line_of_parts before ls l l.process refl in
            let within = slice_get_within (lines_of trace l.process) k l stands in
            (_, child_has_begun session trace history l.process k q w l behind stands (fork_is q l.call now) at (line_over l.process w k at within))
      ]

  all_begun : (before ls : List Line) → trace ≡ before ++ ls → AreLinesBehind before ls → AllBegun before → AllBegun trace
  all_begun before [] parts rules all = subst AllBegun (sym (parts ∙ append-nil before)) all
  all_begun before (l ∷ ls) parts rules all =
      all_begun (before ++ l ∷ []) ls (parts ∙ sym (append_assoc before (l ∷ []) ls)) rules.1 (begun_next before ls l parts rules.0.there all)

  first_only : AllBegun []
  first_only q is = (_, ap pnode (same_numbers q 1 (or_nothing (q == 1) is)) ∙ first_has_begun session trace history so_far.some)
    where
      or_nothing : (b : Bool) → b || false ≡ true → b ≡ true
      or_nothing true h = refl
      or_nothing false h = absurd (cc)

  closed : (p w : ℕ) → pnode p ≡ Some w → is_open session trace history p ≡ false
  closed p w at = ap (λ o. option_map_or (λ w. not (is_over history w (length (calls_of trace p)))) o true) at ∙ ap not (exit_over p w at)

  there_of : (k q : ℕ) (l : Line) → slice_get trace k ≡ Some l → l.call ≡ fork_as q → is_there trace q ≡ true
  there_of k q l at forks = or_right (q == 1) (any_of (λ (l : Line). is_fork_of q l.call) trace k l at (ap (λ c. is_fork_of q c) forks ∙ same_itself q))
    where
      or_right : (a : Bool) {b : Bool} → b ≡ true → a || b ≡ true
      or_right true h = refl
      or_right false h = h

  -- where nobody lives, none is open
  pub none_open : NoneOpen session trace history
  none_open process of_trace = elim of_trace as (λ process t. is_open session trace history process ≡ false) [
    | first ↦ closed 1 _ (first_has_begun session trace history so_far.some)
    | forked_by l child is forks ↦
        let (k, at) = Contains-place trace l is in
        let (w, there) = all_begun [] trace refl behind first_only child (there_of k child l at forks) in
        closed child w there
  ]
