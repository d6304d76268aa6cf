-- The processes of a run whose first living one has met each that has ended.
use Rattle.std.proofs.Common.{◌≡◌, ◌≤◌, ◌∙◌, ℕ, List, [], ◌∷◌, ◌++◌, All, IsPermutation, append_assoc, arith, false, length, subst, sum_by, sym, true}
use Rattle.std.proofs.lemmas.List.Elements.{All-append, All-push, All-weaker, Contains-append_left, Contains-push}
use Rattle.std.proofs.lemmas.List.Sorted.{IsPermutation-append_left, IsPermutation-middle, IsPermutation-sym, sum_by-IsPermutation}
use Rattle.pass_trace.specs.declared.trace.TraceLine.{TraceLine}
use Rattle.pass_turns.specs.Meetings.{AreLater, HasMetEnded, IsLater}
use Rattle.pass_turns.specs.Tasks.{task_room}
use Rattle.pass_turns.specs.Turners.{AreTasks, TurnerState}
use Rattle.pass_turns.proofs.Gathering.{seen_longer}
use Rattle.pass_turns.proofs.Meetings.{are_later_both, later_room, later_twice, tasks_met}
use Rattle.pass_turns.proofs.Passing.{perm_tasks}

abbrev SeesNoMore : TurnerState → TurnerState → Type 0
SeesNoMore one t = t.ended ≡ true → length t.seen ≤ length one.seen

-- one is taken out of the first ones, meets the rest and the ended, and comes behind the rest
module _ (turning ended rest now_rest now_ended : List TurnerState) (x y z : TurnerState) (out : IsPermutation turning (x ∷ rest)) (first : IsLater x y) (second : IsLater y z) (later_rest : AreLater rest now_rest)
    (later_ended : AreLater ended now_ended) where
  before : IsPermutation (turning ++ ended) (x ∷ (rest ++ ended))
  before = IsPermutation-append_left ended turning (x ∷ rest) out

  later : AreLater (x ∷ (rest ++ ended)) (z ∷ (now_rest ++ now_ended))
  later = (later_twice x y z first second, are_later_both rest now_rest ended now_ended later_rest later_ended)

  after : IsPermutation (z ∷ (now_rest ++ now_ended)) ((now_rest ++ z ∷ []) ++ now_ended)
  after = subst (λ (ts : List TurnerState). IsPermutation (z ∷ (now_rest ++ now_ended)) ts) (sym (append_assoc now_rest (z ∷ []) now_ended))
      (IsPermutation-sym (now_rest ++ z ∷ now_ended) (z ∷ (now_rest ++ now_ended)) (IsPermutation-middle now_rest z now_ended))

  pub gathered_tasks : (lines : List TraceLine) (number : ℕ) → AreTasks lines number (turning ++ ended) → AreTasks lines number ((now_rest ++ z ∷ []) ++ now_ended)
  gathered_tasks lines number are = perm_tasks lines number (z ∷ (now_rest ++ now_ended)) ((now_rest ++ z ∷ []) ++ now_ended) after
      (tasks_met (x ∷ (rest ++ ended)) (z ∷ (now_rest ++ now_ended)) later lines number (perm_tasks lines number (turning ++ ended) (x ∷ (rest ++ ended)) before are))

  pub gathered_room : sum_by task_room ((now_rest ++ z ∷ []) ++ now_ended) ≡ sum_by task_room (turning ++ ended)
  gathered_room = sum_by-IsPermutation task_room (z ∷ (now_rest ++ now_ended)) ((now_rest ++ z ∷ []) ++ now_ended) after ∙ later_room (x ∷ (rest ++ ended)) (z ∷ (now_rest ++ now_ended)) later
      ∙ sum_by-IsPermutation task_room (turning ++ ended) (x ∷ (rest ++ ended)) before

  pub gathered_met : x.ended ≡ false → All (SeesNoMore y) now_rest → All (SeesNoMore z) now_ended → HasMetEnded ((now_rest ++ z ∷ []) ++ now_ended)
  gathered_met lives met_rest met_ended = record {
    one = z;
    among = Contains-append_left (now_rest ++ z ∷ []) now_ended z (Contains-push now_rest z);
    living = second.ended ∙ first.ended ∙ lives;
    met = All-append (SeesNoMore z) (now_rest ++ z ∷ []) now_ended
        (All-push (SeesNoMore z) now_rest z (All-weaker (SeesNoMore y) (SeesNoMore z) (λ t h ended. (let a = h ended in let b = seen_longer y z second in omega (arith, a, b))) now_rest met_rest) (λ ended. omega arith)) met_ended;
  }
