-- The order of the text is that of the ranks.
use Rattle.std.proofs.Common.{◌≡◌, ◌<◌, ◌≤◌, ◌+◌, ◌-◌, ◌*◌, ℕ, zero, suc, List, [], ◌∷◌, ◌++◌, length, take, drop, refl, ap, sym, ◌∙◌, subst, arith, ◌⊎◌, inl, inr, Bool, true, false, ◌==◌, cond, append_assoc, length-append}
use Rattle.std.specs.Prelude.{Some, slice_get}
use Rattle.std.proofs.lemmas.Bool.{cases_lt, or_right}
use Rattle.std.proofs.lemmas.List.{take-append-drop, take-append-le, take-take, take_all}
use Rattle.pass_entry.proofs.Places.{Contains-at, later_get, parted, take_one_more}
use Rattle.pass_plain.specs.Traces.{Line, LineCall, given, write_last, fork_as, wait_for, await_for, lines_of}
use Rattle.pass_plain.proofs.Lists.{any_of, below_or, same_itself, same_numbers, slice_get-front, some_is}
use Rattle.pass_replay.specs.Lines.{AreLinesBehind, is_fork_of, is_there}
use Rattle.pass_replay.specs.Orders.{Place, child_exit, exit_in, places_from, places_in_order}
use Rattle.pass_replay.proofs.Begun.{no_later_fork}
use Rattle.pass_replay.proofs.NextCalls.{behind_at}
use Rattle.pass_replay.proofs.Positions.{lines-append, lines-own}
use Rattle.pass_replay.proofs.RunSteps.{at_behind}
use Rattle.pass_walk.proofs.Among.{Among, among, in_both}
use Rattle.pass_walk.proofs.LeftBounds.{behind_from}
use Rattle.pass_order.specs.Ranks.{IsRank}

-- One before the other

abbrev Before : {X : Type 0} → X → X → List X → Type 0
Before c d [] = ⊥
Before c d (x ∷ xs) = ((x ≡ c) × Among d xs) ⊎ Before c d xs

before_at : {X : Type 0} (xs : List X) (j k : ℕ) (c d : X) → j < k → slice_get xs j ≡ Some c → slice_get xs k ≡ Some d → Before c d xs
before_at [] j k c d less at_c at_d = absurd (cc)
before_at (x ∷ xs) zero zero c d less at_c at_d = absurd (omega (arith, less))
before_at (x ∷ xs) zero (suc k) c d less at_c at_d = inl (some_is x c at_c, among xs d (Contains-at xs k d at_d))
before_at (x ∷ xs) (suc j) zero c d less at_c at_d = absurd (omega (arith, less))
before_at (x ∷ xs) (suc j) (suc k) c d less at_c at_d = inr (before_at xs j k c d (omega (arith, less)) at_c at_d)

split_before : {X : Type 0} (xs ys : List X) (c d : X) → Before c d (xs ++ ys) → Before c d xs ⊎ ((Among c xs × Among d ys) ⊎ Before c d ys)
split_before [] ys c d h = inr (inr h)
split_before (x ∷ xs) ys c d (inl (same, later)) = elim (in_both xs ys d later) [ inl l ↦ inl (inl (same, l)) | inr r ↦ inr (inl (inl same, r)) ]
split_before (x ∷ xs) ys c d (inr rest) = elim (split_before xs ys c d rest) [
  | inl l ↦ inl (inr l)
  | inr r ↦ elim r [ inl both ↦ inr (inl (inr both.0, both.1)) | inr late ↦ inr (inr late) ]
]

-- How many lines of a process stand before a place

count_grows : (trace : List Line) (process i j : ℕ) → i ≤ j → length (lines_of (take i trace) process) ≤ length (lines_of (take j trace) process)
count_grows trace process i j le =
    let parts : take j trace ≡ take i trace ++ drop i (take j trace) = sym (take-append-drop i (take j trace)) ∙ ap (λ h. h ++ drop i (take j trace)) (take-take i j trace le) in
    let split = ap (λ (t : List Line). length (lines_of t process)) parts ∙ ap length (lines-append (take i trace) (drop i (take j trace)) process)
    ∙ length-append (lines_of (take i trace) process) (lines_of (drop i (take j trace)) process) in
    omega (arith, split)

count_whole : (trace : List Line) (process i : ℕ) → length (lines_of (take i trace) process) ≤ length (lines_of trace process)
count_whole trace process i =
    let split = ap (λ (t : List Line). length (lines_of t process)) (sym (take-append-drop i trace)) ∙ ap length (lines-append (take i trace) (drop i trace) process)
    ∙ length-append (lines_of (take i trace) process) (lines_of (drop i trace) process) in
    omega (arith, split)

count_step : (trace : List Line) (process p : ℕ) (a : Line) → slice_get trace p ≡ Some a → a.process ≡ process → length (lines_of (take (suc p) trace) process) ≡ length (lines_of (take p trace) process) + 1
count_step trace process p a at own =
    ap (λ (t : List Line). length (lines_of t process)) (take_one_more trace p a at) ∙ ap length (lines-own (take p trace) a process own) ∙ length-append (lines_of (take p trace) process) (a ∷ [])

same_place : (trace : List Line) (process p q : ℕ) (a b : Line) → slice_get trace p ≡ Some a → slice_get trace q ≡ Some b → a.process ≡ process → b.process ≡ process
    → length (lines_of (take p trace) process) ≡ length (lines_of (take q trace) process) → p ≡ q
same_place trace process p q a b at_p at_q own_p own_q same = elim (below_or p q) [
  | inl less ↦ (let x = count_step trace process p a at_p own_p in let y = count_grows trace process (suc p) q (omega (arith, less)) in absurd (omega (arith, x, y, same)))
  | inr rest ↦ elim rest [
    | inl more ↦ (let x = count_step trace process q b at_q own_q in let y = count_grows trace process (suc q) p (omega (arith, more)) in absurd (omega (arith, x, y, same)))
    | inr is ↦ is
  ]
]

at_drop : {X : Type 0} (xs : List X) (k i : ℕ) → slice_get (drop k xs) i ≡ slice_get xs (k + i)
at_drop xs zero i = ap (λ n. slice_get xs n) (let z : i ≡ 0 + i = omega arith in z)
at_drop [] (suc k) i = refl
at_drop (x ∷ xs) (suc k) i = at_drop xs k i ∙ (let z : suc (k + i) ≡ suc k + i = omega arith in ap (λ n. slice_get (x ∷ xs) n) z)

-- The exits of the list

exit_among : (before rest : List Line) (process : ℕ) (d : Place) → Among d (exit_in before rest process) → (d ≡ (process, length (lines_of before process) + 1)) × (length (lines_of rest process) ≡ 0)
exit_among before rest process d h = at_test (length (lines_of rest process) == 0) refl h
  where
    own : Place
    own = (process, length (lines_of before process) + 1)

    at_test : (b : Bool) → (length (lines_of rest process) == 0) ≡ b → Among d (cond b (own ∷ []) []) → (d ≡ own) × (length (lines_of rest process) ≡ 0)
    at_test true t (inl same) = (sym same, same_numbers (length (lines_of rest process)) 0 t)
    at_test true t (inr none) = absurd none
    at_test false t none = absurd none

exit_alone : (before rest : List Line) (process : ℕ) (c d : Place) → Before c d (exit_in before rest process) → ⊥
exit_alone before rest process c d h = at_test (length (lines_of rest process) == 0) h
  where
    at_test : (b : Bool) → Before c d (cond b ((process, length (lines_of before process) + 1) ∷ []) []) → ⊥
    at_test true (inl both) = both.1
    at_test true (inr none) = none
    at_test false none = none

child_among : (rest : List Line) (call : LineCall) (d : Place) → Among d (child_exit rest call) → (child : ℕ) × (call ≡ fork_as child) × (d ≡ (child, 1)) × (length (lines_of rest child) ≡ 0)
child_among rest (fork_as child) d h = let (is, none) = exit_among [] rest child d h in (child, refl, is, none)
child_among rest (given r) d h = absurd h
child_among rest (write_last fd) d h = absurd h
child_among rest (wait_for q) d h = absurd h
child_among rest (await_for q) d h = absurd h

child_alone : (rest : List Line) (call : LineCall) (c d : Place) → Before c d (child_exit rest call) → ⊥
child_alone rest (fork_as child) c d h = exit_alone [] rest child c d h
child_alone rest (given r) c d h = h
child_alone rest (write_last fd) c d h = h
child_alone rest (wait_for q) c d h = h
child_alone rest (await_for q) c d h = h

-- The ranks

module _ (trace : List Line) (behind : AreLinesBehind [] trace) where
  -- the calls at a line
  module _ (before ls : List Line) (l : Line) (parts : trace ≡ before ++ l ∷ ls) where
    at : slice_get trace (length before) ≡ Some l
    at = ap (λ t. slice_get t (length before)) parts ∙ at_behind before l ls

    front : take (length before) trace ≡ before
    front = ap (λ t. take (length before) t) parts ∙ take-append-le (length before) before (l ∷ ls) (omega arith) ∙ take_all (length before) before (omega arith)

    total : (p : ℕ) → length (lines_of trace p) ≡ length (lines_of (before ++ l ∷ []) p) + length (lines_of ls p)
    total p =
        ap (λ (t : List Line). length (lines_of t p)) (parts ∙ sym (append_assoc before (l ∷ []) ls)) ∙ ap length (lines-append (before ++ l ∷ []) ls p)
        ∙ length-append (lines_of (before ++ l ∷ []) p) (lines_of ls p)

    upto : length (lines_of (before ++ l ∷ []) l.process) ≡ length (lines_of before l.process) + 1
    upto = ap length (lines-own before l l.process refl) ∙ length-append (lines_of before l.process) (l ∷ [])

    counted : (p : ℕ) → length (lines_of (take (length before) trace) p) ≡ length (lines_of before p)
    counted p = ap (λ (t : List Line). length (lines_of t p)) front

    counted_more : (p : ℕ) → length (lines_of (take (suc (length before)) trace) p) ≡ length (lines_of (before ++ l ∷ []) p)
    counted_more p = ap (λ (t : List Line). length (lines_of t p)) (take_one_more trace (length before) l at ∙ ap (λ t. t ++ l ∷ []) front)

    own_rank : (r : ℕ) → IsRank trace (l.process, length (lines_of before l.process) + 1) r → r ≡ 3 * length before + 1
    own_rank r (inl k) =
        let f = counted l.process in
        let c = k.count in
        let same : k.place ≡ length before = same_place trace l.process k.place (length before) k.its l k.stands at k.own refl (omega (arith, c, f)) in
        k.is ∙ ap (λ p. 3 * p + 1) same
    own_rank r (inr (inl e)) = let a = e.behind in let b = total l.process in let c = upto in absurd (omega (arith, a, b, c))
    own_rank r (inr (inr (inl f))) = let a = f.none in let b = total l.process in let c = upto in absurd (omega (arith, a, b, c))
    own_rank r (inr (inr (inr k))) = let a = k.none in let b = total l.process in let c = upto in absurd (omega (arith, a, b, c))

    exit_rank : length (lines_of ls l.process) ≡ 0 → (r : ℕ) → IsRank trace (l.process, length (lines_of (before ++ l ∷ []) l.process) + 1) r → r ≡ 3 * length before + 2
    exit_rank none r (inl k) =
        let a = k.count in
        let b = total l.process in
        let c = count_step trace l.process k.place k.its k.stands k.own in
        let d = count_whole trace l.process (suc k.place) in
        absurd (omega (arith, a, b, c, d, none))
    exit_rank none r (inr (inl e)) =
        let a = e.last in
        let b = total l.process in
        let c = upto in
        let f = counted l.process in
        let same : e.place ≡ length before = same_place trace l.process e.place (length before) e.its l e.stands at e.own refl (omega (arith, a, b, c, f, none)) in
        e.is ∙ ap (λ p. 3 * p + 2) same
    exit_rank none r (inr (inr (inl f))) = let a = f.none in let b = total l.process in let c = upto in absurd (omega (arith, a, b, c))
    exit_rank none r (inr (inr (inr k))) = let a = k.none in let b = total l.process in let c = upto in absurd (omega (arith, a, b, c))

    module _ (child : ℕ) (forks : l.call ≡ fork_as child) (none : length (lines_of ls child) ≡ 0) where
      not_there : is_there before child ≡ false
      not_there = (behind_at [] before ls l (subst (λ t. AreLinesBehind [] t) parts behind)).forks child forks

      -- the child has no line
      no_line : (q : ℕ) (m : Line) → slice_get trace q ≡ Some m → m.process ≡ child → ⊥
      no_line q m there own = elim (cases_lt (length before) q) [
        | inl late ↦
            let a = count_step trace child q m there own in
            let b = count_whole trace child (suc q) in
            let c = count_grows trace child (suc (length before)) q (omega (arith, late)) in
            let d = counted_more child in
            let e = total child in
            omega (arith, a, b, c, d, e, none)
        | inr early ↦
            let whole = parted trace q m there in
            let rules = behind_at [] (take q trace) (drop (suc q) trace) m (subst (λ t. AreLinesBehind [] t) whole behind) in
            let known : is_there (take q trace) child ≡ true = ap (λ p. is_there (take q trace) p) (sym own) ∙ rules.there in
            let later : slice_get (drop q trace) (length before - q) ≡ Some l =
            at_drop trace q (length before - q) ∙ ap (λ i. slice_get trace i) (let z : q + (length before - q) ≡ length before = omega (arith, early) in z) ∙ at in
            no_later_fork (take q trace) (drop q trace) child (length before - q) l
            (behind_from [] (take q trace) (drop q trace) (subst (λ t. AreLinesBehind [] t) (sym (take-append-drop q trace)) behind)) known later forks
      ]

      -- and no other line forks it
      one_fork : (q : ℕ) (m : Line) → slice_get trace q ≡ Some m → m.call ≡ fork_as child → q ≡ length before
      one_fork q m there its = elim (below_or q (length before)) [
        | inl early ↦
            let at_q : slice_get before q ≡ Some m = slice_get-front before (l ∷ ls) q m early (ap (λ t. slice_get t q) (sym parts) ∙ there) in
            let known : is_there before child ≡ true =
            or_right (child == 1) _ (any_of (λ (l : Line). is_fork_of child l.call) before q m at_q (ap (λ c. is_fork_of child c) its ∙ same_itself child)) in
            absurd (let z : true ≡ false = sym known ∙ not_there in cc)
        | inr rest ↦ elim rest [
          | inl late ↦
              let whole : trace ≡ (before ++ l ∷ []) ++ ls = parts ∙ sym (append_assoc before (l ∷ []) ls) in
              let size = length-append before (l ∷ []) in
              let at_q : slice_get ls (q - length (before ++ l ∷ [])) ≡ Some m = later_get (before ++ l ∷ []) ls q m (omega (arith, late, size)) (ap (λ t. slice_get t q) (sym whole) ∙ there) in
              let known : is_there (before ++ l ∷ []) child ≡ true =
              or_right (child == 1) _ (any_of (λ (l : Line). is_fork_of child l.call) (before ++ l ∷ []) (length before) l (at_behind before l []) (ap (λ c. is_fork_of child c) forks ∙ same_itself child)) in
              absurd (no_later_fork (before ++ l ∷ []) ls child (q - length (before ++ l ∷ [])) m
              (behind_from [] (before ++ l ∷ []) ls (subst (λ t. AreLinesBehind [] t) whole behind)) known at_q its)
          | inr same ↦ same
        ]
      ]

      child_rank : (r : ℕ) → IsRank trace (child, 1) r → r ≡ 3 * length before + 3
      child_rank r (inl k) = absurd (no_line k.place k.its k.stands k.own)
      child_rank r (inr (inl e)) = absurd (no_line e.place e.its e.stands e.own)
      child_rank r (inr (inr (inl f))) =
          absurd (let z : true ≡ false = sym (ap (λ p. is_there before p) f.first) ∙ not_there in cc)
      child_rank r (inr (inr (inr k))) = k.is ∙ ap (λ p. 3 * p + 3) (one_fork k.place k.its k.stands k.forks)

    in_exit : (d : Place) (s : ℕ) → Among d (exit_in (before ++ l ∷ []) ls l.process) → IsRank trace d s → s ≡ 3 * length before + 2
    in_exit d s h rank =
        let (is, none) = exit_among (before ++ l ∷ []) ls l.process d h in
        exit_rank none s (subst (λ (d : Place). IsRank trace d s) is rank)

    in_child : (d : Place) (s : ℕ) → Among d (child_exit ls l.call) → IsRank trace d s → s ≡ 3 * length before + 3
    in_child d s h rank =
        let (child, forks, is, none) = child_among ls l.call d h in
        child_rank child forks none s (subst (λ (d : Place). IsRank trace d s) is rank)

    one_more : length (before ++ l ∷ []) ≡ length before + 1
    one_more = length-append before (l ∷ [])

    next_parts : trace ≡ (before ++ l ∷ []) ++ ls
    next_parts = parts ∙ sym (append_assoc before (l ∷ []) ls)

  -- those from a line on are above those before it
  above : (before ls : List Line) → trace ≡ before ++ ls → (d : Place) (s : ℕ) → Among d (places_from before ls) → IsRank trace d s → 3 * length before < s
  above before [] parts d s h rank = absurd h
  above before (l ∷ ls) parts d s (inl same) rank = (let a = own_rank before ls l parts s (subst (λ (d : Place). IsRank trace d s) (sym same) rank) in omega (arith, a))
  above before (l ∷ ls) parts d s (inr rest) rank = elim (in_both (exit_in (before ++ l ∷ []) ls l.process) (child_exit ls l.call ++ places_from (before ++ l ∷ []) ls) d rest) [
    | inl e ↦ (let a = in_exit before ls l parts d s e rank in omega (arith, a))
    | inr r ↦ elim (in_both (child_exit ls l.call) (places_from (before ++ l ∷ []) ls) d r) [
      | inl c ↦ (let a = in_child before ls l parts d s c rank in omega (arith, a))
      | inr f ↦ (let a = above (before ++ l ∷ []) ls (next_parts before ls l parts) d s f rank in let b = one_more before ls l parts in omega (arith, a, b))
    ]
  ]

  module _ (before ls : List Line) (l : Line) (parts : trace ≡ before ++ l ∷ ls) where
    behind_all : (d : Place) (s : ℕ) → Among d (places_from (before ++ l ∷ []) ls) → IsRank trace d s → 3 * length before + 3 < s
    behind_all d s h rank = let a = above (before ++ l ∷ []) ls (next_parts before ls l parts) d s h rank in let b = one_more before ls l parts in omega (arith, a, b)

    behind_exit : (d : Place) (s : ℕ) → Among d (child_exit ls l.call ++ places_from (before ++ l ∷ []) ls) → IsRank trace d s → 3 * length before + 2 < s
    behind_exit d s h rank = elim (in_both (child_exit ls l.call) (places_from (before ++ l ∷ []) ls) d h) [
      | inl c ↦ (let a = in_child before ls l parts d s c rank in omega (arith, a))
      | inr f ↦ (let a = behind_all d s f rank in omega (arith, a))
    ]

    behind_own : (d : Place) (s : ℕ) → Among d (exit_in (before ++ l ∷ []) ls l.process ++ (child_exit ls l.call ++ places_from (before ++ l ∷ []) ls)) → IsRank trace d s → 3 * length before + 1 < s
    behind_own d s h rank = elim (in_both (exit_in (before ++ l ∷ []) ls l.process) (child_exit ls l.call ++ places_from (before ++ l ∷ []) ls) d h) [
      | inl e ↦ (let a = in_exit before ls l parts d s e rank in omega (arith, a))
      | inr r ↦ (let a = behind_exit d s r rank in omega (arith, a))
    ]

  rises : (before ls : List Line) → trace ≡ before ++ ls → (c d : Place) (r s : ℕ) → Before c d (places_from before ls) → IsRank trace c r → IsRank trace d s → r < s
  rises before [] parts c d r s h rank_c rank_d = absurd h
  rises before (l ∷ ls) parts c d r s (inl (same, later)) rank_c rank_d =
      let a = own_rank before ls l parts r (subst (λ (c : Place). IsRank trace c r) (sym same) rank_c) in
      let b = behind_own before ls l parts d s later rank_d in
      omega (arith, a, b)
  rises before (l ∷ ls) parts c d r s (inr rest) rank_c rank_d =
      elim (split_before (exit_in (before ++ l ∷ []) ls l.process) (child_exit ls l.call ++ places_from (before ++ l ∷ []) ls) c d rest) [
        | inl e ↦ absurd (exit_alone (before ++ l ∷ []) ls l.process c d e)
        | inr more ↦ elim more [
          | inl both ↦ (let a = in_exit before ls l parts c r both.0 rank_c in let b = behind_exit before ls l parts d s both.1 rank_d in omega (arith, a, b))
          | inr late ↦ elim (split_before (child_exit ls l.call) (places_from (before ++ l ∷ []) ls) c d late) [
            | inl e ↦ absurd (child_alone ls l.call c d e)
            | inr last ↦ elim last [
              | inl both ↦ (let a = in_child before ls l parts c r both.0 rank_c in let b = behind_all before ls l parts d s both.1 rank_d in omega (arith, a, b))
              | inr f ↦ rises (before ++ l ∷ []) ls (next_parts before ls l parts) c d r s f rank_c rank_d
            ]
          ]
        ]
      ]

  first_rank : (d : Place) (s : ℕ) → Among d (exit_in [] trace 1) → IsRank trace d s → s ≡ 0
  first_rank d s h rank =
      let (is, none) = exit_among [] trace 1 d h in
      by_rank none (subst (λ (d : Place). IsRank trace d s) is rank)
    where
      one_step : (q : ℕ) (m : Line) → slice_get trace q ≡ Some m → m.process ≡ 1 → length (lines_of trace 1) ≡ 0 → ⊥
      one_step q m there own none =
          let a = count_step trace 1 q m there own in let b = count_whole trace 1 (suc q) in omega (arith, a, b, none)

      by_rank : length (lines_of trace 1) ≡ 0 → IsRank trace (1, 1) s → s ≡ 0
      by_rank none (inl k) = absurd (one_step k.place k.its k.stands k.own none)
      by_rank none (inr (inl e)) = absurd (one_step e.place e.its e.stands e.own none)
      by_rank none (inr (inr (inl f))) = f.is
      by_rank none (inr (inr (inr k))) =
          let whole = parted trace k.place k.its k.stands in
          let rules = behind_at [] (take k.place trace) (drop (suc k.place) trace) k.its (subst (λ t. AreLinesBehind [] t) whole behind) in
          absurd (let z : true ≡ false = rules.forks 1 k.forks in cc)

  -- a call that stands before another one in the text has a lower rank
  pub ranks_rise : (j k : ℕ) (c d : Place) (r s : ℕ) → j < k → slice_get (places_in_order trace) j ≡ Some c → slice_get (places_in_order trace) k ≡ Some d → IsRank trace c r → IsRank trace d s → r < s
  ranks_rise j k c d r s less at_c at_d rank_c rank_d =
      elim (split_before (exit_in [] trace 1) (places_from [] trace) c d (before_at (places_in_order trace) j k c d less at_c at_d)) [
        | inl e ↦ absurd (exit_alone [] trace 1 c d e)
        | inr more ↦ elim more [
          | inl both ↦ (let a = first_rank c r both.0 rank_c in let b = above [] trace refl d s both.1 rank_d in omega (arith, a, b))
          | inr f ↦ rises [] trace refl c d r s f rank_c rank_d
        ]
      ]

  -- The numbers

  within_from : (before ls : List Line) → trace ≡ before ++ ls → (d : Place) → Among d (places_from before ls) → d.1 ≤ length (lines_of trace d.0) + 1
  within_from before [] parts d h = absurd h
  within_from before (l ∷ ls) parts d (inl same) =
      subst (λ (d : Place). d.1 ≤ length (lines_of trace d.0) + 1) same (let a = total before ls l parts l.process in let b = upto before ls l parts in omega (arith, a, b))
  within_from before (l ∷ ls) parts d (inr rest) = elim (in_both (exit_in (before ++ l ∷ []) ls l.process) (child_exit ls l.call ++ places_from (before ++ l ∷ []) ls) d rest) [
    | inl e ↦
        subst (λ (d : Place). d.1 ≤ length (lines_of trace d.0) + 1) (sym (exit_among (before ++ l ∷ []) ls l.process d e).0)
        (let a = total before ls l parts l.process in omega (arith, a))
    | inr r ↦ elim (in_both (child_exit ls l.call) (places_from (before ++ l ∷ []) ls) d r) [
      | inl c ↦ (let (child, forks, is, none) = child_among ls l.call d c in subst (λ (d : Place). d.1 ≤ length (lines_of trace d.0) + 1) (sym is) (let z : 1 ≤ length (lines_of trace child) + 1 = omega arith in z))
      | inr f ↦ within_from (before ++ l ∷ []) ls (next_parts before ls l parts) d f
    ]
  ]

  -- no call of the text is behind the exit of its process
  pub within_calls : (k : ℕ) (d : Place) → slice_get (places_in_order trace) k ≡ Some d → d.1 ≤ length (lines_of trace d.0) + 1
  within_calls k d at_d = elim (in_both (exit_in [] trace 1) (places_from [] trace) d (among (places_in_order trace) d (Contains-at (places_in_order trace) k d at_d))) [
    | inl e ↦
        subst (λ (d : Place). d.1 ≤ length (lines_of trace d.0) + 1) (sym (exit_among [] trace 1 d e).0) (let z : 1 ≤ length (lines_of trace 1) + 1 = omega arith in z)
    | inr f ↦ within_from [] trace refl d f
  ]
