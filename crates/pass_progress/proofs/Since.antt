-- What the entries of a call make of a history: its process goes on with it.
use Rattle.std.proofs.Common.{◌≡◌, ◌≢◌, ◌<◌, ◌≤◌, ◌+◌, ◌-◌, ℕ, zero, suc, List, [], ◌∷◌, ◌++◌, length, refl, ap, sym, ◌∙◌, subst, arith, inl, inr, Bool, true, false, ◌||◌, ◌==◌, cond, append_assoc}
use Rattle.std.specs.Prelude.{Some, drop, filter, slice_get, take, if◌then◌else◌}
use Rattle.std.specs.List.{list_any}
use Rattle.std.proofs.lemmas.List.{append-nil, append_cancel_left, take_all, take-append-drop}
use Rattle.std.proofs.lemmas.List.Elements.{filter-append}
use Rattle.std.proofs.lemmas.List.Folds.{list_any-append}
use Rattle.std.proofs.lemmas.Option.{get_or_from_slice_get, slice_get_within}
use mathlib.Core.List.{IsPrefix}
use Rattle.pass_entry.specs.declared.entry.Entry.{Entry}
use Rattle.pass_entry.proofs.Places.{slice_get-take, slice_get-right, slice_get-last}
use Rattle.pass_plain.specs.declared.request.Request.{Request}
use Rattle.pass_plain.specs.CallLaws.{IsBegun}
use Rattle.pass_plain.specs.Calls.{Made, name_of}
use Rattle.pass_plain.specs.Histories.{is_of_call, call_entries}
use Rattle.pass_plain.specs.Legal.{IsLegal, MayFollow, before_call, goes_on, is_over, may_be_left, last_number}
use Rattle.pass_plain.specs.NextSteps.{AreOfCall}
use Rattle.pass_plain.specs.Processes.{Process, begins, has_begun}
use Rattle.pass_plain.specs.Runs.{next_number}
use Rattle.pass_plain.specs.Sessions.{Session}
use Rattle.pass_plain.proofs.Appends.{slice_get-append}
use Rattle.pass_plain.proofs.Calling.{legal_take, of_call, numbered, acts-cases, goes_on-cases, call_entries-append}
use Rattle.pass_plain.proofs.Lists.{any_at, any_of, both_true, true_left, true_right, same_itself, same_numbers, some_is, in_filtered}
use Rattle.pass_plain.proofs.Replays.{take-next}
use Rattle.pass_plain.proofs.TwoPrefixes.{SameCaller, caller_agrees}
use Rattle.pass_hold.specs.Callings.{made_by, entries_in}
use Rattle.pass_hold.specs.Goings.{Goes, IsStepAt}
use Rattle.pass_hold.proofs.Goings.{take_past, number_same}
use Rattle.pass_progress.proofs.Positions.{before_same, begun_front, begun_step, calls_begin, calls_same, last_at_most, next_of_last}

-- A process has seen `before`, then `old`, then `new`. Of its entries those since `before` are those of its call of this number, which is
-- its next one after `old`; the state before it is p.
pub record IsSince (session : Session) (who number : ℕ) (r : Request) (before old new : List Entry) (p : Process) (made : Made) : Type 0 where
  pub legal : IsLegal session new
  pub begun : has_begun old who ≡ true
  pub from : IsPrefix before old
  pub to : IsPrefix old new
  pub own : made_by who new ≡ made_by who before ++ entries_in made
  pub made_is : call_entries new who number ≡ made
  pub before_is : before_call new who number ≡ p
  pub was : before_call old who number ≡ p
  pub steps : IsBegun who p made r
  pub named : AreOfCall made (name_of r)
  pub next : next_number old who ≡ number
  pub some : number ≢ 0

-- the number of the last call is no more than that of the next
pub last_below : (history : List Entry) (who : ℕ) → last_number history who ≤ next_number history who
last_below history who = at_test (last_number history who) (last_number history who == 0) refl (is_over history who (last_number history who))
  where
    at_test : (last : ℕ) (b : Bool) → (last == 0) ≡ b → (over : Bool) → last ≤ (if b then 1 else if over then last + 1 else last)
    at_test last true t over = let z : last ≡ 0 = same_numbers last 0 t in omega (arith, z)
    at_test last false t true = omega arith
    at_test last false t false = omega arith

-- an entry of the entries made
in_made : (made : Made) (k : ℕ) (e : Entry) → slice_get (entries_in made) k ≡ Some e → (s : ℕ × Entry) × (slice_get made k ≡ Some s) × (s.1 ≡ e)
in_made [] k e at = absurd (cc)
in_made (s ∷ made) zero e at = (s, refl, some_is s.1 e at)
in_made (s ∷ made) (suc k) e at = in_made made k e at

module _ (session : Session) (who number : ℕ) (r : Request) (before old new : List Entry) (p : Process) (made : Made) (is : IsSince session who number r before old new p made) where
  abbrev later : List Entry
  later = is.to.0

  abbrev between : List Entry
  between = is.from.0

  whole : before ++ (between ++ later) ≡ new
  whole = sym (append_assoc before between later) ∙ ap (λ h. h ++ later) is.from.1 ∙ is.to.1

  own_since : filter (λ (e : Entry). e.who == who) (between ++ later) ≡ entries_in made
  own_since = append_cancel_left (made_by who before) (filter (λ (e : Entry). e.who == who) (between ++ later)) (entries_in made)
      (sym (filter-append (λ (e : Entry). e.who == who) before (between ++ later)) ∙ ap (filter (λ (e : Entry). e.who == who)) whole ∙ is.own)

  -- each later entry of its own is of the call
  pub own_later : (i : ℕ) (f : Entry) → slice_get later i ≡ Some f → f.who ≡ who → f.number ≡ number
  own_later i f at by =
      let (k, found) = in_filtered (λ (e : Entry). e.who == who) (between ++ later) (length between + i) f (slice_get-right between later i f at) (ap (λ w. w == who) by ∙ same_itself who) in
      let (s, there, same) = in_made made k f (ap (λ es. slice_get es k) (sym own_since) ∙ found) in
      let (stands, wrote, counted) = of_call new who number k s (ap (λ m. slice_get m k) is.made_is ∙ there) in
      ap (λ (e : Entry). e.number) (sym same) ∙ counted

  -- the history up to a later place
  module _ (n : ℕ) (le : length old ≤ n) where
    abbrev more : List Entry
    more = take (n - length old) later

    front : take n new ≡ old ++ more
    front = ap (λ h. take n h) (sym is.to.1) ∙ take_past old later n le

    legal_front : IsLegal session (old ++ more)
    legal_front = subst (λ h. IsLegal session h) front (legal_take session new n is.legal)

    own_more : (i : ℕ) (f : Entry) → slice_get more i ≡ Some f → f.who ≡ who → f.number ≡ number
    own_more i f at by = own_later i f (slice_get-take (n - length old) i later f at) by

    -- where none of them is its own, it reads the same as after `old`
    same : list_any (λ (e : Entry). e.who == who) more ≡ false → SameCaller old (old ++ more) who
    same none = caller_agrees session old more who legal_front is.begun none

    -- else some entry of the call stands there
    some_own : list_any (λ (e : Entry). e.who == who) more ≡ true → (i : ℕ) × (f : Entry) × (slice_get (old ++ more) i ≡ Some f) × (f.who ≡ who) × (f.number ≡ number)
    some_own any =
        let (i, f, at, by) = any_at (λ (e : Entry). e.who == who) more any in
        let own = same_numbers f.who who by in
        (length old + i, f, slice_get-right old more i f at, own, own_more i f at own)

    others_stay : (k : ℕ) → k ≢ number → call_entries (old ++ more) who k ≡ call_entries old who k
    others_stay k apart = calls_same old more who k (none (list_any (is_of_call who k) more) refl)
      where
        none : (b : Bool) → list_any (is_of_call who k) more ≡ b → list_any (is_of_call who k) more ≡ false
        none false t = t
        none true t =
            let (i, f, at, pass) = any_at (is_of_call who k) more t in
            absurd (apart (sym (same_numbers f.number k (true_right (f.who == who) (f.number == k) pass)) ∙ own_more i f at (same_numbers f.who who (true_left (f.who == who) (f.number == k) pass))))

    rest : IsPrefix (take n new) new
    rest = (drop n new, take-append-drop n new)

    state_there : before_call (old ++ more) who number ≡ p
    state_there = at_own (list_any (λ (e : Entry). e.who == who) more) refl
      where
        at_own : (b : Bool) → list_any (λ (e : Entry). e.who == who) more ≡ b → before_call (old ++ more) who number ≡ p
        at_own false t = (same t).before number ∙ is.was
        at_own true t =
            let (i, f, at, by, its) = some_own t in
            let hit : list_any (is_of_call who number) (old ++ more) ≡ true = any_of (is_of_call who number) (old ++ more) i f at
            (both_true (f.who == who) (f.number == number) (ap (λ w. w == who) by ∙ same_itself who) (ap (λ k. k == number) its ∙ same_itself number)) in
            let parts : (old ++ more) ++ rest.0 ≡ new = ap (λ h. h ++ rest.0) (sym front) ∙ rest.1 in
            sym (before_same (old ++ more) rest.0 who number hit) ∙ ap (λ h. before_call h who number) parts ∙ is.before_is

    begun_there : has_begun (old ++ more) who ≡ true
    begun_there = list_any-append (λ e. begins who e.call e.act e.what e.reply) old more ∙ ap (λ b. b || list_any (λ e. begins who e.call e.act e.what e.reply) more) is.begun

    -- an entry of the call stands there: it is the next one
    module _ (e : Entry) (by : e.who ≡ who) (counted : e.number ≡ number) (follows : MayFollow session (old ++ more) e) where
      abbrev last : ℕ
      last = last_number (old ++ more) who

      by_new : number ≡ last + 1 → next_number (old ++ more) who ≡ number
      by_new at = at_own (list_any (λ (e : Entry). e.who == who) more) refl
        where
          at_own : (b : Bool) → list_any (λ (e : Entry). e.who == who) more ≡ b → next_number (old ++ more) who ≡ number
          at_own false t = number_same old (old ++ more) who (same t) ∙ is.next
          at_own true t =
              let (i, f, there, wrote, its) = some_own t in
              let low = (numbered session (old ++ more) legal_front).below i f there in
              let of_who : last_number (old ++ more) f.who ≡ last_number (old ++ more) who = ap (λ w. last_number (old ++ more) w) wrote in
              absurd (omega (arith, low, of_who, its, at))

      test : goes_on e.number (last_number (old ++ more) e.who) (is_over (old ++ more) e.who (last_number (old ++ more) e.who)) (may_be_left (old ++ more) e.who (last_number (old ++ more) e.who)) ≡ true
          → goes_on number last (is_over (old ++ more) who last) (may_be_left (old ++ more) who last) ≡ true
      test on =
          subst (λ k. goes_on k last (is_over (old ++ more) who last) (may_be_left (old ++ more) who last) ≡ true) counted
          (subst (λ w. goes_on e.number (last_number (old ++ more) w) (is_over (old ++ more) w (last_number (old ++ more) w)) (may_be_left (old ++ more) w (last_number (old ++ more) w)) ≡ true) by on)

      next_there : next_number (old ++ more) who ≡ number
      next_there = elim (acts-cases (old ++ more) e follows.acts) [
        | inl s ↦ absurd (let z : true ≡ false = sym begun_there ∙ ap (λ h. has_begun h who) s.1 in cc)
        | inr a ↦ elim (goes_on-cases number last (is_over (old ++ more) who last) (may_be_left (old ++ more) who last) (test a.3)) [
          | inl l ↦ next_of_last (old ++ more) who number l.0 is.some l.1
          | inr m ↦ by_new m.0
        ]
      ]

      own_call : is_of_call who number e ≡ true
      own_call = both_true (e.who == who) (e.number == number) (ap (λ w. w == who) by ∙ same_itself who) (ap (λ k. k == number) counted ∙ same_itself number)

      abbrev so_far : Made
      so_far = call_entries (old ++ more) who number

      abbrev place : ℕ × Entry
      place = (length (old ++ more), e)

      -- of the entries of the call it stands behind those that were made by then
      parts : (tail : List Entry) → ((old ++ more) ++ e ∷ []) ++ tail ≡ new → (others : Made) × ((so_far ++ place ∷ []) ++ others ≡ made)
      parts tail all =
          let (others, both) = calls_begin ((old ++ more) ++ e ∷ []) tail who number in (
            others,
            ap (λ m. m ++ others) (sym (call_entries-append (old ++ more) e who number ∙ ap (λ b. so_far ++ cond b (place ∷ []) []) own_call)) ∙ both
                ∙ ap (λ h. call_entries h who number) all ∙ is.made_is,
          )

      pub step_there : (tail : List Entry) → ((old ++ more) ++ e ∷ []) ++ tail ≡ new → IsStepAt who number r p (old ++ more) e
      step_there tail all =
          let (others, split) = parts tail all in
          record {
            next = next_there;
            was = state_there;
            by = by;
            counted = counted;
            named = is.named (length so_far) place
                (ap (λ m. slice_get m (length so_far)) (sym split) ∙ slice_get-append (so_far ++ place ∷ []) others (length so_far) place (slice_get-last so_far place));
            step = begun_step who p so_far place r (begun_front who p (so_far ++ place ∷ []) others r (subst (λ m. IsBegun who p m r) (sym split) is.steps));
          }

  -- the entry at a place stands between those before it and those behind it
  pub steps_there : (n : ℕ) (e : Entry) → slice_get new n ≡ Some e → e.who ≡ who → length old ≤ n → IsStepAt who number r p (take n new) e
  steps_there n e at by le =
      let here : n < length new = slice_get_within new n e at in
      let longer : take (n + 1) new ≡ take n new ++ e ∷ [] = take-next new n e here (sym (get_or_from_slice_get new n e e at)) in
      let split : ((old ++ more n le) ++ e ∷ []) ++ drop (n + 1) new ≡ new =
      ap (λ h. (h ++ e ∷ []) ++ drop (n + 1) new) (sym (front n le)) ∙ ap (λ h. h ++ drop (n + 1) new) (sym longer) ∙ take-append-drop (n + 1) new in
      let apart_from : later ≡ (more n le ++ e ∷ []) ++ drop (n + 1) new =
      append_cancel_left old later ((more n le ++ e ∷ []) ++ drop (n + 1) new)
      (is.to.1 ∙ sym split ∙ append_assoc (old ++ more n le) (e ∷ []) (drop (n + 1) new) ∙ append_assoc old (more n le) (e ∷ drop (n + 1) new)
      ∙ ap (λ h. old ++ h) (sym (append_assoc (more n le) (e ∷ []) (drop (n + 1) new)))) in
      let at_later : slice_get later (length (more n le)) ≡ Some e =
      ap (λ h. slice_get h (length (more n le))) apart_from ∙ slice_get-append (more n le ++ e ∷ []) (drop (n + 1) new) (length (more n le)) e (slice_get-last (more n le) e) in
      let counted = own_later (length (more n le)) e at_later by in
      let follows : MayFollow session (old ++ more n le) e = subst (λ h. MayFollow session h e) (front n le) (is.legal n e at) in
      subst (λ h. IsStepAt who number r p h e) (sym (front n le)) (step_there n le e by counted follows (drop (n + 1) new) split)

  -- the process goes on with its call
  pub goes : Goes session who r old new
  goes = record {
    legal = is.legal;
    begins = is.to;
    begun = ap (λ h. has_begun h who) (sym (take_all (length old + length new) new (omega arith)) ∙ front (length old + length new) (omega arith)) ∙ begun_there (length old + length new) (omega arith);
    steps = λ n e at by le.
        subst (λ k. IsStepAt who k r (before_call old who k) (take n new) e) (sym is.next)
        (subst (λ q. IsStepAt who number r q (take n new) e) (sym is.was) (steps_there n e at by le));
    others = λ k n apart le. ap (λ h. call_entries h who k) (front n le) ∙ others_stay n le k (λ same. apart (same ∙ sym is.next));
  }

  -- the number of its last call
  pub last_now : (m : ℕ × Entry) (rest : Made) → made ≡ m ∷ rest → last_number new who ≡ number
  last_now m rest some =
      let (stands, by, its) = of_call new who number 0 m (ap (λ ms. slice_get ms 0) (is.made_is ∙ some)) in
      let high = (numbered session new is.legal).below m.0 m.1 stands in
      let of_who = ap (λ w. last_number new w) by in
      let low_old = last_below old who in
      let next = is.next in
      let low : last_number new who ≤ number = subst (λ h. last_number h who ≤ number) is.to.1 (last_at_most old later who number (omega (arith, low_old, next)) own_later) in
      omega (arith, high, of_who, its, low)

  -- where none was made, it has only looked
  pub none_made : made ≡ [] → made_by who new ≡ made_by who old
  none_made none =
      let nothing : filter (λ (e : Entry). e.who == who) (between ++ later) ≡ [] = own_since ∙ ap entries_in none in
      let parted = sym (filter-append (λ (e : Entry). e.who == who) between later) ∙ nothing in
      ap (made_by who) (sym is.to.1) ∙ filter-append (λ (e : Entry). e.who == who) old later ∙ ap (λ es. made_by who old ++ es) (no_second (made_by who between) (made_by who later) parted) ∙ append-nil (made_by who old)
    where
      no_second : (xs ys : List Entry) → xs ++ ys ≡ [] → ys ≡ []
      no_second [] ys e = e
      no_second (x ∷ xs) ys e = absurd (cc)
