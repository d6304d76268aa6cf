-- A run that keeps to the order of the text is the replay.
use Rattle.std.proofs.Common.{◌≡◌, ◌≤◌, ◌+◌, ◌-◌, ℕ, zero, suc, List, [], ◌∷◌, ◌++◌, length, take, filter, refl, ap, sym, ◌∙◌, subst, arith, inl, inr, Bool, true, false, not, cond}
use Rattle.std.specs.Prelude.{Option, Some, None, drop, find, slice_get}
use Rattle.std.specs.Option.{option_or}
use Rattle.std.proofs.lemmas.Bool.{false_from_ne_true}
use Rattle.std.proofs.lemmas.List.{length-take, take-append-drop, take-take}
use Rattle.std.proofs.lemmas.Option.{slice_get_within}
use Rattle.pass_entry.specs.declared.entry.Entry.{Entry}
use Rattle.pass_entry.proofs.Places.{slice_get-take}
use Rattle.pass_plain.specs.Histories.{call_entries}
use Rattle.pass_plain.specs.Sessions.{Session}
use Rattle.pass_plain.specs.Legal.{IsLegal, is_over, last_number}
use Rattle.pass_plain.specs.Traces.{Line, calls_of}
use Rattle.pass_plain.specs.Runs.{CanMove, IsRun, next_number, pnode_of_process, steps_at}
use Rattle.pass_plain.proofs.Calling.{legal_take}
use Rattle.pass_plain.proofs.Lists.{filtered, not_false, some_is}
use Rattle.pass_replay.specs.Lines.{AreLinesBehind}
use Rattle.pass_replay.specs.Orders.{AreDue, AreInLine, InLineOrderLaw, Place, is_entry_of, is_last, is_made, is_ready, places_in_order}
use Rattle.pass_replay.specs.Starts.{HasRoom}
use Rattle.pass_replay.proofs.Agreeing.{entry_by, first_is}
use Rattle.pass_replay.proofs.DueCalls.{moves_ready, passes, passes_at, ready_moves}
use Rattle.pass_replay.proofs.NextCalls.{numbered_as, over_within}
use Rattle.pass_replay.proofs.Prefixes.{so_far_at}
use Rattle.pass_replay.proofs.RunSteps.{at_behind, call_at, counted, follows, is_next, next_is}
use Rattle.pass_replay.proofs.Staying.{over_stays, pnode_stays}
use Rattle.pass_replay.proofs.Stuck.{next_some}

-- Lists

-- the first one that passes, and those before it
pub record IsFound {X : Type 0} (p : X → Bool) (xs : List X) (x : X) : Type 0 where
  pub front : List X
  pub back : List X
  pub parts : xs ≡ front ++ x ∷ back
  pub passes_test : p x ≡ true
  pub earlier : (k : ℕ) (y : X) → slice_get front k ≡ Some y → p y ≡ false

find_if : {X : Type 0} (p : X → Bool) (y : X) (xs : List X) (x : X) (b : Bool) → p y ≡ b → (find p xs ≡ Some x → IsFound p xs x) → cond b (Some y) (find p xs) ≡ Some x → IsFound p (y ∷ xs) x
find_if p y xs x true t later at =
    let same : y ≡ x = some_is y x at in
    record { front = []; back = xs; parts = ap (λ z. z ∷ xs) same; passes_test = ap p (sym same) ∙ t; earlier = λ k z stands. absurd (cc) }
find_if {X = X} p y xs x false t later at =
    let f = later at in
    record {
      front = y ∷ f.front;
      back = f.back;
      parts = ap (λ zs. y ∷ zs) f.parts;
      passes_test = f.passes_test;
      earlier = λ k z stands. earlier_of f.front f.earlier k z stands;
    }
  where
    earlier_of : (front : List X) → ((k : ℕ) (z : X) → slice_get front k ≡ Some z → p z ≡ false) → (k : ℕ) (z : X) → slice_get (y ∷ front) k ≡ Some z → p z ≡ false
    earlier_of front before zero z stands = ap p (sym (some_is y z stands)) ∙ t
    earlier_of front before (suc k) z stands = before k z stands

pub found_parts : {X : Type 0} (p : X → Bool) (xs : List X) (x : X) → find p xs ≡ Some x → IsFound p xs x
found_parts p [] x at = absurd (cc)
found_parts p (y ∷ xs) x at = find_if p y xs x (p y) refl (found_parts p xs x) at

-- what stands behind those that don't pass is found first
find_over : {X : Type 0} (p : X → Bool) (front back : List X) (x : X) → ((k : ℕ) (y : X) → slice_get front k ≡ Some y → p y ≡ false) → p x ≡ true → find p (front ++ x ∷ back) ≡ Some x
find_over p [] back x earlier is = ap (λ b. cond b (Some x) (find p back)) is
find_over p (y ∷ front) back x earlier is =
    ap (λ b. cond b (Some y) (find p (front ++ x ∷ back))) (earlier 0 y refl) ∙ find_over p front back x (λ k z at. earlier (suc k) z at) is

pub filter_over : {X : Type 0} (p : X → Bool) (front back : List X) (x : X) → ((k : ℕ) (y : X) → slice_get front k ≡ Some y → p y ≡ false) → p x ≡ true → slice_get (filter p (front ++ x ∷ back)) 0 ≡ Some x
filter_over p [] back x earlier is = ap (λ b. slice_get (cond b (x ∷ filter p back) (filter p back)) 0) is
filter_over p (y ∷ front) back x earlier is =
    ap (λ b. slice_get (cond b (y ∷ filter p (front ++ x ∷ back)) (filter p (front ++ x ∷ back))) 0) (earlier 0 y refl) ∙ filter_over p front back x (λ k z at. earlier (suc k) z at) is

-- the first of a list, or one that passes where that is the same
pub first_same : {X : Type 0} (p : X → Bool) (xs : List X) (x : X) → slice_get xs 0 ≡ Some x → ((k : ℕ) (y : X) → slice_get xs k ≡ Some y → p y ≡ true → y ≡ x)
    → option_or (find p xs) (slice_get xs 0) ≡ Some x
first_same {X = X} p xs x first same = at_test (find p xs) refl
  where
    at_test : (o : Option X) → find p xs ≡ o → option_or (find p xs) (slice_get xs 0) ≡ Some x
    at_test None is = ap (λ o. option_or o (slice_get xs 0)) is ∙ first
    at_test (Some y) is =
        let f = found_parts p xs y is in
        ap (λ o. option_or o (slice_get xs 0)) is ∙ ap (λ z. Some z) (same (length f.front) y (ap (λ zs. slice_get zs (length f.front)) f.parts ∙ at_behind f.front y f.back) f.passes_test)

-- Calls that are over

-- the next call of a process isn't over
pub next_not_over : (session : Session) (history : List Entry) (who : ℕ) → IsLegal session history → is_over history who (next_number history who) ≡ true → ⊥
next_not_over session history who legal over =
    let some = next_some (last_number history who) (is_over history who (last_number history who)) in
    let number : next_number history who ≡ next_number history who - 1 + 1 = omega (arith, some) in
    let least = over_within session history who (next_number history who) legal over in
    elim (numbered_as history who (next_number history who - 1) number) [
      | inl before ↦ absurd (let z = before.0 in omega (arith, least, z, number))
      | inr now ↦ let z : true ≡ false = sym over ∙ ap (λ n. is_over history who n) number ∙ now.1 in cc
    ]

-- so a call that is ready isn't made
pub ready_unmade : (session : Session) (trace : List Line) (history : List Entry) (c : Place) → IsLegal session history → is_ready session trace history c ≡ true → is_made session trace history c ≡ true → ⊥
ready_unmade session trace history c legal ready made =
    let (can, number) = ready_moves session trace history c ready in
    let (who, begun, over) = passes (λ who. is_over history who c.1) (pnode_of_process session trace history c.0) made in
    let same : can.who ≡ who = some_is can.who who (sym can.begun ∙ begun) in
    next_not_over session history can.who legal (ap (λ n. is_over history can.who n) number ∙ ap (λ w. is_over history w c.1) same ∙ over)

-- A run in the order of the text

module _ (session : Session) (trace : List Line) (behind : AreLinesBehind [] trace) (history : List Entry) (run : IsRun session trace history) where
  -- the call of the next entry is ready
  pub entry_ready : (i : ℕ) (e : Entry) → slice_get history i ≡ Some e → 1 ≤ i → (c : Place) → is_entry_of session trace (take i history) e c ≡ true → is_ready session trace (take i history) c ≡ true
  entry_ready i e at some c of =
      let (number, begun) = entry_by session trace (take i history) e c of in
      let low = counted session trace behind history run i e at some in
      let again : e.number ≡ e.number - 1 + 1 = omega (arith, low) in
      let next = next_is session trace behind history run i e at some in
      let (call, line) = call_at session trace behind history run i e at some c.0 begun in
      let step = is_next session trace behind history run i e at some c.0 (e.number - 1) call again begun line in
      let can : CanMove session trace (take i history) c.0 = record {
        who = e.who;
        begun = begun;
        call = call;
        next = ap (λ n. slice_get (calls_of trace c.0) (n - 1)) next ∙ line;
        step = (e.what, e.act);
        stands = ap (λ n. slice_get (steps_at session trace (take i history) e.who n call) (length (call_entries (take i history) e.who n))) (next ∙ again) ∙ step.step;
        reply = e.reply;
        ready = (follows session trace behind history run i e at some).replied;
      } in
      ap (λ n. is_ready session trace (take i history) (c.0, n)) (sym number ∙ sym next) ∙ moves_ready session trace (take i history) c.0 can

  longer_is : (i j : ℕ) → i ≤ j → take j history ≡ take i history ++ drop i (take j history)
  longer_is i j le = sym (take-append-drop i (take j history)) ∙ ap (λ h. h ++ drop i (take j history)) (take-take i j history le)

  -- who has begun has begun
  stays : (i j p w : ℕ) → 1 ≤ i → i ≤ j → j ≤ length history → pnode_of_process session trace (take i history) p ≡ Some w → pnode_of_process session trace (take j history) p ≡ Some w
  stays i j p w some le short begun =
      let longer = longer_is i j le in
      let legal = subst (λ h. IsLegal session h) longer (legal_take session history j run.legal) in
      let size = length-take i history in
      ap (λ h. pnode_of_process session trace h p) longer ∙ pnode_stays session trace (take i history) (drop i (take j history)) p w behind legal (omega (arith, size, some, le, short)) begun

  -- a call that is over stays over
  made_stays : (i j : ℕ) (c : Place) → 1 ≤ i → i ≤ j → j ≤ length history → is_made session trace (take i history) c ≡ true → is_made session trace (take j history) c ≡ true
  made_stays i j c some le short made =
      let (who, begun, over) = passes (λ who. is_over (take i history) who c.1) (pnode_of_process session trace (take i history) c.0) made in
      let longer = longer_is i j le in
      let legal = subst (λ h. IsLegal session h) longer (legal_take session history j run.legal) in
      passes_at (λ who. is_over (take j history) who c.1) (pnode_of_process session trace (take j history) c.0) who (stays i j c.0 who some le short begun)
      (ap (λ h. is_over h who c.1) longer ∙ over_stays session (take i history) (drop i (take j history)) who c.1 legal over)

  -- in a run in that order
  module _ (room : HasRoom session trace) (order : AreInLine session trace history) where
    -- the call that made the last entry, where it is ready, is the first one that isn't over
    last_first : (i : ℕ) → 1 ≤ i → i ≤ length history → (q c : Place) → is_ready session trace (take i history) q ≡ true → is_last session trace (take i history) q ≡ true
        → find (λ p. not (is_made session trace (take i history) p)) (places_in_order trace) ≡ Some c → q ≡ c
    last_first i some short q c ready last first =
        let size = length-take i history in
        let legal = legal_take session history i run.legal in
        let (f, at, of) = passes (λ f. is_entry_of session trace (take i history) f q) (slice_get (take i history) (length (take i history) - 1)) last in
        let place : length (take i history) - 1 ≡ i - 1 = omega (arith, size, short) in
        let stands : slice_get history (i - 1) ≡ Some f = slice_get-take i (i - 1) history f (ap (λ n. slice_get (take i history) n) (sym place) ∙ at) in
        let (number, begun) = entry_by session trace (take i history) f q of in
        let (can, next) = ready_moves session trace (take i history) q ready in
        let low = next_some (last_number (take i history) can.who) (is_over (take i history) can.who (last_number (take i history) can.who)) in
        let later : 1 ≤ i - 1 = behind_first (i - 1) f stands (omega (arith, low, next, number)) in
        let (d, first_was, of_was) = order (i - 1) f later stands in
        let (number_was, begun_was) = entry_by session trace (take (i - 1) history) f d of_was in
        let kept : pnode_of_process session trace (take i history) d.0 ≡ Some f.who = stays (i - 1) i d.0 f.who later (omega arith) short begun_was in
        let so_far = so_far_at session trace behind room history run i some short in
        let one : q.0 ≡ d.0 = so_far.single q.0 d.0 f.who begun kept in
        let same : q ≡ d = λ j. (one j, (sym number ∙ number_was) j) in
        let unmade : is_made session trace (take i history) d ≡ false = false_from_ne_true (is_made session trace (take i history) d) (λ made. ready_unmade session trace (take i history) q legal ready (ap (λ x. is_made session trace (take i history) x) same ∙ made)) in
        let was = found_parts (λ p. not (is_made session trace (take (i - 1) history) p)) (places_in_order trace) d first_was in
        let now : find (λ p. not (is_made session trace (take i history) p)) (places_in_order trace) ≡ Some d =
        ap (λ ps. find (λ p. not (is_made session trace (take i history) p)) ps) was.parts
        ∙ find_over (λ p. not (is_made session trace (take i history) p)) was.front was.back d
        (λ k p at_p. ap not (made_stays (i - 1) i p later (omega arith) short (not_false _ (was.earlier k p at_p)))) (ap not unmade) in
        same ∙ some_is d c (sym now ∙ first)
      where
        behind_first : (n : ℕ) (f : Entry) → slice_get history n ≡ Some f → 1 ≤ f.number → 1 ≤ n
        behind_first zero f at low = let none = (first_is session f (run.legal 0 f at)).number in absurd (omega (arith, none, low))
        behind_first (suc n) f at low = omega arith

    pub are_due : AreDue session trace history
    are_due i e some at =
        let (c, first, of) = order i e some at in
        let short = slice_get_within history i e at in
        let legal = legal_take session history i run.legal in
        let f = found_parts (λ p. not (is_made session trace (take i history) p)) (places_in_order trace) c first in
        let ready = entry_ready i e at some c of in
        let front : slice_get (filter (is_ready session trace (take i history)) (places_in_order trace)) 0 ≡ Some c =
        ap (λ ps. slice_get (filter (is_ready session trace (take i history)) ps) 0) f.parts
        ∙ filter_over (is_ready session trace (take i history)) f.front f.back c
        (λ k p at_p. false_from_ne_true (is_ready session trace (take i history) p) (λ is. ready_unmade session trace (take i history) p legal is (not_false _ (f.earlier k p at_p)))) ready in (
          c,
          first_same (is_last session trace (take i history)) (filter (is_ready session trace (take i history)) (places_in_order trace)) c front
              (λ k q at_q last. last_first i some (omega (arith, short)) q c (filtered (is_ready session trace (take i history)) (places_in_order trace) k q at_q).0 last first),
          of,
        )

pub in_line_order_law : InLineOrderLaw
in_line_order_law session trace history behind room in_line =
    record { run = in_line.run; order = are_due session trace behind history in_line.run room in_line.order }
