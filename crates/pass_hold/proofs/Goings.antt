-- A call goes on by looks and entries.
use Rattle.std.proofs.Common.{◌≡◌, ◌≢◌, ◌<◌, ◌≤◌, ◌+◌, ◌-◌, ℕ, zero, suc, List, [], ◌∷◌, ◌++◌, length, refl, ap, sym, ◌∙◌, subst, arith, inl, inr, Bool, true, false, ◌==◌, ◌||◌, length-append}
use Rattle.std.specs.Prelude.{Some, slice_get, take, if◌then◌else◌}
use Rattle.std.specs.Option.{option_map_or}
use Rattle.std.specs.List.{list_any}
use Rattle.std.proofs.lemmas.List.{take_all, take-append-le}
use Rattle.std.proofs.lemmas.Bool.Decides.{nat_tests}
use mathlib.Core.List.{IsPrefix}
use Rattle.pass_entry.specs.declared.entry.Entry.{Entry}
use Rattle.pass_entry.specs.declared.entry.Act.{Act}
use Rattle.pass_entry.specs.declared.entry.CallName.{CallName}
use Rattle.pass_entry.specs.declared.entry.CallName.TheVariants as call
use Rattle.pass_entry.proofs.Places.{within_front}
use Rattle.pass_plain.specs.declared.request.Request.{Request}
use Rattle.pass_plain.specs.Histories.{is_of_call, call_entries}
use Rattle.pass_plain.specs.Sessions.{Session}
use Rattle.pass_plain.specs.Processes.{Process, has_begun}
use Rattle.pass_plain.specs.Calls.{Made}
use Rattle.pass_plain.specs.CallLaws.{IsBegun}
use Rattle.pass_plain.specs.Legal.{IsLegal, before_call, is_over, ends_call, is_left_act, leaves_call, last_number}
use Rattle.pass_plain.specs.Lawful.{AgreeBy}
use Rattle.pass_plain.specs.Places.{need_of, call_places, left_places}
use Rattle.pass_plain.specs.Runs.{next_number}
use Rattle.pass_plain.proofs.Lists.{same_itself, same_numbers, true_right, le_or_above}
use Rattle.pass_plain.proofs.Appends.{place_of, legal-push}
use Rattle.pass_plain.proofs.Calling.{legal_take}
use Rattle.pass_plain.proofs.TwoPrefixes.{none_later, SameCaller, caller_agrees, begun_more}
use Rattle.pass_plain.proofs.OtherCalls.{other_entries}
use Rattle.pass_book.proofs.Prefixes.{prefix_self, prefix_trans, prefix_more, prefix_length}
use Rattle.pass_hold.specs.Goings.{IsStepAt, Goes, StillLaw, LookLaw, AddLaw, AnsweredLaw, UnansweredLaw, LeftLaw}

-- a longer beginning of a whole
pub take_past : {X : Type 0} (xs ys : List X) (n : ℕ) → length xs ≤ n → take n (xs ++ ys) ≡ xs ++ take (n - length xs) ys
take_past [] ys n le = ap (λ n. take n ys) (let z : n ≡ n - 0 = omega arith in z)
take_past (x ∷ xs) ys zero le = absurd (omega arith)
take_past (x ∷ xs) ys (suc n) le = ap (λ zs. x ∷ zs) (take_past xs ys n (omega arith) ∙ ap (λ n. xs ++ take n ys) (let z : n - length xs ≡ suc n - suc (length xs) = omega arith in z))

none_if : {X : Type 0} (p : X → Bool) (x : X) (n : ℕ) (xs : List X) → (b : Bool) → p x ≡ b → (list_any p xs ≡ false → list_any p (take n xs) ≡ false) → list_any p (x ∷ xs) ≡ false → list_any p (x ∷ take n xs) ≡ false
none_if p x n xs true t later none = absurd (let z : true ≡ false = ap (λ b. b || list_any p xs) (sym t) ∙ none in cc)
none_if p x n xs false t later none = ap (λ b. b || list_any p (take n xs)) t ∙ later (ap (λ b. b || list_any p xs) (sym t) ∙ none)

none_in_take : {X : Type 0} (p : X → Bool) (n : ℕ) (xs : List X) → list_any p xs ≡ false → list_any p (take n xs) ≡ false
none_in_take p zero [] none = refl
none_in_take p zero (x ∷ xs) none = refl
none_in_take p (suc n) [] none = refl
none_in_take p (suc n) (x ∷ xs) none = none_if p x n xs (p x) refl (none_in_take p n xs) none

pub own_is : (e : Entry) (who number : ℕ) → is_of_call who number e ≡ true → e.number ≡ number
own_is e who number own = same_numbers e.number number (true_right (e.who == who) (e.number == number) own)

pub number_same : (xs ys : List Entry) (who : ℕ) → SameCaller xs ys who → next_number ys who ≡ next_number xs who
number_same xs ys who same =
    let last : ℕ = last_number xs who in
    let over : is_over ys who last ≡ is_over xs who last = (λ i. ends_call (same.before last i) (same.calls last i)) in
    ap (λ n. if n == 0 then 1 else if is_over ys who n then n + 1 else n) same.last ∙ ap (λ b. if last == 0 then 1 else if b then last + 1 else last) over

module _ (session : Session) (who : ℕ) (mid new : List Entry) (begun : has_begun mid who ≡ true) (legal : IsLegal session new) (begins : IsPrefix mid new) (agrees : AgreeBy who mid new) where
  none : list_any (λ (e : Entry). e.who == who) begins.0 ≡ false
  none = none_later (λ (e : Entry). e.who == who) mid begins.0 new begins.1 agrees

  -- what the caller reads of its own in any longer beginning
  pub same_caller : SameCaller mid new who
  same_caller = subst (λ h. SameCaller mid h who) begins.1 (caller_agrees session mid begins.0 who (subst (λ h. IsLegal session h) (sym begins.1) legal) begun none)

  pub same_up_to : (n : ℕ) → length mid ≤ n → SameCaller mid (take n new) who
  same_up_to n le =
      let is : take n new ≡ mid ++ take (n - length mid) begins.0 = ap (λ h. take n h) (sym begins.1) ∙ take_past mid begins.0 n le in
      subst (λ h. SameCaller mid h who) (sym is)
      (caller_agrees session mid (take (n - length mid) begins.0) who (subst (λ h. IsLegal session h) is (legal_take session new n legal)) begun
      (none_in_take (λ (e : Entry). e.who == who) (n - length mid) begins.0 none))

  front : (n : ℕ) → n ≤ length mid → take n new ≡ take n mid
  front n le = ap (λ h. take n h) (sym begins.1) ∙ take-append-le n mid begins.0 le

  gone : (request : Request) (old : List Entry) → Goes session who request old mid → Goes session who request old new
  gone request old goes = record {
    legal = legal;
    begins = prefix_trans old mid new goes.begins begins;
    begun = same_caller.begun;
    steps = λ n e at by later.
        let (less, there) = within_front (λ (f : Entry). f.who == who) mid begins.0 new n e begins.1 none at (ap (λ w. w == who) by ∙ same_itself who) in
        subst (λ h. IsStepAt who (next_number old who) request (before_call old who (next_number old who)) h e) (sym (front n (omega (arith, less)))) (goes.steps n e there by later);
    others = λ k n apart later. elim (le_or_above (length mid) n) [
      | inr less ↦ ap (λ h. call_entries h who k) (front n (omega (arith, less))) ∙ goes.others k n apart later
      | inl le ↦
          (same_up_to n le).calls k ∙ ap (λ h. call_entries h who k) (sym (take_all (length mid) mid (omega arith)))
          ∙ goes.others k (length mid) apart (prefix_length old mid goes.begins)
    ];
  }

pub still_law : StillLaw
still_law session who request seen legal begun = record {
  legal = legal;
  begins = prefix_self seen;
  begun = begun;
  steps = λ n e at by later. absurd (let z = stands_below seen n e at in omega (arith, z, later));
  others = λ k n apart later. ap (λ h. call_entries h who k) (take_all n seen later);
}
  where
    stands_below : (xs : List Entry) (n : ℕ) (x : Entry) → slice_get xs n ≡ Some x → n < length xs
    stands_below [] n x at = absurd (cc)
    stands_below (y ∷ xs) zero x at = omega arith
    stands_below (y ∷ xs) (suc n) x at = let z = stands_below xs n x at in omega (arith, z)

pub look_law : LookLaw
look_law session who request old seen new goes l = gone session who seen new goes.begun l.legal l.begins (sym l.own) request old goes

pub add_law : AddLaw
add_law session who request old seen desk new e goes step entered =
    subst (λ h. Goes session who request old h) (sym entered.whole) added
  where
    number : ℕ
    number = next_number old who

    state : Process
    state = before_call old who number

    past : List Entry
    past = entered.past

    agrees : AgreeBy who seen past
    agrees = subst (λ w. AgreeBy w seen past) step.by entered.line_agrees

    before : Goes session who request old past
    before = gone session who seen past goes.begun entered.legal entered.line_begins agrees request old goes

    same : SameCaller seen past who
    same = same_caller session who seen past goes.begun entered.legal entered.line_begins agrees

    here : IsStepAt who number request state past e
    here = record {
      next = number_same seen past who same ∙ step.next;
      was = same.before number ∙ step.was;
      by = step.by;
      counted = step.counted;
      named = step.named;
      step = ap (λ (made : Made). slice_get (call_steps_of made) (length made)) (same.calls number) ∙ step.step;
    }
      where
        call_steps_of : Made → List (ℕ × Act)
        call_steps_of made = Rattle.pass_plain.specs.Calls.call_steps who state made request

    not_of : (k : ℕ) → k ≢ number → is_of_call who k e ≡ false
    not_of k apart = at (is_of_call who k e) refl
      where
        at : (b : Bool) → is_of_call who k e ≡ b → is_of_call who k e ≡ false
        at false t = t
        at true t = absurd (apart (sym (own_is e who k t) ∙ step.counted))

    size : length (past ++ e ∷ []) ≡ length past + 1
    size = length-append past (e ∷ [])

    added : Goes session who request old (past ++ e ∷ [])
    added = record {
      legal = legal-push session past e entered.legal entered.follows;
      begins = prefix_more old past (e ∷ []) before.begins;
      begun = begun_more past e who before.begun;
      steps = λ n f at by later. elim (place_of past e n f at) [
        | inl l ↦ subst (λ h. IsStepAt who number request state h f) (sym (take-append-le n past (e ∷ []) (let z = l.1 in omega (arith, z)))) (before.steps n f l.0 by later)
        | inr r ↦
            subst (λ f. IsStepAt who number request state (take n (past ++ e ∷ [])) f) r.1
            (subst (λ h. IsStepAt who number request state h e) (sym (take-append-le n past (e ∷ []) (let z = r.0 in omega (arith, z)) ∙ take_all n past (let z = r.0 in omega (arith, z)))) here)
      ];
      others = λ k n apart later. elim (le_or_above n (length past)) [
        | inl le ↦ ap (λ h. call_entries h who k) (take-append-le n past (e ∷ []) le) ∙ before.others k n apart later
        | inr more ↦
            ap (λ h. call_entries h who k) (take_all n (past ++ e ∷ []) (omega (arith, size, more)))
            ∙ other_entries past e who k (not_of k apart)
            ∙ ap (λ h. call_entries h who k) (sym (take_all n past (omega (arith, more)))) ∙ before.others k n apart later
      ];
    }

pub answered_law : AnsweredLaw
answered_law session who request old new made state call next idle = record {
  over = ap (λ n. is_over new who n) next ∙ call.over;
  next = ap (λ n. if n == 0 then 1 else if is_over new who n then n + 1 else n) idle.last ∙ ap (λ b. if number == 0 then 1 else if b then number + 1 else number) call.over ∙ counted ∙ ap (λ n. n + 1) (sym next);
  living = ap (λ (p : Process). p.ended) idle.state ∙ idle.lives;
}
  where
    number : ℕ
    number = last_number old who + 1

    counted : (if number == 0 then 1 else number + 1) ≡ number + 1
    counted = ap (λ b. if b then 1 else number + 1) (let z : (number == 0) ≡ false = grind (arith, nat_tests) in z)

pub unanswered_law : UnansweredLaw
unanswered_law session who request old new l begun lives under = record {
  next = next;
  state = same.before number;
  under_way = subst (λ n. IsBegun who (before_call new who n) (call_entries new who n) request) (sym next)
      (subst (λ (x : Process × Made). IsBegun who x.0 x.1 request) (λ i. (sym (same.before number) i, sym (same.calls number) i)) under);
  living = ap (λ (p : Process). p.ended) same.process ∙ lives;
}
  where
    number : ℕ
    number = next_number old who

    same : SameCaller old new who
    same = same_caller session who old new begun l.legal l.begins (sym l.own)

    next : next_number new who ≡ number
    next = number_same old new who same

-- Places

left_need : (p : Process) (name : CallName) (a : Act) → is_left_act p name a ≡ true → need_of name ≡ 3
left_need p call.Write a left = refl
left_need p call.Sync a left = refl
left_need p _ a left = absurd (cc)

left_held : (p : Process) (made : Made) → leaves_call p made ≡ true → option_map_or (λ (s : ℕ × Entry). need_of s.1.call - length made) (slice_get made 0) 0 ≡ 2
left_held p [] left = absurd (cc)
left_held p (s ∷ []) left = ap (λ n. n - 1) (left_need p s.1.call s.1.act left)
left_held p (s ∷ t ∷ made) left = absurd (cc)

pub left_law : LeftLaw
left_law reserved seen who left goes =
    let last : ℕ = last_number seen who in
    let made : Made = call_entries seen who last in
    let held = ap (λ b. if b then 0 else option_map_or (λ (s : ℕ × Entry). need_of s.1.call - length made) (slice_get made 0) 0) goes ∙ left_held (before_call seen who last) made left in
    ap (λ b. left_places reserved seen + (if b then call_places seen who else 0)) left ∙ ap (λ n. left_places reserved seen + n) held
