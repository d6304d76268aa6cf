-- How a call goes on by one entry, begins and ends.
use Rattle.std.proofs.Common.{◌≡◌, ℕ, ◌+◌, ◌≤◌, ◌-◌, List, [], ◌∷◌, ◌++◌, length, refl, ap, sym, ◌∙◌, subst, arith, ◌⊎◌, inl, inr, Bool, true, false, ◌||◌, ◌&&◌, not, ◌==◌, cond, append_assoc}
use Rattle.std.specs.Prelude.{Some, slice_get, take, if◌then◌else◌}
use Rattle.std.specs.Option.{option_map_or}
use Rattle.std.proofs.lemmas.List.{append-nil, map-append}
use Rattle.std.proofs.lemmas.Bool.Decides.{nat_tests}
use Rattle.pass_entry.specs.declared.entry.Entry.{Entry}
use Rattle.pass_entry.specs.declared.entry.Act.{Act}
use Rattle.pass_entry.specs.declared.entry.Reply.{Reply}
use Rattle.pass_plain.specs.declared.request.Request.{Request}
use Rattle.pass_plain.specs.Histories.{is_of_call, call_entries, own_step}
use Rattle.pass_plain.specs.Sessions.{Session}
use Rattle.pass_plain.specs.Processes.{Process, process_after, process_act, has_begun, has_ended}
use Rattle.pass_plain.specs.Calls.{Made, name_of, is_within, call_steps, is_last}
use Rattle.pass_plain.specs.Places.{need_of, call_places, freed_places, keeps}
use Rattle.pass_plain.specs.Legal.{IsLegal, CallerAllows, IsNextStep, is_start, is_empty, is_next_number, before_call, is_over, may_be_left, last_number, goes_on, ends_call, leaves_call}
use Rattle.pass_plain.specs.CallLaws.{IsBegun}
use Rattle.pass_plain.proofs.Lists.{both_true, same_itself}
use Rattle.pass_plain.proofs.Appends.{place_of, legal-push}
use Rattle.pass_plain.proofs.Calling.{numbered, last_number-append, call_entries-append, acts-cases, goes_on-cases}
use Rattle.pass_plain.proofs.TwoPrefixes.{none_later, process-append, begun_more, SameCaller, caller_agrees}
use Rattle.pass_plain.proofs.Playing.{before_hit, before_new, no_calls, zero_not}
use Rattle.pass_plain.proofs.Going.{next_step_law, begun_law}
use Rattle.pass_entry.specs.declared.entry.CallName.TheVariants as call_name
use Rattle.pass_book.proofs.Prefixes.{prefix_self, prefix_trans, prefix_more, filter_hit}
use Rattle.pass_hold.specs.Callings.{made_by, entries_in, IsEntered, IsIdle, IsInCall, IsGoing, HasGone, IsCallMade, HasLooked}

-- A call begins

pub none_yet : (session : Session) (seen : List Entry) (who number : ℕ) → IsLegal session seen → last_number seen who ≡ number → call_entries seen who (number + 1) ≡ []
none_yet session seen who number legal last =
    no_calls seen who (number + 1) (λ i f at w k.
    let b = (numbered session seen legal).below i f at in
    let s = ap (λ w. last_number seen w) w in
    omega (arith, b, s, k, last))

next_number : (number : ℕ) (over left : Bool) → (number ≡ 0) ⊎ (over || left ≡ true) → goes_on (number + 1) number over left ≡ true
next_number number over left ready = elim ready [
  | inl none ↦ at_test (number + 1 == number) refl (let z : (number == 0) ≡ true = grind (arith, nat_tests) in ap (λ b. b || over || left) z)
  | inr r ↦ at_test (number + 1 == number) refl (later (number == 0) over left r)
]
  where
    later : (a b c : Bool) → b || c ≡ true → a || b || c ≡ true
    later true true c e = refl
    later true false true e = refl
    later true false false e = refl
    later false b c e = e

    at_test : (b : Bool) → (number + 1 == number) ≡ b → (number == 0) || over || left ≡ true
        → cond b (not (number == 0) && not over) (number + 1 == number + 1 && ((number == 0) || over || left)) ≡ true
    at_test true t may = absurd (let z : (number + 1 == number) ≡ false = grind (arith, nat_tests) in let w : true ≡ false = sym t ∙ z in cc)
    at_test false t may = both_true (number + 1 == number + 1) ((number == 0) || over || left) (same_itself (number + 1)) may

pub begins_call : (session : Session) (seen : List Entry) (who number : ℕ) (p : Process) (r : Request) → IsIdle session seen who number p
    → IsGoing session seen seen who (number + 1) r p [] p
begins_call session seen who number p r idle =
    let none = none_yet session seen who number idle.legal idle.last in
    record {
      is = record {
        legal = idle.legal;
        begun = idle.begun;
        state = idle.state;
        begins = prefix_self seen;
        own = sym (append-nil (made_by who seen));
        was = idle.state;
        counted = ap (λ n. n + 1) (sym idle.last);
        before_is = before_new seen who (number + 1) none ∙ idle.state;
        made_is = none;
        begun_as = refl;
        named = λ j s at. absurd (cc);
      };
      lives = idle.lives;
      goes = ap (λ n. goes_on (number + 1) n (is_over seen who n) (may_be_left seen who n)) idle.last ∙ next_number number _ _ idle.ready;
    }

-- Its next entry

abbrev pub entry_of : ℕ → ℕ → Request → ℕ → Act → Reply → Entry
entry_of who number r what a reply = record { who = who; number = number; call = name_of r; what = what; act = a; reply = reply }

module _ (session : Session) (before seen : List Entry) (who number : ℕ) (r : Request) (p : Process) (made : Made) (now : Process) (what : ℕ) (a : Act) (reply : Reply)
    (next : slice_get (call_steps who p made r) (length made) ≡ Some (what, a)) where
  abbrev e : Entry
  e = entry_of who number r what a reply

  ends_not : IsInCall session before seen who number r p made now → now.ended ≡ false → has_ended seen who ≡ false
  ends_not is lives = ap (λ (p : Process). p.ended) is.state ∙ lives

  pub allows : IsGoing session before seen who number r p made now → is_start (name_of r) ≡ false → is_within r ≡ true → CallerAllows seen e
  allows g ordinary within =
      let is = g.is in
      record {
        acts = ap (λ b. cond b (is_empty seen && who == 0 && number == 0) (has_begun seen who && not (has_ended seen who) && is_next_number seen e)) ordinary
            ∙ both_true (has_begun seen who && not (has_ended seen who)) (is_next_number seen e)
            (both_true (has_begun seen who) (not (has_ended seen who)) is.begun (ap not (ends_not is g.lives))) g.goes;
        step = subst (λ (q : Process). IsNextStep who q (call_entries seen who number) (name_of r) (what, a)) (sym is.before_is)
            (subst (λ (m : Made). IsNextStep who p m (name_of r) (what, a)) (sym is.made_is) (next_step_law who p made r (what, a) within is.named is.begun_as next));
      }

  -- how many places it needs after it
  pub keeps_going : IsInCall session before seen who number r p made now → keeps seen e ≡ (if is_last p e then 0 else need_of (name_of r) - (length made + 1))
  keeps_going is = λ i. if is_last (is.before_is i) e then 0 else need_of (name_of r) - (length (is.made_is i) + 1)

  pub goes : (desk after : List Entry) → IsInCall session before seen who number r p made now → (entered : IsEntered session seen desk after e)
      → HasGone session before after who number r p (made ++ (length entered.past, e) ∷ []) (own_step (λ past p e. process_act past p e.act) who entered.past now e)
  goes desk after is entered =
      subst (λ h. HasGone session before h who number r p (made ++ (length entered.past, e) ∷ []) (own_step (λ past p e. process_act past p e.act) who entered.past now e)) (sym entered.whole) gone
    where
      past : List Entry
      past = entered.past

      own_call : is_of_call who number e ≡ true
      own_call = both_true (who == who) (number == number) (same_itself who) (same_itself number)

      agrees : SameCaller seen past who
      agrees =
          let later = entered.line_begins.0 in
          let whole = entered.line_begins.1 in
          subst (λ h. SameCaller seen h who) whole
          (caller_agrees session seen later who (subst (λ h. IsLegal session h) (sym whole) entered.legal) is.begun
          (none_later (λ (f : Entry). f.who == who) seen later past whole entered.line_agrees))

      m : ℕ × Entry
      m = (length past, e)

      longer : List Entry
      longer = past ++ e ∷ []

      gone : HasGone session before longer who number r p (made ++ m ∷ []) (own_step (λ past p e. process_act past p e.act) who past now e)
      gone = record {
        is = record {
          legal = legal-push session past e entered.legal entered.follows;
          begun = begun_more past e who agrees.begun;
          state = process-append past e who ∙ ap (λ q. own_step (λ past p e. process_act past p e.act) who past q e) (agrees.process ∙ is.state);
          begins = prefix_more before past (e ∷ []) (prefix_trans before seen past is.begins entered.line_begins);
          own = filter_hit (λ (f : Entry). f.who == who) past e (same_itself who)
              ∙ ap (λ es. es ++ e ∷ []) (sym entered.line_agrees ∙ is.own)
              ∙ append_assoc (made_by who before) (entries_in made) (e ∷ [])
              ∙ ap (λ es. made_by who before ++ es) (sym (map-append (λ (m : ℕ × Entry). m.1) made (m ∷ [])));
          was = is.was;
          counted = is.counted;
          before_is = ap (λ h. process_after h who) (before_hit (is_of_call who number) past e own_call) ∙ agrees.before number ∙ is.before_is;
          made_is = call_entries-append past e who number ∙ ap (λ b. call_entries past who number ++ cond b (m ∷ []) []) own_call
              ∙ ap (λ ms. ms ++ m ∷ []) (agrees.calls number ∙ is.made_is);
          begun_as = begun_law who p made r (length past) e is.begun_as next;
          named = λ j s at. elim (place_of made m j s at) [
            | inl l ↦ is.named j s l.0
            | inr q ↦ ap (λ (s : ℕ × Entry). s.1.call) (sym q.1)
          ];
        };
        last = last_number-append past e who ∙ ap (λ b. cond b number (last_number past who)) (same_itself who);
      }

-- After it

module _ (session : Session) (before seen : List Entry) (who number : ℕ) (r : Request) (p : Process) (made : Made) (now : Process) (gone : HasGone session before seen who number r p made now) where
  over_is : is_over seen who number ≡ ends_call p made
  over_is = λ i. ends_call (gone.is.before_is i) (gone.is.made_is i)

  -- the call goes on
  pub more : ends_call p made ≡ false → now.ended ≡ false → IsGoing session before seen who number r p made now
  more on lives = record {
    is = gone.is;
    lives = lives;
    goes = ap (λ n. goes_on number n (is_over seen who n) (may_be_left seen who n)) gone.last
        ∙ going (number == number) (same_itself number) (number == 0) (let c = gone.is.counted in grind (arith, nat_tests)) (is_over seen who number) (over_is ∙ on);
  }
    where
      going : (b : Bool) → b ≡ true → (z : Bool) → z ≡ false → (o : Bool) → o ≡ false
          → cond b (not z && not o) (number == number + 1 && (z || o || may_be_left seen who number)) ≡ true
      going true t false n false over = refl
      going true t false n true over = absurd (cc)
      going true t true n o over = absurd (cc)
      going false t z n o over = absurd (cc)

  -- the call is over
  pub call_made : ends_call p made ≡ true → IsCallMade session who before seen r made
  call_made over =
      let is = gone.is in
      record {
        legal = is.legal;
        begins = is.begins;
        own = is.own;
        made_is = ap (λ n. call_entries seen who n) (sym is.counted) ∙ is.made_is;
        before_is = ap (λ n. before_call seen who n) (sym is.counted) ∙ is.before_is ∙ sym is.was;
        steps = subst (λ (q : Process). IsBegun who q made r) (sym is.was) is.begun_as;
        named = is.named;
        over = ap (λ n. is_over seen who n) (sym is.counted) ∙ over_is ∙ over;
      }

  pub idle_again : ends_call p made ≡ true → now.ended ≡ false → IsIdle session seen who number now
  idle_again over lives =
      let is = gone.is in
      record {
        legal = is.legal;
        begun = is.begun;
        lives = lives;
        state = is.state;
        last = gone.last;
        ready = inr (ap (λ b. b || may_be_left seen who number) (over_is ∙ over));
      }

-- no entry of a process has the number 0
pub no_zero : (session : Session) (seen : List Entry) (who i : ℕ) (f : Entry) → IsLegal session seen → has_begun seen who ≡ true → slice_get seen i ≡ Some f → f.who ≡ who → f.number ≡ 0 → ⊥
no_zero session seen who i f legal begun at w n = elim (acts-cases (take i seen) f (legal i f at).acts) [
  | inl s ↦ zero_not session seen legal (ap (λ w. has_begun seen w) (sym s.2 ∙ w) ∙ begun)
  | inr a ↦ never (last_number (take i seen) f.who) (is_over (take i seen) f.who (last_number (take i seen) f.who)) (may_be_left (take i seen) f.who (last_number (take i seen) f.who))
      (ap (λ m. goes_on m (last_number (take i seen) f.who) (is_over (take i seen) f.who (last_number (take i seen) f.who)) (may_be_left (take i seen) f.who (last_number (take i seen) f.who))) (sym n) ∙ a.3)
]
  where
    never : (last : ℕ) (over left : Bool) → goes_on 0 last over left ≡ true → ⊥
    never last over left e = elim (goes_on-cases 0 last over left e) [
      | inl c ↦ let z : goes_on 0 0 over left ≡ true = ap (λ m. goes_on 0 m over left) c.0 ∙ e in absurd (let y : false ≡ true = z in cc)
      | inr c ↦ let z = c.0 in omega (arith, z)
    ]

-- A new call frees the places of the call that it leaves, and there are no others

pub idle_frees : (session : Session) (seen : List Entry) (who number : ℕ) (p : Process) → IsIdle session seen who number p → call_places seen who ≡ freed_places seen who
idle_frees session seen who number p idle = at_left (may_be_left seen who (last_number seen who)) refl (is_over seen who (last_number seen who)) refl
  where
    last : ℕ
    last = last_number seen who

    nothing : call_entries seen who last ≡ [] → call_places seen who ≡ 0
    nothing none = (λ i. if is_over seen who last then 0 else option_map_or (λ (s : ℕ × Entry). need_of s.1.call - length (none i)) (slice_get (none i) 0) 0) ∙ either (is_over seen who last)
      where
        either : (b : Bool) → ◌≡◌ {A = ℕ} (if b then 0 else 0) 0
        either true = refl
        either false = refl

    at_left : (l : Bool) → may_be_left seen who last ≡ l → (o : Bool) → is_over seen who last ≡ o → call_places seen who ≡ (if may_be_left seen who last then call_places seen who else 0)
    at_left true left o over = sym (ap (λ b. if b then call_places seen who else 0) left)
    at_left false left true over =
        ap (λ b. if b then 0 else option_map_or (λ (s : ℕ × Entry). need_of s.1.call - length (call_entries seen who last)) (slice_get (call_entries seen who last) 0) 0) over
        ∙ sym (ap (λ b. if b then call_places seen who else 0) left)
    at_left false left false over = elim idle.ready [
      | inl none ↦ nothing (no_calls seen who last (λ i f at w n. no_zero session seen who i f idle.legal idle.begun at w (n ∙ idle.last ∙ none))) ∙ sym (ap (λ b. if b then call_places seen who else 0) left)
      | inr r ↦ absurd (let z : false || false ≡ true = sym (λ i. over i || left i) ∙ ap (λ n. is_over seen who n || may_be_left seen who n) idle.last ∙ r in cc)
    ]

-- Who looks learns nothing new of its own

pub idle_looked : (session : Session) (seen after : List Entry) (who number : ℕ) (p : Process) → IsIdle session seen who number p → HasLooked session who seen after → IsIdle session after who number p
idle_looked session seen after who number p idle l =
    let later = l.begins.0 in
    let whole = l.begins.1 in
    let same : SameCaller seen after who =
    subst (λ h. SameCaller seen h who) whole
    (caller_agrees session seen later who (subst (λ h. IsLegal session h) (sym whole) l.legal) idle.begun
    (none_later (λ (f : Entry). f.who == who) seen later after whole (sym l.own))) in
    let over : is_over after who number ≡ is_over seen who number = (λ i. ends_call (same.before number i) (same.calls number i)) in
    let left : may_be_left after who number ≡ may_be_left seen who number = (λ i. leaves_call (same.before number i) (same.calls number i)) in
    record {
      legal = l.legal;
      begun = same.begun;
      lives = idle.lives;
      state = same.process ∙ idle.state;
      last = same.last ∙ idle.last;
      ready = elim idle.ready [ inl none ↦ inl none | inr r ↦ inr ((λ i. over i || left i) ∙ r) ];
    }

-- a process has made no more calls than it has seen entries
pub number_few : (session : Session) (seen : List Entry) (who number : ℕ) (p : Process) → IsIdle session seen who number p → number ≤ length seen
number_few session seen who number p idle = let f = (numbered session seen idle.legal).few who in omega (arith, f, idle.last)

-- a call under way goes on after a look
pub going_looked : (session : Session) (before seen after : List Entry) (who number : ℕ) (r : Request) (p : Process) (made : Made) (now : Process)
    → IsGoing session before seen who number r p made now → HasLooked session who seen after → IsGoing session before after who number r p made now
going_looked session before seen after who number r p made now g l =
    let is = g.is in
    let later = l.begins.0 in
    let whole = l.begins.1 in
    let same : SameCaller seen after who =
    subst (λ h. SameCaller seen h who) whole
    (caller_agrees session seen later who (subst (λ h. IsLegal session h) (sym whole) l.legal) is.begun
    (none_later (λ (f : Entry). f.who == who) seen later after whole (sym l.own))) in
    let over : (n : ℕ) → is_over after who n ≡ is_over seen who n = λ n. (λ i. ends_call (same.before n i) (same.calls n i)) in
    let left : (n : ℕ) → may_be_left after who n ≡ may_be_left seen who n = λ n. (λ i. leaves_call (same.before n i) (same.calls n i)) in
    record {
      is = record {
        legal = l.legal;
        begun = same.begun;
        state = same.process ∙ is.state;
        begins = prefix_trans before seen after is.begins l.begins;
        own = l.own ∙ is.own;
        was = is.was;
        counted = is.counted;
        before_is = same.before number ∙ is.before_is;
        made_is = same.calls number ∙ is.made_is;
        begun_as = is.begun_as;
        named = is.named;
      };
      lives = g.lives;
      goes = ap (λ n. goes_on number n (is_over after who n) (may_be_left after who n)) same.last
          ∙ (λ i. goes_on number (last_number seen who) (over (last_number seen who) i) (left (last_number seen who) i)) ∙ g.goes;
    }

-- what a call that has made entries holds
pub held_going : (session : Session) (before seen : List Entry) (who number : ℕ) (r : Request) (p : Process) (s : ℕ × Entry) (made : Made) (now : Process)
    → IsInCall session before seen who number r p (s ∷ made) now → last_number seen who ≡ number → ends_call p (s ∷ made) ≡ false
    → call_places seen who ≡ need_of (name_of r) - length (s ∷ made)
held_going session before seen who number r p s made now is last goes =
    ap (λ n. if is_over seen who n then 0 else option_map_or (λ (s : ℕ × Entry). need_of s.1.call - length (call_entries seen who n)) (slice_get (call_entries seen who n) 0) 0) last
    ∙ (λ i. if ends_call (is.before_is i) (is.made_is i) then 0 else option_map_or (λ (s : ℕ × Entry). need_of s.1.call - length (is.made_is i)) (slice_get (is.made_is i) 0) 0)
    ∙ (λ i. if goes i then 0 else need_of (is.named 0 s refl i) - length (s ∷ made))

-- a call that may be left is one between calls, too
pub left_idle : (session : Session) (before seen : List Entry) (who number : ℕ) (r : Request) (p : Process) (made : Made) (now : Process)
    → HasGone session before seen who number r p made now → leaves_call p made ≡ true → now.ended ≡ false → IsIdle session seen who number now
left_idle session before seen who number r p made now gone leaves lives =
    let is = gone.is in
    record {
      legal = is.legal;
      begun = is.begun;
      lives = lives;
      state = is.state;
      last = gone.last;
      ready = inr (ap (λ b. is_over seen who number || b) ((λ i. leaves_call (is.before_is i) (is.made_is i)) ∙ leaves) ∙ or_true (is_over seen who number));
    }
  where
    or_true : (b : Bool) → b || true ≡ true
    or_true true = refl
    or_true false = refl
