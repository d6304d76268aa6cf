-- The places of a caller at work.
use Rattle.std.proofs.Common.{◌≡◌, ℕ, ◌+◌, ◌-◌, ◌≤◌, List, [], ◌∷◌, ◌++◌, length, refl, ap, sym, ◌∙◌, subst, arith, Bool, true, false, ◌==◌}
use Rattle.std.specs.Prelude.{Option, Some, None, slice_get, if◌then◌else◌}
use Rattle.std.specs.Option.{option_map_or}
use mathlib.Core.List.{IsPrefix}
use Rattle.pass_entry.specs.declared.entry.Entry.{Entry}
use Rattle.pass_entry.specs.declared.entry.Act.{Act}
use Rattle.pass_entry.specs.declared.entry.Act.TheVariants as act
use Rattle.pass_entry.specs.declared.entry.CallName.{CallName}
use Rattle.pass_entry.specs.declared.entry.CallName.TheVariants as call
use Rattle.pass_plain.specs.Sessions.{Session}
use Rattle.pass_plain.specs.Processes.{Process, Held, has_begun, has_ended}
use Rattle.pass_plain.specs.Calls.{Made, is_last}
use Rattle.pass_plain.specs.Legal.{IsLegal, MayFollow, before_call, is_over, last_number}
use Rattle.pass_plain.specs.Histories.{is_fault, call_entries}
use Rattle.pass_plain.specs.Lawful.{AgreeBy}
use Rattle.pass_plain.specs.Places.{is_exit, need_of, exit_places, call_places, held_places, freed_places, left_for, keeps, exit_step}
use Rattle.pass_plain.proofs.Appends.{legal-front}
use Rattle.pass_plain.proofs.TwoPrefixes.{none_later, SameCaller, caller_agrees, begun_more}
use Rattle.pass_book.specs.Tokens.{BookId, LineState}
use Rattle.pass_hold.specs.Places.{IsKept}
use Rattle.pass_plain.proofs.HeldPlaces.{call_same, freed_same, exit_same, call_next, lives_on, living_law, ended_law, held_enough, born_law, child_exit, child_call, child_lives, child_begun}

need_low : (name : CallName) → need_of name ≤ 132
need_low call.Fork = omega arith
need_low call.Exit = omega arith
need_low _ = omega arith

pub keeps_low : (seen : List Entry) (e : Entry) → keeps seen e ≤ 132
keeps_low seen e = at_last (is_last (before_call seen e.who e.number) e) (length (call_entries seen e.who e.number) + 1)
  where
    at_last : (b : Bool) (n : ℕ) → (if b then 0 else need_of e.call - n) ≤ 132
    at_last true n = omega arith
    at_last false n = let low = need_low e.call in omega (arith, low)

-- an exit holds no places but those that its process keeps for it
pub exit_keeps : (seen : List Entry) (e : Entry) → is_exit e.call ≡ true → 0 ≡ keeps seen e
exit_keeps seen e exit = by_name e.call exit (is_last (before_call seen e.who e.number) e) (length (call_entries seen e.who e.number) + 1)
  where
    nothing : (n : ℕ) → ◌≡◌ {A = ℕ} 0 (0 - n)
    nothing n = omega arith

    by_name : (name : CallName) → is_exit name ≡ true → (b : Bool) (n : ℕ) → ◌≡◌ {A = ℕ} 0 (if b then 0 else need_of name - n)
    by_name call.Exit exit true n = refl
    by_name call.Exit exit false n = nothing n
    by_name _ exit b n = absurd (cc)

pub call_low : (seen : List Entry) (who : ℕ) → call_places seen who ≤ 132
call_low seen who = at_over (is_over seen who (last_number seen who)) (call_entries seen who (last_number seen who)) (slice_get (call_entries seen who (last_number seen who)) 0)
  where
    at_over : (b : Bool) (made : Made) (o : Option (ℕ × Entry)) → (if b then 0 else option_map_or (λ (s : ℕ × Entry). need_of s.1.call - length made) o 0) ≤ 132
    at_over true made o = omega arith
    at_over false made None = omega arith
    at_over false made (Some s) = let low = need_low s.1.call in omega (arith, low)

pub own_low : (book : BookId) (total own held : ℕ) (l : LineState) → IsKept book total own held l → own ≤ 65
own_low book total own held l is = let e = is.exit in omega (arith, e)

pub held_low : (book : BookId) (total own held : ℕ) (l : LineState) → IsKept book total own held l → held ≤ 132
held_low book total own held l is = let c = is.call in let low = call_low l.seen l.who in omega (arith, c, low)

-- a prefix with all entries of a caller tells what its places are
pub same_caller : (session : Session) (seen h : List Entry) (who : ℕ) → IsLegal session h → has_begun seen who ≡ true → IsPrefix seen h → AgreeBy who seen h → SameCaller seen h who
same_caller session seen h who legal begun begins same =
    subst (λ h. SameCaller seen h who) begins.1
    (caller_agrees session seen begins.0 who (subst (λ h. IsLegal session h) (sym begins.1) legal) begun
    (none_later (λ (f : Entry). f.who == who) seen begins.0 h begins.1 same))

pub exit_agrees : (seen h : List Entry) (who : ℕ) → IsPrefix seen h → AgreeBy who seen h → exit_places h who ≡ exit_places seen who
exit_agrees seen h who begins same =
    ap (λ h. exit_places h who) (sym begins.1) ∙ exit_same seen begins.0 who (none_later (λ (f : Entry). f.who == who) seen begins.0 h begins.1 same)

keeps_same : (seen h : List Entry) (e : Entry) → SameCaller seen h e.who → keeps h e ≡ keeps seen e
keeps_same seen h e s = λ i. if is_last (s.before e.number i) e then 0 else need_of e.call - (length (s.calls e.number i) + 1)

-- after a look
pub kept_looked : (book : BookId) (total own held : ℕ) (l m : LineState) (h : List Entry) → IsKept book total own held l → IsLegal book.session h → IsPrefix l.seen h → AgreeBy l.who l.seen h
    → m.book ≡ l.book → m.who ≡ l.who → m.seen ≡ h → IsKept book total own held m
kept_looked book total own held l m h is legal begins same of_book who seen =
    let s = same_caller book.session l.seen h l.who legal is.begun begins same in
    record {
      of_book = of_book ∙ is.of_book;
      legal = subst (λ h. IsLegal book.session h) (sym seen) legal;
      begun = (λ i. has_begun (seen i) (who i)) ∙ s.begun;
      lives = (λ i. has_ended (seen i) (who i)) ∙ ap (λ (p : Process). p.ended) s.process ∙ is.lives;
      all = is.all;
      exit = is.exit ∙ sym (exit_agrees l.seen h l.who begins same) ∙ sym (λ i. exit_places (seen i) (who i));
      call = is.call ∙ sym (call_same l.seen h l.who s) ∙ sym (λ i. call_places (seen i) (who i));
    }

pub left_is : (session : Session) (places claimed held left : ℕ) (seen h : List Entry) (who : ℕ) → IsLegal session h → has_begun seen who ≡ true → IsPrefix seen h → AgreeBy who seen h
    → claimed ≡ held_places h → held ≡ call_places seen who → call_places seen who ≡ freed_places seen who → left ≡ places - (length h + claimed) → left + held ≡ left_for places h who
left_is session places claimed held left seen h who legal begun begins same is_held is_call new is_left =
    let s = same_caller session seen h who legal begun begins same in
    let freed = freed_same seen h who s in
    omega (arith, is_held, is_call, new, is_left, freed)

module _ (book : BookId) (total was held own keep : ℕ) (l m : LineState) (h : List Entry) (e : Entry) (is : IsKept book total was held l)
    (legal : IsLegal book.session (h ++ e ∷ [])) (next : MayFollow book.session h e) (begins : IsPrefix l.seen h) (same : AgreeBy e.who l.seen h) (who : l.who ≡ e.who)
    (of_book : m.book ≡ l.book) (whose : m.who ≡ l.who) (seen : m.seen ≡ h ++ e ∷ []) where
  before : IsLegal book.session h
  before = legal-front book.session h e legal

  was_begun : has_begun l.seen e.who ≡ true
  was_begun = ap (λ w. has_begun l.seen w) (sym who) ∙ is.begun

  s : SameCaller l.seen h e.who
  s = same_caller book.session l.seen h e.who before was_begun begins same

  lives : has_ended h e.who ≡ false
  lives = ap (λ (p : Process). p.ended) s.process ∙ ap (λ w. has_ended l.seen w) (sym who) ∙ is.lives

  exit_was : exit_places h e.who ≡ was
  exit_was = exit_agrees l.seen h e.who begins same ∙ ap (λ w. exit_places l.seen w) (sym who) ∙ sym is.exit

  call_was : call_places h e.who ≡ held
  call_was = call_same l.seen h e.who s ∙ ap (λ w. call_places l.seen w) (sym who) ∙ sym is.call

  module _ (kept : keep ≡ keeps l.seen e) (left : own + exit_step e.call ≡ was) (goes : ¬ (e.act ≡ act.Finish)) (unborn : (out : ℕ) (descriptors : Held) → ¬ (e.act ≡ act.Born out descriptors)) where
    law : (held_places (h ++ e ∷ []) + (exit_places h e.who + call_places h e.who) ≡ held_places h + (own + keeps h e)) × (exit_places (h ++ e ∷ []) e.who ≡ own)
    law = living_law book.session h e before next s.begun lives goes unborn own (left ∙ sym exit_was)

    pub entered_kept : IsKept book (own + keep) own keep m
    entered_kept = record {
      of_book = of_book ∙ is.of_book;
      legal = subst (λ h. IsLegal book.session h) (sym seen) legal;
      begun = (λ i. has_begun (seen i) ((whose ∙ who) i)) ∙ begun_more h e e.who s.begun;
      lives = (λ i. has_ended (seen i) ((whose ∙ who) i)) ∙ lives_on book.session h e before next goes lives;
      all = refl;
      exit = sym ((λ i. exit_places (seen i) ((whose ∙ who) i)) ∙ law.1);
      call = kept ∙ sym (keeps_same l.seen h e s) ∙ sym (call_next book.session h e before next) ∙ sym (λ i. call_places (seen i) ((whose ∙ who) i));
    }

    pub entered_held : (claimed fitted after : ℕ) → claimed ≡ held_places h → fitted + total ≡ claimed + (own + keep + 1) → after ≡ fitted - 1 → after ≡ held_places (h ++ e ∷ [])
    entered_held claimed fitted after is_held is_fitted is_after =
        let k = kept ∙ sym (keeps_same l.seen h e s) in
        let a = law.0 in
        let all = is.all in
        omega (arith, is_held, is_fitted, is_after, k, a, all, call_was, exit_was)

  pub own_held : was + held ≤ held_places h
  own_held = let low = held_enough book.session h e before next s.begun lives in omega (arith, low, exit_was, call_was)

  -- its end
  pub ended_held : e.act ≡ act.Finish → e.what ≡ e.who → is_fault e.reply ≡ false
      → (claimed fitted after : ℕ) → claimed ≡ held_places h → fitted + total ≡ claimed + was → after + was ≡ fitted → after ≡ held_places (h ++ e ∷ [])
  ended_held finish its done claimed fitted after is_held is_fitted is_after =
      let a = ended_law book.session h e before next s.begun lives finish its done in
      let all = is.all in
      omega (arith, is_held, is_fitted, is_after, a, all, call_was, exit_was)

  -- a child's beginning
  module _ (kept : keep ≡ keeps l.seen e) (out : ℕ) (descriptors : Held) (born : e.act ≡ act.Born out descriptors) (other : is_exit e.call ≡ false) where
    birth : (held_places (h ++ e ∷ []) + call_places h e.who ≡ held_places h + keeps h e + 65) × (exit_places (h ++ e ∷ []) e.who ≡ exit_places h e.who)
    birth = born_law book.session h e before next out descriptors born s.begun lives other

    no_end : ¬ (e.act ≡ act.Finish)
    no_end f = unlike (sym born ∙ f)
      where
        unlike : ◌≡◌ {A = Act} (act.Born out descriptors) act.Finish → ⊥
        unlike e = absurd (cc)

    pub parent_kept : IsKept book (was + keep) was keep m
    parent_kept = record {
      of_book = of_book ∙ is.of_book;
      legal = subst (λ h. IsLegal book.session h) (sym seen) legal;
      begun = (λ i. has_begun (seen i) ((whose ∙ who) i)) ∙ begun_more h e e.who s.begun;
      lives = (λ i. has_ended (seen i) ((whose ∙ who) i)) ∙ lives_on book.session h e before next no_end lives;
      all = refl;
      exit = sym ((λ i. exit_places (seen i) ((whose ∙ who) i)) ∙ birth.1 ∙ exit_was);
      call = kept ∙ sym (keeps_same l.seen h e s) ∙ sym (call_next book.session h e before next) ∙ sym (λ i. call_places (seen i) ((whose ∙ who) i));
    }

    pub child_kept : (k : LineState) → k.book ≡ book → k.who ≡ e.what → k.seen ≡ h ++ e ∷ [] → IsKept book 65 65 0 k
    child_kept k its_book its_who its_seen = record {
      of_book = its_book;
      legal = subst (λ h. IsLegal book.session h) (sym its_seen) legal;
      begun = (λ i. has_begun (its_seen i) (its_who i)) ∙ child_begun book.session h e before next out descriptors born s.begun lives;
      lives = (λ i. has_ended (its_seen i) (its_who i)) ∙ child_lives book.session h e before next out descriptors born s.begun lives;
      all = refl;
      exit = sym ((λ i. exit_places (its_seen i) (its_who i)) ∙ child_exit book.session h e before next out descriptors born s.begun lives);
      call = sym ((λ i. call_places (its_seen i) (its_who i)) ∙ child_call book.session h e before next out descriptors born s.begun lives);
    }

    pub born_held : (claimed fitted added after : ℕ) → claimed ≡ held_places h → fitted + total ≡ claimed + (was + keep + 1) → added ≡ fitted - 1 → after ≡ added + 65 → after ≡ held_places (h ++ e ∷ [])
    born_held claimed fitted added after is_held is_fitted is_added is_after =
        let k = kept ∙ sym (keeps_same l.seen h e s) in
        let a = birth.0 in
        let all = is.all in
        let low = held_enough book.session h e before next s.begun lives in
        omega (arith, is_held, is_fitted, is_added, is_after, k, a, all, call_was, exit_was, low)
