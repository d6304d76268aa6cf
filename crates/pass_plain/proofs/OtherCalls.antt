-- What a longer history leaves of a call of which the new entry is none, and what a call's last entry says of it.
use Rattle.std.proofs.Common.{◌≡◌, ◌≤◌, ◌+◌, ◌-◌, ◌==◌, ℕ, suc, List, [], ◌∷◌, ◌++◌, length, refl, ap, sym, ◌∙◌, arith, Bool, true, false, not, ◌&&◌, ◌||◌, cond, append_assoc, append-nil, length-append}
use Rattle.std.specs.Prelude.{Some, fold, slice_get, if◌then◌else◌}
use Rattle.std.specs.Option.{option_map_or}
use Rattle.std.specs.List.{list_any, before_first}
use Rattle.std.proofs.lemmas.Bool.Decides.{nat_tests}
use Rattle.pass_entry.specs.declared.entry.Entry.{Entry}
use Rattle.pass_entry.specs.declared.entry.Act.{Act}
use Rattle.pass_entry.specs.declared.entry.Act.TheVariants as act
use Rattle.pass_entry.specs.declared.entry.CallName.{CallName}
use Rattle.pass_entry.specs.declared.entry.CallName.TheVariants as call
use Rattle.pass_entry.proofs.Places.{any_more, slice_get-last}
use Rattle.pass_plain.specs.Histories.{is_of_call, call_entries}
use Rattle.pass_plain.specs.Processes.{Process, process_act, process_after}
use Rattle.pass_plain.specs.Calls.{Made, is_last}
use Rattle.pass_plain.specs.Lawful.{most_steps}
use Rattle.pass_plain.specs.Legal.{before_call, ends_call, goes_on, is_over, is_start, last_number}
use Rattle.pass_plain.proofs.Lists.{any_of, not_true, same_itself, same_numbers, true_left}
use Rattle.pass_plain.proofs.Calling.{call_entries-append}
use Rattle.pass_plain.proofs.LastCalls.{before_kept}
use Rattle.pass_plain.proofs.Playing.{no_calls}

-- what stands before the first element that passes is the same in a longer list
pub before_more : {X : Type 0} (p : X → Bool) (xs ys : List X) → list_any p xs ≡ true → before_first p (xs ++ ys) ≡ before_first p xs
before_more p xs [] is = ap (before_first p) (append-nil xs)
before_more p xs (y ∷ ys) is =
    ap (before_first p) (sym (append_assoc xs (y ∷ []) ys)) ∙ before_more p (xs ++ y ∷ []) ys (any_more p xs (y ∷ []) is) ∙ before_kept p xs y is

pub other_entries : (history : List Entry) (e : Entry) (who number : ℕ) → is_of_call who number e ≡ false → call_entries (history ++ e ∷ []) who number ≡ call_entries history who number
other_entries history e who number other =
    call_entries-append history e who number ∙ ap (λ b. call_entries history who number ++ cond b ((length history, e) ∷ []) []) other ∙ append-nil (call_entries history who number)

pub other_over : (history : List Entry) (e : Entry) (who number : ℕ) → is_of_call who number e ≡ false → is_over (history ++ e ∷ []) who number ≡ is_over history who number
other_over history e who number other = by_test (list_any (is_of_call who number) history) refl
  where
    same_calls : call_entries (history ++ e ∷ []) who number ≡ call_entries history who number
    same_calls = other_entries history e who number other

    by_test : (b : Bool) → list_any (is_of_call who number) history ≡ b → is_over (history ++ e ∷ []) who number ≡ is_over history who number
    by_test true is =
        ap (λ h. ends_call (process_after h who) (call_entries (history ++ e ∷ []) who number)) (before_kept (is_of_call who number) history e is)
        ∙ ap (ends_call (before_call history who number)) same_calls
    by_test false is =
        let none : call_entries history who number ≡ [] = no_calls history who number (λ i f at by its.
        let hit : is_of_call who number f ≡ true = ap (λ b. b && f.number == number) (ap (λ n. n == who) by ∙ same_itself who) ∙ (ap (λ n. n == number) its ∙ same_itself number) in
        let z : true ≡ false = sym (any_of (is_of_call who number) history i f at hit) ∙ is in cc) in
        ap (ends_call (before_call (history ++ e ∷ []) who number)) (same_calls ∙ none) ∙ sym (ap (ends_call (before_call history who number)) none)

pub ends_last : (p : Process) (made : Made) (m : ℕ × Entry) → ends_call p (made ++ m ∷ []) ≡ is_last p m.1
ends_last p made m =
    let longer = length-append made (m ∷ []) in
    ap (λ k. option_map_or (λ (s : ℕ × Entry). is_last p s.1) (slice_get (made ++ m ∷ []) k) false) (let z : length (made ++ m ∷ []) - 1 ≡ length made = omega (arith, longer) in z)
    ∙ ap (λ o. option_map_or (λ (s : ℕ × Entry). is_last p s.1) o false) (slice_get-last made m)

-- who has made no entry has no number
pub last_none : (history : List Entry) (who : ℕ) → ((i : ℕ) (f : Entry) → slice_get history i ≡ Some f → f.who ≡ who → ⊥) → last_number history who ≡ 0
last_none history who never = from history 0 never
  where
    kept : (n : ℕ) (e : Entry) (b : Bool) → (e.who == who) ≡ b → (e.who ≡ who → ⊥) → cond b e.number n ≡ n
    kept n e true is never = absurd (never (same_numbers e.who who is))
    kept n e false is never = refl

    from : (es : List Entry) (n : ℕ) → ((i : ℕ) (f : Entry) → slice_get es i ≡ Some f → f.who ≡ who → ⊥) → fold (λ n (e : Entry). if e.who == who then e.number else n) n es ≡ n
    from [] n never = refl
    from (e ∷ es) n never =
        ap (λ m. fold (λ n (e : Entry). if e.who == who then e.number else n) m es) (kept n e (e.who == who) refl (λ by. never 0 e refl by))
        ∙ from es n (λ i f at by. never (suc i) f at by)

-- the number of a call that goes on is at least 1
pub goes_some : (number last : ℕ) (over left : Bool) → goes_on number last over left ≡ true → 1 ≤ number
goes_some number last over left on = by_test (number == last) refl on
  where
    by_test : (b : Bool) → (number == last) ≡ b → cond b (not (last == 0) && not over) (number == last + 1 && (last == 0 || over || left)) ≡ true → 1 ≤ number
    by_test true t on =
        let some : (last == 0) ≡ false = not_true (last == 0) (true_left (not (last == 0)) (not over) on) in grind (arith, nat_tests)
    by_test false t on = let same = same_numbers number (last + 1) (true_left _ _ on) in omega (arith, same)

pub start_named : (name : CallName) → is_start name ≡ true → name ≡ call.Start
start_named call.Start is = refl
start_named _ is = absurd (cc)

pub ended_act : (past : List Entry) (p : Process) (a : Act) → p.ended ≡ true → (process_act past p a).ended ≡ true
ended_act past p act.Finish was = refl
ended_act past p _ was = was

pub most_is : (name : CallName) → most_steps name ≤ 67
most_is call.Fork = omega arith
most_is call.Exit = omega arith
most_is _ = omega arith
