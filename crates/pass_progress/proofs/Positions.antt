-- Where the entries of one call stand in a longer history.
use Rattle.std.proofs.Common.{◌≡◌, ◌≢◌, ◌≤◌, ◌+◌, ℕ, suc, List, [], ◌∷◌, ◌++◌, length, map, take, refl, ap, sym, ◌∙◌, subst, arith, Bool, true, false, ◌==◌, cond, append_assoc, length-append}
use Rattle.std.specs.Prelude.{Some, slice_get, if◌then◌else◌}
use Rattle.std.specs.List.{list_any}
use Rattle.std.proofs.lemmas.List.{append-nil, length-map, map-append, take-take}
use Rattle.std.proofs.Math.Seq.{take-append_seam}
use mathlib.Core.List.{IsPrefix}
use Rattle.pass_entry.specs.declared.entry.Entry.{Entry}
use Rattle.pass_plain.specs.declared.request.Request.{Request}
use Rattle.pass_plain.specs.CallLaws.{IsBegun}
use Rattle.pass_plain.specs.Calls.{Made, call_steps}
use Rattle.pass_plain.specs.Histories.{is_of_call, call_entries}
use Rattle.pass_plain.specs.Legal.{before_call, is_over, last_number, step_of}
use Rattle.pass_plain.specs.Processes.{Process, process_after}
use Rattle.pass_plain.specs.Runs.{next_number}
use Rattle.pass_plain.proofs.Calling.{call_entries-append, last_number-append, step_next}
use Rattle.pass_plain.proofs.Going.{steps_stay}
use Rattle.pass_plain.proofs.Lists.{or_false, same_numbers}
use Rattle.pass_plain.proofs.OtherCalls.{before_more, other_entries}
use Rattle.pass_book.proofs.Prefixes.{prefix_self}

-- of the entries of a call the first ones are those in a beginning of the history
pub calls_begin : (xs ys : List Entry) (who number : ℕ) → IsPrefix (call_entries xs who number) (call_entries (xs ++ ys) who number)
calls_begin xs [] who number = subst (λ h. IsPrefix (call_entries xs who number) (call_entries h who number)) (sym (append-nil xs)) (prefix_self (call_entries xs who number))
calls_begin xs (e ∷ ys) who number =
    let more : Made = cond (is_of_call who number e) ((length xs, e) ∷ []) [] in
    let (rest, whole) = calls_begin (xs ++ e ∷ []) ys who number in (
      more ++ rest,
      sym (append_assoc (call_entries xs who number) more rest) ∙ ap (λ m. m ++ rest) (sym (call_entries-append xs e who number)) ∙ whole
          ∙ ap (λ h. call_entries h who number) (append_assoc xs (e ∷ []) ys),
    )

-- where none of them stands later, they are the same
pub calls_same : (xs ys : List Entry) (who number : ℕ) → list_any (is_of_call who number) ys ≡ false → call_entries (xs ++ ys) who number ≡ call_entries xs who number
calls_same xs [] who number none = ap (λ h. call_entries h who number) (append-nil xs)
calls_same xs (e ∷ ys) who number none =
    let (head, rest) = or_false (is_of_call who number e) (list_any (is_of_call who number) ys) none in
    ap (λ h. call_entries h who number) (sym (append_assoc xs (e ∷ []) ys)) ∙ calls_same (xs ++ e ∷ []) ys who number rest ∙ other_entries xs e who number head

pub before_same : (xs ys : List Entry) (who number : ℕ) → list_any (is_of_call who number) xs ≡ true → before_call (xs ++ ys) who number ≡ before_call xs who number
before_same xs ys who number any = ap (λ h. process_after h who) (before_more (is_of_call who number) xs ys any)

-- the number of a process's last call is no more than that of its later entries
pub last_at_most : (xs ys : List Entry) (who number : ℕ) → last_number xs who ≤ number → ((i : ℕ) (f : Entry) → slice_get ys i ≡ Some f → f.who ≡ who → f.number ≡ number)
    → last_number (xs ++ ys) who ≤ number
last_at_most xs [] who number low all = subst (λ h. last_number h who ≤ number) (sym (append-nil xs)) low
last_at_most xs (e ∷ ys) who number low all =
    subst (λ h. last_number h who ≤ number) (append_assoc xs (e ∷ []) ys)
    (last_at_most (xs ++ e ∷ []) ys who number (at_who (e.who == who) refl) (λ i f at by. all (suc i) f at by))
  where
    at_who : (b : Bool) → (e.who == who) ≡ b → last_number (xs ++ e ∷ []) who ≤ number
    at_who true t =
        let is : last_number (xs ++ e ∷ []) who ≡ e.number = last_number-append xs e who ∙ ap (λ b. if b then e.number else last_number xs who) t in
        let own = all 0 e refl (same_numbers e.who who t) in omega (arith, is, own)
    at_who false t =
        let is : last_number (xs ++ e ∷ []) who ≡ last_number xs who = last_number-append xs e who ∙ ap (λ b. if b then e.number else last_number xs who) t in
        omega (arith, is, low)

-- what was made is made of steps, up to the last one
up_to : (who : ℕ) (p : Process) (made : Made) (m : ℕ × Entry) (r : Request) → IsBegun who p (made ++ m ∷ []) r
    → take (length made + 1) (call_steps who p made r) ≡ map step_of made ++ step_of m ∷ []
up_to who p made m r begun =
    sym (steps_stay who p made m r)
    ∙ ap (λ n. take n (call_steps who p (made ++ m ∷ []) r)) (let z : length made + 1 ≡ length (made ++ m ∷ []) = omega (arith, length-append made (m ∷ [])) in z)
    ∙ sym begun ∙ map-append step_of made (m ∷ [])

-- the last entry made is the step behind the others
pub begun_step : (who : ℕ) (p : Process) (made : Made) (m : ℕ × Entry) (r : Request) → IsBegun who p (made ++ m ∷ []) r
    → slice_get (call_steps who p made r) (length made) ≡ Some (step_of m)
begun_step who p made m r begun = step_next who p made (call_steps who p made r) (step_of m) (up_to who p made m r begun)

begun_less : (who : ℕ) (p : Process) (made : Made) (m : ℕ × Entry) (r : Request) → IsBegun who p (made ++ m ∷ []) r → IsBegun who p made r
begun_less who p made m r begun =
    let steps = call_steps who p made r in
    sym (take-append_seam (map step_of made) (step_of m ∷ []))
    ∙ ap (λ n. take n (map step_of made ++ step_of m ∷ [])) (length-map made step_of)
    ∙ ap (take (length made)) (sym (up_to who p made m r begun))
    ∙ take-take (length made) (length made + 1) steps (omega arith)

-- the first ones are first steps
pub begun_front : (who : ℕ) (p : Process) (made more : Made) (r : Request) → IsBegun who p (made ++ more) r → IsBegun who p made r
begun_front who p made [] r begun = subst (λ m. IsBegun who p m r) (append-nil made) begun
begun_front who p made (m ∷ more) r begun =
    begun_less who p made m r (begun_front who p (made ++ m ∷ []) more r (subst (λ m. IsBegun who p m r) (sym (append_assoc made (m ∷ []) more)) begun))

-- a number that is not 0
pub not_zero : (n : ℕ) → n ≢ 0 → (n == 0) ≡ false
not_zero n some = at_test (n == 0) refl
  where
    at_test : (b : Bool) → (n == 0) ≡ b → (n == 0) ≡ false
    at_test true t = absurd (some (same_numbers n 0 t))
    at_test false t = t

-- a process whose last call is not over is in it
pub next_of_last : (history : List Entry) (who number : ℕ) → number ≡ last_number history who → number ≢ 0 → is_over history who (last_number history who) ≡ false → next_number history who ≡ number
next_of_last history who number at some goes =
    let last = last_number history who in
    ap (λ b. if b then 1 else if is_over history who last then last + 1 else last) (not_zero last (λ none. some (at ∙ none)))
    ∙ ap (λ b. if b then last + 1 else last) goes ∙ sym at

-- behind a call that is over the next one has the next number
pub next_of_over : (history : List Entry) (who number : ℕ) → last_number history who ≡ number → number ≢ 0 → is_over history who number ≡ true → next_number history who ≡ number + 1
next_of_over history who number at some over =
    ap (λ n. if n == 0 then 1 else if is_over history who n then n + 1 else n) at
    ∙ ap (λ b. if b then 1 else if is_over history who number then number + 1 else number) (not_zero number some)
    ∙ ap (λ b. if b then number + 1 else number) over
