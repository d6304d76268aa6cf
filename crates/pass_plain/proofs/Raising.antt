-- A list whose ceiling is raised.
use Rattle.std.proofs.Common.{ℕ, zero, suc, ◌≡◌, ◌≤◌, ◌<◌, ◌+◌, ◌-◌, ◌*◌, ◌^◌, ◌||◌, true, false, inl, inr, refl, sym, ap, ◌∙◌, subst, List, [], ◌∷◌, ◌++◌, length, length-append, arith, append_assoc}
use Rattle.std.specs.Prelude.{None, nat_le, nat_lt, Contains}
use Rattle.std.proofs.lemmas.List.{append-nil}
use Rattle.std.specs.List.{All}
use Rattle.std.proofs.lemmas.List.Elements.{All-cons, Contains-push_cases}
use Rattle.std.proofs.lemmas.List.Sums.{fold-append}
use Rattle.std.proofs.lemmas.Bool.Decides.{nat_tests}
use Rattle.pass_entry.specs.Ranges.{is_number, IsInRange}
use Rattle.pass_entry.specs.declared.record.Record.{Record}
use Rattle.pass_entry.specs.declared.record.Record.TheVariants as log
use Rattle.pass_entry.specs.declared.record.FlawReason.TheVariants as flaw
use Rattle.pass_plain.specs.WellLogged.{ceiling_look, ceiling_of, flaw_if, flaw_of}
use Rattle.pass_plain.specs.Ceilings.{ceiling_step, steps_from, steps_below, ceilings_between, raised, RaisedLaw, OneCeilingLaw, FewCeilingsLaw, CeilingRangeLaw}
use Rattle.pass_plain.proofs.Flaws.{AreFine, fine_cons, fine_one, fine-append}

-- what one ceiling more leaves, all of them leave
over_steps : (P : List Record → Type 0) → ((list : List Record) (c : ℕ) → P list → P (list ++ log.Ceiling c ∷ [])) → (n from : ℕ) (list : List Record) → P list → P (list ++ steps_from n from)
over_steps P next zero from list was = subst P (sym (append-nil list)) was
over_steps P next (suc n) from list was =
    subst P (append_assoc list (log.Ceiling (from + ceiling_step) ∷ []) (steps_from n (from + ceiling_step)))
    (over_steps P next n (from + ceiling_step) (list ++ log.Ceiling (from + ceiling_step) ∷ []) (next list (from + ceiling_step) was))

abbrev stepped : List Record → ℕ → List Record
stepped before ceiling = before ++ steps_from (steps_below (ceiling_of before) ceiling) (ceiling_of before)

raised-is : (before : List Record) (ceiling : ℕ) → stepped before ceiling ++ log.Ceiling ceiling ∷ [] ≡ raised before ceiling
unfolding ceilings_between
raised-is before ceiling = append_assoc before (steps_from (steps_below (ceiling_of before) ceiling) (ceiling_of before)) (log.Ceiling ceiling ∷ [])

pub over_ceilings : (P : List Record → Type 0) → ((list : List Record) (c : ℕ) → P list → P (list ++ log.Ceiling c ∷ [])) → (before : List Record) (ceiling : ℕ) → P before → P (raised before ceiling)
over_ceilings P next before ceiling was =
    subst P (raised-is before ceiling) (next (stepped before ceiling) ceiling (over_steps P next (steps_below (ceiling_of before) ceiling) (ceiling_of before) before was))

last_ceiling : (list : List Record) (c : ℕ) → ceiling_of (list ++ log.Ceiling c ∷ []) ≡ c
last_ceiling list c = fold-append ceiling_look 0 list (log.Ceiling c ∷ [])

pub raised_to : (before : List Record) (ceiling : ℕ) → ceiling_of (raised before ceiling) ≡ ceiling
raised_to before ceiling = ap ceiling_of (sym (raised-is before ceiling)) ∙ last_ceiling (stepped before ceiling) ceiling

-- a record that is no ceiling stands before them
pub raised_only : (before : List Record) (ceiling : ℕ) (r : Record) → ((c : ℕ) → log.Ceiling c ≡ r → ⊥) → Contains (raised before ceiling) r → Contains before r
raised_only before ceiling r other =
    over_ceilings (λ list. Contains list r → Contains before r)
    (λ list c keeps h. elim (Contains-push_cases list (log.Ceiling c) r h) [ inl there ↦ keeps there | inr same ↦ absurd (other c same) ]) before ceiling (λ h. h)

-- no record has a flaw
step_fine : (list : List Record) (c : ℕ) → ceiling_of list < c → c ≤ ceiling_of list + ceiling_step → flaw_of list (log.Ceiling c) ≡ None
step_fine list c low high =
    ap (λ b. flaw_if b flaw.Ceiling None) (ap (λ b. b || nat_lt (ceiling_of list + 8192) c) (above c (ceiling_of list) low) ∙ within (ceiling_of list + 8192) c high)
  where
    above : (a b : ℕ) → b < a → nat_le a b ≡ false
    above a b lt = grind (arith, nat_tests)

    within : (a b : ℕ) → b ≤ a → nat_lt a b ≡ false
    within a b le = grind (arith, nat_tests)

steps_fine : (n from : ℕ) (list : List Record) → ceiling_of list ≡ from → AreFine list (steps_from n from) × (ceiling_of (list ++ steps_from n from) ≡ from + n * ceiling_step)
steps_fine zero from list is = (refl, (let same = ap ceiling_of (append-nil list) in omega (arith, same, is)))
steps_fine (suc n) from list is =
    let (fine, last) = steps_fine n (from + ceiling_step) (list ++ log.Ceiling (from + ceiling_step) ∷ []) (last_ceiling list (from + ceiling_step)) in
    let same = ap ceiling_of (append_assoc list (log.Ceiling (from + ceiling_step) ∷ []) (steps_from n (from + ceiling_step))) in (
      fine_cons list (log.Ceiling (from + ceiling_step)) (steps_from n (from + ceiling_step)) (step_fine list (from + ceiling_step) (omega (arith, is)) (omega (arith, is))) fine,
      omega (arith, same, last),
    )

-- where the last step stands
last_step : (from to : ℕ) → from < to → (from + steps_below from to * ceiling_step < to) × (to ≤ from + steps_below from to * ceiling_step + ceiling_step)
last_step from to above = (omega (arith, above), omega (arith, above))

pub raised_law : RaisedLaw
unfolding ceilings_between
raised_law list logged ceiling above =
    let (fine, last) = steps_fine (steps_below (ceiling_of list) ceiling) (ceiling_of list) list refl in
    let (low, high) = last_step (ceiling_of list) ceiling above in
    let end : flaw_of (stepped list ceiling) (log.Ceiling ceiling) ≡ None = step_fine (stepped list ceiling) ceiling (omega (arith, last, low)) (omega (arith, last, high)) in (
      fine-append [] list (ceilings_between (ceiling_of list) ceiling) logged
          (fine-append list (steps_from (steps_below (ceiling_of list) ceiling) (ceiling_of list)) (log.Ceiling ceiling ∷ []) fine (fine_one (stepped list ceiling) (log.Ceiling ceiling) end)),
      raised_to list ceiling,
    )

-- how many there are
length_steps : (n from : ℕ) → length (steps_from n from) ≡ n
length_steps zero from = refl
length_steps (suc n) from = let rest = length_steps n (from + ceiling_step) in omega (arith, rest)

pub length_between : (from to : ℕ) → length (ceilings_between from to) ≡ steps_below from to + 1
unfolding ceilings_between
length_between from to =
    let both = length-append (steps_from (steps_below from to) from) (log.Ceiling to ∷ []) in
    let steps = length_steps (steps_below from to) from in
    omega (arith, both, steps)

pub few_ceilings_law : FewCeilingsLaw
few_ceilings_law from to near = let long = length_between from to in omega (arith, long, near)

pub one_ceiling_law : OneCeilingLaw
unfolding ceilings_between
one_ceiling_law from to near = ap (λ n. steps_from n from ++ log.Ceiling to ∷ []) (let z : steps_below from to ≡ 0 = omega (arith, near) in z)

-- a step and the rest
pub next_ceiling : (from to : ℕ) → from + ceiling_step < to → ceilings_between from to ≡ log.Ceiling (from + ceiling_step) ∷ ceilings_between (from + ceiling_step) to
unfolding ceilings_between
next_ceiling from to far = ap (λ n. steps_from n from ++ log.Ceiling to ∷ []) (let z : steps_below from to ≡ suc (steps_below (from + ceiling_step) to) = omega (arith, far) in z)

-- each has bytes in the log
number_is : (n : ℕ) → 1 ≤ n → n < 2 ^ 48 → is_number n ≡ true
number_is n low high = grind (arith, nat_tests)

steps_range : (n from to : ℕ) → from + n * ceiling_step < to → to < 2 ^ 48 → All IsInRange (steps_from n from ++ log.Ceiling to ∷ [])
steps_range zero from to low small = All-cons IsInRange (log.Ceiling to) [] (number_is to (omega (arith, low)) small) (λ i d less. absurd (omega (arith, less)))
steps_range (suc n) from to low small =
    All-cons IsInRange (log.Ceiling (from + ceiling_step)) (steps_from n (from + ceiling_step) ++ log.Ceiling to ∷ [])
    (number_is (from + ceiling_step) (omega arith) (omega (arith, low, small))) (steps_range n (from + ceiling_step) to (omega (arith, low)) small)

pub ceiling_range_law : CeilingRangeLaw
unfolding ceilings_between
ceiling_range_law from to above small = steps_range (steps_below from to) from to (last_step from to above).0 small
