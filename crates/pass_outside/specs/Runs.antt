-- How runs of device calls are put together. A property of every image since a call is carried on by these.
use Rattle.std.specs.Prelude.{◌≡◌, ℕ, ◌≤◌, Result, Ok, Err, IsOk, IsErr}
use Rattle.std.proofs.Common.{inl, inr, ⊎_elim, arith, subst, sym, refl, ◌∙◌}
use Rattle.pass_outside.specs.Areas.{Image}
use Rattle.pass_outside.specs.Faults.{HasRisen, HasStayed}
use Rattle.pass_outside.specs.Moments.{Moment, Adds, IsDeviceCall, IsDeviceRun, AfterStep, Follows}

-- a count that stayed didn't rise
pub not_both : (old new : ℕ) → HasStayed old new → HasRisen old new → ⊥
not_both old new stayed risen = ⊎_elim (λ more. omega (arith, more, stayed.0)) (λ stood. stayed.1 stood.0) risen

-- no call adds nothing
pub adds_nothing : (old : Moment) (P : Image → Type 0) → Adds old old P
adds_nothing old P = record { later = omega arith; nothing_else = λ t c le left. inl left }

-- one run after another
pub adds_both : {P Q : Image → Type 0} (R : Image → Type 0) (old mid new : Moment) → Adds old mid P → Adds mid new Q
    → ((c : Image) → P c → R c) → ((c : Image) → Q c → R c) → Adds old new R
adds_both {P} {Q} R old mid new first then p q = record {
  later = omega (arith, first.later, then.later);
  nothing_else = λ t c le left. ⊎_elim
      (λ before. ⊎_elim inl (λ x. inr (p c x)) (first.nothing_else t c le before))
      (λ x. inr (q c x))
      (then.nothing_else t c (omega (arith, le, first.later)) left);
}

-- a weaker property
pub adds_weaker : {P : Image → Type 0} (R : Image → Type 0) (old new : Moment) → Adds old new P → ((c : Image) → P c → R c) → Adds old new R
adds_weaker {P} R old new run p = record {
  later = run.later;
  nothing_else = λ t c le left. ⊎_elim inl (λ x. inr (p c x)) (run.nothing_else t c le left);
}

-- what holds of every image since a call, and of all that a run adds, holds of every image since that call after the run
pub since_kept : {P : Image → Type 0} (R : Image → Type 0) (old new : Moment) (t : ℕ) → Adds old new P → t ≤ old.calls
    → ((c : Image) → old.left_since t c → R c) → ((c : Image) → P c → R c) → (c : Image) → new.left_since t c → R c
since_kept {P} R old new t run le before added c left = ⊎_elim (before c) (added c) (run.nothing_else t c le left)

-- a run that ends at its first call
pub run_failed : {T E U F : Type 0} {old new : Moment} (P : Image → Type 0) (r : Result T E) (e : E) (s : Result U F)
    → IsDeviceCall old new r → r ≡ Err e → IsErr s → ((c : Image) → new.may_leave c → P c) → IsDeviceRun old new s P
run_failed {T} {E} {U} {F} {old} {new} P r e (Ok x) call is h p = absurd (cc h)
run_failed {T} {E} {U} {F} {old} {new} P r e (Err x) call is h p =
    let failed : IsErr r = subst IsErr (sym is) refl in
    record {
      tells = call.tells;
      rises = call.rises;
      ok = λ fine. absurd (cc fine);
      err = λ _. ⊎_elim inl (λ stood. inr (⊎_elim (λ a. inl (omega (arith, a, stood.1))) (λ b. inr (omega (arith, b, stood.2))) stood.0)) (call.err failed);
      adds = adds_weaker P old new call.adds p;
    }

-- a run of two calls
pub run_two : {T E U F : Type 0} {old mid new : Moment} (P : Image → Type 0) (r : Result T E) (x : T) (s : Result U F)
    → IsDeviceCall old mid r → r ≡ Ok x → IsDeviceCall mid new s → ((c : Image) → mid.may_leave c → P c) → ((c : Image) → new.may_leave c → P c) → IsDeviceRun old new s P
run_two {T} {E} {U} {F} {old} {mid} {new} P r x s first is then p q =
    let went : IsOk r = subst IsOk (sym is) refl in
    let same = (first.ok went).0 in
    record {
      tells = then.tells ∙ first.tells;
      rises = omega (arith, first.rises, then.rises);
      ok = λ h. ((then.ok h).0 ∙ same, (first.ok went).1);
      err = λ h. ⊎_elim (λ more. inl (omega (arith, more, same))) (λ stood. inr (⊎_elim (λ a. inl (omega (arith, a, stood.1))) (λ b. inr (omega (arith, b, stood.2))) stood.0)) (then.err h);
      adds = adds_both P old mid new first.adds then.adds p q;
    }

-- one step after another
pub follows_both : (step : Image → Image → Type 0) (old mid new : Moment) → ((a b c : Image) → step a b → step b c → step a c)
    → Follows step old mid → Follows step mid new → Follows step old new
follows_both step old mid new chain first then = λ c may.
    let m = then c may in
    let o = first m.0 m.1 in
    (o.0, o.1, chain o.0 m.0 c o.2 m.2)

-- a weaker step
pub follows_weaker : (step weak : Image → Image → Type 0) (old new : Moment) → ((a b : Image) → step a b → weak a b) → Follows step old new → Follows weak old new
follows_weaker step weak old new h run = λ c may. let o = run c may in (o.0, o.1, h o.0 c o.2)

-- what a second run adds to a first one, step after step
pub adds_steps : (step : Image → Image → Type 0) (old mid new : Moment) → ((a b c : Image) → step a b → step b c → step a c)
    → Follows step old mid → Adds old mid (AfterStep step old) → Adds mid new (AfterStep step mid) → Adds old new (AfterStep step old)
adds_steps step old mid new chain follows first then = adds_both (AfterStep step old) old mid new first then (λ c x. x)
    (λ c x. let o = follows x.0 x.1 in (o.0, o.1, chain o.0 x.0 c o.2 x.2))
