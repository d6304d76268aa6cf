-- What calls on a vault under its lock leave, one after another.
use Rattle.std.proofs.Common.{◌≡◌, ◌∙◌, ℕ, refl, sym, ap, subst, arith}
use Rattle.std.specs.Prelude.{Option, Some, None, Result, Ok, Err}
use Rattle.pass_outside.specs.Moments.{Moment}
use Rattle.pass_safe.specs.Safes.{IsLost, IsLostBy, Leaves, SafeView, lost_in}
use Rattle.pass_safe.specs.declared.fault.Lost.{Lost}
use Rattle.pass_safe.specs.declared.fault.SafeFault.{SafeFault}
use Rattle.pass_safe.specs.declared.fault.SafeFault.TheVariants.{DiskFault, NoMemory}
use Rattle.pass_entry.proofs.Variants.{err_inside, ok_not_err}
use Rattle.pass_entry.proofs.Lists.{some_is}
use Rattle.pass_vault.proofs.Putting.{goes_more}

-- the same fault as another call's answer
same_err : {A B E : Type 0} (e f : E) → ◌≡◌ {A = Result A E} (Err e) (Err f) → ◌≡◌ {A = Result B E} (Err e) (Err f)
same_err {A} {B} {E} e f is = ap (λ (x : E). Err x) (err_inside e f is)

fault_inside : (a b o n : ℕ) → DiskFault a b ≡ DiskFault o n → (a ≡ o) × (b ≡ n)
fault_inside a b o n is = (cc, cc)

no_fault : (o n : ℕ) → NoMemory ≡ DiskFault o n → ⊥
no_fault o n is = absurd (cc)

module _ {D : Type 0} (view : D → Moment) where
  -- a vault that is lost isn't asked
  pub leaves_lost : {A : Type 0} (s : SafeView D) (f : SafeFault) → IsLostBy view s f → Leaves {T = A} view s s (Err f)
  leaves_lost {A} s f by = record {
    fault = λ healthy. absurd (let z = sym healthy ∙ by.has in cc);
    lost = λ m has. let same : by.l ≡ m = some_is by.l m (sym by.has ∙ has) in (ap (λ (f : SafeFault). Err f) by.fault ∙ (λ i. Err (DiskFault (same i).opened (same i).found)), refl);
    failed = λ opened found err.
        let same = fault_inside by.l.opened by.l.found opened found (sym by.fault ∙ err_inside f (DiskFault opened found) err) in
        subst (λ (l : Lost). IsLost (view s.vault.disk) s.vault.opened l) (λ i. record { opened = same.0 i; found = same.1 i }) by.lost;
    goes_on = (refl, omega arith, omega arith, λ ended. ended);
  }

  module _ {A B : Type 0} (old new : SafeView D) (r : Result A SafeFault) (l : Leaves view old new r) where
    -- the answer is another call's, which failed
    pub leaves_err : (e : SafeFault) → r ≡ Err e → Leaves {T = B} view old new (Err e)
    leaves_err e is = record {
      fault = λ healthy. l.fault healthy ∙ ap (λ (r : Result A SafeFault). lost_in r) is;
      lost = λ x has. let a = l.lost x has in (same_err e (DiskFault x.opened x.found) (sym is ∙ a.0), a.1);
      failed = λ opened found err. l.failed opened found (is ∙ same_err e (DiskFault opened found) err);
      goes_on = l.goes_on;
    }

    -- which did not fail
    pub leaves_ok : (x : A) → r ≡ Ok x → (y : B) → Leaves {T = B} view old new (Ok y)
    leaves_ok x is y = record {
      fault = λ healthy. l.fault healthy ∙ ap (λ (r : Result A SafeFault). lost_in r) is;
      lost = λ m has. absurd (ok_not_err x (DiskFault m.opened m.found) (sym is ∙ (l.lost m has).0));
      failed = λ opened found err. absurd (ok_not_err y (DiskFault opened found) err);
      goes_on = l.goes_on;
    }

    -- and then memory is refused
    pub leaves_short : (x : A) → r ≡ Ok x → Leaves {T = B} view old new (Err NoMemory)
    leaves_short x is = record {
      fault = λ healthy. l.fault healthy ∙ ap (λ (r : Result A SafeFault). lost_in r) is;
      lost = λ m has. absurd (ok_not_err x (DiskFault m.opened m.found) (sym is ∙ (l.lost m has).0));
      failed = λ opened found err. absurd (no_fault opened found (err_inside NoMemory (DiskFault opened found) err));
      goes_on = l.goes_on;
    }

  -- after one that did not fail, no vault is lost
  pub healthy_after : {A : Type 0} (old new : SafeView D) (r : Result A SafeFault) → Leaves view old new r → (x : A) → r ≡ Ok x → new.lost ≡ None
  healthy_after {A} old new r l x is = by_lost old.lost refl
    where
      by_lost : (o : Option Lost) → old.lost ≡ o → new.lost ≡ None
      by_lost None has = l.fault has ∙ ap (λ (r : Result A SafeFault). lost_in r) is
      by_lost (Some m) has = absurd (ok_not_err x (DiskFault m.opened m.found) (sym is ∙ (l.lost m has).0))

  -- another call after one that did not fail
  pub leaves_then : {A B : Type 0} (old mid new : SafeView D) (r : Result A SafeFault) (s : Result B SafeFault) (x : A) → r ≡ Ok x → Leaves view old mid r → mid.vault.opened ≡ old.vault.opened
      → Leaves view mid new s → Leaves view old new s
  leaves_then old mid new r s x is l opened m = record {
    fault = λ healthy. m.fault (l.fault healthy ∙ ap (λ r. lost_in r) is);
    lost = λ y has. absurd (ok_not_err x (DiskFault y.opened y.found) (sym is ∙ (l.lost y has).0));
    failed = λ o n err. subst (λ (p : ℕ). IsLost (view new.vault.disk) p (record { opened = o; found = n })) opened (m.failed o n err);
    goes_on = goes_more (view old.vault.disk) (view mid.vault.disk) (view new.vault.disk) l.goes_on m.goes_on;
  }
