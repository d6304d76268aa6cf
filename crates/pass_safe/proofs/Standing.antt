-- A fault that is answered is one since the opening.
use Rattle.std.proofs.Common.{◌≡◌, ◌∙◌, Bool, ap, refl, subst, sym}
use Rattle.std.specs.Prelude.{IfErr, Option, Result, Ok, Err, Some}
use Rattle.pass_outside.specs.Moments.{Moment}
use Rattle.pass_book.specs.Tokens.{BookId}
use Rattle.pass_vault.specs.Vaulted.{Vaulted}
use Rattle.pass_safe.specs.Grounds.{Ground}
use Rattle.pass_safe.specs.Safes.{IsFaultSince, IsLost, IsSafe, Stands, lost_in}
use Rattle.pass_safe.specs.declared.fault.Lost.{Lost}
use Rattle.pass_safe.specs.declared.fault.SafeFault.{SafeFault}
use Rattle.pass_safe.specs.declared.fault.SafeFault.TheVariants.{DiskFault, NoMemory}

-- that of a vault which is lost
pub lost_since : {D : Type 0} (book : BookId) (laid : Ground) (tells : Bool) (view : D → Moment) (v : Vaulted D) (o : Option Lost) (l : Lost) (f : SafeFault) → IsSafe book laid tells view v o → o ≡ Some l → f ≡ DiskFault l.opened l.found
    → IsFaultSince view laid.opened f
lost_since book laid tells view v o l f safe lost is =
    let stands : IsLost (view v.disk) v.opened l = subst (Stands view v) lost safe.stands in
    subst (λ (f : SafeFault). IsFaultSince view laid.opened f) (sym is)
    (record { disk = v.disk; lost = record { first = stands.first ∙ ap (λ (g : Ground). g.opened) safe.opened_as; rises = stands.rises; last = stands.last; above = stands.above } })

-- that of a call after which the vault is safe
pub since_of : {D T : Type 0} (book : BookId) (laid : Ground) (tells : Bool) (view : D → Moment) (v : Vaulted D) (answer : Result T SafeFault) → IsSafe book laid tells view v (lost_in answer)
    → IfErr answer (IsFaultSince view laid.opened)
since_of book laid tells view v (Ok x) safe = tt {0}
since_of book laid tells view v (Err (DiskFault first now)) safe = lost_since book laid tells view v (Some (record { opened = first; found = now })) (record { opened = first; found = now }) (DiskFault first now) safe refl refl
since_of book laid tells view v (Err NoMemory) safe = tt {0}
