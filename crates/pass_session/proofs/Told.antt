-- What an answer says, by its kind; and of which moment.
use Rattle.std.proofs.Common.{◌≡◌, ℕ, subst}
use Rattle.std.specs.Prelude.{Result, Ok, Err, IfOk, IfErr}
use Rattle.pass_outside.specs.Moments.{Moment}
use Rattle.pass_recover.specs.declared.fault.OpenFault.{OpenFault}
use Rattle.pass_recover.specs.Faults.{LogHas}
use Rattle.pass_session.specs.Judgements.{session_fault, refusal_of, IsJudged}
use Rattle.pass_session.specs.Sessions.{OpenedView, HasSession, HasRefused, IsOpenedOver}

pub on_session : {D : Type 0} (view : D → Moment) (old : Moment) (objects entries : ℕ) (r : Result (OpenedView D) (OpenFault × D)) → IsOpenedOver view old objects entries r
    → (P : OpenedView D → Type 0) → ((o : OpenedView D) → HasSession view old objects entries o → P o) → IfOk r P
on_session view old objects entries (Ok o) over P is = is o over
on_session view old objects entries (Err e) over P is = tt

pub on_refusal : {D : Type 0} (view : D → Moment) (old : Moment) (objects entries : ℕ) (r : Result (OpenedView D) (OpenFault × D)) → IsOpenedOver view old objects entries r
    → (P : OpenFault × D → Type 0) → ((e : OpenFault × D) → HasRefused view old objects e → P e) → IfErr r P
on_refusal view old objects entries (Ok o) over P is = tt
on_refusal view old objects entries (Err e) over P is = is e over

pub judged_by : {D : Type 0} (view : D → Moment) (old : Moment) (objects entries : ℕ) (r : Result (OpenedView D) (OpenFault × D)) → IsOpenedOver view old objects entries r
    → IsJudged (refusal_of r) → LogHas old (λ bytes. session_fault bytes ≡ refusal_of r)
judged_by view old objects entries (Ok o) over judged = let (bytes, read, list) = over.opening.logged in (bytes, read, list.unfaulted)
judged_by view old objects entries (Err e) over judged = over.judged judged

-- the moment is that of the disk as it was handed in
pub of_first : {D : Type 0} (view : D → Moment) (first disk : D) (objects entries : ℕ) (r : Result (OpenedView D) (OpenFault × D)) → first ≡ disk
    → IsOpenedOver view (view first) objects entries r → IsOpenedOver view (view disk) objects entries r
of_first view first disk objects entries r same over = subst (λ d. IsOpenedOver view (view d) objects entries r) same over
