-- When both syncs of an opening have come, and what a crash leaves since.
use Rattle.std.proofs.Common.{◌≡◌, ◌<◌, ◌+◌, ◌≤◌, ◌∙◌, ℕ, inl, inr, ⊎_elim, sym, subst, arith}
use Rattle.std.specs.Prelude.{Result, IsOk, IsErr}
use Rattle.pass_outside.specs.Areas.{Image}
use Rattle.pass_outside.specs.Moments.{Moment, Adds, IsAtEnd, IsDeviceCall}
use Rattle.pass_outside.specs.Runs.{adds_both}
use Rattle.pass_recover.specs.Syncs.{HasBothSyncs, LeavesRead}

-- a call that fails at the end of a count changes none
abbrev Stands : Moment → Moment → Type 0
Stands old new = IsAtEnd old → (new.calls ≡ old.calls) × (new.faults ≡ old.faults)

-- a call that fails raises the count of calls by one, with that of faults, or neither
counted : {T E : Type 0} (old new : Moment) (r : Result T E) → IsDeviceCall old new r → IsErr r → Stands old new → (A : Type 0)
    → (new.calls ≡ old.calls + 1 → old.faults < new.faults → A) → (new.calls ≡ old.calls → A) → A
counted old new r call failed stands A rose stood = ⊎_elim
    (λ (more : old.faults < new.faults). rose (call.one_more (λ end. let same = (stands end).1 in omega (arith, same, more))) more)
    (λ (at : IsAtEnd old × (new.calls ≡ old.calls) × (new.faults ≡ old.faults)). stood at.1) (call.err failed)

-- the first sync failed
pub first_failed : {T E : Type 0} (old new : Moment) (r : Result T E) → IsDeviceCall old new r → IsErr r → Stands old new → HasBothSyncs old new → ⊥
first_failed old new r call failed stands synced =
    let two = synced.0 in
    counted old new r call failed stands ⊥ (λ (one : new.calls ≡ old.calls + 1) _. omega (arith, one, two)) (λ (same : new.calls ≡ old.calls). omega (arith, same, two))

-- the second sync failed
pub second_failed : {T E U F : Type 0} (old mid new : Moment) (r : Result T E) (s : Result U F) → IsDeviceCall old mid r → IsOk r → IsDeviceCall mid new s → IsErr s → Stands mid new
    → HasBothSyncs old new → ⊥
second_failed old mid new r s first went call failed stands synced =
    let before = first.one_more (first.ok went).1 in
    let still = (first.ok went).0 in
    let two = synced.0 in
    counted mid new s call failed stands ⊥
    (λ (one : new.calls ≡ mid.calls + 1) (more : mid.faults < new.faults). let same = synced.1 (omega (arith, before, one)) in omega (arith, same, still, more))
    (λ (same : new.calls ≡ mid.calls). omega (arith, same, before, two))

module _ (old mid : Moment) where
  -- both came, and calls behind them that write nothing
  pub leaves_read : (new : Moment) → mid.calls ≡ old.calls + 2 → mid.seen ≡ old.seen → ((c : Image) → mid.may_leave c → c ≡ mid.seen)
      → ((c : Image) → mid.left_since mid.calls c → mid.may_leave c) → Adds mid new mid.may_leave → LeavesRead old new
  leaves_read new two content durable since reads = λ _ c left.
      let here : mid.may_leave c = elim (reads.nothing_else mid.calls c (omega arith) (subst (λ (n : ℕ). new.left_since n c) (sym two) left)) [
        | inl at ↦ since c at
        | inr is ↦ is
      ] in
      durable c here ∙ content

  -- and two runs of such calls
  pub read_on : (next new : Moment) → mid.calls ≡ old.calls + 2 → mid.seen ≡ old.seen → ((c : Image) → mid.may_leave c → c ≡ mid.seen)
      → ((c : Image) → mid.left_since mid.calls c → mid.may_leave c) → ((c : Image) → next.may_leave c → mid.may_leave c) → Adds mid next mid.may_leave → Adds next new next.may_leave
      → LeavesRead old new
  read_on next new two content durable since crash first then =
      leaves_read new two content durable since (adds_both mid.may_leave mid next new first then (λ c x. x) crash)
