-- What a call on the vault leaves of it.
use Rattle.std.proofs.Common.{◌≡◌, ℕ, Bool, ◌<◌, ◌≤◌, ◌⊎◌, List, length, inl, inr, refl, sym, ap, ◌∙◌, subst, arith}
use Rattle.std.specs.Prelude.{Some, None, Err}
use mathlib.Core.List.{IsPrefix}
use Rattle.pass_outside.specs.Moments.{Moment, IsAtEnd}
use Rattle.pass_book.specs.Syncs.{durable}
use Rattle.pass_book.specs.Tokens.{BookId}
use Rattle.pass_book.specs.Views.{longer}
use Rattle.pass_book.proofs.Badges.{longer_has}
use Rattle.pass_book.proofs.Prefixes.{prefix_whole}
use Rattle.pass_keep.specs.declared.fault.KeepFault.{KeepFault}
use Rattle.pass_keep.specs.declared.fault.KeepFault.TheVariants as kept
use Rattle.pass_vault.specs.Rooms.{most_entries}
use Rattle.pass_vault.specs.Vaulted.{Vaulted}
use Rattle.pass_keep.specs.Keepers.{GoesOn}
use Rattle.pass_safe.specs.Grounds.{Ground, HasGoneOn, ground_of}
use Rattle.pass_safe.specs.Safes.{IsSafe, lost_in}
use Rattle.pass_safe.specs.declared.fault.SafeFault.{SafeFault}

-- who meets one that had seen no less has seen just that
pub met_shorter : {A : Type 0} (mine others new : List A) → length mine ≤ length others → IsPrefix others new → new ≡ longer mine others → new ≡ others
met_shorter mine others new low told is =
    let short : length (longer mine others) ≤ length others = longer_has (λ xs. length xs ≤ length others) mine others low (omega arith) in
    let same = ap length is in
    sym (prefix_whole others new told (omega (arith, short, same)))

-- whichever fault it is, where the vault had none before
pub by_fault : (G : Type 0) (f : KeepFault) → ((o n : ℕ) → f ≡ kept.DiskFault o n → G) → ((o n : ℕ) → f ≡ kept.Broken o n → ⊥) → (f ≡ kept.NoMemory → G) → G
by_fault G (kept.DiskFault o n) disk broken memory = disk o n refl
by_fault G (kept.Broken o n) disk broken memory = absurd (broken o n refl)
by_fault G kept.NoMemory disk broken memory = memory refl

-- a disk that goes on is the one that the store was opened over
pub gone_on : (tells : Bool) (opened : ℕ) (old new : Moment) → HasGoneOn tells opened old → GoesOn old new → HasGoneOn tells opened new
gone_on tells opened old new was goes = record { told = goes.0 ∙ was.told; faults = let more = goes.1 in let low = was.faults in omega (arith, more, low) }

module _ {D : Type 0} (book : BookId) (laid : Ground) (tells : Bool) (view : D → Moment) (v w : Vaulted D) (safe : IsSafe book laid tells view v None) where
  -- it isn't broken
  pub not_broken : v.opened < (view v.disk).faults → ⊥
  not_broken more = let same = safe.stands.0 in omega (arith, more, same)

  module _ (of : w.book ≡ v.book) (same : ground_of w ≡ ground_of v) (goes : GoesOn (view v.disk) (view w.disk)) (few : length w.seen ≤ most_entries) where
    first : w.opened ≡ v.opened
    first = ap (λ (g : Ground). g.opened) same

    -- it was asked and answered
    pub safe_still : (view w.disk).faults ≡ (view v.disk).faults → durable w.syncs ≡ length w.seen → IsSafe book laid tells view w None
    safe_still healthy whole = record {
      of_book = of ∙ safe.of_book;
      opened_as = same ∙ safe.opened_as;
      gone_on = gone_on tells laid.opened (view v.disk) (view w.disk) safe.gone_on goes;
      low = safe.low;
      few = few;
      stands = (healthy ∙ safe.stands.0 ∙ sym first, whole);
    }

    -- or a device call failed
    pub safe_lost : (o n : ℕ) → o ≡ v.opened → n ≡ (view w.disk).faults → ((view v.disk).faults < (view w.disk).faults) ⊎ IsAtEnd (view w.disk) → (view v.disk).faults ≤ (view w.disk).faults
        → IsSafe book laid tells view w (Some (record { opened = o; found = n }))
    safe_lost o n opened now fault more = record {
      of_book = of ∙ safe.of_book;
      opened_as = same ∙ safe.opened_as;
      gone_on = gone_on tells laid.opened (view v.disk) (view w.disk) safe.gone_on goes;
      low = safe.low;
      few = few;
      stands = record {
        first = opened ∙ sym first;
        rises = let count = safe.stands.0 in omega (arith, opened, now, more, count);
        last = now;
        above = elim fault [
          | inl rose ↦ inl (let count = safe.stands.0 in omega (arith, opened, now, rose, count))
          | inr ended ↦ inr ended
        ];
      };
    }

-- by the answer's own fault
pub answered : {D : Type 0} (T : Type 0) (book : BookId) (laid : Ground) (tells : Bool) (view : D → Moment) (w : Vaulted D) (r s : SafeFault) → r ≡ s → IsSafe book laid tells view w (lost_in {T = T} (Err s))
    → IsSafe book laid tells view w (lost_in {T = T} (Err r))
answered T book laid tells view w r s same is = subst (λ (x : SafeFault). IsSafe book laid tells view w (lost_in {T = T} (Err x))) (sym same) is
