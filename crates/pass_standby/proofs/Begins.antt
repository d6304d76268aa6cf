-- How a standby's log is opened.
use Rattle.std.proofs.Common.{◌≡◌, ◌⊎◌, ℕ, Bool, true, false, List, take, IsTrue, Ok, inl, inr, refl, sym, ◌∙◌, ap, subst, arith}
use Rattle.pass_entry.specs.declared.record.Record.{Record}
use Rattle.pass_graph.specs.Logged.{Summarizes}
use Rattle.pass_log.specs.declared.log.Log.{Log}
use Rattle.pass_log.specs.Log.{SameStore, IsSettled, LeavesStore, log_end, log_opened}
use Rattle.pass_log.specs.Records.{image_of}
use Rattle.pass_log.proofs.Opened.{short_end}
use Rattle.pass_outside.specs.Areas.{Image}
use Rattle.pass_outside.specs.Moments.{Moment, Adds, AfterStep}
use Rattle.pass_outside.specs.Runs.{adds_nothing, adds_weaker, adds_both}
use Rattle.pass_plain.specs.WellLogged.{IsWellLogged}
use Rattle.pass_standby.specs.declared.opening.Found.{Found}
use Rattle.pass_standby.specs.Logs.{end_of, HoldsStill, IsFoundOn}
use Rattle.pass_standby.specs.Standing.{log_to, IsKept, Reads}

module _ (old new : Moment) (found : Found) (log : Log) (index : List Record) (is : IsFoundOn old found) (end : log_end log ≡ found.image.end) (list : index ≡ found.image.list.items) where
  image_was : IsTrue old.tells → image_of old.seen.log ≡ Ok (record { list = index; end = log_end log })
  image_was told =
      ap image_of (sym (is.1 told)) ∙ is.2.image.holds ∙ ap (λ (l : List Record). Ok (record { list = l; end = found.image.end })) (sym list)
      ∙ ap (λ (n : ℕ). Ok (record { list = index; end = n })) (sym end)

  pub opened_kept : IsSettled log new → log_opened log ≡ new.faults → new.tells ≡ old.tells → (IsTrue old.tells → image_of new.seen.log ≡ image_of old.seen.log)
      → (IsTrue old.tells → (c : Image) → new.may_leave c → c.log ≡ new.seen.log) → IsKept new log index found.judge
  opened_kept settled opened same image durable = record {
    settled = settled;
    healthy = sym opened;
    says = subst (Summarizes found.judge) (sym list) is.2.says;
    logged = subst IsWellLogged (sym list) is.2.logged;
    place = omega (arith, end, is.2.place);
    reads = λ tells. let told = subst IsTrue same tells in image told ∙ image_was told;
    leaves = λ tells c may.
        let told = subst IsTrue same tells in
        record { image = ap image_of (durable told c may) ∙ image told ∙ image_was told; bytes = ap (take (log_end log)) (durable told c may) };
  }

-- A log is opened that was found: either it is short, and ends at its start, or nothing is done.
module _ (old new : Moment) (found : Found) (is : IsFoundOn old found) (untouched : found.image.short ≡ false → new ≡ old) where
  at_start : IsTrue found.image.short → found.image.end ≡ 0
  at_start short = short_end found.image old (is.0, is.1, is.2.image) short

  pub still_moments : IsTrue old.tells → Adds old new (λ c. image_of c.log ≡ image_of old.seen.log) → Adds old new (λ c. HoldsStill old.seen.log c.log)
  still_moments tells any = by found.image.short refl
    where
      by : (b : Bool) → found.image.short ≡ b → Adds old new (λ c. HoldsStill old.seen.log c.log)
      by true short =
          let none : end_of (image_of old.seen.log) ≡ 0 = ap (λ (l : List ℕ). end_of (image_of l)) (sym (is.1 tells)) ∙ ap end_of is.2.image.holds ∙ at_start short in
          adds_weaker (λ c. HoldsStill old.seen.log c.log) old new any
          (λ c same. record { image = same; bytes = ap (λ (n : ℕ). take n c.log) none ∙ sym (ap (λ (n : ℕ). take n old.seen.log) none) })
      by false long = subst (λ (m : Moment). Adds old m (λ c. HoldsStill old.seen.log c.log)) (sym (untouched long)) (adds_nothing old (λ c. HoldsStill old.seen.log c.log))

  pub still_bytes : (end : ℕ) → end ≡ found.image.end → Reads new end (log_to old end)
  still_bytes end place = λ tells. by found.image.short refl
    where
      by : (b : Bool) → found.image.short ≡ b → log_to new end ≡ log_to old end
      by true short = let none : end ≡ 0 = place ∙ at_start short in ap (log_to new) none ∙ sym (ap (log_to old) none)
      by false long = ap (λ (m : Moment). log_to m end) (untouched long)

-- reading leaves the store area
pub store_read : (old new : Moment) → (IsTrue old.tells → new.seen.store ≡ old.seen.store) → ((c : Image) → new.may_leave c → old.may_leave c) → Adds old new old.may_leave → LeavesStore old new
store_read old new same crash run = record {
  reads = same;
  at_once = λ c may. (c, crash c may, refl);
  moments = adds_weaker (AfterStep SameStore old) old new run (λ c may. (c, may, refl));
}

-- reading, and then opening what was read
pub moments_both : (old mid new : Moment) → mid.seen ≡ old.seen → Adds old mid old.may_leave → Adds mid new (λ c. HoldsStill mid.seen.log c.log)
    → Adds old new (λ c. old.may_leave c ⊎ HoldsStill old.seen.log c.log)
moments_both old mid new same first then = adds_both (λ c. old.may_leave c ⊎ HoldsStill old.seen.log c.log) old mid new first then
    (λ c x. inl x) (λ c x. inr (subst (λ (i : Image). HoldsStill i.log c.log) same x))

pub bytes_both : (old mid new : Moment) (end : ℕ) → mid.seen ≡ old.seen → Reads new end (log_to mid end) → Reads new end (log_to old end)
bytes_both old mid new end same reads = λ tells. reads tells ∙ ap (λ (i : Image). take end i.log) same
