-- Why nothing is sent of a log.
use Rattle.std.proofs.Common.{◌≡◌, ◌⊎◌, ℕ, ◌<◌, ◌≤◌, Bool, true, false, List, length, take, drop, IsTrue, Result, Ok, Err, inl, inr, ⊎_elim, refl, sym, ◌∙◌, ap, subst, arith}
use Rattle.std.specs.Prelude.{Contains, ◌↔◌, OnOk, IfOk, IfErr}
use Rattle.pass_log.specs.declared.fault.LogFault.{LogFault}
use Rattle.pass_log.specs.declared.fault.LogFault.TheVariants as log
use Rattle.pass_log.specs.Frames.{Frames, frames_of, longest}
use Rattle.pass_log.specs.LogImage.{held_in}
use Rattle.pass_log.specs.Records.{Held, held, records_of, image_in, image_of}
use Rattle.pass_log.proofs.Crash.{image_long}
use Rattle.pass_entry.specs.declared.record.Record.{Record}
use Rattle.pass_graph.specs.declared.checking.CheckFault.{CheckFault}
use Rattle.pass_graph.specs.declared.checking.CheckFault.TheVariants as checks
use Rattle.pass_graph.specs.Check.{IsFlawOf}
use Rattle.pass_outside.specs.Areas.{Image}
use Rattle.pass_outside.specs.Moments.{Moment, IsDeviceWork}
use Rattle.pass_recover.specs.declared.fault.OpenFault.{OpenFault}
use Rattle.pass_recover.specs.declared.fault.OpenFault.TheVariants as opening
use Rattle.pass_recover.specs.Faults.{LogHas, IsCauseOf, of_check}
use Rattle.pass_standby.specs.declared.fault.StandbyFault.{StandbyFault}
use Rattle.pass_standby.specs.declared.fault.StandbyFault.TheVariants as faults
use Rattle.pass_standby.specs.declared.sending.SendFault.{SendFault}
use Rattle.pass_standby.specs.declared.sending.SendFault.TheVariants as sends
use Rattle.pass_standby.specs.declared.opening.Found.{Found}
use Rattle.pass_standby.specs.Logs.{IsLeftUnread, IsFound, HasBadFrame}
use Rattle.pass_standby.specs.Sending.{places, HoldsLogged, HasFault, IsPlace, IsSent, IsUnsent, Withholds}
use Rattle.pass_standby.proofs.Unopened.{not_good}

-- a log that holds records has whole frames, and ends where they do
pub record HasFramesOf (bytes : List ℕ) (h : Held) : Type 0 where
  pub frames : Frames
  pub found : frames_of bytes ≡ Ok frames
  pub place : frames.end ≡ h.end

pub frames_held : (bytes : List ℕ) (h : Held) → image_of bytes ≡ Ok h → HasFramesOf bytes h
frames_held bytes h is = by_frames (frames_of bytes) refl is
  where
    end_of : Result Held LogFault → ℕ
    end_of (Ok x) = x.end
    end_of (Err e) = 0

    by_records : (frames : Frames) (r : Result (List Record) LogFault) → held frames.end r ≡ Ok h → frames.end ≡ h.end
    by_records frames (Ok list) same = ap end_of same
    by_records frames (Err e) same = absurd (cc same)

    by_frames : (r : Result Frames ℕ) → frames_of bytes ≡ r → image_in r ≡ Ok h → HasFramesOf bytes h
    by_frames (Ok frames) found same = record { frames = frames; found = found; place = by_records frames (records_of 0 frames.list) same }
    by_frames (Err place) found same = absurd (cc same)

-- the fault of the bytes is the disk's
module _ (old new : Moment) (bytes : List ℕ) (told : IsTrue old.tells → bytes ≡ old.seen.log) where
  pub fault_causes : (e : OpenFault) → HasFault bytes e → IsCauseOf old new e
  fault_causes opening.DiskFault has = absurd has
  fault_causes (opening.BadFrame at) has = (bytes, told, has)
  fault_causes (opening.BadRecord place why) has = (bytes, told, has)
  fault_causes (opening.Flaw place reason) has = (bytes, told, has)
  fault_causes opening.NoMemory has = has

  pub unsent_is : (from : ℕ) (e : SendFault) → Withholds bytes from e → IsUnsent old new from e
  unsent_is from (sends.Unopened e) has = fault_causes e has
  unsent_is from sends.NoFrame has = (bytes, told, has)

-- the log area wasn't read, once the disk was synced
pub unread_causes : {F : Type 0} (old mid new : Moment) → mid.tells ≡ old.tells → mid.seen ≡ old.seen → mid.faults ≡ old.faults → (e : StandbyFault) (r : OpenFault)
    → IsDeviceWork mid new F → (e ≡ faults.DiskFault → F) → (e ≡ faults.DiskFault → r ≡ opening.DiskFault) → ((at : ℕ) → e ≡ faults.BadLog at → r ≡ opening.BadFrame at)
    → (e ≡ faults.NoMemory → r ≡ opening.NoMemory) → IsLeftUnread mid e → IsCauseOf old new r
unread_causes old mid new tells seen same faults.DiskFault r work failed disk long memory why =
    subst (IsCauseOf old new) (sym (disk refl)) (⊎_elim (λ more. inl (omega (arith, more, same))) inr (work.fault (failed refl)))
unread_causes old mid new tells seen same (faults.BadLog at) r work failed disk long memory (bytes, told, far, is) =
    subst (IsCauseOf old new) (sym (long at refl)) (
      bytes,
      λ speaks. told (subst IsTrue (sym tells) speaks) ∙ ap (λ (i : Image). i.log) seen,
      ap image_in (image_long bytes far) ∙ ap (λ (n : ℕ). Err (log.BadFrame n)) (sym is),
    )
unread_causes old mid new tells seen same faults.NoMemory r work failed disk long memory why = subst (IsCauseOf old new) (sym (memory refl)) why
unread_causes old mid new tells seen same (faults.BadStream at) r work failed disk long memory why = absurd why
unread_causes old mid new tells seen same (faults.Closed at) r work failed disk long memory why = absurd why

-- and it wasn't for the device
pub unread_other : {X Y : Type 0} (e : StandbyFault) (r : OpenFault) → (e ≡ faults.DiskFault → r ≡ opening.DiskFault) → ◌≡◌ {A = Result X StandbyFault} (Err e) (Err faults.DiskFault)
    → ◌≡◌ {A = Result Y SendFault} (Err (sends.Unopened r)) (Err (sends.Unopened opening.DiskFault))
unread_other e r disk is = let same : e ≡ faults.DiskFault = cc in ap (λ (x : OpenFault). Err (sends.Unopened x)) (disk same)

-- what was read in memory of the bytes is their image
pub image_held : (i : Image) (bytes read : List ℕ) (h : Held) → i.log ≡ bytes → read ≡ i.log → image_of read ≡ Ok h → image_of bytes ≡ Ok h
image_held i bytes read h same told holds = sym (ap image_of (told ∙ same)) ∙ holds

-- the flaw of its records is the fault of the bytes
pub flaw_faults : (bytes : List ℕ) (h : Held) (e : CheckFault) → image_of bytes ≡ Ok h → IsFlawOf h.list e → HasFault bytes (of_check e)
flaw_faults bytes h (checks.Flaw place reason) holds flaw = (h, holds, flaw)
flaw_faults bytes h checks.NoMemory holds flaw = flaw

-- what was found of the bytes
module _ (bytes : List ℕ) (f : Found) (is : IsFound bytes f) where
  pub found_logged : HoldsLogged bytes
  found_logged = (held_in f.image, is.image.holds, is.logged)

  pub found_sent : (from : ℕ) (text : List ℕ) (b : Bool) → b ≡ true → ((frames : Frames) → frames_of bytes ≡ Ok frames → IsTrue b ↔ Contains (places 0 frames.list) from)
      → text ≡ drop from (take f.image.end bytes) → IsSent bytes from text
  found_sent from text b taken there cut =
      let whole = frames_held bytes (held_in f.image) is.image.holds in
      record { frames = whole.frames; found = whole.found; place = (there whole.frames whole.found).0 taken; is = cut ∙ ap (λ (n : ℕ). drop from (take n bytes)) (sym whole.place) }

  pub found_nowhere : (from : ℕ) (b : Bool) → b ≡ false → ((frames : Frames) → frames_of bytes ≡ Ok frames → IsTrue b ↔ Contains (places 0 frames.list) from) → IsPlace bytes from → ⊥
  found_nowhere from b passed there (frames, found, place) = let taken : b ≡ true = (there frames found).1 place in cc

-- a log with a bad frame holds no records that are well logged
pub bad_none : (bytes : List ℕ) (e : StandbyFault) (n : ℕ) → e ≡ faults.BadLog n → length bytes ≤ longest
    → (e ≡ faults.NoMemory) ⊎ ((at : ℕ) × (e ≡ faults.BadLog at) × (1 < length bytes) × HasBadFrame bytes at) → HoldsLogged bytes → ⊥
bad_none bytes e n bad fits (inl memory) has = cc
bad_none bytes e n bad fits (inr (at, is, some, frame)) (h, holds, logged) = not_good bytes at some fits frame h holds logged

-- what is sent of the bytes is sent of the disk that they were read of, once it was synced
module _ {T : Type 0} (old mid new : Moment) (bytes : List ℕ) (from : ℕ) (view : T → List ℕ) (r : Result T SendFault) (tells : mid.tells ≡ old.tells) (seen : mid.seen ≡ old.seen)
    (told : IsTrue mid.tells → bytes ≡ mid.seen.log) where
  told_first : IsTrue old.tells → bytes ≡ old.seen.log
  told_first speaks = told (subst IsTrue (sym tells) speaks) ∙ ap (λ (i : Image). i.log) seen

  pub sent_told : OnOk r (HoldsLogged bytes) → IfOk r (λ v. IsSent bytes from (view v)) → IfOk r (λ v. LogHas old (λ b. HoldsLogged b × IsSent b from (view v)))
  sent_told logged sent = by_result r logged sent
    where
      by_result : (x : Result T SendFault) → OnOk x (HoldsLogged bytes) → IfOk x (λ v. IsSent bytes from (view v)) → IfOk x (λ v. LogHas old (λ b. HoldsLogged b × IsSent b from (view v)))
      by_result (Ok v) logged sent = (bytes, told_first, (logged, sent))
      by_result (Err e) logged sent = sent

  pub unsent_told : IfErr r (Withholds bytes from) → IfErr r (IsUnsent old new from)
  unsent_told why = by_result r why
    where
      by_result : (x : Result T SendFault) → IfErr x (Withholds bytes from) → IfErr x (IsUnsent old new from)
      by_result (Ok v) why = why
      by_result (Err e) why = unsent_is old new bytes told_first from e why
