-- What a log that is opened stands on.
use Rattle.std.proofs.Common.{◌≡◌, ◌⊎◌, ℕ, ◌-◌, ◌<◌, ◌≤◌, IsTrue, List, [], ◌∷◌, ◌++◌, length, drop, replicate, Result, Ok, Err, ⊎_elim, refl, sym, ◌∙◌, ap, subst, arith}
use Rattle.std.proofs.lemmas.List.{drop_all}
use Rattle.pass_outside.specs.declared.disk.Area.TheVariants as areas
use Rattle.pass_outside.specs.Areas.{Image, written}
use Rattle.pass_outside.specs.Moments.{Moment}
use Rattle.pass_log.specs.declared.fault.LogFault.{LogFault}
use Rattle.pass_entry.specs.declared.record.Record.{Record}
use Rattle.pass_log.specs.Records.{Held, held, image_in, records_of}
use Rattle.pass_log.specs.declared.log.Log.{Log}
use Rattle.pass_log.specs.declared.image.LogImage.{LogImage}
use Rattle.pass_log.specs.Frames.{Frames, frames_of, longest, Rests}
use Rattle.pass_log.specs.Log.{Stands, IsSettled}
use Rattle.pass_log.specs.LogImage.{IsRead, held_in}
use Rattle.pass_log.proofs.Scan.{front_nil}
use Rattle.pass_log.proofs.Crash.{image_short}
use Rattle.pass_log.proofs.Split.{rests}

-- where there is an image, there are frames with its end
pub image_frames : (f : Result Frames ℕ) (h : Held) → image_in f ≡ Ok h → (r : Frames) × (f ≡ Ok r) × (r.end ≡ h.end)
image_frames (Ok r) h is = (r, refl, ends (records_of 0 r.list) is)
  where
    end_in : Result Held LogFault → ℕ
    end_in (Ok x) = x.end
    end_in (Err e) = 0

    ends : (found : Result (List Record) LogFault) → held r.end found ≡ Ok h → r.end ≡ h.end
    ends (Ok list) is = ap end_in is
    ends (Err e) is = absurd (cc is)
image_frames (Err e) h is = absurd (cc is)

-- a log of two bytes or more stands as it is
pub stands_long : (log : Log) (image : LogImage) (m : Moment) → IsRead m image → IsTrue m.tells → (IsTrue image.short → ⊥) → log.end ≡ image.end
    → ((c : Image) → m.may_leave c → c.log ≡ m.seen.log) → Stands log m
stands_long log image m read tells not_short end only =
    let same : read.0 ≡ m.seen.log = read.1 tells in
    let is = read.2 in
    let long : 1 < length m.seen.log = ⊎_elim (λ le. absurd (not_short (is.short.1 le))) (λ lt. omega (arith, lt, ap length same)) (le_or (length read.0)) in
    let frames = image_frames (frames_of read.0) (held_in image) is.holds in
    let r = frames.0 in
    let got = rests m.seen.log r long (ap frames_of (sym same) ∙ frames.1) in
    record { list = r.list; rests = subst (λ (n : ℕ). Rests r.list n m.seen.log) (frames.2 ∙ sym end) got.1; fits = got.0; only = only }
  where
    le_or : (n : ℕ) → (n ≤ 1) ⊎ (1 < n)
    le_or n = grind arith

-- a short one ends at its start
pub short_end : (image : LogImage) (m : Moment) → IsRead m image → IsTrue image.short → image.end ≡ 0
short_end image m read short =
    let frames = image_frames (frames_of read.0) (held_in image) read.2.holds in
    sym frames.2 ∙ ap end_of (sym frames.1 ∙ image_short read.0 (read.2.short.0 short))
  where
    end_of : Result Frames ℕ → ℕ
    end_of (Ok r) = r.end
    end_of (Err e) = 0

pub short_length : (image : LogImage) (m : Moment) → IsRead m image → IsTrue m.tells → IsTrue image.short → length m.seen.log ≤ 1
short_length image m read tells short = omega (arith, read.2.short.0 short, ap length (read.1 tells))

pub stands_short : (log : Log) (old new : Moment) → length old.seen.log ≤ 1 → log.end ≡ 0 → new.seen.log ≡ written old.seen.log 0 (0 ∷ [])
    → ((c : Image) → new.may_leave c → c.log ≡ new.seen.log) → Stands log new
stands_short log old new short end done only =
    let none : 0 - length old.seen.log ≡ 0 = omega arith in
    let is : new.seen.log ≡ 0 ∷ [] = done ∙ ap (λ (n : ℕ). replicate n 0 ++ (0 ∷ []) ++ drop 1 old.seen.log) none ∙ ap (λ (l : List ℕ). 0 ∷ l) (drop_all 1 old.seen.log short) in
    let one : List ℕ = 0 ∷ [] in
    let fits : length one ≤ longest = omega arith in
    record {
      list = [];
      rests = record { front = []; gate = 0; tail = []; is = is; shut = omega arith; passes = front_nil; place = sym end };
      fits = subst (λ (l : List ℕ). length l ≤ longest) (sym is) fits;
      only = only;
    }

pub settled_now : (log : Log) (m : Moment) → log.opened ≡ m.faults → (IsTrue m.tells → Stands log m) → IsSettled log m
settled_now log m opened stands = record { opened = omega (arith, opened); stands = λ tells same end. stands tells }
