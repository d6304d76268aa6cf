-- The end of an archive that is opened.
use Rattle.std.proofs.Common.{◌≡◌, ◌⊎◌, ℕ, ◌<◌, ◌≤◌, IsTrue, List, [], ◌∷◌, length, map, Result, Ok, Err, ⊎_elim, refl, sym, ◌∙◌, ap, subst, arith}
use Rattle.pass_outside.specs.Areas.{Image, written}
use Rattle.pass_outside.specs.Moments.{Moment}
use Rattle.pass_log.specs.Frames.{Frames, frames_of, Rests}
use Rattle.pass_log.proofs.Append.{length-written}
use Rattle.pass_log.proofs.Crash.{image_short}
use Rattle.pass_log.proofs.Opened.{stands_short, settled_now}
use Rattle.pass_log.proofs.Split.{rests}
use Rattle.pass_leaf.specs.declared.tail.Tail.{Tail}
use Rattle.pass_leaf.specs.declared.walk.Found.{Found}
use Rattle.pass_leaf.specs.Leaves.{Leaf, leaf_bytes}
use Rattle.pass_leaf.specs.Archives.{IsArchive}
use Rattle.pass_leaf.specs.Reads.{IsFound, IsFoundOn, log_of, EndsThere}

le_or : (n : ℕ) → (n ≤ 1) ⊎ (1 < n)
le_or n = grind arith

pub ends_long : (tail : Tail) (found : Found) (m : Moment) → IsFoundOn m found → (IsTrue found.short → ⊥) → tail.end ≡ found.end → tail.opened ≡ m.faults → ((c : Image) → m.may_leave c → c.log ≡ m.seen.log)
    → EndsThere tail found.leaves m
ends_long tail found m is not_short end opened only =
    let f = is.2 in
    let frames : List (List ℕ) = map leaf_bytes found.leaves in
    record {
      settled = settled_now (log_of tail) m opened (λ tells.
          let same : is.0 ≡ m.seen.log = is.1 tells in
          let long : 1 < length m.seen.log = ⊎_elim (λ le. absurd (not_short (f.short.1 le))) (λ lt. omega (arith, lt, ap length same)) (le_or (length is.0)) in
          let got = rests m.seen.log (record { list = frames; end = found.end }) long (ap frames_of (sym same) ∙ f.archive.frames) in
          record { list = frames; rests = subst (λ (n : ℕ). Rests frames n m.seen.log) (sym end) got.1; fits = got.0; only = only });
      place = omega (arith, end, f.place);
      reads = λ tells same not_end.
          subst (λ (l : List ℕ). IsArchive l found.leaves tail.end) (is.1 tells) (subst (IsArchive is.0 found.leaves) (sym end) f.archive);
    }

pub ends_short : (tail : Tail) (found : Found) (old new : Moment) → IsFoundOn old found → IsTrue found.short → tail.end ≡ found.end → tail.opened ≡ new.faults → new.tells ≡ old.tells
    → (IsTrue old.tells → new.seen.log ≡ written old.seen.log 0 (0 ∷ [])) → ((c : Image) → new.may_leave c → c.log ≡ new.seen.log) → EndsThere tail found.leaves new
ends_short tail found old new is short end opened tells done only =
    let f = is.2 in
    let few : length is.0 ≤ 1 = f.short.0 short in
    let none : found.end ≡ 0 = ap end_of (sym f.archive.frames ∙ image_short is.0 few) in
    record {
      settled = settled_now (log_of tail) new opened (λ told.
          let before : IsTrue old.tells = subst IsTrue tells told in
          let small : length old.seen.log ≤ 1 = omega (arith, few, ap length (is.1 before)) in
          stands_short (log_of tail) old new small (end ∙ none) (done before) only);
      place = omega (arith, end, f.place);
      reads = λ told same not_end.
          let before : IsTrue old.tells = subst IsTrue tells told in
          let small : length old.seen.log ≤ 1 = omega (arith, few, ap length (is.1 before)) in
          let one : List ℕ = 0 ∷ [] in
          let size : length new.seen.log ≤ 1 = omega (arith, small, ap length (done before), length-written old.seen.log 0 one (omega arith)) in
          subst (IsArchive new.seen.log found.leaves) (sym end) (record { frames = image_short new.seen.log size ∙ sym (image_short is.0 few) ∙ f.archive.frames; are = f.archive.are });
    }
  where
    end_of : Result Frames ℕ → ℕ
    end_of (Ok r) = r.end
    end_of (Err e) = 0

-- an area of at most one byte has no leaf
none_of : (leaves : List Leaf) → map leaf_bytes leaves ≡ [] → leaves ≡ []
none_of [] is = refl
none_of (leaf ∷ leaves) is = absurd (cc is)

pub short_none : (bytes : List ℕ) (found : Found) → IsFound bytes found → IsTrue found.short → found.leaves ≡ []
short_none bytes found f short = none_of found.leaves (ap list_of (sym f.archive.frames ∙ image_short bytes (f.short.0 short)))
  where
    list_of : Result Frames ℕ → List (List ℕ)
    list_of (Ok r) = r.list
    list_of (Err e) = []
