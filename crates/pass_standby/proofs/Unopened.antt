-- A log with a bad frame isn't a good one.
use Rattle.std.proofs.Common.{◌≡◌, ◌⊎◌, inl, inr, ℕ, ◌+◌, ◌<◌, ◌≤◌, true, List, [], ◌∷◌, ◌++◌, length, take, drop, Result, Ok, Err, refl, sym, ◌∙◌, ap, subst, arith, length-drop, take-append-drop}
use Rattle.std.specs.Prelude.{Option, Some, None, ◌==◌}
use Rattle.std.specs.Option.{option_map_or}
use Rattle.std.proofs.lemmas.Bool.Decides.{nat_tests}
use Rattle.pass_entry.specs.declared.record.Record.{Record}
use Rattle.pass_entry.specs.declared.record.FlawReason.{FlawReason}
use Rattle.pass_log.specs.declared.fault.LogFault.{LogFault}
use Rattle.pass_log.specs.Frames.{Frames, before, number, scan}
use Rattle.pass_log.specs.Records.{joined, records_in, frame_more, records_of, Held, held, image_in}
use Rattle.pass_log.proofs.Crash.{image_scan}
use Rattle.pass_log.proofs.Reading.{records_after}
use Rattle.pass_log.proofs.Scan.{scan_open, scan_broken}
use Rattle.pass_plain.specs.WellLogged.{first_flaw_after, IsWellLogged}
use Rattle.pass_plain.proofs.Flaws.{logged_before}
use Rattle.pass_standby.specs.Streams.{unflawed, batch_in, is_open}
use Rattle.pass_standby.specs.Logs.{IsBroken, IsUnread}
use Rattle.pass_standby.specs.Laws.{BadLogLaw}
use Rattle.pass_standby.proofs.Batching.{flaw-append}

-- records that hold, well logged
abbrev pub IsGood : Result (List Record) LogFault → Type 0
IsGood (Ok list) = IsWellLogged list
IsGood (Err e) = ⊥

good_held : (end : ℕ) (r : Result (List Record) LogFault) (h : Held) → held end r ≡ Ok h → IsWellLogged h.list → IsGood r
good_held end (Ok list) h is logged = subst IsWellLogged (sym (ap list_of is)) logged
  where
    list_of : Result Held LogFault → List Record
    list_of (Ok x) = x.list
    list_of (Err e) = []
good_held end (Err e) h is logged = absurd (cc is)

-- a frame that has no records spoils all behind
unread_bad : (list : List Record) → IsWellLogged list → (x : Result (List Record) LogFault) → unflawed list x ≡ None → (behind : ℕ → Result (List Record) LogFault) → IsGood (joined list (frame_more x behind)) → ⊥
unread_bad list logged (Err e) none behind good = good
unread_bad list logged (Ok batch) none behind good = by_case (behind (length batch)) good
  where
    flawed : (o : Option (ℕ × FlawReason)) → o ≡ None → option_map_or (λ flaw. None) o (Some batch) ≡ None → ⊥
    flawed None is h = absurd (cc h)
    flawed (Some x) is h = absurd (cc is)

    by_case : (y : Result (List Record) LogFault) → IsGood (joined list (joined batch y)) → ⊥
    by_case (Err e) g = g
    by_case (Ok more) g = flawed (first_flaw_after list batch) (logged_before list batch more (sym (flaw-append [] list (batch ++ more) logged) ∙ g)) none

-- the frame behind an open gate is bad: no bytes with it hold well logged records
module _ (frames : List (List ℕ)) (list : List Record) (read : records_of 0 frames ≡ Ok list) (logged : IsWellLogged list) (place : ℕ) (tail : List ℕ) where
  broken_bad : length tail ≤ number tail + 4 → (h : Held) → image_in (before frames (scan 0 place (1 ∷ tail))) ≡ Ok h → ⊥
  broken_bad short h is = absurd (cc (sym (ap (λ (r : Result Frames ℕ). image_in (before frames r)) (scan_broken place tail short)) ∙ is))

  unread_image : number tail + 4 < length tail → batch_in list (take (number tail) (drop 4 tail)) ≡ None → (h : Held) → image_in (before frames (scan 0 place (1 ∷ tail))) ≡ Ok h → IsWellLogged h.list → ⊥
  unread_image fits none h is well =
      by_case (scan (number tail + 4) (place + 1) tail) (sym (ap (λ (r : Result Frames ℕ). image_in (before frames r)) (scan_open place tail fits)) ∙ is)
    where
      by_case : (s : Result Frames ℕ) → image_in (before frames (before (take (number tail) (drop 4 tail) ∷ []) s)) ≡ Ok h → ⊥
      by_case (Err e) k = absurd (cc k)
      by_case (Ok r) k =
          let f = take (number tail) (drop 4 tail) in
          let good = good_held r.end (records_of 0 (frames ++ (f ∷ r.list))) h k well in
          unread_bad list logged (records_in 0 (length list) f) none (λ count. records_of (length list + count) r.list)
          (subst IsGood (records_after frames (f ∷ r.list) list read) good)

pub not_good : BadLogLaw
not_good bytes at some fits b h is well = here (drop at bytes) refl b.gate b.bad
  where
    front : List ℕ
    front = take at bytes

    left : 0 < length (drop at bytes)
    left = omega (arith, length-drop at bytes, b.within)

    scanned : image_in (before b.frames (scan 0 (0 + length (take at bytes)) (drop at bytes))) ≡ Ok h
    scanned = sym (ap image_in (image_scan bytes some fits ∙ ap (scan 0 0) (sym (take-append-drop at bytes)) ∙ b.front.passes 0 (drop at bytes) left)) ∙ is

    opened : (gate : ℕ) → (gate == 1) ≡ true → gate ≡ 1
    opened gate h = grind (arith, nat_tests)

    here : (rest : List ℕ) → drop at bytes ≡ rest → is_open rest ≡ true → IsBroken rest ⊎ IsUnread b.list rest → ⊥
    here [] same gate bad = absurd (omega (arith, ap length same, left))
    here (g ∷ tail) same gate (inl broken) =
        broken_bad b.frames b.list b.read b.logged (0 + length (take at bytes)) tail broken h
        (ap (λ (l : List ℕ). image_in (before b.frames (scan 0 (0 + length (take at bytes)) l))) (ap (λ (n : ℕ). n ∷ tail) (sym (opened g gate)) ∙ sym same) ∙ scanned)
    here (g ∷ tail) same gate (inr unread) =
        unread_image b.frames b.list b.read b.logged (0 + length (take at bytes)) tail unread.0 unread.1 h
        (ap (λ (l : List ℕ). image_in (before b.frames (scan 0 (0 + length (take at bytes)) l))) (ap (λ (n : ℕ). n ∷ tail) (sym (opened g gate)) ∙ sym same) ∙ scanned) well
