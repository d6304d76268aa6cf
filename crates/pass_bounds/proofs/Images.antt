-- The records of a log take no more bytes than it has.
use Rattle.std.proofs.Common.{◌≡◌, ◌+◌, ◌-◌, ◌<◌, ◌≤◌, ℕ, zero, suc, Bool, true, false, cond, eqb, List, [], ◌∷◌, ◌++◌, length, take, drop, Result, Ok, Err, refl, subst, arith, length-append}
use Rattle.std.specs.Prelude.{nat_lt, nat_le}
use Rattle.std.proofs.lemmas.List.{length-take}
use Rattle.std.proofs.lemmas.List.Sums.{sum_by-append}
use Rattle.pass_entry.specs.declared.record.Record.{Record}
use Rattle.pass_entry.specs.Lengths.{record_length}
use Rattle.pass_entry.proofs.Lists.{below_is}
use Rattle.pass_entry.proofs.Variants.{ok_inside}
use Rattle.pass_record.specs.declared.fault.RecordFault.{RecordFault}
use Rattle.pass_record.specs.Reading.{record_at}
use Rattle.pass_record.specs.Spelling.{spelling}
use Rattle.pass_record.proofs.Spellings.{record_length-some}
use Rattle.pass_graph.specs.Bounds.{records_length, CeilingLengthLaw, VersionLengthLaw}
use Rattle.pass_log.specs.declared.fault.LogFault.{LogFault}
use Rattle.pass_log.specs.Frames.{Frames, before, number, scan, longest, frames_of}
use Rattle.pass_log.specs.Records.{Held, joined, one_more, records_in, frame_more, records_of, held, image_in, spellings}
use Rattle.pass_bounds.specs.Lawful.{ImageLaw, OpenedLaw}
use Rattle.pass_bounds.proofs.Taken.{record_read}

-- frames

-- the bytes of frames
abbrev total : List (List ℕ) → ℕ
total [] = 0
total (frame ∷ frames) = length frame + total frames

-- frames that were found behind a place have their bytes between it and their end
abbrev AreBetween : ℕ → Result Frames ℕ → Type 0
AreBetween place (Ok frames) = place + total frames.list ≤ frames.end
AreBetween place (Err at) = Unit {0}

one_between : (place next : ℕ) (frame : List ℕ) (behind : Result Frames ℕ) → place + length frame ≤ next → AreBetween next behind → AreBetween place (before (frame ∷ []) behind)
one_between place next frame (Ok frames) fits between = omega (arith, fits, between)
one_between place next frame (Err at) fits between = tt

scan_between : (skip place : ℕ) (bytes : List ℕ) → skip ≤ length bytes → AreBetween (place + skip) (scan skip place bytes)
scan_between zero place [] within = omega arith
scan_between (suc skip) place [] within = absurd (omega (arith, within))
scan_between (suc skip) place (byte ∷ bytes) within =
    subst (λ (n : ℕ). AreBetween n (scan skip (place + 1) bytes)) (let z : place + 1 + skip ≡ place + suc skip = omega arith in z) (scan_between skip (place + 1) bytes (omega (arith, within)))
scan_between zero place (gate ∷ bytes) within = by_gate (eqb gate 1) (nat_lt (number bytes + 4) (length bytes)) refl (λ skip fits. scan_between skip (place + 1) bytes fits)
  where
    by_gate : (opens whole : Bool) → nat_lt (number bytes + 4) (length bytes) ≡ whole → ((skip : ℕ) → skip ≤ length bytes → AreBetween (place + 1 + skip) (scan skip (place + 1) bytes))
        → AreBetween (place + zero) (cond opens (cond whole (before (take (number bytes) (drop 4 bytes) ∷ []) (scan (number bytes + 4) (place + 1) bytes)) (Err place)) (Ok (record { list = []; end = place })))
    by_gate false whole fits later = omega arith
    by_gate true false fits later = tt
    by_gate true true fits later =
        let room : number bytes + 4 < length bytes = below_is (number bytes + 4) (length bytes) fits in
        let frame = length-take (number bytes) (drop 4 bytes) in
        one_between (place + zero) (place + 1 + (number bytes + 4)) (take (number bytes) (drop 4 bytes)) (scan (number bytes + 4) (place + 1) bytes) (omega (arith, frame)) (later (number bytes + 4) (omega (arith, room)))

frames_between : (bytes : List ℕ) → AreBetween 0 (frames_of bytes)
frames_between bytes = by_length (nat_lt longest (length bytes)) (nat_le (length bytes) 1)
  where
    by_length : (long short : Bool) → AreBetween 0 (cond long (Err longest) (cond short (Ok (record { list = []; end = 0 })) (scan 0 0 bytes)))
    by_length true short = tt
    by_length false true = omega arith
    by_length false false = scan_between 0 0 bytes (omega arith)

-- records

-- records that were found take at most so many bytes, and their spellings have their lengths
abbrev AreWithin : ℕ → Result (List Record) LogFault → Type 0
AreWithin room (Ok list) = (length (spellings list) ≡ records_length list) × (records_length list ≤ room)
AreWithin room (Err e) = Unit {0}

pub spellings-append : (xs ys : List Record) → length (spellings (xs ++ ys)) ≡ length (spellings xs) + length (spellings ys)
spellings-append [] ys = omega arith
spellings-append (x ∷ xs) ys =
    let here = length-append (spelling x) (spellings (xs ++ ys)) in
    let first = length-append (spelling x) (spellings xs) in
    let more = spellings-append xs ys in
    omega (arith, here, first, more)

joined_within : (room left : ℕ) (list : List Record) (behind : Result (List Record) LogFault) → length (spellings list) ≡ records_length list → records_length list + left ≤ room
    → AreWithin left behind → AreWithin room (joined list behind)
joined_within room left list (Ok more) spelled fits within =
    let (same, few) = within in
    let bytes = spellings-append list more in
    let lengths = sum_by-append record_length list more in
    (omega (arith, spelled, same, bytes, lengths), omega (arith, fits, few, lengths))
joined_within room left list (Err e) spelled fits within = tt

records_within : (skip place room : ℕ) (bytes : List ℕ) → room + skip ≡ length bytes → AreWithin room (records_in skip place bytes)
records_within skip place room [] is = (refl, omega arith)
records_within (suc skip) place room (byte ∷ bytes) is = records_within skip place room bytes (omega (arith, is))
records_within zero place room (byte ∷ bytes) is = by_record (record_at (byte ∷ bytes)) refl (λ skip left fits. records_within skip (place + 1) left bytes fits)
  where
    by_record : (found : Result (Record × List ℕ) RecordFault) → record_at (byte ∷ bytes) ≡ found → ((skip left : ℕ) → left + skip ≡ length bytes → AreWithin left (records_in skip (place + 1) bytes))
        → AreWithin room (one_more place found (λ skip. records_in skip (place + 1) bytes))
    by_record (Ok (one, rest)) at later =
        let (taken, spelled) = record_read (byte ∷ bytes) one rest at in
        let whole = length-append (spelling one) [] in
        joined_within room (length rest) (one ∷ []) (records_in (record_length one - 1) (place + 1) bytes) (omega (arith, spelled, whole)) (omega (arith, is, taken))
        (later (record_length one - 1) (length rest) (let some = record_length-some one in omega (arith, taken, some)))
    by_record (Err why) at later = tt

frames_within : (place : ℕ) (frames : List (List ℕ)) → AreWithin (total frames) (records_of place frames)
frames_within place [] = (refl, omega arith)
frames_within place (frame ∷ frames) = by_frame (records_in 0 place frame) (records_within 0 place (length frame) frame (omega arith)) (λ count. frames_within (place + count) frames)
  where
    by_frame : (found : Result (List Record) LogFault) → AreWithin (length frame) found → ((count : ℕ) → AreWithin (total frames) (records_of (place + count) frames))
        → AreWithin (length frame + total frames) (frame_more found (λ count. records_of (place + count) frames))
    by_frame (Ok list) within later =
        let (spelled, few) = within in joined_within (length frame + total frames) (total frames) list (records_of (place + length list) frames) spelled (omega (arith, few)) (later (length list))
    by_frame (Err e) within later = tt

-- the image

abbrev at_end : ℕ → List Record → Held
at_end end list = record { list = list; end = end }

pub image_law : ImageLaw
image_law bytes log is = by_frames (frames_of bytes) (frames_between bytes) is
  where
    by_records : (end : ℕ) (found : Result (List Record) LogFault) (room : ℕ) → room ≤ end → AreWithin room found → held end found ≡ Ok log
        → (length (spellings log.list) ≡ records_length log.list) × (length (spellings log.list) ≤ log.end)
    by_records end (Ok list) room fits within is =
        let same = ok_inside (at_end end list) log is in
        subst (λ (l : Held). (length (spellings l.list) ≡ records_length l.list) × (length (spellings l.list) ≤ l.end)) same
        (let (spelled, few) = within in (spelled, omega (arith, spelled, few, fits)))
    by_records end (Err e) room fits within is = absurd (cc is)

    by_frames : (found : Result Frames ℕ) → AreBetween 0 found → image_in found ≡ Ok log → (length (spellings log.list) ≡ records_length log.list) × (length (spellings log.list) ≤ log.end)
    by_frames (Ok frames) between is = by_records frames.end (records_of 0 frames.list) (total frames.list) (omega (arith, between)) (frames_within 0 frames.list) is
    by_frames (Err place) between is = absurd (cc is)

pub opened_law : CeilingLengthLaw → VersionLengthLaw → OpenedLaw
opened_law ceilings versions bytes log is short logged =
    let (spelled, few) = image_law bytes log is in
    (let c = ceilings log.list logged in omega (arith, c, spelled, few, short), λ pnode. let v = versions log.list logged pnode in omega (arith, v, spelled, few, short))
