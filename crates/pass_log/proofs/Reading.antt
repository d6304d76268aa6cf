-- How the records of frames are read one after another.
use Rattle.std.proofs.Common.{◌≡◌, ◌⊎◌, inl, inr, Bool, true, false, IsTrue, replicate, ℕ, zero, suc, ◌+◌, ◌-◌, ◌<◌, ◌≤◌, List, [], ◌∷◌, ◌++◌, length, take, drop, Result, Ok, Err, refl, sym, ◌∙◌, ap, subst, arith, append_assoc, length-append}
use Rattle.std.proofs.lemmas.List.{append-nil, length-replicate}
use Rattle.pass_entry.specs.declared.record.Record.{Record}
use Rattle.pass_entry.specs.Lengths.{record_length}
use Rattle.pass_record.specs.declared.fault.RecordFault.{RecordFault}
use Rattle.pass_record.specs.Reading.{record_at}
use Rattle.pass_log.specs.declared.fault.LogFault.{LogFault}
use Rattle.pass_log.specs.declared.fault.LogFault.TheVariants as fault
use Rattle.pass_record.specs.declared.fault.RecordFault.TheVariants as why_is
use Rattle.pass_record.specs.Faults as records
use Rattle.std.specs.Prelude.{IsErrAnd, IfErr}
use Rattle.pass_outside.specs.Moments.{Moment}
use Rattle.pass_log.specs.LogImage.{IsFaultRead, IsUnread}
use Rattle.pass_log.specs.Frames.{before, number, scan, longest}
use Rattle.pass_log.specs.Records.{joined, one_more, records_in, frame_more, records_of, held, image_in, image_of, Fails, Gives}
use Rattle.pass_log.proofs.Scan.{before_nil, more_frames, begins}
use Rattle.pass_log.proofs.Crash.{image_scan, image_long}

-- bytes that are passed over
pub records_skip : (skip place : ℕ) (bytes : List ℕ) → records_in skip place bytes ≡ records_in 0 place (drop skip bytes)
records_skip zero place bytes = refl
records_skip (suc skip) place [] = refl
records_skip (suc skip) place (byte ∷ bytes) = records_skip skip place bytes

pub joined_nil : (r : Result (List Record) LogFault) → joined [] r ≡ r
joined_nil (Ok list) = refl
joined_nil (Err e) = refl

pub joined_joined : (xs ys : List Record) (r : Result (List Record) LogFault) → joined xs (joined ys r) ≡ joined (xs ++ ys) r
joined_joined xs ys (Ok list) = ap (λ (l : List Record). Ok (l)) (sym (append_assoc xs ys list))
joined_joined xs ys (Err e) = refl

pub joined_err : (xs ys : List Record) (r : Result (List Record) LogFault) (e : LogFault) → joined xs (Err e) ≡ joined ys r → r ≡ Err e
joined_err xs ys (Ok list) e h = absurd (cc h)
joined_err xs ys (Err x) e h = sym h

-- a record stands at the front
pub record_found : (place len : ℕ) (bytes rest : List ℕ) (one : Record) → 0 < len → 0 < length bytes → len ≡ record_length one → record_at bytes ≡ Ok (one, rest)
    → records_in 0 place bytes ≡ joined (one ∷ []) (records_in 0 (place + 1) (drop len bytes))
record_found place zero bytes rest one some more long is = absurd (omega arith)
record_found place (suc k) [] rest one some more long is = absurd (omega arith)
record_found place (suc k) (byte ∷ bytes) rest one some more long is =
    let less : record_length one - 1 ≡ k = omega (arith, long) in
    ap (λ (r : Result (Record × List ℕ) RecordFault). one_more place r (λ skip. records_in skip (place + 1) bytes)) is
    ∙ ap (λ (n : ℕ). joined (one ∷ []) (records_in n (place + 1) bytes)) less
    ∙ ap (joined (one ∷ [])) (records_skip k (place + 1) bytes)

-- none does
pub no_record : (place : ℕ) (bytes : List ℕ) (why : RecordFault) → 0 < length bytes → record_at bytes ≡ Err why → records_in 0 place bytes ≡ Err (fault.BadRecord place why)
no_record place [] why more is = absurd (omega arith)
no_record place (byte ∷ bytes) why more is = ap (λ (r : Result (Record × List ℕ) RecordFault). one_more place r (λ skip. records_in skip (place + 1) bytes)) is

-- one record more of a frame
pub more_records : (list new : List Record) (len : ℕ) (bytes after rest : List ℕ) (one : Record) (total : Result (List Record) LogFault)
    → joined list (records_in 0 (length list) bytes) ≡ total → 0 < len → 0 < length bytes → len ≡ record_length one → record_at bytes ≡ Ok (one, rest)
    → after ≡ drop len bytes → new ≡ list ++ one ∷ [] → joined new (records_in 0 (length new) after) ≡ total
more_records list new len bytes after rest one total told some more long is is_after pushed =
    let count : length list + 1 ≡ length new = omega (arith, ap length pushed, length-append list (one ∷ [])) in
    ap (λ (l : List Record). joined l (records_in 0 (length new) after)) pushed
    ∙ ap (λ (b : List ℕ). joined (list ++ one ∷ []) (records_in 0 (length new) b)) is_after
    ∙ ap (λ (n : ℕ). joined (list ++ one ∷ []) (records_in 0 n (drop len bytes))) (sym count)
    ∙ sym (joined_joined list (one ∷ []) (records_in 0 (length list + 1) (drop len bytes)))
    ∙ ap (joined list) (sym (record_found (length list) len bytes rest one some more long is))
    ∙ told

-- frames behind frames
pub records_append : (place : ℕ) (fs gs : List (List ℕ)) → records_of place (fs ++ gs) ≡ frame_more (records_of place fs) (λ count. records_of (place + count) gs)
records_append place [] gs =
    let same : place ≡ place + 0 = omega arith in
    ap (λ (n : ℕ). records_of n gs) same ∙ sym (joined_nil (records_of (place + 0) gs))
records_append place (f ∷ fs) gs = here (λ count. records_append (place + count) fs gs) (records_in 0 place f)
  where
    inner : (list : List Record) (r : Result (List Record) LogFault)
        → joined list (frame_more r (λ count. records_of (place + length list + count) gs)) ≡ frame_more (joined list r) (λ count. records_of (place + count) gs)
    inner list (Ok more) =
        let sum : place + length list + length more ≡ place + length (list ++ more) = omega (arith, length-append list more) in
        joined_joined list more (records_of (place + length list + length more) gs) ∙ ap (λ (n : ℕ). joined (list ++ more) (records_of n gs)) sum
    inner list (Err e) = refl

    here : ((count : ℕ) → records_of (place + count) (fs ++ gs) ≡ frame_more (records_of (place + count) fs) (λ more. records_of (place + count + more) gs)) → (r : Result (List Record) LogFault)
        → frame_more r (λ count. records_of (place + count) (fs ++ gs)) ≡ frame_more (frame_more r (λ count. records_of (place + count) fs)) (λ count. records_of (place + count) gs)
    here behind (Ok list) = ap (joined list) (behind (length list)) ∙ inner list (records_of (place + length list) fs)
    here behind (Err e) = refl

-- frames behind those that were read
pub records_after : (fs gs : List (List ℕ)) (list : List Record) → records_of 0 fs ≡ Ok list → records_of 0 (fs ++ gs) ≡ joined list (records_of (length list) gs)
records_after fs gs list read =
    let same : 0 + length list ≡ length list = omega arith in
    records_append 0 fs gs ∙ ap (λ (r : Result (List Record) LogFault). frame_more r (λ count. records_of (0 + count) gs)) read
    ∙ ap (λ (n : ℕ). joined list (records_of n gs)) same

-- the records of one frame more
pub frame_read : (fs : List (List ℕ)) (f : List ℕ) (list new : List Record) → records_of 0 fs ≡ Ok list → joined list (records_in 0 (length list) f) ≡ Ok new → records_of 0 (fs ++ f ∷ []) ≡ Ok new
frame_read fs f list new read more = records_after fs (f ∷ []) list read ∙ ap (joined list) (last (records_in 0 (length list) f)) ∙ more
  where
    last : (r : Result (List Record) LogFault) → frame_more r (λ count. records_of (length list + count) []) ≡ r
    last (Ok l) = ap (λ (x : List Record). Ok x) (append-nil l)
    last (Err e) = refl

-- a fault of one frame more
pub frame_bad : (fs more : List (List ℕ)) (f : List ℕ) (list : List Record) (e : LogFault) → records_of 0 fs ≡ Ok list → records_in 0 (length list) f ≡ Err e → records_of 0 (fs ++ f ∷ more) ≡ Err e
frame_bad fs more f list e read bad =
    records_after fs (f ∷ more) list read ∙ ap (λ (r : Result (List Record) LogFault). joined list (frame_more r (λ count. records_of (length list + count) more))) bad

-- what was read of the frames so far
pub record HasRead (bytes rest : List ℕ) (list : List Record) : Type 0 where
  pub frames : List (List ℕ)
  pub place : ℕ
  pub told : before frames (scan 0 place rest) ≡ scan 0 0 bytes
  pub read : records_of 0 frames ≡ Ok list

pub read_none : (bytes : List ℕ) (list : List Record) → list ≡ [] → HasRead bytes bytes list
read_none bytes list none = record { frames = []; place = 0; told = before_nil (scan 0 0 bytes); read = ap (λ (l : List Record). Ok l) (sym none) }

module _ (bytes rest : List ℕ) (list : List Record) (so_far : HasRead bytes rest list) (frame after : List ℕ) (gate : rest ≡ 1 ∷ drop 1 rest) (fits : number (drop 1 rest) + 4 < length (drop 1 rest))
    (is_frame : frame ≡ take (number (drop 1 rest)) (drop 4 (drop 1 rest))) (is_after : after ≡ drop (number (drop 1 rest) + 4) (drop 1 rest)) where
  told_more : before (so_far.frames ++ frame ∷ []) (scan 0 (so_far.place + (5 + length frame)) after) ≡ scan 0 0 bytes
  told_more = more_frames so_far.frames so_far.place rest frame after (scan 0 0 bytes) so_far.told gate fits is_frame is_after

  pub read_more : (new : List Record) → joined list (records_in 0 (length list) frame) ≡ Ok new → HasRead bytes after new
  read_more new more = record {
    frames = so_far.frames ++ frame ∷ [];
    place = so_far.place + (5 + length frame);
    told = told_more;
    read = frame_read so_far.frames frame list new so_far.read more;
  }

  all_bad : (e : LogFault) (frames : List (List ℕ)) (end : ℕ) → records_in 0 (length list) frame ≡ Err e → scan 0 0 bytes ≡ Ok (record { list = frames; end = end }) → records_of 0 frames ≡ Err e
  all_bad e frames end bad whole =
      let m = begins (so_far.frames ++ frame ∷ []) (scan 0 (so_far.place + (5 + length frame)) after) (record { list = frames; end = end }) (told_more ∙ whole) in
      ap (records_of 0) (m.1 ∙ append_assoc so_far.frames (frame ∷ []) m.0) ∙ frame_bad so_far.frames m.0 frame list e so_far.read bad

  pub read_bad : (e : LogFault) (frames : List (List ℕ)) (end : ℕ) → Fails e (records_in 0 (length list) frame) → scan 0 0 bytes ≡ Ok (record { list = frames; end = end }) → Fails e (records_of 0 frames)
  read_bad (fault.BadFrame at) frames end bad whole = all_bad (fault.BadFrame at) frames end bad whole
  read_bad (fault.BadRecord place why) frames end bad whole = all_bad (fault.BadRecord place why) frames end bad whole
  read_bad fault.NoMemory frames end bad whole = tt
  read_bad fault.DiskFault frames end bad whole = bad
  read_bad (fault.Broken opened now) frames end bad whole = bad

-- the fault of the record that would come next
pub record_fault : (why : RecordFault) (e : LogFault) (place : ℕ) (list first : List Record) (bytes : List ℕ) (total : Result (List Record) LogFault)
    → joined list (records_in 0 (length list) bytes) ≡ joined first total → 0 < length bytes → records.Fails {Y = Record × List ℕ} why (record_at bytes) → place ≡ length list
    → (why ≡ why_is.NoMemory → e ≡ fault.NoMemory) → ((why ≡ why_is.NoMemory → ⊥) → e ≡ fault.BadRecord place why) → Fails e total
record_fault why e place list first bytes total told more exact count memory others = by_case why exact memory others
  where
    bad : (w : RecordFault) → record_at bytes ≡ Err w → total ≡ Err (fault.BadRecord place w)
    bad w is = joined_err list first total (fault.BadRecord place w)
        (ap (joined list) (sym (no_record (length list) bytes w more is ∙ ap (λ (n : ℕ). Err (fault.BadRecord n w)) (sym count))) ∙ told)

    by_case : (w : RecordFault) → records.Fails {Y = Record × List ℕ} w (record_at bytes) → (w ≡ why_is.NoMemory → e ≡ fault.NoMemory) → ((w ≡ why_is.NoMemory → ⊥) → e ≡ fault.BadRecord place w) → Fails e total
    by_case why_is.Short x m o = subst (λ (k : LogFault). Fails k total) (sym (o (λ h. absurd (cc h)))) (bad why_is.Short x)
    by_case why_is.Tag x m o = subst (λ (k : LogFault). Fails k total) (sym (o (λ h. absurd (cc h)))) (bad why_is.Tag x)
    by_case why_is.Value x m o = subst (λ (k : LogFault). Fails k total) (sym (o (λ h. absurd (cc h)))) (bad why_is.Value x)
    by_case why_is.NoMemory x m o = subst (λ (k : LogFault). Fails k total) (sym (m refl)) tt

-- a fault that is handed on
pub gives_fault : {X Y : Type 0} (view : X → Y) (r : Result X LogFault) (e : LogFault) (read : Result Y LogFault) → IsErrAnd r (λ y. y ≡ e) → Fails e read → Gives view r read
gives_fault {X} {Y} view (Ok x) e read is bad = absurd is
gives_fault {X} {Y} view (Err y) e read is bad = subst (λ (k : LogFault). Fails k read) (sym is) bad

-- the fault of records is that of the log image
pub image_bad : (e : LogFault) (bytes : List ℕ) (frames : List (List ℕ)) (end : ℕ) → 1 < length bytes → length bytes ≤ longest → scan 0 0 bytes ≡ Ok (record { list = frames; end = end })
    → Fails e (records_of 0 frames) → Fails e (image_of bytes)
image_bad e bytes frames end some fits whole bad = by_case e bad
  where
    is : image_of bytes ≡ held end (records_of 0 frames)
    is = ap image_in (image_scan bytes some fits ∙ whole)

    by_case : (e : LogFault) → Fails e (records_of 0 frames) → Fails e (image_of bytes)
    by_case (fault.BadFrame at) b = is ∙ ap (held end) b
    by_case (fault.BadRecord place why) b = is ∙ ap (held end) b
    by_case fault.NoMemory b = tt
    by_case fault.DiskFault b = b
    by_case (fault.Broken opened now) b = b

-- an area that is too long, told or not
pub long_area : (tells : Bool) (log : List ℕ) (size : ℕ) → (IsTrue tells → size ≡ length log) → longest < size
    → (b : List ℕ) × (IsTrue tells → b ≡ log) × (longest < length b) × (longest ≡ longest)
long_area true log size h long = (log, λ _. refl, omega (arith, h refl, long), refl)
long_area false log size h long =
    let zeros : List ℕ = replicate size 0 in
    (zeros, λ no. absurd (cc no), omega (arith, length-replicate {A = ℕ} size 0, long), refl)

-- the fault of an area that couldn't be read
pub area_fault : {X : Type 0} (m : Moment) (r : Result X LogFault) (e : LogFault) → IsErrAnd r (λ y. y ≡ e) → IsUnread m e → IfErr r (λ y. (y ≡ fault.DiskFault) ⊎ IsFaultRead m y)
area_fault {X} m (Ok x) e is unread = absurd is
area_fault {X} m (Err y) e is unread = subst (λ (k : LogFault). (k ≡ fault.DiskFault) ⊎ IsFaultRead m k) (sym is) (by e unread)
  where
    by : (k : LogFault) → IsUnread m k → (k ≡ fault.DiskFault) ⊎ IsFaultRead m k
    by fault.DiskFault u = inl refl
    by (fault.BadFrame at) (bytes, told, long, place) = inr (bytes, told, ap image_in (image_long bytes long) ∙ ap (λ (n : ℕ). Err (fault.BadFrame n)) (sym place))
    by fault.NoMemory u = inr (m.seen.log, λ _. refl, tt)
    by (fault.BadRecord place why) u = absurd u
    by (fault.Broken opened now) u = absurd u
