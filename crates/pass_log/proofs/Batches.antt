-- The records of a batch are read again from its frame.
use Rattle.std.proofs.Common.{◌≡◌, inl, inr, IsTrue, ℕ, suc, ◌+◌, ◌<◌, List, [], ◌∷◌, ◌++◌, length, Result, Ok, Err, refl, ◌∙◌, ap, arith, length-append}
use Rattle.std.specs.Prelude.{OnOk}
use Rattle.std.specs.List.{All}
use Rattle.pass_outside.specs.Areas.{Image}
use Rattle.pass_outside.specs.Moments.{Moment, Adds}
use Rattle.pass_outside.specs.Runs.{adds_weaker}
use Rattle.std.proofs.lemmas.List.{append-nil, drop_at}
use Rattle.pass_entry.specs.declared.record.Record.{Record}
use Rattle.pass_entry.specs.Lengths.{record_length}
use Rattle.pass_entry.specs.Ranges.{IsInRange}
use Rattle.pass_record.specs.Reading.{record_at}
use Rattle.pass_record.specs.Spelling.{spelling}
use Rattle.pass_log.specs.declared.fault.LogFault.{LogFault}
use Rattle.pass_log.specs.Frames.{Frames, frames_of, with_frame}
use Rattle.pass_log.specs.Records.{joined, records_in, frame_more, records_of, held, image_in, image_of, spellings, with_batch, IsOldOrBoth}
use Rattle.pass_log.specs.Log.{IsFrameOf, batch_of, IsBeforeOrAfter, IsOldOrMore}
use Rattle.pass_log.proofs.Reading.{record_found, records_append}
use Rattle.pass_log.proofs.Append.{batch_staged}

-- what is written of a record is read again
abbrev pub IsReadAgain : Type 0
IsReadAgain = (one : Record) (rest : List ℕ) → IsInRange one → record_at (spelling one ++ rest) ≡ Ok (one, rest)

-- a spelling has the record's length
abbrev pub HasLength : Type 0
HasLength = (one : Record) → IsInRange one → length (spelling one) ≡ record_length one

some_bytes : (one : Record) → 0 < length (spelling one)
unfolding spelling
some_bytes one = omega arith

pub frame_batch : (batch : List Record) (frame : List ℕ) → IsFrameOf batch frame → batch_of frame ≡ spellings batch
frame_batch batch frame is = ap batch_of is.is ∙ batch_staged (spellings batch)

module _ (again : IsReadAgain) (lengths : HasLength) where
  pub batch_read : (place : ℕ) (batch : List Record) → All IsInRange batch → records_in 0 place (spellings batch) ≡ Ok batch
  batch_read place [] all = refl
  batch_read place (one ∷ batch) all =
      let here : IsInRange one = all 0 one (omega arith) in
      let long : length (spelling one) ≡ record_length one = lengths one here in
      let some : 0 < record_length one = omega (arith, some_bytes one, long) in
      let more : 0 < length (spelling one ++ spellings batch) = omega (arith, some_bytes one, length-append (spelling one) (spellings batch)) in
      let behind = batch_read (place + 1) batch (λ k d below. all (suc k) d (omega (arith, below))) in
      record_found place (record_length one) (spelling one ++ spellings batch) (spellings batch) one some more refl (again one (spellings batch) here)
      ∙ ap (λ (b : List ℕ). joined (one ∷ []) (records_in 0 (place + 1) b)) (drop_at (spelling one) (spellings batch) (record_length one) long)
      ∙ ap (joined (one ∷ [])) behind

  pub image_more : (batch : List Record) (x : Result Frames ℕ) → All IsInRange batch → image_in (with_frame (spellings batch) x) ≡ with_batch batch (image_in x)
  image_more batch (Err place) all = refl
  image_more batch (Ok r) all =
      ap (held (r.end + 5 + length (spellings batch))) (records_append 0 r.list (spellings batch ∷ [])) ∙ last (records_of 0 r.list)
    where
      one_frame : (place : ℕ) → records_of place (spellings batch ∷ []) ≡ Ok batch
      one_frame place = ap (λ (f : Result (List Record) LogFault). frame_more f (λ count. records_of (place + count) [])) (batch_read place batch all) ∙ ap (λ (l : List Record). Ok l) (append-nil batch)

      last : (found : Result (List Record) LogFault)
          → held (r.end + 5 + length (spellings batch)) (frame_more found (λ count. records_of (0 + count) (spellings batch ∷ []))) ≡ with_batch batch (held r.end found)
      last (Ok list) = ap (λ (f : Result (List Record) LogFault). held (r.end + 5 + length (spellings batch)) (joined list f)) (one_frame (0 + length list))
      last (Err e) = refl

  -- the frame of a batch puts its records behind the others
  pub frame_image : (batch : List Record) (frame : List ℕ) (x : Result Frames ℕ) → IsFrameOf batch frame → image_in (with_frame (batch_of frame) x) ≡ with_batch batch (image_in x)
  frame_image batch frame x is = ap (λ (b : List ℕ). image_in (with_frame b x)) (frame_batch batch frame is) ∙ image_more batch x is.in_range

module _ {T E : Type 0} (again : IsReadAgain) (lengths : HasLength) (old new : Moment) (frame : List ℕ) where
  pub acknowledges : (r : Result T E) → OnOk r (IsTrue old.tells → (c : Image) → new.may_leave c → frames_of c.log ≡ with_frame (batch_of frame) (frames_of old.seen.log))
      → OnOk r ((batch : List Record) → IsFrameOf batch frame → IsTrue old.tells → (c : Image) → new.may_leave c → image_of c.log ≡ with_batch batch (image_of old.seen.log))
  acknowledges (Ok x) h = λ batch is tells c may. ap image_in (h tells c may) ∙ frame_image again lengths batch frame (frames_of old.seen.log) is
  acknowledges (Err e) h = tt

  pub reads_both : (r : Result T E) → OnOk r (IsTrue old.tells → frames_of new.seen.log ≡ with_frame (batch_of frame) (frames_of old.seen.log))
      → OnOk r ((batch : List Record) → IsFrameOf batch frame → IsTrue old.tells → image_of new.seen.log ≡ with_batch batch (image_of old.seen.log))
  reads_both (Ok x) h = λ batch is tells. ap image_in (h tells) ∙ frame_image again lengths batch frame (frames_of old.seen.log) is
  reads_both (Err e) h = tt

module _ (again : IsReadAgain) (lengths : HasLength) (old new : Moment) (frame : List ℕ) (end : ℕ) where
  pub old_or_both : (batch : List Record) → IsFrameOf batch frame → Adds old new (λ c. IsBeforeOrAfter frame end old.seen.log c.log)
      → Adds old new (λ c. IsOldOrBoth batch (image_of old.seen.log) (image_of c.log))
  old_or_both batch is run = adds_weaker (λ c. IsOldOrBoth batch (image_of old.seen.log) (image_of c.log)) old new run (λ c x. either c x)
    where
      either : (c : Image) → IsBeforeOrAfter frame end old.seen.log c.log → IsOldOrBoth batch (image_of old.seen.log) (image_of c.log)
      either c (inl same) = inl (ap image_in same.frames)
      either c (inr more) = inr (ap image_in more.frames ∙ frame_image again lengths batch frame (frames_of old.seen.log) is)

  pub old_or_more : (batch : List Record) → IsFrameOf batch frame → Adds old new (λ c. IsBeforeOrAfter frame end old.seen.log c.log)
      → Adds old new (λ c. IsOldOrMore batch frame end old.seen.log c.log)
  old_or_more batch is run = adds_weaker (λ c. IsOldOrMore batch frame end old.seen.log c.log) old new run (λ c x. either c x)
    where
      either : (c : Image) → IsBeforeOrAfter frame end old.seen.log c.log → IsOldOrMore batch frame end old.seen.log c.log
      either c (inl same) = inl (record { image = ap image_in same.frames; bytes = same.bytes })
      either c (inr more) = inr (record { image = ap image_in more.frames ∙ frame_image again lengths batch frame (frames_of old.seen.log) is; bytes = more.bytes })
