-- The records of frames, and the log image of an area: its records and its end, or the first fault (this project's own format).
use Rattle.std.specs.Prelude.{◌≡◌, ◌⊎◌, ℕ, zero, suc, ◌+◌, ◌-◌, List, [], ◌∷◌, ◌++◌, length, Result, Ok, Err}
use Rattle.pass_entry.specs.declared.record.Record.{Record}
use Rattle.pass_entry.specs.Lengths.{record_length}
use Rattle.pass_record.specs.declared.fault.RecordFault.{RecordFault}
use Rattle.pass_record.specs.Reading.{record_at}
use Rattle.pass_record.specs.Spelling.{spelling}
use Rattle.pass_log.specs.declared.fault.LogFault.{LogFault}
use Rattle.pass_log.specs.declared.fault.LogFault.TheVariants as fault
use Rattle.pass_log.specs.Frames.{Frames, frames_of}

-- these records, and then those that were found behind them
abbrev pub joined : List Record → Result (List Record) LogFault → Result (List Record) LogFault
joined list (Ok more) = Ok (list ++ more)
joined list (Err e) = Err e

-- the record that was found, and then those behind so many more bytes; a fault has the number that the record would have
abbrev pub one_more : ℕ → Result (Record × List ℕ) RecordFault → (ℕ → Result (List Record) LogFault) → Result (List Record) LogFault
one_more place (Ok found) behind = joined (found.0 ∷ []) (behind (record_length found.0 - 1))
one_more place (Err why) behind = Err (fault.BadRecord place why)

-- the records of a frame's bytes once the first so many are passed over, the first of that number
abbrev pub records_in : ℕ → ℕ → List ℕ → Result (List Record) LogFault
records_in skip place [] = Ok []
records_in (suc skip) place (byte ∷ bytes) = records_in skip place bytes
records_in zero place (byte ∷ bytes) = one_more place (record_at (byte ∷ bytes)) (λ skip. records_in skip (place + 1) bytes)

-- a frame's records, and then those of the frames behind it
abbrev pub frame_more : Result (List Record) LogFault → (ℕ → Result (List Record) LogFault) → Result (List Record) LogFault
frame_more (Ok list) behind = joined list (behind (length list))
frame_more (Err e) behind = Err e

-- the records of frames in order, the first of that number
abbrev pub records_of : ℕ → List (List ℕ) → Result (List Record) LogFault
records_of place [] = Ok []
records_of place (frame ∷ frames) = frame_more (records_in 0 place frame) (λ count. records_of (place + count) frames)

-- what a log area holds: its records, and the place of the gate behind its last frame
pub record Held : Type 0 where
  pub list : List Record
  pub end : ℕ

-- these records with that end
abbrev pub held : ℕ → Result (List Record) LogFault → Result Held LogFault
held end (Ok list) = Ok (record { list = list; end = end })
held end (Err e) = Err e

-- frames are judged before records
abbrev pub image_in : Result Frames ℕ → Result Held LogFault
image_in (Ok frames) = held frames.end (records_of 0 frames.list)
image_in (Err place) = Err (fault.BadFrame place)

-- the log image of an area's bytes
abbrev pub image_of : List ℕ → Result Held LogFault
image_of bytes = image_in (frames_of bytes)

-- the bytes of records, one behind the other
abbrev pub spellings : List Record → List ℕ
spellings [] = []
spellings (one ∷ list) = spelling one ++ spellings list

-- how many bytes a batch's frame takes in a log: its gate, four bytes of length, and the records' bytes
abbrev pub frame_length : List Record → ℕ
frame_length batch = 5 + length (spellings batch)

-- that of a frame with a ceiling alone
abbrev pub ceiling_length : ℕ
ceiling_length = 14

-- the log with the records of one frame more
abbrev pub with_batch : List Record → Result Held LogFault → Result Held LogFault
with_batch batch (Ok log) = Ok (record { list = log.list ++ batch; end = log.end + 5 + length (spellings batch) })
with_batch batch (Err e) = Err e

-- a log as it was, or with the whole batch
abbrev pub IsOldOrBoth : List Record → Result Held LogFault → Result Held LogFault → Type 0
IsOldOrBoth batch old new = (new ≡ old) ⊎ (new ≡ with_batch batch old)

-- this fault is the one that the bytes have, unless memory ran out
abbrev pub Fails : {Y : Type 0} → LogFault → Result Y LogFault → Type 0
Fails (fault.BadFrame at) read = read ≡ Err (fault.BadFrame at)
Fails (fault.BadRecord place why) read = read ≡ Err (fault.BadRecord place why)
Fails fault.NoMemory read = Unit {0}
Fails fault.DiskFault read = ⊥
Fails (fault.Broken opened now) read = ⊥

-- what a function answered, seen by view, is what the bytes have, unless memory ran out
abbrev pub Gives : {X Y : Type 0} → (X → Y) → Result X LogFault → Result Y LogFault → Type 0
Gives view (Ok x) read = read ≡ Ok (view x)
Gives view (Err e) read = Fails e read
