-- What holds of a stream, however it comes.
use Rattle.std.specs.Prelude.{ℕ, ◌<◌, ◌≤◌, ◌≡◌, ◌+◌, true, false, List, [], ◌∷◌, ◌++◌, length, take, Some, Ok}
use Rattle.std.specs.Int.{w32, to_be_bytes}
use Rattle.std.specs.List.{All}
use Rattle.pass_entry.specs.declared.record.Record.{Record}
use Rattle.pass_log.specs.Frames.{Frames, frames_of, longest}
use Rattle.pass_log.specs.Records.{Held, image_of}
use Rattle.pass_plain.specs.WellLogged.{IsWellLogged}
use Rattle.pass_standby.specs.Logs.{HasBadFrame}
use Rattle.pass_standby.specs.Streams.{Told, followed, told_from, head, longest_frame, furthest, is_fit, batch_in}

-- bytes in two pieces are the bytes in one
abbrev pub CutsLaw : Type 0
CutsLaw = (t : Told) (front rest : List ℕ) → followed t (front ++ rest) ≡ followed (followed t front) rest

-- behind a bad frame nothing counts
abbrev pub BadLaw : Type 0
BadLaw = (t : Told) (bytes : List ℕ) → t.bad ≡ true → followed t bytes ≡ t

-- the records of more bytes begin with those from before, and the place is no earlier
abbrev pub GrowsLaw : Type 0
GrowsLaw = (t : Told) (bytes : List ℕ) → ((more : List Record) × ((followed t bytes).list ≡ t.list ++ more)) × (t.at ≤ (followed t bytes).at)

-- well logged records stay so
abbrev pub LoggedLaw : Type 0
LoggedLaw = (t : Told) (bytes : List ℕ) → IsWellLogged t.list → IsWellLogged (followed t bytes).list

-- a log with a bad frame doesn't hold well logged records
abbrev pub BadLogLaw : Type 0
BadLogLaw = (bytes : List ℕ) (at : ℕ) → 1 < length bytes → length bytes ≤ longest → HasBadFrame bytes at → (held : Held) → image_of bytes ≡ Ok held → IsWellLogged held.list → ⊥

-- A frame as it stands in a log, of a length that may stand there, is whole: its records come behind the others.
abbrev pub WholeLaw : Type 0
WholeLaw = (list : List Record) (at : ℕ) (frame : List ℕ) (batch : List Record) → is_fit at (length frame) ≡ true → batch_in list frame ≡ Some batch
    → followed (record { list = list; at = at; begun = []; bad = false }) (1 ∷ to_be_bytes w32 (length frame) ++ frame)
    ≡ record { list = list ++ batch; at = at + head + length frame; begun = []; bad = false }

-- a frame that a stream may have
abbrev pub IsFitFrame : List ℕ → Type 0
IsFitFrame frame = (1 ≤ length frame) × (length frame ≤ longest_frame)

-- Whoever takes all that a log has up to its end, from its first frame on, has its records and ends where it ends: where these are well
-- logged, and its frames may come in a stream.
abbrev pub AllLaw : Type 0
AllLaw = (log : List ℕ) (frames : Frames) (held : Held) → frames_of log ≡ Ok frames → image_of log ≡ Ok held → IsWellLogged held.list → All IsFitFrame frames.list → frames.end ≤ furthest
    → followed (told_from (record { list = []; end = 0 })) (take frames.end log) ≡ told_from held
