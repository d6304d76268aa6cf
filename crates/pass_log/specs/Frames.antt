-- The frames of a log area: those behind open gates, the end, or the first broken frame (this project's own format).
use Rattle.std.specs.Prelude.{◌≡◌, ◌≢◌, ◌<◌, ℕ, zero, suc, ◌+◌, List, [], ◌∷◌, ◌++◌, length, take, drop, Result, Ok, Err, nat_lt, nat_le, ◌==◌, if◌then◌else◌}
use Rattle.std.specs.Int.{w32, to_be_bytes, from_be_bytes}

-- the frames' bytes, and the place of the gate behind the last of them
pub record Frames : Type 0 where
  pub list : List (List ℕ)
  pub end : ℕ

-- these frames, and then those of a scan
abbrev pub before : List (List ℕ) → Result Frames ℕ → Result Frames ℕ
before fs (Ok r) = Ok (record { list = fs ++ r.list; end = r.end })
before fs (Err place) = Err place

-- the length that four bytes at the front spell
abbrev pub number : List ℕ → ℕ
number bytes = from_be_bytes w32 (take 4 bytes)

-- The frames from a gate on, which stands at that place once the first so many bytes are passed over. A gate is open
-- exactly where its byte is 1; behind it stand a length and so many bytes, and then the next gate. Err is the place
-- of an open gate behind which a whole frame and the next gate don't stand.
abbrev pub scan : ℕ → ℕ → List ℕ → Result Frames ℕ
scan skip place [] = Ok (record { list = []; end = place })
scan (suc skip) place (byte ∷ bytes) = scan skip (place + 1) bytes
scan zero place (gate ∷ bytes) =
    if gate == 1
    then (if nat_lt (number bytes + 4) (length bytes) then before (take (number bytes) (drop 4 bytes) ∷ []) (scan (number bytes + 4) (place + 1) bytes) else Err place)
    else Ok (record { list = []; end = place })

-- the longest area that a log may have: 2 ^ 39
abbrev pub longest : ℕ
longest = 549755813888

-- An area of at most one byte is an empty log, and one that is too long is broken at that length.
abbrev pub frames_of : List ℕ → Result Frames ℕ
frames_of bytes = if nat_lt longest (length bytes) then Err longest else (if nat_le (length bytes) 1 then Ok (record { list = []; end = 0 }) else scan 0 0 bytes)

-- what the first write of a frame has, behind its gate
abbrev pub staged : List ℕ → List ℕ
staged frame = to_be_bytes w32 (length frame) ++ frame ++ 0 ∷ []

-- the log with one frame more
abbrev pub with_frame : List ℕ → Result Frames ℕ → Result Frames ℕ
with_frame frame (Ok r) = Ok (record { list = r.list ++ frame ∷ []; end = r.end + 5 + length frame })
with_frame frame (Err place) = Err place

-- Bytes of whole frames behind open gates: whatever stands behind them, a scan finds these first.
pub record IsFront (front : List ℕ) (list : List (List ℕ)) : Type 0 where
  pub passes : (place : ℕ) (rest : List ℕ) → 0 < length rest → scan 0 place (front ++ rest) ≡ before list (scan 0 (place + length front) rest)

-- A log at rest: whole frames, a gate that isn't open, and bytes that don't count.
pub record Rests (list : List (List ℕ)) (end : ℕ) (bytes : List ℕ) : Type 0 where
  pub front : List ℕ
  pub gate : ℕ
  pub tail : List ℕ
  pub is : bytes ≡ front ++ gate ∷ tail
  pub shut : gate ≢ 1
  pub passes : IsFront front list
  pub place : length front ≡ end
