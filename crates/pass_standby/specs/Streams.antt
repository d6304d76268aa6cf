-- The stream of a log: its frames one behind the other, each an open gate, four bytes that spell a length, and so many bytes of
-- records. Each frame is judged as its bytes come (this project's own format).
use Rattle.std.specs.Prelude.{ℕ, ◌+◌, ◌-◌, ◌<◌, ◌≤◌, ◌==◌, ◌≡◌, Bool, true, false, not, ◌&&◌, List, [], ◌∷◌, ◌++◌, length, get_or, take, drop, fold, Option, Some, None, Result, Ok, Err, nat_lt, nat_le, if◌then◌else◌}
use Rattle.std.specs.Int.{w32, to_be_bytes}
use Rattle.std.specs.Option.{option_map_or}
use Rattle.pass_entry.specs.declared.record.Record.{Record}
use Rattle.pass_plain.specs.WellLogged.{first_flaw_after}
use Rattle.pass_log.specs.declared.fault.LogFault.{LogFault}
use Rattle.pass_log.specs.Frames.{number}
use Rattle.pass_log.specs.Records.{Held, records_in, image_of}
use Rattle.pass_standby.specs.declared.frame.Judgement.{Judgement}
use Rattle.pass_standby.specs.declared.frame.Judgement.TheVariants.{Begun, Bad, Whole}

-- how many bytes of records a frame may have: 2 ^ 31
abbrev pub longest_frame : ℕ
longest_frame = 2147483648

-- the last place at which a frame may end: 2 ^ 38
abbrev pub furthest : ℕ
furthest = 274877906944

-- how many bytes a frame has in front of its records: its gate and its length
abbrev pub head : ℕ
head = 5

-- the length that the first bytes of a frame claim
abbrev pub claimed : List ℕ → ℕ
claimed frame = number (drop 1 frame)

-- its gate is open
abbrev pub is_open : List ℕ → Bool
is_open frame = get_or frame 0 0 == 1

-- a frame at that place may have that length
abbrev pub is_fit : ℕ → ℕ → Bool
is_fit at count = nat_le 1 count && nat_le count longest_frame && nat_le (at + head + count) furthest

-- Whether a frame at that place of which these bytes have come is bad, or they are all of it: the gate is judged at its byte,
-- the length at its fourth.
abbrev pub judgement : ℕ → List ℕ → Judgement
judgement at frame =
    if not (is_open frame) then Bad
    else (if nat_lt (length frame) head then Begun
    else (if not (is_fit at (claimed frame)) then Bad
    else (if nat_lt (length frame) (head + claimed frame) then Begun else Whole)))

-- these records behind a list, if they have no flaw there
abbrev pub unflawed : List Record → Result (List Record) LogFault → Option (List Record)
unflawed list (Ok batch) = option_map_or (λ flaw. None) (first_flaw_after list batch) (Some batch)
unflawed list (Err e) = None

-- the records of a frame's bytes, if they are whole records, without a flaw behind a list
abbrev pub batch_in : List Record → List ℕ → Option (List Record)
batch_in list bytes = unflawed list (records_in 0 (length list) bytes)

-- What has come of a stream: the records of the whole frames, with those that stood before; the place behind them; the bytes of
-- the frame that has begun there; and whether it is bad.
pub record Told : Type 0 where
  pub list : List Record
  pub at : ℕ
  pub begun : List ℕ
  pub bad : Bool

-- with a frame that is bad
abbrev pub spoiled : Told → List ℕ → Told
spoiled t frame = record t { begun = frame; bad = true }

-- with a whole frame of these records
abbrev pub with_batch : Told → List ℕ → List Record → Told
with_batch t frame batch = record { list = t.list ++ batch; at = t.at + length frame; begun = []; bad = false }

-- with these bytes of the frame that has begun, so judged
abbrev pub judged : Told → List ℕ → Judgement → Told
judged t frame Begun = record t { begun = frame }
judged t frame Bad = spoiled t frame
judged t frame Whole = option_map_or (with_batch t frame) (batch_in t.list (drop head frame)) (spoiled t frame)

-- one byte more; behind a bad frame nothing counts
abbrev pub arrived : Told → ℕ → Told
arrived t byte = if t.bad then t else judged t (t.begun ++ byte ∷ []) (judgement t.at (t.begun ++ byte ∷ []))

-- these bytes more, however they are cut
abbrev pub followed : Told → List ℕ → Told
followed t bytes = fold arrived t bytes

-- a log with nothing of a stream behind it
abbrev pub told_from : Held → Told
told_from held = record { list = held.list; at = held.end; begun = []; bad = false }

-- how many bytes of a frame there are where it is judged next
abbrev pub next_stop : List ℕ → ℕ
next_stop frame = if nat_lt (length frame) 1 then 1 else (if nat_lt (length frame) head then head else head + claimed frame)

-- the bytes of a frame at that place that isn't whole, and not bad so far
pub record IsBegun (at : ℕ) (frame : List ℕ) : Type 0 where
  pub open_gate : 1 ≤ length frame → is_open frame ≡ true
  pub fits : head ≤ length frame → is_fit at (claimed frame) ≡ true
  pub short : length frame < next_stop frame

-- all of a frame at that place
pub record IsWhole (at : ℕ) (frame : List ℕ) : Type 0 where
  pub gate : is_open frame ≡ true
  pub fit : is_fit at (claimed frame) ≡ true
  pub size : length frame ≡ head + claimed frame

-- its length is spelled in front of its records
abbrev pub IsSpelled : List ℕ → Type 0
IsSpelled frame = drop 1 frame ≡ to_be_bytes w32 (claimed frame) ++ drop head frame

-- a log area has these records and ends at that place, and up to there it has these bytes
pub record HoldsLog (list : List Record) (at : ℕ) (kept log : List ℕ) : Type 0 where
  pub image : image_of log ≡ Ok (record { list = list; end = at })
  pub bytes : take at log ≡ kept

-- those of the whole frames
abbrev pub HasFrames : Told → List ℕ → List ℕ → Type 0
HasFrames t kept log = HoldsLog t.list t.at kept log

-- the bytes that were kept, and behind them as many of these as the place has moved
abbrev pub bytes_as : List ℕ → Told → List ℕ → Told → List ℕ
bytes_as kept t bytes u = kept ++ take (u.at - t.at) bytes

-- the bytes that were kept, and behind them those with which these bytes of a stream have made frames whole
abbrev pub bytes_with : List ℕ → Told → List ℕ → List ℕ
bytes_with kept t bytes = bytes_as kept t (t.begun ++ bytes) (followed t bytes)

-- a log area has the frames of some beginning of these bytes, behind the bytes that were kept
abbrev pub HasSomeFrames : List ℕ → Told → List ℕ → List ℕ → Type 0
HasSomeFrames kept t bytes log = (n : ℕ) × (n ≤ length bytes) × HasFrames (followed t (take n bytes)) (bytes_with kept t (take n bytes)) log
