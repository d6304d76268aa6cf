-- What a follower has of another store's log. This project's own rule.
use Rattle.std.specs.Prelude.{ℕ, ◌≡◌, ◌≤◌, List, [], take, Ok}
use Rattle.std.specs.List.{All}
use Rattle.pass_log.specs.Frames.{Frames, frames_of}
use Rattle.pass_log.specs.Records.{Held, image_of}
use Rattle.pass_plain.specs.WellLogged.{IsWellLogged}
use Rattle.pass_standby.specs.Laws.{IsFitFrame}
use Rattle.pass_standby.specs.Sending.{IsSent}
use Rattle.pass_standby.specs.Streams.{furthest}
use Rattle.pass_ask.specs.Follows.{HasMore}

-- Whoever had nothing, and followed all that is sent of a log from its first frame on, has that log: its records, and byte by byte all
-- up to its end. The records are well logged, and its frames may come in a stream.
abbrev pub SentLaw : Type 0
SentLaw = (log text left : List ℕ) (frames : Frames) (held : Held) → frames_of log ≡ Ok frames → image_of log ≡ Ok held → IsWellLogged held.list → All IsFitFrame frames.list → frames.end ≤ furthest
    → IsSent log 0 text → HasMore [] text left → (image_of left ≡ image_of log) × (take held.end left ≡ take held.end log)
