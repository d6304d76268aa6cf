-- A flush in parts: a frame for each (this project's own rule).
use Rattle.std.specs.Prelude.{ℕ, ◌+◌, ◌≤◌, List, [], ◌∷◌, length, map, Vec}
use Rattle.std.specs.List.{sum_by}
use Rattle.std.specs.declared.alloc.Global.{Global}
use Rattle.pass_entry.specs.declared.record.Record.{Record}
use Rattle.pass_outside.specs.Moments.{Moment}
use Rattle.pass_log.specs.declared.log.Log.{Log}
use Rattle.pass_log.specs.Log.{IsFrameOf}
use Rattle.pass_log.specs.Records.{spellings}
use Rattle.pass_keep.specs.Kept.{Story, IsStory, Noted, IsKept, AreParts}

-- the parts as lists
abbrev pub lists_of : List (Vec Record Global) → List (List Record)
lists_of parts = map (λ part. part.items) parts

-- how many bytes their frames take in the log
abbrev pub frames_length : List (Vec Record Global) → ℕ
frames_length parts = sum_by (λ part. 5 + length (spellings part.items)) parts

-- how many bytes are written for these frames
abbrev pub bytes_length : List (Vec ℕ Global) → ℕ
bytes_length frames = sum_by (λ frame. length frame.items) frames

-- one frame for each part, in their order
abbrev pub AreFrames : List (List Record) → List (Vec ℕ Global) → Type 0
AreFrames [] [] = Unit {0}
AreFrames (part ∷ parts) (frame ∷ frames) = IsFrameOf part frame.items × AreFrames parts frames
AreFrames _ _ = ⊥

-- what was kept of some entries is kept of these and those of the frames
abbrev pub KeepsMore : List (Vec ℕ Global) → Moment → Log → Moment → Log → Type 0
KeepsMore frames old log new log_new = (s : Story) (noted : List Noted) (durable upto : ℕ) (parts : List (List Record)) → IsStory s → IsKept s old log durable noted
    → upto ≤ length s.history → AreParts s durable upto parts → AreFrames parts frames → IsKept s new log_new upto noted

-- what was kept is kept still
abbrev pub KeepsStill : List (Vec ℕ Global) → Moment → Log → Moment → Log → Type 0
KeepsStill frames old log new log_new = (s : Story) (noted : List Noted) (durable upto : ℕ) (parts : List (List Record)) → IsStory s → IsKept s old log durable noted
    → upto ≤ length s.history → AreParts s durable upto parts → AreFrames parts frames → IsKept s new log_new durable noted
