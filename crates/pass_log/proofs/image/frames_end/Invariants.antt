use Rattle.std.proofs.Common.{◌≡◌, ◌+◌, ℕ, List, length}
use Rattle.pass_log.specs.Frames.{before, scan}
use Rattle.pass_log.proofs.image.frames_end.Given as goal

-- the frames so far and those of the rest are all of them
abbrev pub invariant-loop-rest : goal.invariant-loop-rest
invariant-loop-rest l = record {
  told : (frames : List (List ℕ)) × (before frames (scan 0 l.place l.rest) ≡ scan 0 0 l.bytes);
  size : l.place + length l.rest ≡ length l.bytes;
}

abbrev pub decreases-loop-rest : goal.decreases-loop-rest
decreases-loop-rest l = length l.rest
