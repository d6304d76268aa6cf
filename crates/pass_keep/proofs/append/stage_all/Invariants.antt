use Rattle.std.proofs.Common.{◌≡◌, take}
use Rattle.pass_keep.specs.Parts.{lists_of, frames_length, bytes_length, AreFrames}
use Rattle.pass_keep.proofs.append.stage_all.Given as goal

abbrev pub invariant-loop-part : goal.invariant-loop-part
invariant-loop-part l = record {
  frames : AreFrames (lists_of (take l.part-index l.parts)) l.frames.items;
  length : bytes_length l.frames.items ≡ frames_length (take l.part-index l.parts);
}
