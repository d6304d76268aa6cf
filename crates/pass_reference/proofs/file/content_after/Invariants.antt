use Rattle.std.proofs.Common.{◌≡◌, take}
use Rattle.pass_plain.specs.Recording.{bytes_after}
use Rattle.pass_reference.proofs.file.content_after.Given as goal

abbrev pub invariant-loop-i : goal.invariant-loop-i
invariant-loop-i l = l.content.items ≡ bytes_after l.start (take l.i l.history) l.object
