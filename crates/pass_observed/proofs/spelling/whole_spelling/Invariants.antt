use Rattle.std.proofs.Common.{◌≡◌, take}
use Rattle.pass_observed.specs.Spellings.{whole_spelling}
use Rattle.pass_observed.proofs.spelling.whole_spelling.Given as goal

abbrev pub invariant-loop-byte : goal.invariant-loop-byte
invariant-loop-byte l = l.text.items ≡ whole_spelling (take l.byte-index l.bytes)
