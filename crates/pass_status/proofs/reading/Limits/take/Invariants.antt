use Rattle.std.proofs.Common.{◌≡◌, take}
use Rattle.std.specs.Prelude.{fold}
use Rattle.pass_status.specs.Reading.{counted}
use Rattle.pass_status.proofs.reading.Limits.take.Given as goal

abbrev pub invariant-bytes : goal.invariant-bytes
invariant-bytes l = l.self ≡ fold (counted l.fn.scale) l.fn.self (take l.byte-index l.piece)
