use Rattle.std.proofs.Common.{◌≡◌}
use Rattle.pass_plain.specs.Recording.{flags, opened_row}
use Rattle.pass_plain.proofs.contents.opened_rows.Given as goal

abbrev pub invariant-loop-block : goal.invariant-loop-block
invariant-loop-block l = l.rows.items ≡ flags (opened_row l.fn.start l.fn.object) l.block
