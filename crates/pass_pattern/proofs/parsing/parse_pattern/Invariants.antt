use Rattle.pass_pattern.specs.Reading.{state_of}
use Rattle.pass_pattern.proofs.Judging.{HasRead}
use Rattle.pass_pattern.proofs.parsing.parse_pattern.Given as goal

abbrev pub invariant-loop-at : goal.invariant-loop-at
invariant-loop-at l = HasRead l.text l.at (state_of l.reader)
