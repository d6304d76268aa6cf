use Rattle.std.proofs.Common.{◌≡◌}
use Rattle.pass_lives.specs.Pipes.{pipes_from}
use Rattle.pass_lives.proofs.pipes.pipe_from.Given as goal

abbrev pub invariant-loop-fd : goal.invariant-loop-fd
invariant-loop-fd g l = pipes_from l.process.state.descriptors l.from ≡ pipes_from l.process.state.descriptors l.fd
