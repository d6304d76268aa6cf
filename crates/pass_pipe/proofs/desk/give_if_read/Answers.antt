use Rattle.std.proofs.Common.{ℕ, List, ap, ◌∙◌}
use Rattle.pass_entry.specs.declared.entry.Act.TheVariants as act
use Rattle.pass_plain.specs.Pipes.{pipe_act}
use Rattle.pass_pipe.proofs.desk.give_if_read.Goals as goal

pub returns-in-Ok-clause-state : goal.returns-in-Ok-clause-state
returns-in-Ok-clause-state c =
    λ out. c.in-Ok.ensures.ok out ∙ ap (λ (bytes : List ℕ). pipe_act c.args.state.now (act.Push out bytes)) c.as_bytes.ensures.bytes
