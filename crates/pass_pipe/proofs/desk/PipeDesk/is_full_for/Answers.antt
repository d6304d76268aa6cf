use Rattle.std.proofs.Common.{ap, ◌∙◌, not}
use Rattle.std.specs.Prelude.{is_some}
use Rattle.pass_plain.specs.Pipes.{Pipe, pipe_after}
use Rattle.pass_plain.specs.Replies.{pushed}
use Rattle.pass_flow.specs.Flows.{ObjectView}
use Rattle.pass_pipe.proofs.desk.PipeDesk.is_full_for.Goals as goal

pub returns : goal.returns
returns g c =
    c.is_full_for.ensures ∙ ap (λ (p : Pipe). not (is_some (pushed p c.args.len))) (c.self.invariant.1 ∙ ap (λ (v : ObjectView). pipe_after v.seen v.what) c.self.view_is)
