use Rattle.std.proofs.Common.{◌≡◌, ap, ◌∙◌, subst, Some}
use Rattle.std.specs.Prelude.{None, IfOk}
use Rattle.std.specs.Option.{option_map_or}
use Rattle.pass_entry.specs.declared.entry.Reply.TheVariants as answer
use Rattle.pass_plain.specs.Pipes.{Pipe, pipe_after}
use Rattle.pass_plain.specs.Replies.{taken}
use Rattle.pass_flow.specs.Flows.{ObjectView}
use Rattle.pass_pipe.proofs.desk.PipeDesk.first.Goals as goal

pub returns : goal.returns
returns g c =
    subst (λ (p : Pipe). IfOk c.peek.result (λ o. option_map_or (λ b. Some (answer.Took b)) o None ≡ taken p c.args.len))
    (c.self.invariant.1 ∙ ap (λ (v : ObjectView). pipe_after v.seen v.what) c.self.view_is) c.peek.ensures
