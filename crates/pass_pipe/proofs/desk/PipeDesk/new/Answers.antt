use Rattle.std.proofs.Common.{ap, sym, ◌∙◌, false}
use Rattle.pass_plain.specs.Pipes.{pipe_after}
use Rattle.pass_version.specs.States.{VersionState}
use Rattle.pass_flow.proofs.Flowing.{versioned_first}
use Rattle.pass_pipe.proofs.Piping.{first_version}
use Rattle.pass_pipe.proofs.desk.PipeDesk.new.Goals as goal

pub invariant_of-result : goal.invariant_of-result
invariant_of-result g c =
    let start = g.J.Whose.book.session.start in (
      versioned_first g.J.Whose.book c.args.desk c.args.what 1 false c.new.result (ap (λ (v : VersionState). v.lineage) c.new.ensures)
          c.requires.desk.0 c.requires.desk.1 c.requires.desk.2 (sym (first_version start c.args.what c.requires.made)) (sym c.requires.made),
      c.requires.state ∙ sym (ap (λ h. pipe_after h c.args.desk.what) c.requires.desk.2),
    )
