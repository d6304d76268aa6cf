use Rattle.std.proofs.Common.{ap, ◌∙◌, take_all, arith}
use Rattle.std.specs.List.{list_any}
use Rattle.pass_report.proofs.Naming.{has_name, opened_names}
use Rattle.pass_report.proofs.names.Names.opened.Goals as goal

pub returns : goal.returns
returns c = λ session same.
    opened_names c.args.start.now c.loop-file.names (λ q. c.loop-file.invariant q ∙ ap (list_any (has_name q)) (take_all c.loop-file.file-index c.args.start.now.files.items (omega arith))) session same
