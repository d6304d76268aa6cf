use Rattle.std.proofs.Common.{ap, ◌∙◌}
use Rattle.pass_drawn.proofs.Tallying.{tally_text}
use Rattle.pass_drawn.proofs.Wrote.{text_law}
use Rattle.pass_drawn.proofs.reporting.report.Goals as goal

pub returns-clause-text : goal.returns-clause-text
returns-clause-text c = λ session run.
    ap (λ v. v.items) c.into_bytes.ensures.value ∙ c.in_ok-text.ensures
    ∙ tally_text session c.args.number c.args.lines c.args.history.now run c.counted-tally.result c.counted-tally.ensures

pub returns-clause-fresh : goal.returns-clause-fresh
returns-clause-fresh c = λ start full least fresh.
    ap (λ v. v.items) c.into_bytes.ensures.value ∙ c.in_ok-text.ensures
    ∙ tally_text _ c.args.number c.args.lines c.args.history.now fresh.run c.counted-tally.result c.counted-tally.ensures
    ∙ text_law start full c.args.number c.args.lines c.args.history.now least fresh
