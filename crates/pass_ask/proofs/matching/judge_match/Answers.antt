use Rattle.std.proofs.Common.{sym, subst}
use Rattle.pass_status.specs.declared.status.Status.{Status}
use Rattle.pass_pattern.specs.Patterns.{shape_of}
use Rattle.pass_ask.specs.Asked.{IsPatternStatus}
use Rattle.pass_ask.proofs.Answering.{pattern_judges, pattern_reports, pattern_writes}
use Rattle.pass_ask.proofs.Patterns.{no_fault}
use Rattle.pass_ask.proofs.matching.judge_match.Goals as goal

pub returns-in-Ok-clause-judged : goal.returns-in-Ok-clause-judged
returns-in-Ok-clause-judged g c = c.judge_pattern.ensures.judged c.args.text.now c.in-Ok.ensures.pattern

pub returns-in-Ok-clause-unopened : goal.returns-in-Ok-clause-unopened
returns-in-Ok-clause-unopened g c = λ lost. absurd (lost (no_fault c.args.text.now (shape_of c.in-Ok.pattern) c.in-Ok.ensures.pattern))

pub returns-in-Err-clause-judged : goal.returns-in-Err-clause-judged
returns-in-Err-clause-judged g c = λ known.
    pattern_judges c.args.from c.args.text.now c.args.form (g.D.Disk.view c.args.disk.now) c.refused.result.status _
    (subst (λ (s : Status). IsPatternStatus c.args.text.now s) (sym c.refused.ensures) c.in-Err.ensures.refused) known

pub returns-in-Err-clause-reported : goal.returns-in-Err-clause-reported
returns-in-Err-clause-reported g c = pattern_reports c.args.text.now c.refused.result.status (subst (λ (s : Status). IsPatternStatus c.args.text.now s) (sym c.refused.ensures) c.in-Err.ensures.refused)

pub returns-in-Err-clause-unwritten : goal.returns-in-Err-clause-unwritten
returns-in-Err-clause-unwritten g c = pattern_writes c.args.text.now c.refused.result.status (subst (λ (s : Status). IsPatternStatus c.args.text.now s) (sym c.refused.ensures) c.in-Err.ensures.refused)
