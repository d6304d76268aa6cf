use Rattle.std.proofs.Common.{ℕ, ap, ◌∙◌}
use Rattle.pass_pattern.specs.Patterns.{shape_of}
use Rattle.pass_recover.specs.declared.fault.OpenFault.TheVariants.{DiskFault}
use Rattle.pass_status.specs.Statuses.{status_of_opening}
use Rattle.pass_ask.specs.declared.words.Question.TheVariants.{Match}
use Rattle.pass_ask.proofs.Answering.{answered_judges, fault_judges, given_answered, matched_answer}
use Rattle.pass_ask.proofs.Patterns.{no_fault}
use Rattle.pass_ask.proofs.matching.judge_pattern.Goals as goal
use Rattle.pass_entry.proofs.Variants.{err_inside}

pub returns-in-Ok-clause-judged : goal.returns-in-Ok-clause-judged
returns-in-Ok-clause-judged g c = λ text is known.
    answered_judges (Match c.args.from text c.args.form) (no_fault text (shape_of c.args.pattern.now) is) (g.D.Disk.view c.args.disk.now) (g.D.Disk.view c.open_index.new.disk) c.in-Ok.index c.told.result.status
    c.told.result.text.items c.in-Ok.ensures.read (c.in-Ok.ensures.no_fault (λ err. absurd (cc))) (c.in-Ok.ensures.stays (λ err. absurd (cc))) known
    (given_answered c.in-Ok.index (Match c.args.from text c.args.form) c.answer.result c.told.result.status c.told.result.text.items c.told.ensures.given
    (matched_answer c.in-Ok.index text (shape_of c.args.pattern.now) c.args.from c.args.form c.answer.result is c.answer.ensures.text) c.answer.ensures.absent)

pub returns-in-Err-clause-judged : goal.returns-in-Err-clause-judged
returns-in-Err-clause-judged g c = λ text is known.
    fault_judges (Match c.args.from text c.args.form) (no_fault text (shape_of c.args.pattern.now) is) (g.D.Disk.view c.args.disk.now) (g.D.Disk.view c.open_index.new.disk) c.in-Err.fault c.refused.result.status _
    (c.refused.ensures ∙ c.opening_status.ensures ∙ ap (λ (opened : ℕ). status_of_opening opened c.faults.result c.in-Err.fault) c.faults-opened.ensures
    ∙ ap (λ (now : ℕ). status_of_opening (g.D.Disk.view c.args.disk.now).faults now c.in-Err.fault) c.faults.ensures)
    known c.in-Err.ensures.fault (λ other. c.in-Err.ensures.no_fault (λ is. other (err_inside c.in-Err.fault DiskFault is)))
    (λ other. c.in-Err.ensures.stays (λ is. other (err_inside c.in-Err.fault DiskFault is)))
