use Rattle.std.proofs.Common.{ℕ, ap, ◌∙◌}
use Rattle.std.specs.Prelude.{◌≡◌}
use Rattle.pass_recover.specs.declared.fault.OpenFault.TheVariants.{DiskFault, NoMemory}
use Rattle.pass_status.specs.Statuses.{status_of_opening}
use Rattle.pass_ask.specs.declared.words.Question.TheVariants.{Check}
use Rattle.pass_ask.proofs.Answering.{fault_judges, surveyed_judges}
use Rattle.pass_ask.proofs.asking.judge_store.Goals as goal
use Rattle.pass_entry.proofs.Variants.{err_inside}

pub returns-in-Ok-clause-judged : goal.returns-in-Ok-clause-judged
returns-in-Ok-clause-judged g c = λ known.
    surveyed_judges (g.D.Disk.view c.args.disk.now) (g.D.Disk.view c.survey.new.disk) c.in-Ok.found.list.items _ c.in-Ok.found.unmatched.items _ c.judge_survey.result.status c.judge_survey.result.text.items
    c.in-Ok.ensures.read c.in-Ok.ensures.unmatched (c.in-Ok.ensures.no_fault (λ err. absurd (cc)) (λ err. absurd (cc))) (c.in-Ok.ensures.stays (λ err. absurd (cc))) known
    c.deref.ensures.value c.deref-in-Ok.ensures.value c.judge_survey.ensures

pub returns-in-Err-clause-judged : goal.returns-in-Err-clause-judged
returns-in-Err-clause-judged g c =
    let old = g.D.Disk.view c.args.disk.now in
    let new = g.D.Disk.view c.survey.new.disk in
    let is : c.refused.result.status ≡ status_of_opening old.faults new.faults c.in-Err.fault =
    c.refused.ensures ∙ c.opening_status.ensures ∙ ap (λ (opened : ℕ). status_of_opening opened c.faults.result c.in-Err.fault) c.faults-opened.ensures
    ∙ ap (λ (now : ℕ). status_of_opening old.faults now c.in-Err.fault) c.faults.ensures in λ known.
    fault_judges Check (λ why is. is) old new c.in-Err.fault c.refused.result.status _ is known c.in-Err.ensures.fault
    (λ other. c.in-Err.ensures.no_fault (λ is. other (err_inside c.in-Err.fault DiskFault is))
    (λ starved. known (is ∙ ap (status_of_opening old.faults new.faults) (err_inside c.in-Err.fault NoMemory starved))))
    (λ other. c.in-Err.ensures.stays (λ is. other (err_inside c.in-Err.fault DiskFault is)))
