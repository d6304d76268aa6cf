use Rattle.std.proofs.lemmas.Option.{slice_get_past}
use Rattle.std.proofs.lemmas.Result.{on_ok_weaker}
use Rattle.pass_pattern.proofs.Visiting.{at_item, code_leads, nothing_leads, counted_code, nothing_counted}
use Rattle.pass_pattern.proofs.search.follow.Goals as goal

pub returns-in-Some-clause-visits : goal.returns-in-Some-clause-visits
returns-in-Some-clause-visits g c =
    on_ok_weaker c.go_on.result (λ adds.
    code_leads c.args.index.now c.args.code.now c.args.visit.now c.in-Some.instruction.now c.args.visits.now.keys c.go_on.new.visits.keys (at_item c.args.code.now c.args.visit.now.place c.in-Some.instruction.now c.in-Some.ensures.lookup.3) adds) c.go_on.ensures.visits

pub returns-in-Some-clause-steps : goal.returns-in-Some-clause-steps
returns-in-Some-clause-steps g c =
    counted_code c.args.index.now c.args.code.now c.args.visit.now c.in-Some.instruction.now c.args.steps.now c.go_on.new.steps (at_item c.args.code.now c.args.visit.now.place c.in-Some.instruction.now c.in-Some.ensures.lookup.3) c.go_on.ensures.steps

pub returns-in-None-clause-visits : goal.returns-in-None-clause-visits
returns-in-None-clause-visits g c = nothing_leads c.args.index.now c.args.code.now c.args.visit.now c.args.visits.now.keys (slice_get_past c.args.code.now c.args.visit.now.place c.in-None.ensures.lookup.3)

pub returns-in-None-clause-steps : goal.returns-in-None-clause-steps
returns-in-None-clause-steps g c = nothing_counted c.args.index.now c.args.code.now c.args.visit.now c.args.steps.now (slice_get_past c.args.code.now c.args.visit.now.place c.in-None.ensures.lookup.3)
