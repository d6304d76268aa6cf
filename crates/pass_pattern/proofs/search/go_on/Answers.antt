use Rattle.std.proofs.Common.{sym, subst, [], refl, arith}
use Rattle.std.specs.Prelude.{OnOk}
use Rattle.std.proofs.lemmas.Result.{on_ok_weaker}
use Rattle.pass_pattern.specs.declared.code.Instruction.TheVariants.{Found}
use Rattle.pass_pattern.specs.Visits.{Adds, LeadsBy, IsCountedBy}
use Rattle.pass_pattern.proofs.Visiting.{adds_none, along_leads}
use Rattle.pass_pattern.proofs.search.go_on.Goals as goal

pub returns-in-Along-clause-visits : goal.returns-in-Along-clause-visits
returns-in-Along-clause-visits g c =
    subst (λ i. OnOk c.along.result (Adds (LeadsBy c.args.index.now i c.args.node.now) c.args.visits.now.keys c.along.new.visits.keys)) (sym c.in-Along.is)
    (on_ok_weaker c.along.result (λ adds. along_leads c.args.index.now c.row-row.result.now c.in-Along.edge c.in-Along.name c.in-Along.next c.args.node.now c.args.visits.now.keys c.along.new.visits.keys c.row-row.ensures.row adds) c.along.ensures)

pub returns-in-Along-clause-steps : goal.returns-in-Along-clause-steps
returns-in-Along-clause-steps g c =
    subst (λ i. IsCountedBy c.args.index.now i c.args.node.now c.args.steps.now c.row-row.new.steps) (sym c.in-Along.is)
    (record { row = c.row-row.result.now; looks = c.row-row.ensures.row; exact = c.row-row.ensures.steps })

pub returns-in-Both-clause-visits : goal.returns-in-Both-clause-visits
returns-in-Both-clause-visits g c =
    subst (λ i. OnOk c.both.result (Adds (LeadsBy c.args.index.now i c.args.node.now) c.args.visits.now.keys c.both.new.visits.keys)) (sym c.in-Both.is) c.both.ensures

pub returns-in-Both-clause-steps : goal.returns-in-Both-clause-steps
returns-in-Both-clause-steps g c =
    subst (λ i. IsCountedBy c.args.index.now i c.args.node.now c.args.steps.now c.args.steps.now) (sym c.in-Both.is) (record { row = []; looks = refl; exact = omega arith })

pub returns-in-Found-clause-visits : goal.returns-in-Found-clause-visits
returns-in-Found-clause-visits g c =
    subst (λ i. Adds (LeadsBy c.args.index.now i c.args.node.now) c.args.visits.now.keys c.args.visits.now.keys) (sym c.in-Found.is)
    (adds_none (LeadsBy c.args.index.now Found c.args.node.now) c.args.visits.now.keys (λ x none. none))

pub returns-in-Found-clause-steps : goal.returns-in-Found-clause-steps
returns-in-Found-clause-steps g c =
    subst (λ i. IsCountedBy c.args.index.now i c.args.node.now c.args.steps.now c.args.steps.now) (sym c.in-Found.is) (record { row = []; looks = refl; exact = omega arith })
