use Rattle.std.proofs.Common.{◌≡◌, ◌+◌, true, false, take, sym, ap, ◌∙◌, subst}
use Rattle.pass_pattern.specs.Visits.{Adds, IsPassed}
use Rattle.pass_pattern.proofs.Visiting.{one_passed, one_stopped}
use Rattle.pass_pattern.proofs.search.along.Goals as goal
use Rattle.pass_pattern.proofs.search.along.Goals.{then-leads+in_ok-add, else-leads}

pub loop-node-preserved : goal.loop-node-preserved
loop-node-preserved c =
    let list = c.args.index.now in
    let row = c.args.row.now in
    let k = c.loop-node.node-index in
    let n = c.node-item.result in
    let old = c.args.visits.now.keys in
    let P = IsPassed list (take (k + 1) row) c.args.edge c.args.name.now c.args.next c.args.from.now in
    elim c.if-leads.branch [
      | then-leads+in_ok-add w ↦
          let both = c.leads.ensures.0 w.if-leads.true in
          subst (Adds P old) (sym (ap (λ v. v.keys) w.visits-is))
          (one_passed list row c.args.edge c.args.name.now c.args.next c.args.from.now k n c.loop-node-test.true c.node-item.is old c.loop-node.visits.keys w.add.new.visits.keys both.0 both.1 c.loop-node.invariant w.in_ok-add.ensures)
      | else-leads w ↦
          subst (Adds P old) (sym (ap (λ v. v.keys) w.visits-is))
          (one_stopped list row c.args.edge c.args.name.now c.args.next c.args.from.now k n c.loop-node-test.true c.node-item.is old c.loop-node.visits.keys
          (λ both. let z : true ≡ false = sym (c.leads.ensures.1 both) ∙ w.if-leads.false in cc) c.loop-node.invariant)
    ]
