use Rattle.std.proofs.Common.{◌≡◌, rules, false, ap}
use Rattle.std.specs.Prelude.{is_some}
use Rattle.std.specs.Ordering.{nat_cmp}
use Rattle.std.specs.BTreeMap.{get}
use Rattle.pass_entry.proofs.Variants.{none_of}
use Rattle.pass_audit.proofs.Coursing.{met_fresh}
use Rattle.pass_audit.proofs.auditing.meet.Goals as goal

pub returns-clause-met : goal.returns-clause-met
returns-clause-met c = ap is_some c.in_ok-insert.ensures.updates.1

pub returns-clause-fresh : goal.returns-clause-fresh
returns-clause-fresh c = λ own was.
    let absent : is_some (get nat_cmp c.args.courses.now c.args.pnode) ≡ false = search rules in
    met_fresh own c.args.courses.now c.insert.new.self c.args.pnode c.new.result c.in_ok-insert.ensures.updates (none_of (get nat_cmp c.args.courses.now c.args.pnode) absent)
    c.new.ensures.steps c.new.ensures.next c.new.ensures.state c.new.ensures.content was
