use Rattle.pass_query.proofs.Kin.{are_all}
use Rattle.pass_query.proofs.lineage.others.Goals as goal

pub returns-clause-all : goal.returns-clause-all
returns-clause-all g c =
    are_all c.args.way c.args.index.now c.args.node.now c.has.ensures.logged c.in_ok-reached.reached.items c.deref.result.now c.in_ok-in_order.field-0.items
    c.in_ok-reached.ensures.whole c.deref.ensures.value c.in_ok-in_order.ensures.permuted c.in_ok-in_order.ensures.sorted

pub returns-clause-counted : goal.returns-clause-counted
returns-clause-counted g c = c.in_ok-reached.ensures.counted
