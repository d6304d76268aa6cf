use Rattle.std.proofs.Common.{take, sym, subst, arith}
use Rattle.std.proofs.lemmas.List.{take_all}
use Rattle.pass_prune.specs.Tables.{AreNodes}
use Rattle.pass_plain.proofs.Replays.{take-next}
use Rattle.pass_prune.proofs.Nodes.{nodes-push, lacking_at}
use Rattle.pass_prune.proofs.choosing.first_lacking.Goals as goal

pub loop-node-preserved : goal.loop-node-preserved
loop-node-preserved c =
    let named = c.args.named.now in
    let i = c.loop-node.node-index in
    let node = c.node-item.result in
    subst (AreNodes c.args.index.now) (sym (take-next named i node c.loop-node-test.true c.node-item.is)) (nodes-push c.args.index.now (take i named) node c.loop-node.invariant (c.has.ensures.there.0 (c.if-not-has.false)))

pub returns-then-not-has-clause-lacking : goal.returns-then-not-has-clause-lacking
returns-then-not-has-clause-lacking c =
    lacking_at c.args.index.now c.args.named.now c.loop-node.node-index c.node-item.result c.loop-node-test.true c.node-item.is c.loop-node.invariant (λ there. cc (c.has.ensures.there.1 there, c.if-not-has.true))

pub returns-clause-all : goal.returns-clause-all
returns-clause-all c = subst (AreNodes c.args.index.now) (take_all c.loop-node.node-index c.args.named.now (omega (arith, c.loop-node-test.false))) c.loop-node.invariant
