use Rattle.std.proofs.Common.{arith}
use Rattle.std.specs.Prelude.{map}
use Rattle.std.proofs.lemmas.Result.{on_ok_weaker}
use Rattle.pass_query.proofs.Kin.{turn, turned_led, turned_only, turned_long}
use Rattle.pass_query.proofs.lineage.descendants.Goals as goal

pub returns-clause-steps : goal.returns-clause-steps
returns-clause-steps g c edges all =
    let most = c.others.ensures.steps (map turn edges) (turned_led c.args.index.now c.args.node edges all) in
    let long = turned_long edges in
    omega (arith, most, long)

pub returns-clause-counted : goal.returns-clause-counted
returns-clause-counted g c = on_ok_weaker c.others.result (λ least edges only.
    let fits = least (map turn edges) (turned_only c.args.index.now c.args.node edges only) in
    let long = turned_long edges in
    omega (arith, fits, long)) c.others.ensures.counted
