use Rattle.std.proofs.Common.{◌≡◌, false, rules}
use Rattle.std.specs.Prelude.{bytes_eq}
use Rattle.pass_view.proofs.Finding.{none_more}
use Rattle.pass_view.proofs.labels.value_among.Goals as goal

pub loop-name-preserved : goal.loop-name-preserved
loop-name-preserved c =
    let other : bytes_eq c.loop-name-item.result.0 c.args.attr.now ≡ false = search rules in
    none_more c.args.attr.now c.args.tags.now c.loop-name.name-index c.loop-name-item.result c.loop-name-test.true c.loop-name-item.is c.loop-name.invariant other
