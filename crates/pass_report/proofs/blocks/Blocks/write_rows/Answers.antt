use Rattle.std.proofs.Common.{false, get_or, refl, arith}
use Rattle.pass_plain.specs.Records.{touches}
use Rattle.pass_report.proofs.Digesting.{row_stays, untouched_below}
use Rattle.pass_report.proofs.blocks.Blocks.write_rows.Goals as goal

pub loop-block-init : goal.loop-block-init
loop-block-init c = record {
  size = refl;
  done = λ k low. row_stays (get_or c.args.self.now.rows.items k false) (touches c.args.at c.args.len k)
      (untouched_below c.args.at c.args.len k (λ some. (let y = c.blocks_between-first.ensures.low in omega (arith, y, low))));
  left = λ k from. refl;
}
