use Rattle.std.proofs.Common.{◌++◌, arith}
use Rattle.pass_view.specs.Dots.{lines_from}
use Rattle.pass_view.proofs.Lines.{lines_closed}
use Rattle.pass_view.proofs.dots.push_lines.Goals as goal

pub returns : goal.returns
returns c =
    lines_closed c.args.text.now (c.args.out.now.items ++ lines_from 60 c.args.text.now) c.loop-byte.out.items c.loop-byte.left c.loop-byte.byte-index (omega (arith, c.loop-byte-test.false))
    c.loop-byte.invariant
