use Rattle.std.proofs.Common.{refl, arith}
use Rattle.pass_report.proofs.logged.Logged.opened.Goals as goal

pub returns : goal.returns
returns c = λ session same sound. record {
  files = c.new-2.ensures c.args.start.now session same sound;
  names = c.in_ok-names.ensures session same;
  edges = c.new.ensures.empty;
  count = refl;
  few = omega arith;
}
