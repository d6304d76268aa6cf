use Rattle.std.proofs.Common.{arith}
use Rattle.std.proofs.lemmas.List.{length-take-le}
use Rattle.pass_view.proofs.labels.push_shortened.Goals as goal

pub slice_bounds-push_shown-end : goal.slice_bounds-push_shown-end
slice_bounds-push_shown-end c = let short = length-take-le 97 c.args.bytes.now (omega (arith, c.if-bytes-le-VALUE.false)) in omega (arith, short)
