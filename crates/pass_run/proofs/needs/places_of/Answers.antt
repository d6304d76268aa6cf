use Rattle.std.proofs.Common.{◌+◌, ◌∙◌, sym, ap, List, arith}
use Rattle.std.specs.Prelude.{sum_by}
use Rattle.std.proofs.lemmas.List.{take_all}
use Rattle.pass_trace.specs.declared.trace.TraceLine.{TraceLine}
use Rattle.pass_run.proofs.Needed.{need, places_are}
use Rattle.pass_run.proofs.needs.places_of.Goals as goal

pub returns : goal.returns
returns c =
    let all = ap (λ (ls : List TraceLine). 66 + sum_by need ls) (take_all c.loop-line.line-index c.args.lines.now (omega arith)) in
    c.loop-line.invariant.0 ∙ all ∙ sym (places_are c.args.lines.now)
