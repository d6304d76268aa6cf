use Rattle.std.proofs.Common.{ap, ◌∙◌}
use Rattle.std.specs.Prelude.{Err}
use Rattle.pass_trace.specs.declared.limits.Scale.TheVariants.{Usual}
use Rattle.pass_strace.proofs.translating.read_again.Goals as goal

-- where the usual scale has a fault, the text is none of it
pub returns-in_ok-read_long-in-Err-BadTrace-clause-scale : goal.returns-in_ok-read_long-in-Err-BadTrace-clause-scale
returns-in_ok-read_long-in-Err-BadTrace-clause-scale c = λ long.
    let b = c.in-Err-BadTrace in
    c.text_or_one_fault.ensures.apart Usual c.args.text.now b.field-0-0 b.field-0-1 (c.parse.ensures.fault b.field-0-0 b.field-0-1 (b.is ∙ ap Err b.field-0-is))
