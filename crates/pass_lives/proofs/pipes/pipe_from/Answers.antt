use Rattle.std.proofs.Common.{◌+◌, ◌<◌, ap, sym, ◌∙◌, arith}
use Rattle.std.specs.List.{cons_option}
use Rattle.pass_lives.specs.Pipes.{pipes_from}
use Rattle.pass_lives.proofs.PipeLists.{pipes_step}
use Rattle.pass_lives.proofs.pipes.pipe_from.Goals as goal

pub returns-in-Some-clause-first : goal.returns-in-Some-clause-first
returns-in-Some-clause-first g c =
    let held = c.args.process.now.state.descriptors in
    let fd = c.loop-fd.fd in
    let low : fd < 64 = omega arith in
    c.loop-fd.invariant ∙ pipes_step held fd low ∙ ap (λ o. cons_option o (pipes_from held (fd + 1))) (sym c.pipe_at.ensures ∙ c.in-Some.is)

pub loop-fd-preserved : goal.loop-fd-preserved
loop-fd-preserved g c =
    let held = c.args.process.now.state.descriptors in
    let fd = c.loop-fd.fd in
    let low : fd < 64 = omega arith in
    c.loop-fd.invariant ∙ pipes_step held fd low ∙ ap (λ o. cons_option o (pipes_from held (fd + 1))) (sym c.pipe_at.ensures ∙ c.in_default.is)
