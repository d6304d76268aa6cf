use Rattle.std.proofs.Common.{ap, ap₂, ◌∙◌}
use Rattle.clap.specs.Simple.{with_rule}
use Rattle.pass_ask.specs.Line.{command_line, telling_line}
use Rattle.pass_ask.proofs.line.command_line.Goals as goal

pub returns : goal.returns
unfolding command_line
returns c =
    let flagged = c.in_ok-flagged.ensures.shape c.json.ensures.local ∙ ap₂ with_rule c.bare_line.ensures c.json.ensures.rule in
    let ordered = c.in_ok-ordered.ensures.shape c.replay.ensures.local ∙ ap₂ with_rule flagged c.replay.ensures.rule in
    let sized = c.in_ok-sized.ensures.shape c.long.ensures.local ∙ ap₂ with_rule ordered c.long.ensures.rule in
    let optional = c.in_ok-optional.ensures.shape c.workers.ensures.local ∙ ap₂ with_rule sized c.workers.ensures.rule in
    let flags = c.in_ok-flags.ensures ∙ ap telling_line optional in
    let named = c.in_ok-named.ensures.shape c.command.ensures.local ∙ ap₂ with_rule flags c.command.ensures.rule in
    c.in_ok-whole.ensures.shape c.words.ensures.local ∙ ap₂ with_rule named c.words.ensures.rule
