use Rattle.std.proofs.Common.{refl, ap₂, ◌∙◌}
use Rattle.clap.specs.Simple.{with_rule}
use Rattle.pass_ask.proofs.line.telling.Goals as goal

pub returns : goal.returns
returns c =
    let named = c.in_ok-named.ensures.shape c.names.ensures.local ∙ ap₂ with_rule refl c.names.ensures.rule in
    let flowing = c.in_ok-flowing.ensures.shape c.data_flag.ensures.local ∙ ap₂ with_rule named c.data_flag.ensures.rule in
    c.in_ok-whole.ensures.shape c.plain.ensures.local ∙ ap₂ with_rule flowing c.plain.ensures.rule
