use Rattle.std.proofs.Common.{ap, ◌∙◌}
use Rattle.std.specs.Option.{option_map_or}
use Rattle.pass_plain.specs.Processes.{new_process}
use Rattle.pass_plain.specs.Calls.{is_last}
use Rattle.pass_report.proofs.Lasting.{last_known}
use Rattle.pass_report.proofs.processes.Processes.ends_call.Goals as goal

pub returns-in-Some : goal.returns-in-Some
returns-in-Some c = λ session past legal next states.
    c.is_last.ensures
    ∙ ap (λ p. is_last p c.args.entry.now) (ap (λ o. option_map_or (λ s. s) o new_process) c.in-Some.ensures.value ∙ states c.args.entry.now.who)
    ∙ last_known session past c.args.entry.now legal next

pub returns-in-None : goal.returns-in-None
returns-in-None c = λ session past legal next states.
    c.is_last-in-None.ensures
    ∙ ap (λ p. is_last p c.args.entry.now) (c.new-unknown.ensures ∙ ap (λ o. option_map_or (λ s. s) o new_process) c.in-None.ensures.value ∙ states c.args.entry.now.who)
    ∙ last_known session past c.args.entry.now legal next
