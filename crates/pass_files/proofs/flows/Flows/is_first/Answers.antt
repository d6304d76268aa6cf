use Rattle.std.proofs.Common.{◌∙◌, false, sym, ap}
use Rattle.std.specs.Prelude.{Option}
use Rattle.std.specs.Option.{option_copied, option_map_or}
use Rattle.pass_entry.specs.declared.objects.Node.{Node}
use Rattle.pass_plain.specs.Versions.{same_node}
use Rattle.pass_files.proofs.flows.Flows.is_first.Goals as goal

pub returns-in-Some : goal.returns-in-Some
returns-in-Some c = λ list are.
    c.eq.ensures ∙ sym (ap (λ (o : Option Node). option_map_or (same_node c.args.source.now) o false)
    (sym (are.firsts c.args.target.now) ∙ sym c.get.ensures.value ∙ ap option_copied c.in-Some.is))

pub returns-in-None : goal.returns-in-None
returns-in-None c = λ list are.
    sym (ap (λ (o : Option Node). option_map_or (same_node c.args.source.now) o false)
    (sym (are.firsts c.args.target.now) ∙ sym c.get.ensures.value ∙ ap option_copied c.in-None.is))
