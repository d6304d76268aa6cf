use Rattle.std.proofs.Common.{◌∙◌, ap}
use Rattle.std.specs.Prelude.{◌==◌}
use Rattle.pass_plain.specs.Registries.{opening_registry, registry_act, registry_after}
use Rattle.pass_plain.proofs.Replays.{state_after-append, own_step-own, own_step-other, own_step-fault}
use Rattle.pass_registry.proofs.laws.one_registry.Goals as goal

pub returns-clause-steps : goal.returns-clause-steps
returns-clause-steps c = λ session history e here done.
    state_after-append (λ past r e. registry_act r e.act e.reply) 0 (opening_registry session.start) history e
    ∙ own_step-own (λ past r e. registry_act r e.act e.reply) 0 history (registry_after session history) e (ap (λ n. n == 0) here) done

pub returns-clause-faults : goal.returns-clause-faults
returns-clause-faults c = λ session history e fault.
    state_after-append (λ past r e. registry_act r e.act e.reply) 0 (opening_registry session.start) history e
    ∙ own_step-fault (λ past r e. registry_act r e.act e.reply) 0 history (registry_after session history) e fault

pub returns-clause-others : goal.returns-clause-others
returns-clause-others c = λ session history e other.
    state_after-append (λ past r e. registry_act r e.act e.reply) 0 (opening_registry session.start) history e
    ∙ own_step-other (λ past r e. registry_act r e.act e.reply) 0 history (registry_after session history) e other
