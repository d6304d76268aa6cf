use Rattle.std.proofs.Common.{ap, sym, ◌∙◌, cond}
use Rattle.pass_entry.specs.declared.entry.Reply.TheVariants as answer
use Rattle.pass_entry.specs.declared.entry.CallFault.TheVariants as fault
use Rattle.pass_plain.specs.Legal.{session_of}
use Rattle.pass_plain.specs.Registries.{next_pnode}
use Rattle.pass_plain.specs.States.{registry_of}
use Rattle.pass_reference.proofs.registry.minted.Goals as goal

pub returns-then-is_full : goal.returns-then-is_full
returns-then-is_full c =
    let made = answer.Made (next_pnode (session_of c.args.start.now c.args.objects) (registry_of c.args.registry.now)) in
    ap (λ b. cond b (answer.Fault fault.TooMany) made) (sym c.if-is_full.true ∙ c.is_full.ensures.full c.args.start.now)

pub returns-else-is_full : goal.returns-else-is_full
returns-else-is_full c =
    let made = answer.Made (next_pnode (session_of c.args.start.now c.args.objects) (registry_of c.args.registry.now)) in
    ap (λ b. cond b (answer.Fault fault.TooMany) made) (sym c.if-is_full.false ∙ c.is_full.ensures.full c.args.start.now)
