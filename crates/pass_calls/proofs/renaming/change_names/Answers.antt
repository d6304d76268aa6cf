use Rattle.std.proofs.Common.{subst}
use Rattle.pass_entry.specs.declared.entry.Reply.{Reply}
use Rattle.pass_plain.specs.Calls.{name_of}
use Rattle.pass_hold.specs.Entering.{MayEnter}
use Rattle.pass_registry.specs.Desks.{on_registry}
use Rattle.pass_calls.specs.Renamings.{act_of_change, request_of_change}
use Rattle.pass_calls.specs.declared.renaming.Change.{Change}
use Rattle.pass_calls.proofs.renaming.change_names.Goals as goal

pub rename-requires-clause-entry : goal.rename-requires-clause-entry
rename-requires-clause-entry g c =
    subst (λ (x : Change). (reply : Reply) → MayEnter c.args.caller.now.seen (on_registry c.args.who c.args.number (name_of (request_of_change x)) (act_of_change x) reply) 0) c.in-Move.is c.requires.entry

pub unlink-requires-clause-entry : goal.unlink-requires-clause-entry
unlink-requires-clause-entry g c =
    subst (λ (x : Change). (reply : Reply) → MayEnter c.args.caller.now.seen (on_registry c.args.who c.args.number (name_of (request_of_change x)) (act_of_change x) reply) 0) c.in-Unbind.is c.requires.entry
