use Rattle.std.proofs.Common.{subst}
use Rattle.pass_entry.specs.declared.entry.Reply.{Reply}
use Rattle.pass_plain.specs.Calls.{name_of}
use Rattle.pass_plain.specs.Places.{kept_by}
use Rattle.pass_hold.specs.Entering.{MayEnter}
use Rattle.pass_registry.specs.Desks.{on_registry}
use Rattle.pass_calls.specs.Grants.{first_of, request_of}
use Rattle.pass_calls.specs.declared.granting.Grant.{Grant}
use Rattle.pass_calls.proofs.granting.ask_registry.Goals as goal

pub bind-requires-clause-entry : goal.bind-requires-clause-entry
bind-requires-clause-entry g c = subst (λ (x : Grant). (reply : Reply) → MayEnter c.args.caller.now.seen (on_registry c.args.who c.args.number (name_of (request_of x)) (first_of x) reply) (kept_by reply 2)) c.in-Bind.is c.requires.entry

pub find-requires-clause-entry : goal.find-requires-clause-entry
find-requires-clause-entry g c = subst (λ (x : Grant). (reply : Reply) → MayEnter c.args.caller.now.seen (on_registry c.args.who c.args.number (name_of (request_of x)) (first_of x) reply) (kept_by reply 2)) c.in-Find.is c.requires.entry

pub mint-requires-clause-entry : goal.mint-requires-clause-entry
mint-requires-clause-entry g c = subst (λ (x : Grant). (reply : Reply) → MayEnter c.args.caller.now.seen (on_registry c.args.who c.args.number (name_of (request_of x)) (first_of x) reply) (kept_by reply 2)) c.in-App.is c.requires.entry

pub known-requires-clause-entry : goal.known-requires-clause-entry
known-requires-clause-entry g c = subst (λ (x : Grant). (reply : Reply) → MayEnter c.args.caller.now.seen (on_registry c.args.who c.args.number (name_of (request_of x)) (first_of x) reply) (kept_by reply 2)) c.in-Known.is c.requires.entry

pub mint-requires-in-Pipe-clause-entry : goal.mint-requires-in-Pipe-clause-entry
mint-requires-in-Pipe-clause-entry g c = subst (λ (x : Grant). (reply : Reply) → MayEnter c.args.caller.now.seen (on_registry c.args.who c.args.number (name_of (request_of x)) (first_of x) reply) (kept_by reply 2)) c.in-Pipe.is c.requires.entry
