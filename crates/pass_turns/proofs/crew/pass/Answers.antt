use denote.Exit
use denote.Param.Send.{arg_send, param_send}
use denote.Param.{param}
use mir.Syntax.{named}
use Rattle.std.specs.Prelude.{nat_eq}
use Rattle.std.proofs.Common.{refl}
use Rattle.pass_turns.proofs.crew.pass.Goals as goal
use Rattle.pass_turns.proofs.Crossing.{turner_send}
use Rattle.pass_turns.proofs.Passing.{after_pass, none_left, room_after}

pub returns-clause-tasks : goal.returns-clause-tasks
returns-clause-tasks g c lines first aside none tasks =
    after_pass _ (λ b k a f h. h) lines first (nat_eq c.args.workers 1) c.args.tasks.items c.run_all.result.tasks.items c.run_all.result.end c.run_all.ensures.untouched c.run_all.ensures.pass aside none tasks

pub returns-clause-room : goal.returns-clause-room
returns-clause-room g c = room_after _ (λ x. refl) (nat_eq c.args.workers 1) c.args.tasks.items c.run_all.result.tasks.items c.run_all.result.end c.run_all.ensures.untouched c.run_all.ensures.pass

pub returns-clause-ended : goal.returns-clause-ended
returns-clause-ended g c is = none_left _ (nat_eq c.args.workers 1) c.args.tasks.items c.run_all.result.tasks.items c.run_all.result.end c.run_all.ensures.pass is

pub run_all-requires-send-T : goal.run_all-requires-send-T
run_all-requires-send-T g c κs within =
    param_send 1 _ (arg_send _ Exit.no _
    (turner_send (record { mir = named 3; lft = κs.1.1.1.0 }) (param 1 g.row.J) (param 2 g.row.S) g.J.Whose c.type_bounds.send-J c.type_bounds.sync-S))
