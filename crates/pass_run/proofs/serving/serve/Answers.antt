use denote.Exit
use denote.Param.Send.{arg_sync, param_sync}
use denote.Param.{param}
use Rattle.pass_run.proofs.serving.serve.Goals as goal
use Rattle.pass_run.proofs.Crossing.{served_sync}

pub run-requires-sync-S : goal.run-requires-sync-S
run-requires-sync-S g c κs within =
    param_sync 2 _ (arg_sync _ Exit.no _
    (served_sync _ _ (param 0 g.row.R) (param 1 g.row.J) (param 2 g.row.D) (param 3 g.row.G) g.J.Opening g.J.Whose g.D.Disk
    c.type_bounds.sync-R c.type_bounds.send-J c.type_bounds.send-D c.type_bounds.sync-G))
