-- What a task of a run holds may go to another thread: its process, and the calls of the store that all share.
use denote.RattleType.{RattleType}
use denote.Ref.{NamedLft}
use denote.Param.Send.{IsSend, IsSync, sendable, shr_send, view_send}
use denote.Param.SendFields.{as_row_send, declared_send}
use denote.Struct.Field.{shr_ref_field}
use Rattle.std.proofs.Crossing.{crosses}
use Rattle.pass_hold.specs.declared.whose.Whose as whose
use Rattle.pass_walk.specs.contracts.ground.Ground as Ground
use Rattle.pass_turns.specs.contracts.task.Turner as Turner
use Rattle.pass_turns.specs.contracts.task.Turner.TheInside as Inside
use Rattle.pass_walk.proofs.plan.Plan.TheSendSync as plan_type
use Rattle.pass_walk.proofs.walker.Walker.TheSendSync as walker_type

ruleset known = (
  crosses,
  sendable,
)

module _ (a : NamedLft) (J S : RattleType) (w : whose.Ghosts J.Denot) (sj : IsSend J) (ys : IsSync S) where
  ground_sync : IsSync (Ground.the_row a S)
  ground_sync = search (plan_type.the_sync, known) depth 60 fits 5000

  pub turner_send : IsSend (Turner.the_row a J S w)
  turner_send = view_send (Inside.the_row a J S w) _ _ _ _ (declared_send (Inside.the_type a J S w) (
    as_row_send (shr_ref_field a (Ground.the_row a S) tt) (shr_send _ _ _ ground_sync),
    (
      search (walker_type.the_send, known) depth 40 fits 5000,
      (
        search known depth 40,
        (
          search known depth 40,
          (search known depth 40, tt),
        ),
      ),
    ),
  ))
