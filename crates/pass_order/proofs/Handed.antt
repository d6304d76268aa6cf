-- What a store's history at the end makes of a replay.
use Rattle.std.proofs.Common.{inl, inr}
use Rattle.pass_replay.specs.Orders.{EndLaw, StillLaw}
use Rattle.pass_replay.specs.Starts.{RoomLaw}
use Rattle.pass_trace.specs.TraceLines.{plain_trace}
use Rattle.pass_order.specs.Replayed.{ReplayedLaw}

pub replayed_to : EndLaw → StillLaw → RoomLaw → ReplayedLaw
replayed_to end_law still_law room_law session lines trails last history objects by legal told ran = record {
  replay = by history (room_law session lines objects) legal told;
  whole = λ ends. elim ends [
    | inl done ↦ end_law session (plain_trace lines) history ran.run (ran.done done)
    | inr stuck ↦ (still_law session (plain_trace lines) history).1 (ran.stuck stuck).still
  ];
}
