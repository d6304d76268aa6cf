use Rattle.std.proofs.Common.{◌≡◌}
use Rattle.std.specs.Prelude.{vec_capacity, vec_len}
use Rattle.pass_turns.specs.Meetings.{AreLater, IsLater}
use Rattle.pass_turns.proofs.Gathering.{HaveSeenNoMore}
use Rattle.pass_turns.proofs.meeting.meet_each.Given as goal

abbrev pub invariant-loop-place : goal.invariant-loop-place
invariant-loop-place g l = record {
  size : vec_len l.others ≡ vec_len l.initial.others;
  room : vec_capacity l.others ≡ vec_capacity l.initial.others;
  later : AreLater l.initial.others.items l.others.items;
  first : IsLater l.initial.first l.first;
  met : HaveSeenNoMore l.others.items l.place l.first;
}
