use Rattle.std.proofs.Common.{List, ◌++◌, take}
use Rattle.pass_plain.specs.Legal.{session_of}
use Rattle.pass_leaf.specs.Keeping.{FileVersion}
use Rattle.pass_leaf.specs.Archives.{Archive}
use Rattle.pass_past.specs.Keepings.{IsKeeping}
use Rattle.pass_past.specs.Pasts.{ended_versions}
use Rattle.pass_past.specs.Walks.{IsWalked}
use Rattle.pass_past.proofs.phases.keep_ended.Given as goal

abbrev pub invariant-loop-place : goal.invariant-loop-place
invariant-loop-place g l = record {
  walked : IsWalked l.start (take l.place l.history) l.walked;
  kept : (first : Archive g.row.A.Denot) (done : List FileVersion) → IsKeeping g.A.Disk.view first done l.initial.old
      → IsKeeping g.A.Disk.view first (done ++ ended_versions (session_of l.start 0) (take l.place l.history)) l.old;
}
