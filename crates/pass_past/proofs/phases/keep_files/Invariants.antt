use Rattle.std.proofs.Common.{List, ◌++◌, map, take}
use Rattle.pass_entry.specs.declared.entry.Entry.{Entry}
use Rattle.pass_plain.specs.Legal.{session_of}
use Rattle.pass_leaf.specs.Keeping.{FileVersion}
use Rattle.pass_leaf.specs.Archives.{Archive}
use Rattle.pass_past.specs.Keepings.{IsKeeping}
use Rattle.pass_past.specs.Pasts.{version_of}
use Rattle.pass_past.specs.Walks.{IsWalked}
use Rattle.pass_past.proofs.phases.keep_files.Given as goal

abbrev pub invariant-loop-file : goal.invariant-loop-file
invariant-loop-file g l = (first : Archive g.row.A.Denot) (done : List FileVersion) (history : List Entry) → IsWalked l.start history l.walked → IsKeeping g.A.Disk.view first done l.initial.old
    → IsKeeping g.A.Disk.view first (done ++ map (version_of (session_of l.start 0) history) (take l.file-index l.files)) l.old
