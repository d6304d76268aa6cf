use Rattle.std.proofs.Common.{List, ◌++◌, map, take}
use Rattle.pass_leaf.specs.Keeping.{FileVersion}
use Rattle.pass_leaf.specs.Archives.{Archive}
use Rattle.pass_past.specs.Keepings.{IsKeeping}
use Rattle.pass_past.specs.Pasts.{opened_file}
use Rattle.pass_past.proofs.phases.keep_opened.Given as goal

abbrev pub invariant-loop-file : goal.invariant-loop-file
invariant-loop-file g l = (first : Archive g.row.A.Denot) (done : List FileVersion) → IsKeeping g.A.Disk.view first done l.initial.old
    → IsKeeping g.A.Disk.view first (done ++ map opened_file (take l.file-index l.start.files.items)) l.old
