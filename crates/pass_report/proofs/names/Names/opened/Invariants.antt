use Rattle.std.proofs.Common.{◌≡◌, ℕ, List, take}
use Rattle.std.specs.List.{list_any}
use Rattle.pass_report.specs.Names.{holds}
use Rattle.pass_report.proofs.Naming.{has_name}
use Rattle.pass_report.proofs.names.Names.opened.Given as goal

abbrev pub invariant-loop-file : goal.invariant-loop-file
invariant-loop-file l = (q : List ℕ) → holds l.names q ≡ list_any (has_name q) (take l.file-index l.start.files.items)
