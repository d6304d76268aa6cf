-- The numbers and the texts of the statuses. This project's own rule.
use Rattle.std.specs.Prelude.{ℕ, List, [], ◌∷◌, ◌++◌, codes}
use Rattle.std.specs.Fmt.{decimal}
use Rattle.pass_entry.specs.Words.{node_text}
use Rattle.pass_leaf.specs.declared.fault.OldFault.{OldFault}
use Rattle.pass_leaf.specs.declared.fault.OldFault.TheVariants as faults
use Rattle.pass_status.specs.declared.status.Status.TheVariants as status
use Rattle.pass_status.specs.Statuses.{number_of_status, status_text}
use Rattle.pass_entry.specs.declared.objects.Node.{Node}
use Rattle.pass_old.specs.declared.status.OldStatus.{OldStatus}
use Rattle.pass_old.specs.declared.status.OldStatus.TheVariants as old

-- the number of a status, which is the program's exit status
abbrev pub number_of_old : OldStatus → ℕ
number_of_old (old.Same s) = number_of_status s
number_of_old (old.NoVersion node) = 15
number_of_old (old.BadArchive at) = 16
number_of_old old.ArchiveFault = 20
number_of_old old.Unlike = 22
-- a version isn't kept, as with `NoVersion`
number_of_old (old.Lacks node) = 15
number_of_old old.NotFresh = 23
number_of_old (old.BadFresh at) = 24
number_of_old old.FreshFault = 25

-- the text of a status that stands on no answer
abbrev pub old_text : OldStatus → List ℕ
old_text (old.Same s) = status_text s
old_text (old.NoVersion node) = codes "fault version " ++ node_text node ++ 10 ∷ []
old_text (old.BadArchive at) = codes "fault archive " ++ decimal at ++ 10 ∷ []
old_text old.ArchiveFault = codes "fault archive" ++ 10 ∷ []
old_text old.Unlike = codes "fault unlike" ++ 10 ∷ []
-- the tar stands in its place
old_text (old.Lacks node) = []
old_text old.NotFresh = codes "fault used" ++ 10 ∷ []
old_text (old.BadFresh at) = codes "fault fresh " ++ decimal at ++ 10 ∷ []
old_text old.FreshFault = codes "fault fresh" ++ 10 ∷ []

-- the status of a fault of an archive, where a node was asked for
abbrev pub status_of_archive : OldFault → Node → OldStatus
status_of_archive faults.DiskFault node = old.ArchiveFault
status_of_archive (faults.Broken opened now) node = old.ArchiveFault
status_of_archive (faults.BadFrame at) node = old.BadArchive at
status_of_archive faults.NoVersion node = old.NoVersion node
status_of_archive faults.NoMemory node = old.Same status.NoMemory
