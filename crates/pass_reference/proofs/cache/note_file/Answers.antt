use Rattle.std.proofs.Common.{sym, ◌∙◌, ℕ}
use Rattle.pass_entry.specs.declared.entry.Entry.{Entry}
use Rattle.pass_plain.proofs.KeptFiles.{Leaves, fault_leaves, quiet_leaves}
use Rattle.pass_reference.proofs.Caching.{changes_then, files_left, files_changed, file_kept, file_lost}
use Rattle.pass_reference.proofs.cache.note_file.Goals as goal
use Rattle.pass_reference.proofs.cache.note_file.Goals.{then-is_fault-via-then-is_fault, then-is_fault-via-else-is_fault+then-not-is_change}

pub returns-then-is_fault : goal.returns-then-is_fault
returns-then-is_fault c =
    let start = c.args.start.now in
    let history = c.args.history.now in
    let e : Entry = c.args.e.now in
    let leaves : (object : ℕ) → Leaves start history e object = λ object. elim c.then-is_fault.branch [
      | then-is_fault-via-then-is_fault w ↦ fault_leaves start history e object (sym c.is_fault.ensures ∙ w.if-is_fault.true)
      | then-is_fault-via-else-is_fault+then-not-is_change w ↦ quiet_leaves start history e object (sym w.is_change.ensures ∙ w.if-not-is_change.true)
    ] in
    files_left start history e c.args.kept.now leaves c.requires

pub returns-in-Ok : goal.returns-in-Ok
returns-in-Ok c =
    let start = c.args.start.now in
    let history = c.args.history.now in
    let e : Entry = c.args.e.now in
    files_changed start history e c.args.kept.now c.keep.new.self
    (changes_then e.what c.args.kept.now c.file_with.new.kept c.keep.new.self c.in-Ok.ensures.at c.keep.ensures.at) c.requires
    (file_kept start history e c.keep.new.self c.in-Ok.content c.in-Ok.ensures.content c.keep.ensures.here)

pub returns-in-Err : goal.returns-in-Err
returns-in-Err c =
    let start = c.args.start.now in
    let history = c.args.history.now in
    let e : Entry = c.args.e.now in
    files_changed start history e c.args.kept.now c.lose.new.self
    (changes_then e.what c.args.kept.now c.file_with.new.kept c.lose.new.self c.in-Err.ensures.at c.lose.ensures.at) c.requires
    (file_lost start history e c.lose.new.self c.lose.ensures.here c.lose.ensures.whole)
