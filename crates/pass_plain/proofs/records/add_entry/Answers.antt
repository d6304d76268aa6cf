use Rattle.std.proofs.Common.{[], ◌++◌, ap, sym, ◌∙◌, append_assoc, cond}
use Rattle.std.proofs.lemmas.List.{append-nil}
use Rattle.pass_entry.specs.declared.entry.Entry.{Entry}
use Rattle.pass_plain.specs.Legal.{session_of}
use Rattle.pass_plain.specs.Records.{content_records}
use Rattle.pass_plain.specs.Recording.{plain_records}
use Rattle.pass_plain.proofs.KeptFiles.{fault_kept, quiet_kept}
use Rattle.pass_plain.proofs.Walking.{content_is, entry_split}
use Rattle.pass_plain.proofs.records.add_entry.Goals as goal

pub returns-then-is_fault-clause-files : goal.returns-then-is_fault-clause-files
returns-then-is_fault-clause-files c =
    fault_kept c.args.start.now c.args.history.now c.args.e.now c.args.files.now (sym c.is_fault.ensures ∙ c.if-is_fault.true) c.requires.files

pub returns-in_ok-change_file-clause-list : goal.returns-in_ok-change_file-clause-list
returns-in_ok-change_file-clause-list c =
    let start = c.args.start.now in
    let history = c.args.history.now in
    let e : Entry = c.args.e.now in
    let first = c.args.list.now.items in
    let plain = plain_records c.args.names.now c.args.step.now e.reply e.act in
    let content = content_records (session_of start 0) history e in
    let done = sym c.is_fault.ensures ∙ c.if-is_fault.false in
    let test = sym c.is_change.ensures ∙ c.if-is_change.true in
    c.in_ok-change_file.ensures.list ∙ (λ i. c.in_ok-add_records.ensures i ++ content_is start history e i)
    ∙ append_assoc first plain content
    ∙ ap (λ rs. first ++ rs) (ap (λ b. plain ++ cond b content []) (sym test) ∙ sym (entry_split start history e c.args.step.now c.args.names.now done c.requires.step c.requires.names))

pub returns-else-is_change-clause-files : goal.returns-else-is_change-clause-files
returns-else-is_change-clause-files c =
    quiet_kept c.args.start.now c.args.history.now c.args.e.now c.args.files.now (sym c.is_change.ensures ∙ c.if-is_change.false) c.requires.files

pub returns-else-is_change-clause-list : goal.returns-else-is_change-clause-list
returns-else-is_change-clause-list c =
    let start = c.args.start.now in
    let history = c.args.history.now in
    let e : Entry = c.args.e.now in
    let first = c.args.list.now.items in
    let plain = plain_records c.args.names.now c.args.step.now e.reply e.act in
    let content = content_records (session_of start 0) history e in
    let done = sym c.is_fault.ensures ∙ c.if-is_fault.false in
    let test = sym c.is_change.ensures ∙ c.if-is_change.false in
    c.in_ok-add_records.ensures
    ∙ ap (λ rs. first ++ rs)
    (sym (append-nil plain) ∙ ap (λ b. plain ++ cond b content []) (sym test) ∙ sym (entry_split start history e c.args.step.now c.args.names.now done c.requires.step c.requires.names))
