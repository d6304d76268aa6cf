use Rattle.std.proofs.Common.{ap, ◌∙◌, Bool, List, length}
use Rattle.pass_entry.specs.declared.entry.Entry.{Entry}
use Rattle.pass_entry.specs.declared.entry.Act.{Act}
use Rattle.pass_plain.specs.Files.{file_act}
use Rattle.pass_plain.specs.Records.{row_act}
use Rattle.pass_plain.specs.Recording.{block_count, row_after, flags}
use Rattle.pass_plain.proofs.KeptFiles.{length-flags, changed, kept_again}
use Rattle.pass_plain.proofs.contents.change_file.Goals as goal

pub change-requires : goal.change-requires
change-requires c =
    ap (λ (rows : List Bool). length rows) c.in_ok-content.ensures.content.rows ∙ length-flags (row_after c.args.start.now c.args.history.now c.args.e.now.what) block_count

pub returns-clause-kept : goal.returns-clause-kept
returns-clause-kept c =
    let start = c.args.start.now in
    let history = c.args.history.now in
    let e : Entry = c.args.e.now in
    let is = c.in_ok-content.ensures.content in
    let same_act = ap (λ (e : Entry). e.act) c.e.view_is in
    kept_again start history e c.take_content.new.kept c.insert.new.self _ c.change.new.self (ap (λ (e : Entry). e.what) c.e.view_is) c.requires.done c.in_ok-insert.ensures.updates c.in_ok-content.ensures.others
    (changed start history e c.change.new.self c.requires.done
    (c.in_ok-change.ensures.bytes ∙ (λ i. file_act (is.bytes i) (same_act i)))
    (c.in_ok-change.ensures.rows (row_after start history e.what) is.rows ∙ ap (λ (a : Act). flags (λ block. row_act block (row_after start history e.what block) a) block_count) same_act))
