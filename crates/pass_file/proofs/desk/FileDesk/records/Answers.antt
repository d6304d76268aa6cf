use Rattle.std.proofs.Common.{◌≡◌, ◌∙◌, subst}
use Rattle.std.specs.Prelude.{IfOk, Vec}
use Rattle.std.specs.declared.alloc.Global.{Global}
use Rattle.std.proofs.lemmas.Result.{IfOk-weaker}
use Rattle.pass_entry.specs.declared.record.Record.{Record}
use Rattle.pass_plain.specs.Recording.{block_count, content_by}
use Rattle.pass_plain.specs.Records.{has_row}
use Rattle.pass_file.specs.Desks.{FileDeskView, change_records}
use Rattle.pass_file.specs.FileViews.{FileView}
use Rattle.pass_file.proofs.Changing.{made_by}
use Rattle.pass_file.proofs.desk.FileDesk.records.Goals as goal

pub returns : goal.returns
returns g c =
    let S = g.J.Whose.book.session in
    let d = c.self.inside.desk in
    let f : FileView = c.self.inside.state in
    let i = c.self.invariant in
    let a = c.args.act.now in
    let had = has_row S d.seen d.what in
    subst (λ (v : FileDeskView). IfOk c.records.result (λ (list : Vec Record Global). list.items ≡ change_records S v.seen v.what a)) c.self.view_is
    (IfOk-weaker c.records.result (λ (list : Vec Record Global). list.items ≡ content_by f.lineage.node.pnode f.bytes had a block_count) (λ (list : Vec Record Global). list.items ≡ change_records S d.seen d.what a) (λ list made. made ∙ made_by S d.seen d.syncs d.what f a i.content i.version.node) (c.records.ensures had i.content.rows))
