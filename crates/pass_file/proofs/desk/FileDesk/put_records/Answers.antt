use Rattle.std.proofs.Common.{◌≡◌, subst}
use Rattle.std.specs.Prelude.{IfOk, Vec}
use Rattle.std.specs.declared.alloc.Global.{Global}
use Rattle.pass_entry.specs.declared.entry.Act.TheVariants as act
use Rattle.pass_entry.specs.declared.record.Record.{Record}
use Rattle.pass_file.specs.Desks.{change_records}
use Rattle.pass_file.proofs.desk.FileDesk.put_records.Goals as goal

pub returns : goal.returns
returns g c =
    let a = c.args in
    subst (λ bytes. IfOk c.records.result (λ (list : Vec Record Global). list.items ≡ change_records g.J.Whose.book.session a.self.now.seen a.self.now.what (act.Put 0 a.at bytes))) c.in_ok-bytes.ensures.cases c.records.ensures
