use Rattle.std.proofs.Common.{◌≡◌, subst}
use Rattle.pass_proc.specs.Procs.{ProcView}
use Rattle.pass_proc.specs.UnderWay.{IsWay}
use Rattle.pass_slots.proofs.Ways.{new_write, new_refused}
use Rattle.pass_slots.proofs.asking.see_way.Goals as goal

pub returns-clause-file : goal.returns-clause-file
returns-clause-file g c = λ d at file.
    let S = g.J.Whose.book.session in
    let v = c.args.proc.now in
    let under : IsWay S v.who v.number v.seen v.state v.way = subst (λ (v : ProcView). IsWay S v.who v.number v.seen v.state v.way) c.proc.view_is c.proc.invariant.1 in
    new_write S v.who v.number v.seen v.state v.way c.args.fd c.args.bytes.now d under at file

pub returns-clause-refused : goal.returns-clause-refused
returns-clause-refused g c = λ f refused.
    let S = g.J.Whose.book.session in
    let v = c.args.proc.now in
    let under : IsWay S v.who v.number v.seen v.state v.way = subst (λ (v : ProcView). IsWay S v.who v.number v.seen v.state v.way) c.proc.view_is c.proc.invariant.1 in
    new_refused S v.who v.number v.seen v.state v.way c.args.fd c.args.bytes.now f under refused
