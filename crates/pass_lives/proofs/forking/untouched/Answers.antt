use Rattle.std.proofs.Common.{◌≡◌, [], ap, ◌∙◌, subst}
use Rattle.pass_hold.specs.Callings.{IsIdle, made_by}
use Rattle.pass_proc.specs.Procs.{ProcView}
use Rattle.pass_lives.proofs.Newborns.{none_made}
use Rattle.pass_lives.proofs.forking.untouched.Goals as goal

pub returns : goal.returns
returns g c =
    let S = g.J.Whose.book.session in
    let i = c.child.inside in
    subst (λ (v : ProcView). made_by v.who v.seen ≡ []) c.child.view_is
    (none_made S i.caller.seen i.process.who i.process.state
    (subst (λ n. IsIdle S i.caller.seen i.process.who n i.process.state) (ap (λ (v : ProcView). v.number) c.child.view_is ∙ c.requires) c.child.invariant.0.idle))
