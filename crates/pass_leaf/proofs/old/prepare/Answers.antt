use Rattle.std.proofs.Common.{length, ⊎_elim, sym, ap, subst, arith}
use Rattle.pass_outside.specs.Moments.{Moment}
use Rattle.pass_leaf.specs.Open.{IsUnwritten}
use Rattle.pass_leaf.proofs.Ending.{short_none}
use Rattle.pass_leaf.proofs.old.prepare.Goals as goal

pub returns-clause-unwritten : goal.returns-clause-unwritten
returns-clause-unwritten g c = λ some.
    let e = c.in_ok-found.ensures in
    let read : IsUnwritten (g.D.Disk.view c.args.disk.now) (g.D.Disk.view c.find.new.disk) = record { reads = e.content; crash = e.crash; moments = e.run } in
    ⊎_elim (λ short. absurd (omega (arith, some, ap length (short_none e.found.0 c.in_ok-found.found e.found.2 short))))
    (λ same. subst (λ (m : Moment). IsUnwritten (g.D.Disk.view c.args.disk.now) m) (sym (ap g.D.Disk.view same)) read) c.open_tail.ensures.alone
