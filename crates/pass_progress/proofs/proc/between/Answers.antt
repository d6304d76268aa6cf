use Rattle.std.proofs.Common.{subst}
use Rattle.pass_proc.specs.Procs.{ProcView}
use Rattle.pass_progress.specs.Progress.{IsBetween}
use Rattle.pass_progress.proofs.proc.between.Goals as goal

pub returns : goal.returns
returns g c =
    subst (λ (p : ProcView). IsBetween g.J.Whose.book.session p) c.proc.view_is (record { idle = c.proc.invariant.0.idle; way = c.proc.invariant.1 })
