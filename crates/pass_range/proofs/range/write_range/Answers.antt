use Rattle.std.proofs.Common.{ℕ, length, subst, IsTrue, OnOk}
use Rattle.pass_outside.specs.Areas.{Torn, OnArea}
use Rattle.pass_outside.specs.declared.disk.Area.TheVariants as areas
use Rattle.pass_outside.specs.Moments.{Follows, Reaches}
use Rattle.pass_range.proofs.range.write_range.Goals as goal

pub returns-clause-crash : goal.returns-clause-crash
returns-clause-crash g c =
    subst (λ (at : ℕ). Follows (OnArea areas.Store (Torn at (length c.args.bytes.now))) (g.D.Disk.view c.args.disk.now) (g.D.Disk.view c.write_at.new.self)) c.place.ensures c.write_at.ensures.crash

pub returns-clause-reaches : goal.returns-clause-reaches
returns-clause-reaches g c =
    subst (λ (at : ℕ). OnOk c.write_at.result (IsTrue (g.D.Disk.view c.args.disk.now).tells → Reaches (OnArea areas.Store (Torn at (length c.args.bytes.now))) (g.D.Disk.view c.args.disk.now) (g.D.Disk.view c.write_at.new.self))) c.place.ensures c.write_at.ensures.reaches
