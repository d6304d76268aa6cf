use Rattle.std.proofs.Common.{◌≡◌, sym, subst}
use Rattle.pass_pattern.specs.Visits.{Adds}
use Rattle.pass_pattern.proofs.Visiting.{adds_one}
use Rattle.pass_pattern.proofs.search.add.Goals as goal

pub returns : goal.returns
returns c =
    subst (Adds (λ y. y ≡ c.args.visit) c.args.visits.now.keys) (sym c.in_ok-insert.ensures.keys) (adds_one c.args.visits.now.keys c.args.visit)
