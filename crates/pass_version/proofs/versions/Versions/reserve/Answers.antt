use Rattle.std.proofs.Common.{refl}
use Rattle.pass_version.proofs.versions.Versions.reserve.Goals as goal

pub returns-in_ok-reserve-clause-same : goal.returns-in_ok-reserve-clause-same
returns-in_ok-reserve-clause-same c =
    rw (← c.self.view_is) record { node = refl; marked = refl; sources = λ node. c.reserve.ensures.keys.2 node }
