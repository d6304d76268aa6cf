-- A living process and one that has ended come to one history.
use Rattle.std.proofs.Common.{◌≡◌, ℕ, List, refl, sym, subst}
use Rattle.pass_plain.specs.Sessions.{Session}
use Rattle.pass_plain.specs.Traces.{Line}
use Rattle.pass_walk.specs.declared.walker.Living.{Living}
use Rattle.pass_walk.specs.declared.walker.Ended.{Ended as EndedProcess}
use Rattle.pass_walk.specs.declared.walker.Walker.{Walker}
use Rattle.pass_walk.specs.declared.walker.Walker.TheVariants as walker
use Rattle.pass_walk.specs.Meetings.{HaveJoined, HaveMet, KnowsIfEnded}
use Rattle.pass_walk.specs.Walkers.{IsWalkerOf}

pub both_met : {J : Type 0} (session : Session) (trace : List Line) (v w : Walker J) (l m : Living J) (e f : EndedProcess J) → v ≡ walker.Living l → w ≡ walker.Ended e → HaveJoined session trace l e m f
    → HaveMet session trace v w (walker.Living m, walker.Ended f)
both_met session trace v w l m e f first second joined =
    subst (λ (v : Walker _). HaveMet session trace v w (walker.Living m, walker.Ended f)) (sym first)
    (subst (λ (w : Walker _). HaveMet session trace (walker.Living l) w (walker.Living m, walker.Ended f)) (sym second) (m, f, refl, joined))

-- a process of a run that has ended knows what it has seen
pub knows : {J : Type 0} (session : Session) (places : ℕ) (trace : List Line) (w : Walker J) → IsWalkerOf session places trace w → KnowsIfEnded w
knows session places trace (walker.Living l) is = tt {0}
knows session places trace (walker.Ended e) is = is.met
knows session places trace (walker.Left l) is = tt {0}
knows session places trace walker.Gone is = tt {0}
