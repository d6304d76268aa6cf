-- Processes that come to one history. This project's own rule.
use Rattle.std.specs.Prelude.{ℕ, ◌≡◌, ◌⊎◌, ◌≤◌, List, Some, length}
use mathlib.Core.List.{IsPrefix}
use Rattle.pass_plain.specs.Lawful.{AgreeBy}
use Rattle.pass_plain.specs.Sessions.{Session}
use Rattle.pass_plain.specs.Legal.{IsLegal}
use Rattle.pass_plain.specs.Traces.{Line}
use Rattle.pass_walk.specs.declared.walker.Living.{Living}
use Rattle.pass_walk.specs.declared.walker.Ended.{Ended as EndedProcess}
use Rattle.pass_walk.specs.declared.walker.Walker.{Walker}
use Rattle.pass_walk.specs.declared.walker.Walker.TheVariants as walker
use Rattle.pass_walk.specs.Walkers.{IsLivingOf}
use Rattle.pass_hold.specs.Callings.{HasLooked}

-- a living process has seen more, and may go on as before
pub record HasComeOn {J : Type 0} (session : Session) (trace : List Line) (old new : Living J) : Type 0 where
  pub living : IsLivingOf session trace new
  pub process : new.process ≡ old.process
  pub line : new.line ≡ old.line
  pub who : new.proc.who ≡ old.proc.who
  pub looked : HasLooked session old.proc.who old.proc.seen new.proc.seen

-- one that has ended has seen more, and made no more
pub record HasSeenMore {J : Type 0} (session : Session) (old new : EndedProcess J) : Type 0 where
  pub process : new.process ≡ old.process
  pub who : new.trail.who ≡ old.trail.who
  pub begins : IsPrefix old.trail.seen new.trail.seen
  pub agrees : AgreeBy old.trail.who old.trail.seen new.trail.seen
  pub legal : IsLegal session new.trail.seen
  pub met : new.met ≡ Some (length new.trail.seen)

-- a living one and one that has ended come to one history, unless that one is known to have seen no more
abbrev pub HaveJoined : {J : Type 0} → Session → List Line → Living J → EndedProcess J → Living J → EndedProcess J → Type 0
HaveJoined session trace l e m f =
    ((m ≡ l) × (f ≡ e) × (length e.trail.seen ≤ length l.proc.seen)) ⊎ (HasComeOn session trace l m × HasSeenMore session e f × (f.trail.seen ≡ m.proc.seen))

-- of these two; any others stay as they are
abbrev pub HaveMet : {J : Type 0} → Session → List Line → Walker J → Walker J → Walker J × Walker J → Type 0
HaveMet session trace (walker.Living l) (walker.Ended e) r = (m : Living _) × (f : EndedProcess _) × (r ≡ (walker.Living m, walker.Ended f)) × HaveJoined session trace l e m f
HaveMet session trace v w r = r ≡ (v, w)

-- a process that has ended has seen as many entries as it knows of
abbrev pub KnowsSeen : {J : Type 0} → EndedProcess J → Type 0
KnowsSeen e = (count : ℕ) → e.met ≡ Some count → length e.trail.seen ≡ count

abbrev pub KnowsIfEnded : {J : Type 0} → Walker J → Type 0
KnowsIfEnded (walker.Ended e) = KnowsSeen e
KnowsIfEnded _ = Unit {0}
