-- A process that sees more of the history.
use Rattle.std.specs.Prelude.{◌≡◌, ◌<◌, length}
use Rattle.pass_plain.specs.Sessions.{Session}
use Rattle.pass_hold.specs.Callings.{HasLooked}
use Rattle.pass_proc.specs.Procs.{ProcView}

-- it has looked once or more, and nothing else of it is changed
pub record HasLookedOn (session : Session) (old new : ProcView) : Type 0 where
  pub looked : HasLooked session old.who old.seen new.seen
  pub more : old.looks < new.looks
  pub same : new ≡ record old { seen = new.seen; syncs = new.syncs; looks = new.looks; looked = length new.seen }
