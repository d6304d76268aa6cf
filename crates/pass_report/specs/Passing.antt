-- The entry to which a pass over a history has come.
use Rattle.std.specs.Prelude.{◌<◌, ◌^◌, List, length}
use Rattle.pass_entry.specs.declared.entry.Entry.{Entry}
use Rattle.pass_plain.specs.declared.start.Start.{Start}
use Rattle.pass_plain.specs.Sessions.{Session}
use Rattle.pass_plain.specs.Sound.{IsSound}
use Rattle.pass_plain.specs.Legal.{IsLegal, MayFollow}
use Rattle.pass_plain.specs.Outlines.{SameButBytes}

-- the entry may come next after a history of a session that opens with this start, which may lack the bytes of its files
pub record IsNext (start : Start) (session : Session) (past : List Entry) (e : Entry) : Type 0 where
  pub same : SameButBytes start session.start
  pub sound : IsSound session
  pub legal : IsLegal session past
  pub next : MayFollow session past e
  pub short : length past < 2 ^ 57
