-- The records of an index with the tables of what they say.
use Rattle.pass_plain.specs.WellLogged.{IsWellLogged}
use Rattle.pass_graph.specs.Logged.{Summarizes}
use Rattle.pass_waldo.specs.declared.taken.Taken.TheInside.{Inside}

-- the records are well logged, and the tables tell what they say
pub record IsTaken (t : Inside) : Type 0 where
  pub logged : IsWellLogged t.records.items
  pub says : Summarizes t.logged t.records.items
