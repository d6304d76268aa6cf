-- A search with its steps.
use Rattle.std.proofs.Common.{ℕ, ◌≡◌, ◌+◌, List}
use Rattle.pass_entry.specs.declared.objects.Node.{Node}
use Rattle.pass_entry.specs.declared.record.Record.{Record}
use Rattle.pass_query.specs.declared.search.Reached.{Reached}
use Rattle.pass_query.specs.declared.walk.Way.{Way}
use Rattle.pass_query.specs.Searches.{IsSearch}

-- a search has come so far with these steps
pub record IsCounted (way : Way) (list : List Record) (first : Node) (reached : List Reached) (next start taken : ℕ) : Type 0 where
  pub count : ℕ
  pub search : IsSearch way list first reached next count
  pub exact : taken ≡ start + count
