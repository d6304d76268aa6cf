-- What the check of a list answers, and the ranks that it keeps while it reads.
use Rattle.std.specs.Prelude.{ℕ, ◌≡◌, ◌||◌, List, Some}
use Rattle.std.specs.List.{position}
use Rattle.std.specs.HashMap.{HashMap, get}
use Rattle.std.specs.declared.hash.FoldHasher.{FoldHasher}
use Rattle.std.specs.declared.hash.BuildHasherDefault.{BuildHasherDefault}
use Rattle.pass_entry.specs.declared.objects.Node.{Node}
use Rattle.pass_entry.specs.declared.record.Record.{Record}
use Rattle.pass_plain.specs.Versions.{same_node}
use Rattle.pass_plain.specs.WellLogged.{has_source, first_flaw}
use Rattle.pass_graph.specs.declared.checking.CheckFault.{CheckFault}
use Rattle.pass_graph.specs.declared.checking.CheckFault.TheVariants.{Flaw, NoMemory}
use Rattle.pass_graph.specs.declared.checking.Ranking.{Ranking}
use Rattle.pass_graph.specs.ListRanks.{begins_after, graph_nodes}

-- a fault names the list's first flaw; want of memory says nothing of the list
abbrev pub IsFlawOf : List Record → CheckFault → Type 0
IsFlawOf list (Flaw place reason) = first_flaw list ≡ Some (place, reason)
IsFlawOf list NoMemory = Unit {0}

-- a node that a record names as a source or ends has the place of the first such record
abbrev pub AreFirst : List Record → HashMap Node ℕ (BuildHasherDefault FoldHasher) → Type 0
AreFirst list closed = (node : Node) → get same_node closed node ≡ position (λ r. has_source node r || begins_after node r) list

pub record IsRankingOf (list : List Record) (ranking : Ranking) : Type 0 where
  pub nodes : ranking.nodes.items ≡ graph_nodes list
  pub closed : AreFirst list ranking.closed
