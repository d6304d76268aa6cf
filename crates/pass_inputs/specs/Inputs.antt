-- Which versions of files a node came from, and how they are called. This project's own rule.
use Rattle.std.specs.Prelude.{ℕ, ◌≡◌, ◌==◌, ◌&&◌, Bool, List, [], ◌∷◌, Option, Some, None, filter, fold, length, nat_lt, unwrap_or, if◌then◌else◌}
use Rattle.pass_entry.specs.declared.objects.Node.{Node}
use Rattle.pass_entry.specs.declared.record.Record.{Record}
use Rattle.pass_entry.specs.declared.record.Record.TheVariants as log
use Rattle.pass_plain.specs.Graphs.{HasPath}
use Rattle.pass_plain.specs.WellLogged.{is_file_of}
use Rattle.pass_waldo.specs.Lookups.{AreAll}
use Rattle.pass_waldo.specs.Orders.{node_cmp}

abbrev pub is_file : List Record → Node → Bool
is_file list node = is_file_of list node.pnode

-- The versions of files among a node and all that it came from: the node itself first, and then the others, ascending.
pub record AreInputs (list : List Record) (node : Node) (nodes : List Node) : Type 0 where
  pub behind : List Node
  pub all : AreAll node_cmp behind (λ n. HasPath list node n)
  pub are : nodes ≡ filter (is_file list) (node ∷ behind)

-- a record gives the file a name; the empty one takes its name away, and gives none
abbrev pub given_look : ℕ → Option (List ℕ) → Record → Option (List ℕ)
given_look file last (log.Name pnode name) = if nat_lt 0 (length name) && pnode == file then Some name else last
given_look file last _ = last

abbrev pub given_to : List Record → ℕ → Option (List ℕ)
given_to list file = fold (given_look file) None list

-- the last name that the file was given, whether it has it still or not; no bytes where it never had one
abbrev pub given_name : List Record → ℕ → List ℕ
given_name list file = unwrap_or (given_to list file) []
