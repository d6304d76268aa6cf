-- What the records say of a node, and of an edge. This project's own rule.
use Rattle.std.specs.Prelude.{ℕ, ◌≡◌, ◌==◌, ◌||◌, Bool, true, false, List, [], ◌∷◌, Option, Some, None, codes, fold, nat_eq, if◌then◌else◌}
use Rattle.std.specs.List.{filter_map, list_any, starts_with}
use Rattle.std.specs.Option.{option_map_or}
use Rattle.std.specs.HashMap.{get}
use Rattle.pass_entry.specs.declared.objects.Node.{Node}
use Rattle.pass_entry.specs.declared.objects.Kind.TheVariants as kind
use Rattle.pass_entry.specs.declared.record.Record.{Record}
use Rattle.pass_entry.specs.declared.record.Record.TheVariants as log
use Rattle.pass_plain.specs.Registries.{same_kind}
use Rattle.pass_plain.specs.Versions.{same_node}
use Rattle.pass_plain.specs.WellLogged.{kind_of, last_name_of}
use Rattle.pass_graph.specs.Logged.{Summarizes, name_in}
use Rattle.pass_view.specs.declared.facts.Facts.{Facts}
use Rattle.pass_view.specs.declared.picture.Link.{Link}
use Rattle.pass_view.specs.declared.picture.Relation.{Relation}
use Rattle.pass_view.specs.declared.picture.Relation.TheVariants.{Used, Generated, Informed, Derived}
use Rattle.pass_view.specs.declared.picture.Shown.{Shown}
use Rattle.pass_view.specs.declared.tags.Tags.{Tags}

-- an attribute that a record gives the node, with its value
abbrev pub tag_in : Node → Record → Option (List ℕ × List ℕ)
tag_in node (log.Attr n attr value) = if same_node n node then Some (attr, value) else None
tag_in node _ = None

-- the attributes of a node, in the order of the records
abbrev pub tags_in : List Record → Node → List (List ℕ × List ℕ)
tags_in list node = filter_map (tag_in node) list

-- a name that is given; an empty one takes away the name before and gives none
abbrev pub given : List ℕ → Option (List ℕ) → Option (List ℕ)
given [] last = last
given (b ∷ name) last = Some (b ∷ name)

abbrev pub given_look : ℕ → Option (List ℕ) → Record → Option (List ℕ)
given_look object last (log.Name pnode name) = if pnode == object then given name last else last
given_look object last _ = last

-- the last name that the object was given, which it may have no more
abbrev pub given_name_of : List Record → ℕ → Option (List ℕ)
given_name_of list object = fold (given_look object) None list

-- the folders of what a system brings along
abbrev pub system_folders : List (List ℕ)
system_folders =
    codes "/bin/" ∷ codes "/etc/" ∷ codes "/lib/" ∷ codes "/lib32/" ∷ codes "/lib64/" ∷ codes "/libx32/" ∷ codes "/opt/" ∷ codes "/proc/" ∷ codes "/sbin/" ∷ codes "/sys/" ∷ codes "/usr/" ∷ []

abbrev pub is_system_name : List ℕ → Bool
is_system_name name = list_any (starts_with nat_eq name) system_folders

-- a file of the system, by the last name that it was given
abbrev pub is_system : List Record → ℕ → Bool
is_system list object = option_map_or is_system_name (given_name_of list object) false

abbrev pub is_process : List Record → ℕ → Bool
is_process list object = option_map_or (λ k. same_kind k kind.Process) (kind_of list object) false

-- The relation of a version to what it came from, by which of the two are versions of processes, after the W3C's PROV-DM: a
-- process used what it read and generated what it wrote, was informed by another process or by its own version before, and
-- all else was derived.
abbrev pub relation_between : Bool → Bool → Relation
relation_between true false = Used
relation_between false true = Generated
relation_between true true = Informed
relation_between false false = Derived

-- what is told of a node is what the records say
pub record IsTold (list : List Record) (shown : Shown) : Type 0 where
  pub is_kind : kind_of list shown.node.pnode ≡ Some shown.kind
  pub is_name : shown.name ≡ name_in (last_name_of list shown.node.pnode)
  pub is_was : shown.was ≡ given_name_of list shown.node.pnode
  pub of_system : shown.is_system ≡ is_system list shown.node.pnode
  pub are_tags : shown.tags.items ≡ tags_in list shown.node

-- the relation is that of the two ends, and one of them is a file of the system where the link says so
pub record IsRelated (list : List Record) (link : Link) : Type 0 where
  pub is_relation : link.relation ≡ relation_between (is_process list link.target.pnode) (is_process list link.source.pnode)
  pub of_system : link.is_system ≡ is_system list link.target.pnode || is_system list link.source.pnode

abbrev pub tags_of : Tags → Node → List (List ℕ × List ℕ)
tags_of tags node = option_map_or (λ row. row.items) (get same_node tags.rows node) []

-- the table has the attributes that the records give
abbrev pub AreTags : List Record → Tags → Type 0
AreTags list tags = (node : Node) → tags_of tags node ≡ tags_in list node

-- the tables tell what the records say
pub record AreFacts (list : List Record) (facts : Facts) : Type 0 where
  pub logged : Summarizes facts.logged list
  pub names : (object : ℕ) → get nat_eq facts.names object ≡ given_name_of list object
  pub tags : AreTags list facts.tags
