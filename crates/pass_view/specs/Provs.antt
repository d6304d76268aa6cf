-- A view in PROV-JSON, the W3C's form of provenance in JSON.
use Rattle.std.specs.Prelude.{ℕ, ◌≡◌, Bool, true, false, not, List, [], ◌∷◌, ◌++◌, map, Option, Some, None, codes, fold, if◌then◌else◌}
use Rattle.std.specs.List.{flat_map}
use Rattle.std.specs.BTreeSet.{insert_key}
use Rattle.std.specs.Ordering.{nat_cmp}
use Rattle.std.specs.Cmp.Lexicographic.{slice_cmp}
use Rattle.json.specs.Json.{Json, string, array, object, Items, no_items, item, Members, no_members, member}
use Rattle.json.specs.Print.{print}
use Rattle.json.specs.Token.{Token, key}
use Rattle.json.specs.Tree.{json_tokens}
use Rattle.json.specs.Written.{Written}
use Rattle.pass_entry.specs.Words.{kind_word, node_text}
use Rattle.pass_entry.specs.declared.objects.Node.{Node}
use Rattle.pass_view.specs.Labels.{is_activity, label_text, program_of}
use Rattle.pass_view.specs.declared.picture.Link.{Link}
use Rattle.pass_view.specs.declared.picture.Relation.{Relation}
use Rattle.pass_view.specs.declared.picture.Relation.TheVariants.{Used, Generated, Informed, Derived}
use Rattle.pass_view.specs.declared.picture.Shown.{Shown}
use Rattle.pass_view.specs.declared.picture.View.{View}
use Rattle.pass_view.specs.declared.provs.Part.{Part}
use Rattle.pass_view.specs.declared.provs.Part.TheVariants.{Entities, Activities, Associations}

-- a key of an object, with its value
abbrev pub Member : Type 0
Member = List ℕ × Json

abbrev pub members_of : List Member → Members
members_of [] = no_members
members_of (m ∷ ms) = member m.0 m.1 (members_of ms)

abbrev pub object_of : List Member → Json
object_of ms = object (members_of ms)

-- the items of which each of a list has one
abbrev pub items_of : {X : Type 0} → (X → Json) → List X → Items
items_of json [] = no_items
items_of json (x ∷ xs) = item (json x) (items_of json xs)

abbrev pub text_at : List ℕ → List ℕ → Member
text_at name text = (name, string text)

abbrev pub pair_at : List ℕ → List ℕ × List ℕ → List ℕ × List ℕ → Member
pair_at name first second = (name, object_of (text_at first.0 first.1 ∷ text_at second.0 second.1 ∷ []))

-- Nodes

abbrev pub node_id : Node → List ℕ
node_id node = codes "pass:" ++ node_text node

-- an attribute and its value behind a space, since no attribute has one
abbrev pub tag_text : List ℕ × List ℕ → List ℕ
tag_text tag = tag.0 ++ codes " " ++ tag.1

abbrev pub tags_json : List (List ℕ × List ℕ) → Json
tags_json tags = array (items_of (λ tag. string (tag_text tag)) tags)

abbrev pub name_members : Option (List ℕ) → List Member
name_members None = []
name_members (Some name) = text_at (codes "pass:name") name ∷ []

-- the type of a file of the system, which is this project's own
abbrev pub system_type : Member
system_type = pair_at (codes "prov:type") (codes "$", codes "pass:system") (codes "type", codes "prov:QUALIFIED_NAME")

abbrev pub system_members : Bool → List Member
system_members system = if system then system_type ∷ [] else []

abbrev pub own_members : Shown → List Member
own_members s = name_members s.name ++ system_members s.is_system

abbrev pub node_member : Shown → Member
node_member s = (
  node_id s.node,
  object_of
      (text_at (codes "prov:label") (label_text s) ∷ text_at (codes "pass:kind") (kind_word s.kind) ∷ (codes "pass:attributes", tags_json s.tags.items) ∷ own_members s),
)

-- Relations

abbrev pub relation_id : Node → Node → List ℕ
relation_id a b = codes "_:" ++ (node_text a ++ (codes "-" ++ node_text b))

-- what PROV-JSON calls the relations of a kind, and the two ends of one
abbrev pub relation_word : Relation → List ℕ
relation_word Used = codes "used"
relation_word Generated = codes "wasGeneratedBy"
relation_word Informed = codes "wasInformedBy"
relation_word Derived = codes "wasDerivedFrom"

abbrev pub target_word : Relation → List ℕ
target_word Used = codes "prov:activity"
target_word Generated = codes "prov:entity"
target_word Informed = codes "prov:informed"
target_word Derived = codes "prov:generatedEntity"

abbrev pub source_word : Relation → List ℕ
source_word Used = codes "prov:entity"
source_word Generated = codes "prov:activity"
source_word Informed = codes "prov:informant"
source_word Derived = codes "prov:usedEntity"

abbrev pub link_member : Link → Member
link_member e = pair_at (relation_id e.target e.source) (target_word e.relation, node_id e.target) (source_word e.relation, node_id e.source)

abbrev pub same_relation : Relation → Relation → Bool
same_relation Used Used = true
same_relation Generated Generated = true
same_relation Informed Informed = true
same_relation Derived Derived = true
same_relation _ _ = false

-- an edge, where it is of this relation
abbrev pub related : Relation → Link → List Member
related relation e = if same_relation e.relation relation then link_member e ∷ [] else []

abbrev pub relations : Relation → List Link → Member
relations relation edges = (relation_word relation, object_of (flat_map (related relation) edges))

-- Programs

abbrev pub program_id : List ℕ → List ℕ
program_id name = codes "program:" ++ name

-- the program of a process's version, where the records name one
abbrev pub ran : Shown → Option (List ℕ)
ran s = if is_activity s then program_of s else None

abbrev pub programs_of : Option (List ℕ) → List (List ℕ)
programs_of None = []
programs_of (Some name) = name ∷ []

-- the programs, each once, in ascending order
abbrev pub programs : List Shown → List (List ℕ)
programs nodes = fold (insert_key (slice_cmp nat_cmp)) [] (flat_map (λ s. programs_of (ran s)) nodes)

abbrev pub agent : List ℕ → Member
agent name = pair_at (program_id name) (codes "prov:label", name) (codes "pass:kind", codes "program")

abbrev pub agents : List Shown → Member
agents nodes = (codes "agent", object_of (map agent (programs nodes)))

abbrev pub ran_member : Node → List ℕ → Member
ran_member node name = pair_at (codes "_:" ++ node_text node) (codes "prov:activity", node_id node) (codes "prov:agent", program_id name)

abbrev pub association_of : Node → Option (List ℕ) → List Member
association_of node None = []
association_of node (Some name) = ran_member node name ∷ []

-- Sections

-- What a section has of a node: versions of processes are activities, those of files, pipes and app objects are entities, and a
-- version of a process is associated with the program that it ran.
abbrev pub members_in : Part → Shown → List Member
members_in Entities s = if not (is_activity s) then node_member s ∷ [] else []
members_in Activities s = if is_activity s then node_member s ∷ [] else []
members_in Associations s = association_of s.node (ran s)

abbrev pub part_word : Part → List ℕ
part_word Entities = codes "entity"
part_word Activities = codes "activity"
part_word Associations = codes "wasAssociatedWith"

abbrev pub part_of : Part → List Shown → Member
part_of part nodes = (part_word part, object_of (flat_map (members_in part) nodes))

abbrev pub prefixes : Member
prefixes = pair_at (codes "prefix") (codes "pass", codes "urn:pass:") (codes "program", codes "urn:pass:program:")

abbrev pub sections : List Shown → List Link → List Member
sections nodes edges =
    prefixes
    ∷ part_of Entities nodes
    ∷ part_of Activities nodes
    ∷ agents nodes
    ∷ relations Used edges
    ∷ relations Generated edges
    ∷ relations Informed edges
    ∷ relations Derived edges
    ∷ part_of Associations nodes
    ∷ []

abbrev pub prov_json : View → Json
prov_json view = object_of (sections view.nodes.items view.edges.items)

-- its text, on a line
abbrev pub prov_text : View → List ℕ
prov_text view = print (json_tokens (prov_json view)) ++ 10 ∷ []

-- Writing

abbrev pub key_of : List ℕ → Token
key_of name = key name

abbrev pub member_tokens : Member → List Token
member_tokens m = key m.0 ∷ json_tokens m.1

abbrev pub tokens_of : List Member → List Token
tokens_of ms = flat_map member_tokens ms

-- these tokens were written behind what stood there
abbrev pub Adds : Written → Written → List Token → Type 0
Adds old new tokens = (new.tokens ≡ old.tokens ++ tokens) × (new.before ≡ old.before)
