-- Where files have their leaves among all.
use Rattle.std.specs.Prelude.{ℕ, ◌≡◌, ◌+◌, ◌==◌, List, [], ◌∷◌, slice_get, Vec, if◌then◌else◌}
use Rattle.std.specs.Option.{option_map_or}
use Rattle.std.specs.Ordering.{nat_cmp}
use Rattle.std.specs.BTreeMap.{BTreeMap, get}
use Rattle.std.specs.declared.alloc.Global.{Global}
use Rattle.pass_leaf.specs.Leaves.{Leaf}
use Rattle.pass_leaf.specs.Contents.{laid}

-- the places of a file's leaves, where the first of all has that place
abbrev pub places_from : ℕ → List Leaf → ℕ → List ℕ
places_from place [] pnode = []
places_from place (leaf ∷ leaves) pnode = if leaf.node.pnode == pnode then place ∷ places_from (place + 1) leaves pnode else places_from (place + 1) leaves pnode

-- the places of a file's leaves among all, from 0
abbrev pub places_of : List Leaf → ℕ → List ℕ
places_of leaves pnode = places_from 0 leaves pnode

-- what the leaf at a place makes of a content
abbrev pub laid_at : List Leaf → List ℕ → ℕ → List ℕ
laid_at leaves content place = option_map_or (laid content) (slice_get leaves place) content

-- the places that a table has of a file's leaves; none where it hasn't the file
abbrev pub places_at : BTreeMap ℕ (Vec ℕ Global) → ℕ → List ℕ
places_at table pnode = option_map_or (λ v. v.items) (get nat_cmp table pnode) []

-- a table has the places of each file's leaves
abbrev pub ArePlaces : List Leaf → BTreeMap ℕ (Vec ℕ Global) → Type 0
ArePlaces leaves table = (pnode : ℕ) → places_at table pnode ≡ places_of leaves pnode
