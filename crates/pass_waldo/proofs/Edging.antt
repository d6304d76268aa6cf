-- A graph's edges after one row was written.
use Rattle.std.proofs.Common.{◌≡◌, ◌<◌, Bool, true, false, refl, sym, ap, ◌∙◌, subst, [], cond}
use Rattle.std.specs.Prelude.{Option, Some, None, is_some, IsSomeAnd, vec_len, vec_capacity, if◌then◌else◌}
use Rattle.std.specs.Option.{option_map_or}
use Rattle.std.specs.HashMap.{get}
use Rattle.pass_entry.specs.declared.objects.Node.{Node}
use Rattle.pass_plain.specs.Versions.{same_node}
use Rattle.pass_graph.proofs.Noding.{same_node_is}
use Rattle.pass_waldo.specs.declared.edges.Edges.{Edges}
use Rattle.pass_waldo.specs.declared.edges.Row.{Row}
use Rattle.pass_waldo.specs.Edges.{parents_of, children_of, HaveSameEdges, HasRoom, HasParentRoom, HasChildRoom}

-- the node's row is now this one, and every other row is as before
abbrev pub Writes : Edges → Edges → Node → Row → Type 0
Writes old new node row = (n : Node) → get same_node new.rows n ≡ cond (same_node node n) (Some row) (get same_node old.rows n)

module _ (old new : Edges) (node : Node) (had row : Row) (was : Some had ≡ get same_node old.rows node) (writes : Writes old new node row) where
  -- what is read of the node's row, and of another
  read : {X : Type 0} (f : Row → X) (none : X) (n : Node)
      → option_map_or f (get same_node new.rows n) none ≡ (if same_node node n then f row else option_map_or f (get same_node old.rows n) none)
  read f none n = ap (λ o. option_map_or f o none) (writes n) ∙ at_test (same_node node n)
    where
      at_test : (b : Bool) → option_map_or f (cond b (Some row) (get same_node old.rows n)) none ≡ (if b then f row else option_map_or f (get same_node old.rows n) none)
      at_test true = refl
      at_test false = refl

  -- what a row and the written one have alike, all nodes have alike
  stays : {X : Type 0} (f : Row → X) (none : X) → f row ≡ f had → (n : Node) → option_map_or f (get same_node new.rows n) none ≡ option_map_or f (get same_node old.rows n) none
  stays f none same n = read f none n ∙ at_test (same_node node n) refl
    where
      at_test : (b : Bool) → same_node node n ≡ b → (if b then f row else option_map_or f (get same_node old.rows n) none) ≡ option_map_or f (get same_node old.rows n) none
      at_test true is = same ∙ ap (λ o. option_map_or f o none) (was ∙ ap (get same_node old.rows) (same_node_is node n is))
      at_test false is = refl

  pub parents_stay : row.parents.items ≡ had.parents.items → (n : Node) → parents_of new n ≡ parents_of old n
  parents_stay same = stays (λ r. r.parents.items) [] same

  pub children_stay : row.children.items ≡ had.children.items → (n : Node) → children_of new n ≡ children_of old n
  children_stay same = stays (λ r. r.children.items) [] same

  pub rows_stay : row.parents.items ≡ had.parents.items → row.children.items ≡ had.children.items → HaveSameEdges old new
  rows_stay p c = record { parents = parents_stay p; children = children_stay c }

  -- room that a row and the written one both have, all nodes keep
  keeps : (P : Row → Type 0) → (P had → P row) → (n : Node) → IsSomeAnd (get same_node old.rows n) P → IsSomeAnd (get same_node new.rows n) P
  keeps P on n room = subst (λ o. IsSomeAnd o P) (sym (writes n)) (at_test (same_node node n) refl room)
    where
      at_test : (b : Bool) → same_node node n ≡ b → IsSomeAnd (get same_node old.rows n) P → IsSomeAnd (cond b (Some row) (get same_node old.rows n)) P
      at_test true is room = on (subst (λ o. IsSomeAnd o P) (ap (get same_node old.rows) (sym (same_node_is node n is)) ∙ sym was) room)
      at_test false is room = room

  pub parent_room_stays : (vec_len had.parents < vec_capacity had.parents → vec_len row.parents < vec_capacity row.parents) → (n : Node) → HasParentRoom old n → HasParentRoom new n
  parent_room_stays = keeps (λ r. vec_len r.parents < vec_capacity r.parents)

  pub child_room_stays : (vec_len had.children < vec_capacity had.children → vec_len row.children < vec_capacity row.children) → (n : Node) → HasChildRoom old n → HasChildRoom new n
  child_room_stays = keeps (λ r. vec_len r.children < vec_capacity r.children)

-- a node without a row gets an empty one
module _ (old new : Edges) (node : Node) (row : Row) (lacks : is_some (get same_node old.rows node) ≡ false) (writes : Writes old new node row) where
  none_at : (o : Option Row) → is_some o ≡ false → o ≡ None
  none_at None h = refl
  none_at (Some r) h = absurd (cc)

  empty : {X : Type 0} (f : Row → X) (none : X) → f row ≡ none → (n : Node) → option_map_or f (get same_node new.rows n) none ≡ option_map_or f (get same_node old.rows n) none
  empty f none is_none n = ap (λ o. option_map_or f o none) (writes n) ∙ at_test (same_node node n) refl
    where
      at_test : (b : Bool) → same_node node n ≡ b → option_map_or f (cond b (Some row) (get same_node old.rows n)) none ≡ option_map_or f (get same_node old.rows n) none
      at_test true is = is_none ∙ ap (λ o. option_map_or f o none) (sym (none_at (get same_node old.rows node) lacks) ∙ ap (get same_node old.rows) (same_node_is node n is))
      at_test false is = refl

  pub row_made : row.parents.items ≡ [] → row.children.items ≡ [] → HaveSameEdges old new
  row_made p c = record { parents = empty (λ r. r.parents.items) [] p; children = empty (λ r. r.children.items) [] c }

  made_keeps : (P : Row → Type 0) → (n : Node) → IsSomeAnd (get same_node old.rows n) P → IsSomeAnd (get same_node new.rows n) P
  made_keeps P n room = subst (λ o. IsSomeAnd o P) (sym (writes n)) (at_test (same_node node n) refl room)
    where
      at_test : (b : Bool) → same_node node n ≡ b → IsSomeAnd (get same_node old.rows n) P → IsSomeAnd (cond b (Some row) (get same_node old.rows n)) P
      at_test true is room = absurd (subst (λ o. IsSomeAnd o P) (ap (get same_node old.rows) (sym (same_node_is node n is)) ∙ none_at (get same_node old.rows node) lacks) room)
      at_test false is room = room

  pub made_room_stays : (n : Node) → HasRoom old n → HasRoom new n
  made_room_stays n room = (made_keeps (λ r. vec_len r.parents < vec_capacity r.parents) n room.0, made_keeps (λ r. vec_len r.children < vec_capacity r.children) n room.1)
