-- The places of nodes among leaves.
use Rattle.std.proofs.Common.{ℕ, ◌≡◌, ◌<◌, ◌≤◌, ◌+◌, ◌==◌, ◌∙◌, Bool, true, false, not, ◌&&◌, refl, sym, ap, subst, List, length, take, drop, get_or}
use Rattle.std.specs.Prelude.{Option, Some, None, is_some, slice_get, if◌then◌else◌}
use Rattle.std.proofs.lemmas.List.{drop_all}
use Rattle.std.proofs.lemmas.Option.{get_or_from_slice_get}
use Rattle.pass_entry.specs.declared.objects.Node.{Node}
use Rattle.pass_entry.proofs.Lists.{same_numbers, true_left}
use Rattle.pass_plain.specs.Versions.{same_node}
use Rattle.pass_graph.proofs.Noding.{same_node_is}
use Rattle.pass_leaf.specs.Leaves.{Leaf}
use Rattle.pass_leaf.specs.Contents.{content_after, content_of, is_of, last_content}
use Rattle.pass_leaf.proofs.Lists.{last_content-push}
use Rattle.pass_leaf.proofs.Putting.{followed, IsSeeking, seeking_found, seeking_more}
use Rattle.pass_inputs.specs.Plans.{IsPlace, IsPlaced}
use Rattle.pass_plain.proofs.Replays.{take-next}

-- what is known of a node when the first leaves were seen
abbrev pub IsSought : List Leaf → ℕ → Node → Option ℕ → Type 0
IsSought leaves seen node (Some place) = IsPlace leaves node place
IsSought leaves seen node None = content_after (take seen leaves) (drop seen leaves) node ≡ content_of leaves node

pub sought_none : (leaves : List Leaf) (node : Node) (place : Option ℕ) → place ≡ None → IsSought leaves 0 node place
sought_none leaves node (Some place) none = absurd (cc)
sought_none leaves node None none = refl

pub sought_all : (leaves : List Leaf) (seen : ℕ) (node : Node) (place : Option ℕ) → length leaves ≤ seen → IsSought leaves seen node place → IsPlaced leaves node place
sought_all leaves seen node (Some place) all known = known
sought_all leaves seen node None all known = sym known ∙ ap (λ (l : List Leaf). content_after (take seen leaves) l node) (drop_all seen leaves all)

-- a place that was noted stays
abbrev pub noted : Bool → ℕ → Option ℕ → Option ℕ
noted b place (Some old) = Some old
noted b place None = if b then Some place else None

noted_here : (place : ℕ) (old : Option ℕ) → (if not (is_some old) then Some place else old) ≡ noted true place old
noted_here place (Some p) = refl
noted_here place None = refl

noted_not : (place : ℕ) (old : Option ℕ) → old ≡ noted false place old
noted_not place (Some p) = refl
noted_not place None = refl

pub noted_is : (node n : Node) (place : ℕ) (old : Node → Option ℕ) → (if same_node node n && not (is_some (old node)) then Some place else old n) ≡ noted (same_node node n) place (old n)
noted_is node n place old = by_test (same_node node n) refl
  where
    by_test : (b : Bool) → same_node node n ≡ b → (if b && not (is_some (old node)) then Some place else old n) ≡ noted b place (old n)
    by_test true is = subst (λ (m : Node). (if not (is_some (old m)) then Some place else old n) ≡ noted true place (old n)) (sym (same_node_is node n is)) (noted_here place (old n))
    by_test false is = noted_not place (old n)

-- one leaf more
module _ (leaves : List Leaf) (seen : ℕ) (leaf : Leaf) (within : seen < length leaves) (is : leaf ≡ get_or leaves seen leaf) where
  pub content_more : (file : ℕ) → last_content (take (seen + 1) leaves) file ≡ followed file (last_content (take seen leaves) file) leaf
  content_more file = ap (λ (l : List Leaf). last_content l file) (take-next leaves seen leaf within is) ∙ last_content-push (take seen leaves) leaf file

  pub leaf_there : (other : Leaf) → slice_get leaves seen ≡ Some other → leaf ≡ other
  leaf_there other at = is ∙ get_or_from_slice_get leaves seen other leaf at

  module _ (node : Node) (rest : content_after (take seen leaves) (drop seen leaves) node ≡ content_of leaves node) where
    sought : IsSeeking leaves node (last_content (take seen leaves) node.pnode) seen
    sought = record { content_is = refl; rest = rest }

    found : is_of node leaf ≡ true → IsPlace leaves node seen
    found own =
        let same : (leaf.node.pnode == node.pnode) ≡ true = true_left (leaf.node.pnode == node.pnode) (leaf.node.version == node.version) own in
        record {
          within = within;
          file = λ other at. ap (λ (l : Leaf). l.node.pnode) (sym (leaf_there other at)) ∙ same_numbers leaf.node.pnode node.pnode same;
          content =
              seeking_found leaves node (last_content (take seen leaves) node.pnode) seen leaf (followed node.pnode (last_content (take seen leaves) node.pnode) leaf) sought within is refl own same
              ∙ ap (λ (l : List ℕ). Some l) (sym (content_more node.pnode));
        }

    other : is_of node leaf ≡ false → content_after (take (seen + 1) leaves) (drop (seen + 1) leaves) node ≡ content_of leaves node
    other not_own =
        let more : IsSeeking leaves node (followed node.pnode (last_content (take seen leaves) node.pnode) leaf) (seen + 1) =
        seeking_more leaves node (last_content (take seen leaves) node.pnode) seen leaf (followed node.pnode (last_content (take seen leaves) node.pnode) leaf) sought within is refl not_own in
        more.rest

  pub sought_more : (node : Node) (b : Bool) → is_of node leaf ≡ b → (old : Option ℕ) → IsSought leaves seen node old → IsSought leaves (seen + 1) node (noted b seen old)
  sought_more node b own (Some place) known = known
  sought_more node true own None known = found node known own
  sought_more node false own None known = other node known own

-- what a table has of a node
pub place_there : (leaves : List Leaf) (node : Node) (found : Option ℕ) (place : ℕ) → IsPlaced leaves node found → found ≡ Some place → IsPlace leaves node place
place_there leaves node found place known is = subst (IsPlaced leaves node) is known

pub none_there : (leaves : List Leaf) (node : Node) (found : Option ℕ) → IsPlaced leaves node found → found ≡ None → content_of leaves node ≡ None
none_there leaves node found known is = subst (IsPlaced leaves node) is known
