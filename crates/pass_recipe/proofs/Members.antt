-- The nodes of a list, as tests find them.
use Rattle.std.proofs.Common.{ℕ, ◌≡◌, ◌<◌, zero, suc, Bool, true, false, sym, ap, ◌∙◌, List, [], ◌∷◌, length, take, get_or, arith}
use Rattle.std.specs.Prelude.{Some, Contains}
use Rattle.std.specs.List.{list_any, IsDistinct}
use Rattle.std.proofs.lemmas.List.{get_or-take}
use Rattle.std.proofs.lemmas.Map.Keys.{apart_from_distinct}
use Rattle.std.proofs.lemmas.Option.{get_or_from_slice_get}
use Rattle.std.proofs.lemmas.Bool.{false_from_ne_true}
use Rattle.pass_entry.specs.declared.objects.Node.{Node}
use Rattle.pass_entry.proofs.Places.{Contains-place, Contains-at, contains_none}
use Rattle.pass_plain.specs.Versions.{same_node}
use Rattle.pass_plain.proofs.Lists.{any_at, any_of, within_take}
use Rattle.pass_graph.proofs.Noding.{same_node_is, same_node_equiv}

pub any_there : (nodes : List Node) (n : Node) → Contains nodes n → list_any (same_node n) nodes ≡ true
any_there nodes n there = let (k, at) = Contains-place nodes n there in any_of (same_node n) nodes k n at (same_node_equiv.refl n)

pub there_any : (nodes : List Node) (n : Node) → list_any (same_node n) nodes ≡ true → Contains nodes n
there_any nodes n any =
    let (k, x, at, same) = any_at (same_node n) nodes any in
    Contains-at nodes k n (at ∙ ap (λ y. Some y) (sym (same_node_is n x same)))

pub not_there : (nodes : List Node) (n : Node) → (Contains nodes n → ⊥) → list_any (same_node n) nodes ≡ false
not_there nodes n none = false_from_ne_true (list_any (same_node n) nodes) (λ any. none (there_any nodes n any))

pub true_false : (b : Bool) → b ≡ true → b ≡ false → ⊥
true_false b so not_so = let z : true ≡ false = sym so ∙ not_so in cc

-- what the first elements have, all have
pub there_take : {X : Type 0} (j : ℕ) (xs : List X) (x : X) → Contains (take j xs) x → Contains xs x
there_take zero xs x there = absurd (contains_none x there)
there_take (suc j) [] x there = absurd (contains_none x there)
there_take (suc j) (y ∷ xs) x (zero, within, is) = (0, omega arith, is)
there_take (suc j) (y ∷ xs) x (suc k, within, is) = let (m, low, at) = there_take j xs x (k, omega (arith, within), is) in (suc m, omega (arith, low), at)

-- in a list that has no node twice the node at a place isn't among those before it
pub new_at : (nodes : List Node) (i : ℕ) (n : Node) → IsDistinct same_node nodes → i < length nodes → n ≡ get_or nodes i n → list_any (same_node n) (take i nodes) ≡ false
new_at nodes i n once within is = false_from_ne_true (list_any (same_node n) (take i nodes)) (λ any.
    let (k, x, at, same) = any_at (same_node n) (take i nodes) any in
    let low : k < i = within_take i k nodes x at in
    let early : get_or nodes k n ≡ n = sym (get_or-take i nodes k n low) ∙ get_or_from_slice_get (take i nodes) k x n at ∙ sym (same_node_is n x same) in
    let apart : same_node (get_or nodes k n) (get_or nodes i n) ≡ false = apart_from_distinct same_node nodes k i n once low within in
    true_false (same_node n n) (same_node_equiv.refl n) (ap (λ y. same_node y n) (sym early) ∙ ap (same_node (get_or nodes k n)) is ∙ apart))
