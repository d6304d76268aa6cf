-- To take the least node that may come next each time gives the least order.
use Rattle.std.proofs.Common.{◌≡◌, ◌≤◌, false, ◌||◌, ◌⊎◌, inl, inr, refl, sym, ap, ◌∙◌, subst, List, [], ◌∷◌, ◌++◌, length, append_assoc, Ordering}
use Rattle.std.specs.Prelude.{Contains}
use Rattle.std.specs.List.{list_any, IsDistinct, AllByRecursion}
use Rattle.std.specs.Cmp.Lexicographic.{slice_cmp}
use Rattle.std.specs.Ordering.{ordering_then, is_gt}
use Rattle.std.specs.declared.cmp.Ordering.TheVariants.{Less, Equal, Greater}
use Rattle.std.proofs.lemmas.List.Elements.{Contains-append_cases, Contains-append_left, Contains-append_right, Contains-push, Contains-push_cases}
use Rattle.std.proofs.lemmas.Map.Keys.{IsDistinct-push}
use Rattle.std.proofs.lemmas.Map.Made.{length-le_from_is_member}
use Rattle.std.proofs.lemmas.List.{append-nil}
use Rattle.pass_entry.specs.declared.objects.Node.{Node}
use Rattle.pass_entry.specs.declared.record.Record.{Record}
use Rattle.pass_entry.proofs.Places.{contains_none}
use Rattle.pass_plain.specs.Versions.{same_node}
use Rattle.pass_graph.proofs.Noding.{same_node_equiv}
use Rattle.pass_waldo.specs.Orders.{node_cmp}
use Rattle.pass_waldo.proofs.Indexing.{node_exact}
use Rattle.pass_recipe.specs.Orders.{HasOnlyListed, HasAllListed, ComesAfterSources, IsOrder, IsLeast, IsFree, IsGreedy}
use Rattle.pass_recipe.specs.Orders.IsGreedy.{done, next}
use Rattle.pass_recipe.proofs.Members.{any_there, there_any, true_false}

all_mid : {X : Type 0} (P : X → Type 0) (xs ys : List X) (y : X) → AllByRecursion P (xs ++ y ∷ ys) → P y
all_mid P [] ys y all = all.0
all_mid P (x ∷ xs) ys y all = all_mid P xs ys y all.1

-- in a list that has no node twice a node isn't among those before it
not_before : (before rest : List Node) (n : Node) → IsDistinct same_node (before ++ n ∷ rest) → list_any (same_node n) before ≡ false
unfolding IsDistinct
not_before [] rest n apart = refl
not_before (x ∷ before) rest n apart =
    ap (λ b. b || list_any (same_node n) before) (same_node_equiv.symm n x ∙ all_mid (λ y. same_node x y ≡ false) before rest n apart.0)
    ∙ not_before before rest n apart.1

module _ (list : List Record) (all : List Node) where
  pub greedy_push : (before xs : List Node) (n : Node) → IsGreedy list all before xs → IsFree list all (before ++ xs) n → ((m : Node) → IsFree list all (before ++ xs) m → is_gt (node_cmp n m) ≡ false)
      → IsGreedy list all before (xs ++ n ∷ [])
  greedy_push before [] n g free least =
      next (subst (λ v. IsFree list all v n) (append-nil before) free) (λ m f. least m (subst (λ v. IsFree list all v m) (sym (append-nil before)) f)) done
  greedy_push before (x ∷ xs) n (next f l g) free least =
      let same : before ++ x ∷ xs ≡ (before ++ x ∷ []) ++ xs = sym (append_assoc before (x ∷ []) xs) in
      next f l (greedy_push (before ++ x ∷ []) xs n g (subst (λ v. IsFree list all v n) same free) (λ m e. least m (subst (λ v. IsFree list all v m) (sym same) e)))

  pub free_at : (before xs rest : List Node) (n : Node) → IsGreedy list all before (xs ++ n ∷ rest) → IsFree list all (before ++ xs) n
  free_at before [] rest n (next f l g) = subst (λ v. IsFree list all v n) (sym (append-nil before)) f
  free_at before (x ∷ xs) rest n (next f l g) = subst (λ v. IsFree list all v n) (append_assoc before (x ∷ []) xs) (free_at (before ++ x ∷ []) xs rest n g)

  -- all that is taken is one of all
  pub taken_listed : (before xs : List Node) (n : Node) → IsGreedy list all before xs → Contains xs n → Contains all n
  taken_listed before [] n g there = absurd (contains_none n there)
  taken_listed before (x ∷ xs) n (next f l g) there = case_of (λ later. taken_listed (before ++ x ∷ []) xs n g later) (Contains-append_cases (x ∷ []) xs n there)
    where
      case_of : (Contains xs n → Contains all n) → Contains (x ∷ []) n ⊎ Contains xs n → Contains all n
      case_of later (inl here) = elim (Contains-push_cases [] x n here) [ inl none ↦ absurd (contains_none n none) | inr is ↦ subst (Contains all) is f.listed ]
      case_of later (inr there) = later there

  -- and is taken once
  taken_once : (before xs : List Node) → IsGreedy list all before xs → IsDistinct same_node before → IsDistinct same_node (before ++ xs)
  taken_once before [] g apart = subst (IsDistinct same_node) (sym (append-nil before)) apart
  taken_once before (x ∷ xs) (next f l g) apart =
      subst (IsDistinct same_node) (append_assoc before (x ∷ []) xs) (taken_once (before ++ x ∷ []) xs g (IsDistinct-push same_node_equiv before x apart f.new))

  pub once : (nodes : List Node) → IsGreedy list all [] nodes → IsDistinct same_node nodes
  unfolding IsDistinct
  once nodes g = taken_once [] nodes g tt

  pub after : (nodes : List Node) → IsGreedy list all [] nodes → ComesAfterSources list nodes
  after nodes g before rest n s is e = (free_at [] before rest n (subst (IsGreedy list all []) is g)).sources s e

  -- no more nodes can be taken than there are
  pub no_more : (nodes : List Node) → IsGreedy list all [] nodes → length nodes ≤ length all
  no_more nodes g = length-le_from_is_member same_node_equiv nodes all (once nodes g) (λ n is. any_there all n (taken_listed [] nodes n g (there_any nodes n is)))

  module _ (node : Node) (sound : HasOnlyListed list node all) (whole : HasAllListed list node all) (other : List Node) (o : IsOrder list node other) where
    free_in : (before rest : List Node) (n : Node) → other ≡ before ++ n ∷ rest → IsFree list all before n
    free_in before rest n is = record {
      listed = whole n (o.sound n (subst (λ v. Contains v n) (sym is) (Contains-append_right before (n ∷ rest) n (Contains-append_left (n ∷ []) rest n (Contains-push [] n)))));
      new = not_before before rest n (subst (IsDistinct same_node) is o.once);
      sources = λ s e. o.after before rest n s is e;
    }

    least_from : (before xs ys : List Node) → IsGreedy list all before xs → other ≡ before ++ ys → is_gt (slice_cmp node_cmp xs ys) ≡ false
    least_from before [] [] g is = refl
    least_from before [] (y ∷ ys) g is = refl
    least_from before (x ∷ xs) [] (next f l g) is =
        absurd (true_false (list_any (same_node x) before)
        (any_there before x (subst (λ v. Contains v x) (is ∙ append-nil before) (o.complete x (sound x f.listed)))) f.new)
    least_from before (x ∷ xs) (y ∷ ys) (next f l g) is =
        at_test (node_cmp x y) refl (λ same. least_from (before ++ x ∷ []) xs ys g (is ∙ ap (λ z. before ++ z ∷ ys) (sym same) ∙ sym (append_assoc before (x ∷ []) ys)))
      where
        at_test : (r : Ordering) → node_cmp x y ≡ r → (x ≡ y → is_gt (slice_cmp node_cmp xs ys) ≡ false) → is_gt (ordering_then r (slice_cmp node_cmp xs ys)) ≡ false
        at_test Less less later = refl
        at_test Equal tied later = later (node_exact x y tied)
        at_test Greater above later = absurd (true_false (is_gt (node_cmp x y)) (ap is_gt above) (l y (free_in before ys y is)))

  pub least : (node : Node) → HasOnlyListed list node all → HasAllListed list node all → (nodes : List Node) → IsGreedy list all [] nodes → IsLeast list node nodes
  least node sound whole nodes g other o = least_from node sound whole other o [] nodes other g refl
