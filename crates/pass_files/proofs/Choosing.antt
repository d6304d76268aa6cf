-- The files among nodes in ascending order.
use Rattle.std.proofs.Common.{ℕ, ◌≡◌, ◌<◌, ◌+◌, Bool, true, false, ◌&&◌, refl, sym, ap, ◌∙◌, cond, List, [], ◌∷◌, ◌++◌, length, take, get_or}
use Rattle.std.specs.Prelude.{Option, Some, None, Contains, filter, if◌then◌else◌}
use Rattle.std.specs.HashSet.{contains}
use Rattle.std.proofs.lemmas.List.Elements.{filter_more}
use Rattle.std.proofs.lemmas.List.Kept.{IsStrictlySortedBy-filter}
use Rattle.pass_entry.specs.declared.objects.Node.{Node}
use Rattle.pass_entry.specs.declared.record.Record.{Record}
use Rattle.pass_entry.proofs.Places.{Contains-place, Contains-at}
use Rattle.pass_plain.specs.Graphs.{HasPath}
use Rattle.pass_plain.specs.Versions.{same_node}
use Rattle.pass_plain.proofs.Lists.{filtered, in_filtered, true_left, true_right}
use Rattle.pass_waldo.specs.Lookups.{AreAll}
use Rattle.pass_waldo.specs.Orders.{node_cmp}
use Rattle.pass_files.specs.Data.{HasDataPath}
use Rattle.pass_files.specs.Inquiries.{Joins}
use Rattle.pass_files.specs.Tables.{AreFoundBy, Nodes, is_in}
use Rattle.pass_files.specs.declared.flows.Way.TheVariants.{Back, On}
use Rattle.pass_files.proofs.Passes.{any_path}

-- those of a row of which a test holds
pub some_of : (p : Node → Bool) (nodes : List Node) (P Q : Node → Type 0) → ((n : Node) → p n ≡ true → P n → Q n) → ((n : Node) → Q n → P n × (p n ≡ true)) → AreAll node_cmp nodes P → AreAll node_cmp (filter p nodes) Q
some_of p nodes P Q there here are = record {
  ascending = IsStrictlySortedBy-filter node_cmp p nodes are.ascending;
  all = λ n. (sound n, whole n);
}
  where
    sound : (n : Node) → Contains (filter p nodes) n → Q n
    sound n h =
        let (k, at) = Contains-place (filter p nodes) n h in
        let (pass, i, place) = filtered p nodes k n at in
        there n pass ((are.all n).0 (Contains-at nodes i n place))

    whole : (n : Node) → Q n → Contains (filter p nodes) n
    whole n q =
        let (holds, pass) = here n q in
        let (i, place) = Contains-place nodes n ((are.all n).1 holds) in
        let (k, at) = in_filtered p nodes i n place pass in
        Contains-at (filter p nodes) k n at

both : (a b : Bool) → a ≡ true → b ≡ true → a && b ≡ true
both a b p q = ap (λ x. x && b) p ∙ q

module _ (shown : Node → Bool) (list : List Record) (node : Node) (nodes : List Node) where
  pub inputs_kept : (b : Bool) (found : Option Nodes) → AreFoundBy Back b list node found → AreAll node_cmp nodes (λ n. HasPath list node n)
      → AreAll node_cmp (filter (λ n. shown n && is_in found n) nodes) (λ n. (shown n ≡ true) × Joins b list node n)
  inputs_kept true (Some set) are all = some_of (λ n. shown n && is_in (Some set) n) nodes (λ n. HasPath list node n) (λ n. (shown n ≡ true) × HasDataPath list node n)
      (λ n pass p. (true_left (shown n) (contains same_node set n) pass, (are n).0 (true_right (shown n) (contains same_node set n) pass)))
      (λ n q. (any_path list q.1, both (shown n) (contains same_node set n) q.0 ((are n).1 q.1))) all
  inputs_kept true None are all = absurd are
  inputs_kept false (Some set) are all = absurd are
  inputs_kept false None are all = some_of (λ n. shown n && is_in None n) nodes (λ n. HasPath list node n) (λ n. (shown n ≡ true) × HasPath list node n)
      (λ n pass p. (true_left (shown n) true pass, p)) (λ n q. (q.1, both (shown n) true q.0 refl)) all

  pub outputs_kept : (b : Bool) (found : Option Nodes) → AreFoundBy On b list node found → AreAll node_cmp nodes (λ n. HasPath list n node)
      → AreAll node_cmp (filter (λ n. shown n && is_in found n) nodes) (λ n. (shown n ≡ true) × Joins b list n node)
  outputs_kept true (Some set) are all = some_of (λ n. shown n && is_in (Some set) n) nodes (λ n. HasPath list n node) (λ n. (shown n ≡ true) × HasDataPath list n node)
      (λ n pass p. (true_left (shown n) (contains same_node set n) pass, (are n).0 (true_right (shown n) (contains same_node set n) pass)))
      (λ n q. (any_path list q.1, both (shown n) (contains same_node set n) q.0 ((are n).1 q.1))) all
  outputs_kept true None are all = absurd are
  outputs_kept false (Some set) are all = absurd are
  outputs_kept false None are all = some_of (λ n. shown n && is_in None n) nodes (λ n. HasPath list n node) (λ n. (shown n ≡ true) × HasPath list n node)
      (λ n pass p. (true_left (shown n) true pass, p)) (λ n q. (q.1, both (shown n) true q.0 refl)) all

-- those of a row up to a place, with the one there
pub one_more_kept : (p : Node → Bool) (xs : List Node) (k : ℕ) (x : Node) (b : Bool) → k < length xs → x ≡ get_or xs k x → b ≡ p x
    → filter p (take k xs) ++ (if b then x ∷ [] else []) ≡ filter p (take (k + 1) xs)
one_more_kept p xs k x b within at is =
    ap (λ (t : Bool). filter p (take k xs) ++ (if t then x ∷ [] else [])) is
    ∙ ap (λ (zs : List Node). filter p (take k xs) ++ zs) (single (p x)) ∙ sym (filter_more p xs k x within ∙ ap (λ y. filter p (take k xs) ++ cond (p y) (y ∷ []) []) (sym at))
  where
    single : (t : Bool) → (if t then x ∷ [] else []) ≡ cond t (x ∷ []) []
    single true = refl
    single false = refl
