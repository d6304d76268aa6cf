-- The nodes at which paths of a shape end, in order.
use Rattle.std.proofs.Common.{ℕ, ◌≡◌, ◌<◌, ◌+◌, ◌==◌, zero, suc, Bool, true, false, refl, sym, ap, ◌∙◌, List, [], ◌∷◌, ◌++◌, length, take, get_or, arith}
use Rattle.std.specs.Prelude.{Some, None, Contains, if◌then◌else◌}
use Rattle.std.specs.List.{cons_option, IsDistinct, AllByRecursion}
use Rattle.std.specs.List.Sorted.{IsSorted, IsPermutation}
use Rattle.std.proofs.lemmas.List.{take_more}
use Rattle.std.proofs.lemmas.List.Elements.{filter_map-append}
use Rattle.std.proofs.lemmas.List.Sorted.{Contains-permutation, IsPermutation-sym}
use Rattle.std.proofs.lemmas.Map.Keys.{IsDistinct-IsPermutation}
use Rattle.std.proofs.lemmas.Bool.{false_from_ne_true}
use Rattle.pass_entry.specs.declared.objects.Node.{Node}
use Rattle.pass_entry.specs.declared.record.Record.{Record}
use Rattle.pass_entry.proofs.Places.{each_contained}
use Rattle.pass_plain.specs.Versions.{same_node}
use Rattle.pass_plain.proofs.Lists.{same_numbers, both_true}
use Rattle.pass_graph.proofs.Noding.{same_node_is, same_node_equiv}
use Rattle.pass_waldo.specs.Orders.{node_cmp}
use Rattle.pass_query.proofs.Elements.{strictly}
use Rattle.pass_pattern.specs.declared.code.Instruction.{Instruction}
use Rattle.pass_pattern.specs.declared.search.Visit.{Visit}
use Rattle.pass_pattern.specs.Patterns.{Shape}
use Rattle.pass_pattern.specs.Codes.{IsCode}
use Rattle.pass_pattern.specs.Visits.{same_visit, visit, AreVisits, end_of, ends_of}
use Rattle.pass_pattern.specs.Answers.{AreJoined}
use Rattle.pass_pattern.proofs.Joining.{joined_comes, comes_joined}

-- an end is that of a visit at the first place
ends_there : (visits : List Visit) (n : Node) → Contains (ends_of visits) n → Contains visits (visit n 0)
ends_there [] n (k, within, is) = absurd (omega (arith, within))
ends_there (x ∷ visits) n there = at_test (λ rest. ends_there visits n rest) (x.place == 0) refl there
  where
    later : (Contains (ends_of visits) n → Contains visits (visit n 0)) → Contains (ends_of visits) n → Contains (x ∷ visits) (visit n 0)
    later go rest = let (k, within, is) = go rest in (suc k, omega (arith, within), is)

    at_end : (Contains (ends_of visits) n → Contains visits (visit n 0)) → x.place ≡ 0 → Contains (x.node ∷ ends_of visits) n → Contains (x ∷ visits) (visit n 0)
    at_end go zero_place (zero, within, is) = (0, omega arith, λ i. record { node = is i; place = zero_place i })
    at_end go zero_place (suc k, within, is) = later go (k, omega (arith, within), is)

    at_test : (Contains (ends_of visits) n → Contains visits (visit n 0)) → (t : Bool) → (x.place == 0) ≡ t → Contains (cons_option (if t then Some x.node else None) (ends_of visits)) n → Contains (x ∷ visits) (visit n 0)
    at_test go true is there = at_end go (same_numbers x.place 0 is) there
    at_test go false is there = later go there

there_ends : (visits : List Visit) (n : Node) → Contains visits (visit n 0) → Contains (ends_of visits) n
there_ends [] n (k, within, is) = absurd (omega (arith, within))
there_ends (x ∷ visits) n (zero, within, is) = at_test (x.place == 0) refl
  where
    at_test : (t : Bool) → (x.place == 0) ≡ t → Contains (cons_option (if t then Some x.node else None) (ends_of visits)) n
    at_test true so = (0, omega arith, ap (λ (v : Visit). v.node) is)
    at_test false so =
        let zero_place : x.place ≡ 0 = ap (λ (v : Visit). v.place) is in
        let z : true ≡ false = sym (ap (λ p. p == 0) zero_place) ∙ so in absurd (cc)
there_ends (x ∷ visits) n (suc k, within, is) = at_test (x.place == 0) (there_ends visits n (k, omega (arith, within), is))
  where
    at_test : (t : Bool) → Contains (ends_of visits) n → Contains (cons_option (if t then Some x.node else None) (ends_of visits)) n
    at_test true (j, low, at) = (suc j, omega (arith, low), at)
    at_test false there = there

none_same : (m : Node) (nodes : List Node) → ((n : Node) → Contains nodes n → m ≡ n → ⊥) → AllByRecursion (λ n. same_node m n ≡ false) nodes
none_same m [] apart = tt
none_same m (n ∷ nodes) apart = (
  false_from_ne_true (same_node m n) (λ same. apart n (0, omega arith, refl) (same_node_is m n same)),
  none_same m nodes (λ o (k, within, is) same. apart o (suc k, omega (arith, within), is) same),
)

-- where no visit is there twice no end is
distinct_ends : (visits : List Visit) → IsDistinct same_visit visits → IsDistinct same_node (ends_of visits)
unfolding IsDistinct
distinct_ends [] distinct = tt
distinct_ends (x ∷ visits) distinct = at_test (x.place == 0) refl (distinct_ends visits distinct.1)
  where
    not_again : x.place ≡ 0 → (n : Node) → Contains (ends_of visits) n → x.node ≡ n → ⊥
    not_again zero_place n there same =
        let differ : same_visit x (visit n 0) ≡ false = each_contained (λ y. same_visit x y ≡ false) visits distinct.0 (visit n 0) (ends_there visits n there) in
        let alike : same_visit x (visit n 0) ≡ true =
        both_true (same_node x.node n) (x.place == 0) (ap (same_node x.node) (sym same) ∙ same_node_equiv.refl x.node) (ap (λ p. p == 0) zero_place) in
        let z : true ≡ false = sym alike ∙ differ in cc

    at_test : (t : Bool) → (x.place == 0) ≡ t → IsDistinct same_node (ends_of visits) → IsDistinct same_node (cons_option (if t then Some x.node else None) (ends_of visits))
    at_test true is rest = (none_same x.node (ends_of visits) (not_again (same_numbers x.place 0 is)), rest)
    at_test false is rest = rest

-- the ends, in order, are all to which a path of the shape leads
pub are_joined : (list : List Record) (code : List Instruction) (shape : Shape) (start : ℕ) (from : Node) (visits : List Visit) (v : List Node) → IsCode code shape start
    → AreVisits list code (visit from start) visits → IsDistinct same_visit visits → IsPermutation (ends_of visits) v → IsSorted node_cmp v → AreJoined list shape from v
are_joined list code shape start from visits v is_code are distinct moved up = record {
  ascending = strictly v from up (IsDistinct-IsPermutation same_node same_node_equiv.symm (ends_of visits) v moved (distinct_ends visits distinct));
  all = λ b. (
    λ there. comes_joined list code shape start from b is_code ((are (visit b 0)).0 (ends_there visits b (Contains-permutation v (ends_of visits) b (IsPermutation-sym (ends_of visits) v moved) there))),
    λ path. Contains-permutation (ends_of visits) v b moved (there_ends visits b ((are (visit b 0)).1 (joined_comes list code shape start from b is_code path))),
  );
}

-- the ends of one more visit
pub ends_more : (visits : List Visit) (k : ℕ) (x : Visit) → k < length visits → x ≡ get_or visits k x → ends_of (take (k + 1) visits) ≡ ends_of (take k visits) ++ cons_option (end_of x) []
ends_more visits k x within is =
    ap ends_of (take_more visits k x within ∙ ap (λ y. take k visits ++ y ∷ []) (sym is)) ∙ filter_map-append end_of (take k visits) (x ∷ [])

pub is_end : (x : Visit) → x.place ≡ 0 → end_of x ≡ Some x.node
is_end x is = ap (λ p. if p == 0 then Some x.node else None) is

pub is_no_end : (x : Visit) → (x.place ≡ 0 → ⊥) → end_of x ≡ None
is_no_end x not = ap (λ t. if t then Some x.node else None) (false_from_ne_true (x.place == 0) (λ same. not (same_numbers x.place 0 same)))
