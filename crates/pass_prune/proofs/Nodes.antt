-- Nodes that are put into a set.
use Rattle.std.proofs.Common.{◌≡◌, ◌⊎◌, ◌↔◌, ℕ, ◌+◌, ◌<◌, ◌==◌, Bool, true, false, cond, ◌||◌, List, [], ◌∷◌, ◌++◌, length, take, drop, get_or, inl, inr, refl, sym, ◌∙◌, ap, subst}
use Rattle.std.specs.Prelude.{Contains}
use Rattle.std.specs.List.{list_any}
use Rattle.std.proofs.lemmas.List.{drop_more, take-append-drop}
use Rattle.std.proofs.lemmas.List.Elements.{Contains-push, Contains-push_cases, Contains-append_left}
use Rattle.std.proofs.lemmas.List.Folds.{list_any-append}
use Rattle.std.proofs.lemmas.Map.Views.{Contains-from_any, list_any-from_Contains}
use Rattle.pass_entry.specs.declared.objects.Node.{Node}
use Rattle.pass_entry.specs.declared.record.Record.{Record}
use Rattle.pass_entry.proofs.Lists.{or_none, or_true, same_numbers, alike}
use Rattle.pass_entry.proofs.Places.{contains_none}
use Rattle.pass_plain.proofs.Replays.{take-next}
use Rattle.pass_plain.specs.Graphs.{HasPath}
use Rattle.pass_plain.specs.Versions.{same_node}
use Rattle.pass_graph.specs.ListRanks.{HasNode}
use Rattle.pass_graph.proofs.Noding.{same_node_is, same_node_equiv}
use Rattle.pass_waldo.specs.Lookups.{AreAll}
use Rattle.pass_waldo.specs.Orders.{node_cmp}
use Rattle.pass_leaf.specs.Leaves.{Leaf}
use Rattle.pass_leaf.specs.Contents.{last_version}
use Rattle.pass_prune.specs.Choices.{IsNamed, is_tagged, IsChosen, IsFirstLacking}
use Rattle.pass_prune.specs.Tables.{AreNodes}

any_more : {X : Type 0} (p : X → Bool) (xs : List X) (k : ℕ) (x : X) → k < length xs → x ≡ get_or xs k x → list_any p (take (k + 1) xs) ≡ (list_any p (take k xs) || p x)
any_more p xs k x within at =
    ap (list_any p) (take-next xs k x within at) ∙ list_any-append p (take k xs) (x ∷ []) ∙ ap (λ b. list_any p (take k xs) || b) (or_none (p x))

put_more : (a s d : Bool) → cond d true (a || s) ≡ (a || (s || d))
put_more true s true = refl
put_more true s false = refl
put_more false true true = refl
put_more false false true = refl
put_more false true false = refl
put_more false false false = refl

-- one node more, of which a row tells
pub node_put : {X : Type 0} (of : X → Node) (xs : List X) (k : ℕ) (x : X) (n : Node) (old now new : Bool) → k < length xs → x ≡ get_or xs k x → now ≡ (old || list_any (λ y. same_node n (of y)) (take k xs)) → new ≡ cond (same_node (of x) n) true now
    → new ≡ (old || list_any (λ y. same_node n (of y)) (take (k + 1) xs))
node_put of xs k x n old now new within at so_far put =
    let seen = list_any (λ y. same_node n (of y)) (take k xs) in
    put ∙ ap (cond (same_node (of x) n) true) so_far ∙ ap (λ d. cond d true (old || seen)) (same_node_equiv.symm (of x) n) ∙ put_more old seen (same_node n (of x))
    ∙ ap (λ b. old || b) (sym (any_more (λ y. same_node n (of y)) xs k x within at))

either_true : (a b : Bool) → (a || b) ≡ true → (a ≡ true) ⊎ (b ≡ true)
either_true true b is = inl refl
either_true false b is = inr is

left_true : (a b : Bool) → a ≡ true → (a || b) ≡ true
left_true true b is = refl
left_true false b is = absurd (cc is)

right_true : (a b : Bool) → b ≡ true → (a || b) ≡ true
right_true a b is = ap (λ c. a || c) is ∙ or_true a

put_true : (a b : Bool) → cond a true b ≡ true → (a ≡ true) ⊎ (b ≡ true)
put_true true b is = inl refl
put_true false b is = inr is

true_put : (a b : Bool) → (a ≡ true) ⊎ (b ≡ true) → cond a true b ≡ true
true_put true b is = refl
true_put false b (inl is) = absurd (cc is)
true_put false b (inr is) = is

-- a node and all that it came from
abbrev pub IsOwn : List Record → Node → Node → Type 0
IsOwn list node n = (n ≡ node) ⊎ HasPath list node n

pub lineage_put : (list : List Record) (node n : Node) (before : List Node) (old mid new : Bool) → AreAll node_cmp before (λ b. HasPath list node b) → mid ≡ cond (same_node node n) true old → new ≡ (mid || list_any (same_node n) before)
    → (new ≡ true) ↔ ((old ≡ true) ⊎ IsOwn list node n)
lineage_put list node n before old mid new are put all = (to, from)
  where
    of_mid : (old ≡ true → (old ≡ true) ⊎ IsOwn list node n) → (same_node node n ≡ true) ⊎ (old ≡ true) → (old ≡ true) ⊎ IsOwn list node n
    of_mid keep (inl same) = inr (inl (sym (same_node_is node n same)))
    of_mid keep (inr was) = keep was

    of_new : (mid ≡ true) ⊎ (list_any (same_node n) before ≡ true) → (old ≡ true) ⊎ IsOwn list node n
    of_new (inl is) = of_mid inl (put_true (same_node node n) old (sym put ∙ is))
    of_new (inr is) = inr (inr ((are.all n).0 (Contains-from_any same_node_is n before is)))

    to : new ≡ true → (old ≡ true) ⊎ IsOwn list node n
    to is = of_new (either_true mid (list_any (same_node n) before) (sym all ∙ is))

    by_mid : (same_node node n ≡ true) ⊎ (old ≡ true) → new ≡ true
    by_mid is = all ∙ left_true mid (list_any (same_node n) before) (put ∙ true_put (same_node node n) old is)

    from : (old ≡ true) ⊎ IsOwn list node n → new ≡ true
    from (inl was) = by_mid (inr was)
    from (inr (inl same)) = by_mid (inl (ap (same_node node) same ∙ same_node_equiv.refl node))
    from (inr (inr path)) = all ∙ right_true mid (list_any (same_node n) before) (list_any-from_Contains same_node_equiv n before ((are.all n).1 path))

-- one named node more
pub named_put : (list : List Record) (named : List Node) (k : ℕ) (node n : Node) (old now new : Bool) → k < length named → node ≡ get_or named k node → (now ≡ true) ↔ ((old ≡ true) ⊎ IsNamed list (take k named) n)
    → (new ≡ true) ↔ ((now ≡ true) ⊎ IsOwn list node n) → (new ≡ true) ↔ ((old ≡ true) ⊎ IsNamed list (take (k + 1) named) n)
named_put list named k node n old now new within at so_far put = (λ is. to (put.0 is), from)
  where
    more : take (k + 1) named ≡ take k named ++ node ∷ []
    more = take-next named k node within at

    on : IsNamed list (take k named) n → IsNamed list (take (k + 1) named) n
    on (one, among, own) = (one, subst (λ l. Contains l one) (sym more) (Contains-append_left (take k named) (node ∷ []) one among), own)

    to : (now ≡ true) ⊎ IsOwn list node n → (old ≡ true) ⊎ IsNamed list (take (k + 1) named) n
    to (inl was) = keep (so_far.0 was)
      where
        keep : (old ≡ true) ⊎ IsNamed list (take k named) n → (old ≡ true) ⊎ IsNamed list (take (k + 1) named) n
        keep (inl is) = inl is
        keep (inr is) = inr (on is)
    to (inr own) = inr (node, subst (λ l. Contains l node) (sym more) (Contains-push (take k named) node), own)

    from : (old ≡ true) ⊎ IsNamed list (take (k + 1) named) n → new ≡ true
    from (inl is) = put.1 (inl (so_far.1 (inl is)))
    from (inr (one, among, own)) = by (Contains-push_cases (take k named) node one (subst (λ l. Contains l one) more among))
      where
        by : Contains (take k named) one ⊎ (node ≡ one) → new ≡ true
        by (inl early) = put.1 (inl (so_far.1 (inr (one, early, own))))
        by (inr same) = put.1 (inr (subst (λ m. IsOwn list m n) (sym same) own))

pub none_named : (list : List Record) (n : Node) (old : Bool) → (old ≡ true) ↔ ((old ≡ true) ⊎ IsNamed list [] n)
none_named list n old = (inl, from)
  where
    from : (old ≡ true) ⊎ IsNamed list [] n → old ≡ true
    from (inl is) = is
    from (inr (one, among, own)) = absurd (contains_none one among)

-- the test of a choice
pub chosen_is : (list : List Record) (named : List Node) (leaves : List Leaf) (n : Node) (tagged has : Bool) (last : ℕ) → tagged ≡ is_tagged list n → (has ≡ true) ↔ ((tagged ≡ true) ⊎ IsNamed list named n) → last ≡ last_version leaves n.pnode
    → ((has || (last == n.version)) ≡ true) ↔ IsChosen list named leaves n
chosen_is list named leaves n tagged has last are all last_is = (λ is. to (either_true has (last == n.version) is), from)
  where
    of_has : (tagged ≡ true) ⊎ IsNamed list named n → IsChosen list named leaves n
    of_has (inl is) = inr (inl (sym are ∙ is))
    of_has (inr is) = inr (inr is)

    to : (has ≡ true) ⊎ ((last == n.version) ≡ true) → IsChosen list named leaves n
    to (inl is) = of_has (all.0 is)
    to (inr is) = inl (sym last_is ∙ same_numbers last n.version is)

    from : IsChosen list named leaves n → (has || (last == n.version)) ≡ true
    from (inl current) = right_true has (last == n.version) (alike last n.version (last_is ∙ current))
    from (inr (inl is)) = left_true has (last == n.version) (all.1 (inl (are ∙ is)))
    from (inr (inr is)) = left_true has (last == n.version) (all.1 (inr is))

-- the first named node that the graph hasn't
pub nodes-push : (list : List Record) (xs : List Node) (n : Node) → AreNodes list xs → HasNode list n → AreNodes list (xs ++ n ∷ [])
nodes-push list [] n all here = (here, tt)
nodes-push list (x ∷ xs) n all here = (all.0, nodes-push list xs n all.1 here)

lacking_behind : (list : List Record) (xs ys : List Node) (n : Node) → AreNodes list xs → (HasNode list n → ⊥) → IsFirstLacking list (xs ++ n ∷ ys) n
lacking_behind list [] ys n all lacks = inl (refl, lacks)
lacking_behind list (x ∷ xs) ys n all lacks = inr (all.0, lacking_behind list xs ys n all.1 lacks)

pub lacking_at : (list : List Record) (named : List Node) (i : ℕ) (n : Node) → i < length named → n ≡ get_or named i n → AreNodes list (take i named) → (HasNode list n → ⊥) → IsFirstLacking list named n
lacking_at list named i n within at all lacks =
    let rest : drop i named ≡ n ∷ drop (i + 1) named = drop_more named i n within ∙ ap (λ (m : Node). m ∷ drop (i + 1) named) (sym at) in
    subst (λ (l : List Node). IsFirstLacking list l n) (ap (λ (l : List Node). take i named ++ l) (sym rest) ∙ take-append-drop i named) (lacking_behind list (take i named) (drop (i + 1) named) n all lacks)

pub one_lacks : (list : List Record) (named : List Node) (a b : Node) → IsFirstLacking list named a → IsFirstLacking list named b → a ≡ b
one_lacks list [] a b x y = absurd x
one_lacks list (one ∷ named) a b (inl (is, lacks)) (inl (same, other)) = is ∙ sym same
one_lacks list (one ∷ named) a b (inl (is, lacks)) (inr (there, rest)) = absurd (lacks there)
one_lacks list (one ∷ named) a b (inr (there, rest)) (inl (same, lacks)) = absurd (lacks there)
one_lacks list (one ∷ named) a b (inr (here, rest)) (inr (there, more)) = one_lacks list named a b rest more

pub none_lacks : (list : List Record) (named : List Node) → AreNodes list named → (node : Node) → IsFirstLacking list named node → ⊥
none_lacks list [] all node x = x
none_lacks list (one ∷ named) all node (inl (is, lacks)) = lacks all.0
none_lacks list (one ∷ named) all node (inr (there, rest)) = none_lacks list named all.1 node rest
