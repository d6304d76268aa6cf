-- The place at which a record first closes a node, with one more record.
use Rattle.std.proofs.Common.{ℕ, ◌≡◌, ◌≤◌, ◌<◌, ◌+◌, Bool, true, false, inl, inr, subst, refl, sym, ap, ◌∙◌, List, [], ◌∷◌, ◌++◌, length, arith, cond}
use Rattle.std.specs.Prelude.{Option, Some, None, is_some, nat_lt, map, unwrap_or, Contains, if◌then◌else◌}
use Rattle.std.specs.Option.{option_or}
use Rattle.std.specs.List.{list_any, position, position_or_len}
use Rattle.std.proofs.lemmas.Bool.Decides.{nat_tests}
use Rattle.pass_entry.specs.declared.objects.Node.{Node}
use Rattle.pass_entry.specs.declared.record.Record.{Record}
use Rattle.pass_plain.specs.Versions.{same_node}
use Rattle.std.specs.HashMap.{HashMap, get}
use Rattle.std.specs.declared.hash.FoldHasher.{FoldHasher}
use Rattle.std.specs.declared.hash.BuildHasherDefault.{BuildHasherDefault}
use Rattle.pass_graph.specs.Check.{AreFirst}
use Rattle.pass_graph.specs.ListRanks.{list_rank, graph_nodes, ranks_of, FallAlong}
use Rattle.pass_plain.specs.WellLogged.{IsWellLogged}
use Rattle.std.proofs.lemmas.List.Elements.{Contains-append_cases, Contains-push_cases}
use Rattle.std.proofs.lemmas.Bool.{false_from_ne_true, lt-ltb, le-ltb}
use Rattle.std.proofs.lemmas.List.{length_push}
use Rattle.pass_graph.proofs.Noding.{same_node_is}
use Rattle.pass_graph.proofs.Ranking.{first_of, stays_first, first_next, some_first, list_rank_law, closes}

module _ {X : Type 0} (p : X → Bool) (xs : List X) (x : X) where
  abbrev first : ℕ
  first = position_or_len p xs

  abbrev after : ℕ
  after = position_or_len p (xs ++ x ∷ [])

  found : first < length xs → position p (xs ++ x ∷ []) ≡ Some first
  found within =
      let stays : after ≡ first = stays_first p xs x within in
      let n = length_push xs x in
      ap (λ b. cond b (Some after) None) (lt-ltb after (length (xs ++ x ∷ [])) (omega (arith, stays, within, n))) ∙ ap (λ k. Some k) stays

  not_found : list_any p xs ≡ false → (b : Bool) → p x ≡ b → position p (xs ++ x ∷ []) ≡ (if b then Some (length xs) else None)
  not_found none true passes =
      let next : after ≡ length xs = first_next p xs x none ∙ ap (λ b. cond b (length xs) (length xs + 1)) passes in
      let n = length_push xs x in
      ap (λ b. cond b (Some after) None) (lt-ltb after (length (xs ++ x ∷ [])) (omega (arith, next, n))) ∙ ap (λ k. Some k) next
  not_found none false fails =
      let next : after ≡ length xs + 1 = first_next p xs x none ∙ ap (λ b. cond b (length xs) (length xs + 1)) fails in
      let n = length_push xs x in
      ap (λ b. cond b (Some after) None) (le-ltb after (length (xs ++ x ∷ [])) (omega (arith, next, n)))

  pub position_more : position p (xs ++ x ∷ []) ≡ option_or (position p xs) (if p x then Some (length xs) else None)
  position_more = at_test (nat_lt first (length xs)) refl
    where
      at_test : (b : Bool) → nat_lt first (length xs) ≡ b → position p (xs ++ x ∷ []) ≡ option_or (cond b (Some first) None) (if p x then Some (length xs) else None)
      at_test true is = found (grind (arith, nat_tests))
      at_test false is =
          let past : length xs ≤ first = grind (arith, nat_tests) in
          not_found (false_from_ne_true (list_any p xs) (λ any. let z = some_first p xs any in omega (arith, z, past))) (p x) refl

-- the place of the first one, or the length
pub place_or_length : {X : Type 0} (p : X → Bool) (xs : List X) → unwrap_or (position p xs) (length xs) ≡ position_or_len p xs
place_or_length p xs = at_test (nat_lt (position_or_len p xs) (length xs)) refl
  where
    at_test : (b : Bool) → nat_lt (position_or_len p xs) (length xs) ≡ b → unwrap_or (cond b (Some (position_or_len p xs)) None) (length xs) ≡ position_or_len p xs
    at_test true is = refl
    at_test false is = let most = first_of p xs in let past : length xs ≤ position_or_len p xs = grind (arith, nat_tests) in omega (arith, most, past)

abbrev Places : Type 0
Places = HashMap Node ℕ (BuildHasherDefault FoldHasher)

module _ (list : List Record) (r : Record) (place : ℕ) (old : Places) (are : AreFirst list old) (end : length list ≡ place) where
  -- a record that closes nothing
  pub none_closed : ((q : Node) → closes q r ≡ false) → AreFirst (list ++ r ∷ []) old
  none_closed quiet q = are q ∙ sym (or_none (position (closes q) list)) ∙ sym (position_more (closes q) list r ∙ ap (λ b. option_or (position (closes q) list) (if b then Some (length list) else None)) (quiet q))
    where
      or_none : (o : Option ℕ) → option_or o None ≡ o
      or_none None = refl
      or_none (Some x) = refl

  module _ (n : Node) (closed : (q : Node) → closes q r ≡ same_node n q) where
    more_at : (q : Node) → position (closes q) (list ++ r ∷ []) ≡ option_or (get same_node old q) (if same_node n q then Some place else None)
    more_at q =
        position_more (closes q) list r ∙ ap (λ b. option_or (position (closes q) list) (if b then Some (length list) else None)) (closed q)
        ∙ ap (λ o. option_or o (if same_node n q then Some (length list) else None)) (sym (are q)) ∙ ap (λ k. option_or (get same_node old q) (if same_node n q then Some k else None)) end

    -- one that closes a node which is closed already
    pub again_closed : is_some (get same_node old n) ≡ true → AreFirst (list ++ r ∷ []) old
    again_closed had q = at_test (same_node n q) refl ∙ sym (more_at q)
      where
        had_at : (o : Option ℕ) → is_some o ≡ true → o ≡ option_or o (Some place)
        had_at None h = absurd (cc)
        had_at (Some x) h = refl

        or_none : (o : Option ℕ) → o ≡ option_or o None
        or_none None = refl
        or_none (Some x) = refl

        at_test : (b : Bool) → same_node n q ≡ b → get same_node old q ≡ option_or (get same_node old q) (if b then Some place else None)
        at_test true same = had_at (get same_node old q) (ap (λ m. is_some (get same_node old m)) (sym (same_node_is n q same)) ∙ had)
        at_test false differ = or_none (get same_node old q)

    -- one that closes a node
    pub now_closed : is_some (get same_node old n) ≡ false → (new : Places) → ((q : Node) → get same_node new q ≡ cond (same_node n q) (Some place) (get same_node old q)) → AreFirst (list ++ r ∷ []) new
    now_closed had new put q = put q ∙ at_test (same_node n q) refl ∙ sym (more_at q)
      where
        none_at : (o : Option ℕ) → is_some o ≡ false → Some place ≡ option_or o (Some place)
        none_at None h = refl
        none_at (Some x) h = absurd (cc)

        or_none : (o : Option ℕ) → o ≡ option_or o None
        or_none None = refl
        or_none (Some x) = refl

        at_test : (b : Bool) → same_node n q ≡ b → cond b (Some place) (get same_node old q) ≡ option_or (get same_node old q) (if b then Some place else None)
        at_test true same = none_at (get same_node old q) (ap (λ m. is_some (get same_node old m)) (sym (same_node_is n q same)) ∙ had)
        at_test false differ = or_none (get same_node old q)

-- the nodes with their places, or the length, are the ranks
pub ranked_places : (list : List Record) (closed : Places) (end : ℕ) → AreFirst list closed → length list ≡ end → (nodes : List Node)
    → map {B = Node × ℕ} (λ n. (n, unwrap_or (get same_node closed n) end)) nodes ≡ map (λ n. (n, list_rank list n)) nodes
ranked_places list closed end are is [] = refl
ranked_places list closed end are is (n ∷ nodes) =
    let here : unwrap_or (get same_node closed n) end ≡ list_rank list n = ap (λ o. unwrap_or o end) (are n) ∙ ap (λ k. unwrap_or (position (closes n) list) k) (sym is) ∙ place_or_length (closes n) list in
    λ i. (n, here i) ∷ ranked_places list closed end are is nodes i

-- each row of the ranks has its node's rank
row_is : (list : List Record) (nodes : List Node) (a : Node) (m : ℕ) → Contains {X = Node × ℕ} (map (λ n. (n, list_rank list n)) nodes) (a, m) → list_rank list a ≡ m
row_is list [] a m h = let z = h.1 in absurd (omega (arith, z))
row_is list (n ∷ nodes) a m h =
    let row : Node × ℕ = (n, list_rank list n) in
    elim (Contains-append_cases (row ∷ []) (map (λ n. (n, list_rank list n)) nodes) (a, m) h) [
      | inl here ↦ elim (Contains-push_cases [] row (a, m) here) [
        | inl none ↦ (let z = none.1 in absurd (omega (arith, z)))
        | inr is ↦ (let at : n ≡ a = ap (λ (r : Node × ℕ). r.0) is in let rank : list_rank list n ≡ m = ap (λ (r : Node × ℕ). r.1) is in ap (list_rank list) (sym at) ∙ rank)
      ]
      | inr later ↦ row_is list nodes a m later
    ]

pub ranks_fall : (list : List Record) → IsWellLogged list → (places : List (Node × ℕ)) → places ≡ ranks_of list → FallAlong list places
ranks_fall list logged places is a b m n e at_a at_b =
    let falls = list_rank_law list logged a b e in
    let rank_a = row_is list (graph_nodes list) a m (subst (λ xs. Contains {X = Node × ℕ} xs (a, m)) is at_a) in
    let rank_b = row_is list (graph_nodes list) b n (subst (λ xs. Contains {X = Node × ℕ} xs (b, n)) is at_b) in
    omega (arith, falls, rank_a, rank_b)
