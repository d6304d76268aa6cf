-- The edges at which a search has looked, each for an instruction: no more than instructions times edges.
use Rattle.std.proofs.Common.{ℕ, ◌≡◌, ◌≤◌, ◌<◌, ◌+◌, ◌*◌, ◌==◌, zero, suc, Bool, true, false, ◌&&◌, ◌⊎◌, inl, inr, refl, sym, ap, ◌∙◌, subst, List, [], ◌∷◌, ◌++◌, length, arith, length-append}
use Rattle.std.specs.Prelude.{Option, Some, None, slice_get, map, Contains}
use Rattle.std.specs.Cmp.{IsEquivalence}
use Rattle.std.specs.List.{list_any, IsDistinct, AllByRecursion}
use Rattle.std.specs.Ordering.{eq_by_cmp}
use Rattle.std.proofs.lemmas.Cmp.{eq_by_cmp_equiv}
use Rattle.std.proofs.lemmas.List.Sums.{sum_by-append}
use Rattle.std.proofs.lemmas.Bool.Decides.{nat_tests}
use Rattle.std.proofs.lemmas.List.{length-map}
use Rattle.std.proofs.lemmas.List.Elements.{Contains-append_cases, Contains-append_left, Contains-append_right}
use Rattle.std.proofs.lemmas.Map.Keys.{IsDistinct-from_sorted}
use Rattle.std.proofs.lemmas.Map.Made.{length-le_from_is_member}
use Rattle.std.proofs.lemmas.Bool.{false_from_ne_true}
use Rattle.pass_entry.specs.declared.objects.Node.{Node}
use Rattle.pass_entry.specs.declared.record.Record.{Record}
use Rattle.pass_entry.proofs.Places.{Contains-place, each_contained, Contains-at, Contains-behind}
use Rattle.pass_plain.specs.Versions.{same_node}
use Rattle.pass_plain.specs.Graphs.{IsEdge, HasPath}
use Rattle.pass_plain.specs.Graphs.HasPath.{edge as edge_path, step as step_path}
use Rattle.pass_plain.proofs.Lists.{any_at, any_of, true_left, true_right, same_numbers}
use Rattle.pass_graph.specs.Logged.{same_pair}
use Rattle.pass_graph.proofs.Noding.{same_node_is}
use Rattle.pass_waldo.specs.Orders.{node_cmp}
use Rattle.pass_waldo.proofs.Indexing.{node_cmp_total}
use Rattle.pass_query.specs.Answers.{HasAllLeaving}
use Rattle.pass_pattern.specs.declared.pattern.EdgeTest.{EdgeTest}
use Rattle.pass_pattern.specs.declared.code.Instruction.{Instruction}
use Rattle.pass_pattern.specs.declared.code.Instruction.TheVariants.{Found, Along, Both}
use Rattle.pass_pattern.specs.declared.search.Visit.{Visit}
use Rattle.pass_pattern.specs.Codes.{edges_of, edges_in}
use Rattle.pass_pattern.specs.Visits.{visit, LeadsBy, Runs, LooksFrom, IsCounted}
use Rattle.pass_pattern.specs.Visits.Runs.{here, on}

-- an edge with the place of the instruction that looked at it
abbrev pub Look : Type 0
Look = ℕ × (Node × Node)

abbrev pub same_look : Look → Look → Bool
same_look a b = a.0 == b.0 && same_pair a.1 b.1

abbrev look : ℕ → Node → Node → Look
look place a b = (place, (a, b))

same_look_is : (a b : Look) → same_look a b ≡ true → a ≡ b
same_look_is a b is =
    let place : a.0 ≡ b.0 = same_numbers a.0 b.0 (true_left (a.0 == b.0) (same_pair a.1 b.1) is) in
    let pair : same_pair a.1 b.1 ≡ true = true_right (a.0 == b.0) (same_pair a.1 b.1) is in
    let from : a.1.0 ≡ b.1.0 = same_node_is a.1.0 b.1.0 (true_left (same_node a.1.0 b.1.0) (same_node a.1.1 b.1.1) pair) in
    let to : a.1.1 ≡ b.1.1 = same_node_is a.1.1 b.1.1 (true_right (same_node a.1.0 b.1.0) (same_node a.1.1 b.1.1) pair) in
    λ i. (place i, (from i, to i))

same_look_equiv : IsEquivalence same_look
same_look_equiv = record {
  refl = λ a. grind (arith, nat_tests);
  symm = λ a b. grind (arith, nat_tests);
  congr = λ a b c is. ap (λ l. same_look l c) (same_look_is a b is);
}

none_same : (l : Look) (xs : List Look) → ((y : Look) → Contains xs y → l ≡ y → ⊥) → AllByRecursion (λ y. same_look l y ≡ false) xs
none_same l [] apart = tt
none_same l (x ∷ xs) apart = (
  false_from_ne_true (same_look l x) (λ same. apart x (0, omega arith, refl) (same_look_is l x same)),
  none_same l xs (λ y (k, within, is) same. apart y (suc k, omega (arith, within), is) same),
)

in_map : {X Y : Type 0} (f : X → Y) (xs : List X) (y : Y) → Contains (map f xs) y → (x : X) × Contains xs x × (f x ≡ y)
in_map f [] y (k, within, is) = absurd (omega (arith, within))
in_map f (x ∷ xs) y (zero, within, is) = (x, (0, omega arith, refl), is)
in_map f (x ∷ xs) y (suc k, within, is) = let (z, (j, low, at), same) = in_map f xs y (k, omega (arith, within), is) in (z, (suc j, omega (arith, low), at), same)

map_there : {X Y : Type 0} (f : X → Y) (xs : List X) (x : X) → Contains xs x → Contains (map f xs) (f x)
map_there f [] x (k, within, is) = absurd (omega (arith, within))
map_there f (z ∷ xs) x (zero, within, is) = (0, omega arith, ap f is)
map_there f (z ∷ xs) x (suc k, within, is) = let (j, low, at) = map_there f xs x (k, omega (arith, within), is) in (suc j, omega (arith, low), at)

-- looking along a row, which has each node once
distinct_looks : (place : ℕ) (a : Node) (row : List Node) (looks : List Look) → IsDistinct (eq_by_cmp node_cmp) row → ((b : Node) → Contains row b → Contains looks (look place a b) → ⊥)
    → IsDistinct same_look looks → IsDistinct same_look (map (look place a) row ++ looks)
unfolding IsDistinct
distinct_looks place a [] looks once apart distinct = distinct
distinct_looks place a (b ∷ row) looks once apart distinct = (
  none_same (look place a b) (map (look place a) row ++ looks) (λ y there same. at_part y same (Contains-append_cases (map (look place a) row) looks y there)),
  distinct_looks place a row looks once.1 (λ c (k, within, is) there. apart c (suc k, omega (arith, within), is) there) distinct,
)
  where
    not_again : Contains row b → ⊥
    not_again there =
        let z : eq_by_cmp node_cmp b b ≡ false = each_contained (λ y. eq_by_cmp node_cmp b y ≡ false) row once.0 b there in
        let y : true ≡ false = sym ((eq_by_cmp_equiv node_cmp_total).refl b) ∙ z in cc

    at_part : (y : Look) → look place a b ≡ y → Contains (map (look place a) row) y ⊎ Contains looks y → ⊥
    at_part y same (inl there) =
        let (c, in_row, is) = in_map (look place a) row y there in
        let node : c ≡ b = ap (λ (l : Look). l.1.1) (is ∙ sym same) in
        not_again (subst (Contains row) node in_row)
    at_part y same (inr there) = apart b (0, omega arith, refl) (subst (Contains looks) (sym same) there)

pub record IsAlong (code : List Instruction) (place : ℕ) : Type 0 where
  edge : EdgeTest
  name : Option (List ℕ)
  next : ℕ
  at : slice_get code place ≡ Some (Along edge name next)

no_row : (list : List Record) (code : List Instruction) (place : ℕ) (a : Node) (row : List Node) → row ≡ []
    → IsDistinct (eq_by_cmp node_cmp) row × ((b : Node) → Contains row b → IsAlong code place × IsEdge list a b)
unfolding IsDistinct
no_row list code place a [] none = (tt, λ b (k, within, is). absurd (omega (arith, within)))
no_row list code place a (b ∷ row) none = absurd (cc)

-- at which edges an instruction looks
looks_at : (list : List Record) (code : List Instruction) (place : ℕ) (a : Node) (row : List Node) (o : Option Instruction) → slice_get code place ≡ o → LooksFrom list o a row
    → IsDistinct (eq_by_cmp node_cmp) row × ((b : Node) → Contains row b → IsAlong code place × IsEdge list a b)
looks_at list code place a row None at looks = no_row list code place a row looks
looks_at list code place a row (Some Found) at looks = no_row list code place a row looks
looks_at list code place a row (Some (Along edge name next)) at looks = (
  IsDistinct-from_sorted node_cmp row looks.ascending,
  λ b there. (record { edge = edge; name = name; next = next; at = at }, (looks.all b).0 there),
)
looks_at list code place a row (Some (Both left right)) at looks = no_row list code place a row looks

-- a look was from one of the first visits, along an edge
pub record Origin (list : List Record) (code : List Instruction) (visits : List Visit) (next : ℕ) (l : Look) : Type 0 where
  number : ℕ
  low : number < next
  at : slice_get visits number ≡ Some (visit l.1.0 l.0)
  along : IsAlong code l.0
  leads : IsEdge list l.1.0 l.1.1

-- the steps so far are looks, each of its own
pub record IsLooked (list : List Record) (code : List Instruction) (visits : List Visit) (next start taken : ℕ) : Type 0 where
  looks : List Look
  exact : taken ≡ start + length looks
  once : IsDistinct same_look looks
  origin : (l : Look) → Contains looks l → Origin list code visits next l

pub none_looked : (list : List Record) (code : List Instruction) (visits : List Visit) (start : ℕ) → IsLooked list code visits 0 start start
unfolding IsDistinct
none_looked list code visits start = record { looks = []; exact = omega arith; once = tt; origin = λ l (k, within, is). absurd (omega (arith, within)) }

-- no visit is there twice
abbrev pub HasOnce : List Visit → Type 0
HasOnce visits = (j k : ℕ) (x : Visit) → slice_get visits j ≡ Some x → slice_get visits k ≡ Some x → j ≡ k

-- the looks from the next visit
pub more_looked : (list : List Record) (code : List Instruction) (old new : List Visit) (next start taken now : ℕ) (x : Visit) → IsLooked list code old next start taken → HasOnce old
    → slice_get old next ≡ Some x → IsCounted list code x taken now → ((k : ℕ) (y : Visit) → slice_get old k ≡ Some y → slice_get new k ≡ Some y)
    → IsLooked list code new (next + 1) start now
more_looked list code old new next start taken now x so once at counted front = record {
  looks = map (look x.place x.node) counted.row ++ so.looks;
  exact =
      let size = length-append (map (look x.place x.node) counted.row) so.looks in
      let same = length-map counted.row (look x.place x.node) in
      omega (arith, size, same, counted.exact, so.exact);
  once = distinct_looks x.place x.node counted.row so.looks row.0 apart so.once;
  origin = λ l there. at_part l (Contains-append_cases (map (look x.place x.node) counted.row) so.looks l there);
}
  where
    row : IsDistinct (eq_by_cmp node_cmp) counted.row × ((b : Node) → Contains counted.row b → IsAlong code x.place × IsEdge list x.node b)
    row = looks_at list code x.place x.node counted.row (slice_get code x.place) refl counted.looks

    apart : (b : Node) → Contains counted.row b → Contains so.looks (look x.place x.node b) → ⊥
    apart b there known =
        let o = so.origin (look x.place x.node b) known in
        let same : o.number ≡ next = once o.number next x o.at at in
        omega (arith, same, o.low)

    at_part : (l : Look) → Contains (map (look x.place x.node) counted.row) l ⊎ Contains so.looks l → Origin list code new (next + 1) l
    at_part l (inl there) =
        let (b, in_row, is) = in_map (look x.place x.node) counted.row l there in
        let (along, leads) = row.1 b in_row in
        subst (Origin list code new (next + 1)) is (record { number = next; low = omega arith; at = front next x at; along = along; leads = leads })
    at_part l (inr there) =
        let o = so.origin l there in
        record { number = o.number; low = omega (arith, o.low); at = front o.number (visit l.1.0 l.0) o.at; along = o.along; leads = o.leads }

-- the places of the instructions that go along edges
abbrev places : ℕ → List Instruction → List ℕ
places k [] = []
places k (Found ∷ code) = places (k + 1) code
places k (Along edge name next ∷ code) = k ∷ places (k + 1) code
places k (Both left right ∷ code) = places (k + 1) code

place_count : (k : ℕ) (code : List Instruction) → length (places k code) ≡ edges_in code
place_count k [] = refl
place_count k (Found ∷ code) =
    let later = place_count (k + 1) code in
    let more = sum_by-append edges_of (Found ∷ []) code in
    omega (arith, later, more)
place_count k (Along edge name next ∷ code) =
    let later = place_count (k + 1) code in
    let more = sum_by-append edges_of (Along edge name next ∷ []) code in
    omega (arith, later, more)
place_count k (Both left right ∷ code) =
    let later = place_count (k + 1) code in
    let more = sum_by-append edges_of (Both left right ∷ []) code in
    omega (arith, later, more)

place_there : (k : ℕ) (code : List Instruction) (j : ℕ) → IsAlong code j → Contains (places k code) (k + j)
place_there k [] j along = absurd (let z = along.at in cc)
place_there k (Found ∷ code) zero along = absurd (let z = along.at in cc)
place_there k (Found ∷ code) (suc j) along =
    subst (Contains (places (k + 1) code)) (let z : k + 1 + j ≡ k + suc j = omega arith in z)
    (place_there (k + 1) code j (record { edge = along.edge; name = along.name; next = along.next; at = along.at }))
place_there k (Both left right ∷ code) zero along = absurd (let z = along.at in cc)
place_there k (Both left right ∷ code) (suc j) along =
    subst (Contains (places (k + 1) code)) (let z : k + 1 + j ≡ k + suc j = omega arith in z)
    (place_there (k + 1) code j (record { edge = along.edge; name = along.name; next = along.next; at = along.at }))
place_there k (Along edge name next ∷ code) zero along = (0, omega arith, let z : k ≡ k + 0 = omega arith in z)
place_there k (Along edge name next ∷ code) (suc j) along =
    Contains-behind k (places (k + 1) code) (k + suc j) (subst (Contains (places (k + 1) code)) (let z : k + 1 + j ≡ k + suc j = omega arith in z)
    (place_there (k + 1) code j (record { edge = along.edge; name = along.name; next = along.next; at = along.at })))

abbrev with_place : ℕ → Node × Node → Look
with_place place e = (place, e)

-- each edge at each place
abbrev products : List ℕ → List (Node × Node) → List Look
products [] edges = []
products (p ∷ ps) edges = map (with_place p) edges ++ products ps edges

product_count : (ps : List ℕ) (edges : List (Node × Node)) → length (products ps edges) ≡ length ps * length edges
product_count [] edges = omega arith
product_count (p ∷ ps) edges =
    let size = length-append (map (with_place p) edges) (products ps edges) in
    let same = length-map edges (with_place p) in
    let later = product_count ps edges in
    omega (arith, size, same, later)

product_there : (ps : List ℕ) (edges : List (Node × Node)) (p : ℕ) (e : Node × Node) → Contains ps p → Contains edges e → Contains (products ps edges) (p, e)
product_there [] edges p e (k, within, is) there = absurd (omega (arith, within))
product_there (q ∷ ps) edges p e (zero, within, is) there =
    Contains-append_left (map (with_place q) edges) (products ps edges) (p, e)
    (subst (Contains (map (with_place q) edges)) (ap (λ n. with_place n e) is) (map_there (with_place q) edges e there))
product_there (q ∷ ps) edges p e (suc k, within, is) there =
    Contains-append_right (map (with_place q) edges) (products ps edges) (p, e) (product_there ps edges p e (k, omega (arith, within), is) there)

-- no more steps than instructions that go along edges, times edges
pub bounded : (list : List Record) (code : List Instruction) (visits : List Visit) (next start taken : ℕ) (first : Node) (edges : List (Node × Node)) → IsLooked list code visits next start taken
    → ((x : Visit) → Contains visits x → (x.node ≡ first) ⊎ HasPath list first x.node) → HasAllLeaving list first edges → taken ≤ start + edges_in code * length edges
bounded list code visits next start taken first edges so come all =
    let most = length-le_from_is_member same_look_equiv so.looks (products (places 0 code) edges) so.once among in
    let size = product_count (places 0 code) edges in
    let count = place_count 0 code in
    let whole : length (products (places 0 code) edges) ≡ edges_in code * length edges = size ∙ ap (λ n. n * length edges) count in
    omega (arith, so.exact, most, whole)
  where
    at_look : (l : Look) → Contains so.looks l → Contains (products (places 0 code) edges) l
    at_look l there =
        let o = so.origin l there in
        product_there (places 0 code) edges l.0 l.1 (subst (Contains (places 0 code)) (let z : 0 + l.0 ≡ l.0 = omega arith in z) (place_there 0 code l.0 o.along))
        (all l.1.0 l.1.1 o.leads (come (visit l.1.0 l.0) (Contains-at visits o.number (visit l.1.0 l.0) o.at)))

    among : (q : Look) → list_any (same_look q) so.looks ≡ true → list_any (same_look q) (products (places 0 code) edges) ≡ true
    among q any =
        let (k, l, at, same) = any_at (same_look q) so.looks any in
        let (j, there) = Contains-place (products (places 0 code) edges) l (at_look l (Contains-at so.looks k l at)) in
        any_of (same_look q) (products (places 0 code) edges) j l there same

-- each visit to which the code leads is at the node or an ancestor of it
pub comes_reach : (list : List Record) (code : List Instruction) {count : ℕ} {x y : Visit} → Runs list code count x y → (y.node ≡ x.node) ⊎ HasPath list x.node y.node
comes_reach list code here = inl refl
comes_reach list code (on {x = x} {y = y} {z = z} leads rest) = by leads.instruction leads.by (comes_reach list code rest)
  where
    along : IsEdge list x.node y.node → (z.node ≡ y.node) ⊎ HasPath list y.node z.node → (z.node ≡ x.node) ⊎ HasPath list x.node z.node
    along edge (inl same) = inr (edge_path (subst (λ n. IsEdge list x.node n) (sym same) edge))
    along edge (inr more) = inr (step_path edge more)

    stay : (n : ℕ) → y ≡ visit x.node n → (z.node ≡ y.node) ⊎ HasPath list y.node z.node → (z.node ≡ x.node) ⊎ HasPath list x.node z.node
    stay n same reach = subst (λ (v : Visit). (z.node ≡ v.node) ⊎ HasPath list v.node z.node) same reach

    at_both : (one other : ℕ) → (y ≡ visit x.node one) ⊎ (y ≡ visit x.node other) → (z.node ≡ y.node) ⊎ HasPath list y.node z.node → (z.node ≡ x.node) ⊎ HasPath list x.node z.node
    at_both one other (inl same) reach = stay one same reach
    at_both one other (inr same) reach = stay other same reach

    by : (i : Instruction) → LeadsBy list i x.node y → (z.node ≡ y.node) ⊎ HasPath list y.node z.node → (z.node ≡ x.node) ⊎ HasPath list x.node z.node
    by Found none reach = absurd none
    by (Along edge name next) (step, is) reach = along step.leads reach
    by (Both left right) ways reach = at_both left right ways reach
