-- One pass over the records finds what edges of data join with a node.
use Rattle.std.proofs.Common.{ℕ, ◌≡◌, ◌≤◌, ◌+◌, ◌-◌, zero, suc, Bool, true, false, ◌&&◌, ◌||◌, ◌⊎◌, inl, inr, refl, sym, ap, ◌∙◌, subst, List, [], ◌∷◌, ◌++◌, take, drop, append_assoc, arith}
use Rattle.std.specs.Prelude.{Option, Some, None, Contains, slice_get, ◌↔◌, if◌then◌else◌}
use Rattle.std.proofs.lemmas.List.{append-nil, take-append-drop}
use Rattle.std.proofs.lemmas.Bool.{or_cases, or_left, or_right}
use Rattle.std.proofs.lemmas.List.Elements.{Contains-append_left, Contains-append_cases, Contains-push, Contains-push_cases}
use Rattle.pass_entry.specs.declared.objects.Node.{Node}
use Rattle.pass_entry.specs.declared.record.Record.{Record}
use Rattle.pass_entry.specs.declared.record.Record.TheVariants as log
use Rattle.pass_entry.proofs.Places.{Contains-place, Contains-at, Contains-behind, contains_none}
use Rattle.pass_plain.specs.Graphs.{IsEdge, HasPath}
use Rattle.pass_plain.specs.Graphs.IsEdge.{input as by_input, version as by_version}
use Rattle.pass_plain.specs.Graphs.HasPath.{edge as path_edge, step as path_step}
use Rattle.pass_plain.specs.Versions.{same_node}
use Rattle.pass_plain.specs.WellLogged.{flaw_of, first_flaw_after, IsWellLogged}
use Rattle.pass_plain.proofs.Lists.{some_is, true_left, true_right, in_take}
use Rattle.pass_plain.proofs.Flaws.{logged_before}
use Rattle.pass_graph.proofs.Logging.{edge_cases, no_edge}
use Rattle.pass_graph.proofs.Ranking.{good_version}
use Rattle.pass_graph.proofs.Noding.{same_node_is, same_node_equiv}
use Rattle.pass_waldo.proofs.Loading.{fine_next}
use Rattle.pass_files.specs.Data.{HasDataPath, edge_in, is_data, version_before}
use Rattle.pass_files.specs.Tables.{found_back, found_on}
use Rattle.pass_files.specs.Data.HasDataPath.{edge as data_edge, step as data_step}
use Rattle.std.proofs.lemmas.Option.{slice_get_within, get_or_from_slice_get}
use Rattle.pass_files.proofs.Folding.{one_more}
use Rattle.pass_files.proofs.Unused.{HaveCome, all_come, unused}
use Rattle.pass_files.proofs.Ways.{IsWith, Path, back, on, wider}
use Rattle.pass_files.proofs.Ways.Path.{edge, step}

-- the edges of data that these records make, as the whole list tells
abbrev pub DataIn : List Record → List Record → Node → Node → Type 0
DataIn list part a b = IsEdge part a b × (is_data list a b ≡ true)

-- a path along them is one of data
pub all_paths : (list : List Record) {a b : Node} → Path (DataIn list list) a b → HasDataPath list a b
all_paths list (edge e) = data_edge e
all_paths list (step e p) = data_step e (all_paths list p)

pub of_paths : (list : List Record) {a b : Node} → HasDataPath list a b → Path (DataIn list list) a b
of_paths list (data_edge e) = edge e
of_paths list (data_step e p) = step e (of_paths list p)

-- and a path of edges
pub any_path : (list : List Record) {a b : Node} → HasDataPath list a b → HasPath list a b
any_path list (data_edge e) = path_edge e.0
any_path list (data_step e p) = path_step e.0 (any_path list p)

no_path : (list : List Record) {a b : Node} → Path (DataIn list []) a b → ⊥
no_path list {a} {b} (edge e) = no_edge a b e.0
no_path list {a} (step {b = m} e p) = no_edge a m e.0

-- what a record makes

pair_of : (p q : Node × Node) → ◌≡◌ {A = Option (Node × Node)} (Some p) (Some q) → p ≡ q
pair_of p q is = some_is p q is

ends_of : (a b t s : Node) → ◌≡◌ {A = Option (Node × Node)} (Some (a, b)) (Some (t, s)) → (a ≡ t) × (b ≡ s)
ends_of a b t s is = let pair = pair_of (a, b) (t, s) is in (ap (λ (p : Node × Node). p.0) pair, ap (λ (p : Node × Node). p.1) pair)

edge_made : (r : Record) (t s : Node) → edge_in r ≡ Some (t, s) → (r ≡ log.Input t s) ⊎ ((r ≡ log.Version t) × (s ≡ version_before t))
edge_made (log.Input a b) t s is = let (x, y) = ends_of a b t s is in inl (λ i. log.Input (x i) (y i))
edge_made (log.Version a) t s is = let (x, y) = ends_of a (version_before a) t s is in inr (ap log.Version x, sym y ∙ ap version_before x)
edge_made (log.Object p k) t s is = absurd (cc)
edge_made (log.Name p name) t s is = absurd (cc)
edge_made (log.Attr n attr value) t s is = absurd (cc)
edge_made (log.Size p size) t s is = absurd (cc)
edge_made (log.Digest p block sum) t s is = absurd (cc)
edge_made (log.Ceiling p) t s is = absurd (cc)

either_made : (r : Record) (t s : Node) → edge_in r ≡ Some (t, s) → (r ≡ log.Input t s) ⊎ (r ≡ log.Version t)
either_made r t s is = elim (edge_made r t s is) [ inl a ↦ inl a | inr b ↦ inr b.0 ]

before_is : (a b : Node) → b.pnode ≡ a.pnode → b.version + 1 ≡ a.version → b ≡ version_before a
before_is a b same next =
    let number : b.version ≡ a.version - 1 = omega (arith, next) in
    λ i. record { pnode = same i; version = number i }

-- a record of a list makes its edge there
made_edge : (part : List Record) (r : Record) (t s : Node) → Contains part r → edge_in r ≡ Some (t, s) → (r ≡ log.Version t → 1 ≤ t.version) → IsEdge part t s
made_edge part r t s there is low = by (edge_made r t s is)
  where
    by : (r ≡ log.Input t s) ⊎ ((r ≡ log.Version t) × (s ≡ version_before t)) → IsEdge part t s
    by (inl made) = by_input (subst (Contains part) made there)
    by (inr (made, before)) =
        let one = low made in
        let number : s.version + 1 ≡ t.version = omega (arith, one, ap (λ (n : Node). n.version) before) in
        by_version (subst (Contains part) made there) (ap (λ (n : Node). n.pnode) before) number

-- an edge of a record is the one that is read from it
only_edge : (r : Record) (t s a b : Node) → edge_in r ≡ Some (t, s) → (r ≡ log.Input a b) ⊎ ((r ≡ log.Version a) × (b.pnode ≡ a.pnode) × (b.version + 1 ≡ a.version)) → (a ≡ t) × (b ≡ s)
only_edge r t s a b is (inl made) = ends_of a b t s (ap edge_in (sym made) ∙ is)
only_edge r t s a b is (inr (made, same, next)) = let (x, y) = ends_of a (version_before a) t s (ap edge_in (sym made) ∙ is) in (x, before_is a b same next ∙ y)

no_edge_made : (r : Record) (a b : Node) → edge_in r ≡ None → (r ≡ log.Input a b) ⊎ ((r ≡ log.Version a) × (b.pnode ≡ a.pnode) × (b.version + 1 ≡ a.version)) → ⊥
no_edge_made r a b none (inl made) = let z : ◌≡◌ {A = Option (Node × Node)} (Some (a, b)) None = ap edge_in (sym made) ∙ none in cc
no_edge_made r a b none (inr (made, same, next)) = let z : ◌≡◌ {A = Option (Node × Node)} (Some (a, version_before a)) None = ap edge_in (sym made) ∙ none in cc

-- places of a well logged list

fine_place : (before xs : List Record) (j : ℕ) (r : Record) → first_flaw_after before xs ≡ None → slice_get xs j ≡ Some r → flaw_of (before ++ take j xs) r ≡ None
fine_place before [] j r h at = absurd (cc)
fine_place before (x ∷ xs) zero r h at = ap (λ l. flaw_of l r) (append-nil before) ∙ ap (flaw_of before) (sym (some_is x r at)) ∙ (fine_next before x xs h).0
fine_place before (x ∷ xs) (suc j) r h at = ap (λ l. flaw_of l r) (sym (append_assoc before (x ∷ []) (take j xs))) ∙ fine_place (before ++ x ∷ []) xs j r (fine_next before x xs h).1 at

pub logged_place : (list : List Record) (j : ℕ) → IsWellLogged list → IsWellLogged (take j list)
logged_place list j logged = logged_before [] (take j list) (drop j list) (ap (first_flaw_after []) (take-append-drop j list) ∙ logged)

pub fine_here : (list : List Record) (j : ℕ) (r : Record) → IsWellLogged list → slice_get list j ≡ Some r → flaw_of (take j list) r ≡ None
fine_here list j r logged at = fine_place [] list j r logged at

dropped : {X : Type 0} (xs : List X) (k m : ℕ) (x : X) → slice_get (drop k xs) m ≡ Some x → slice_get xs (k + m) ≡ Some x
dropped xs zero m x h = ap (slice_get xs) (let z : 0 + m ≡ m = omega arith in z) ∙ h
dropped [] (suc k) m x h = absurd (cc)
dropped (y ∷ xs) (suc k) m x h = ap (slice_get (y ∷ xs)) (let z : suc k + m ≡ suc (k + m) = omega arith in z) ∙ dropped xs k m x h

-- a set of nodes, with a node that is reached from another one
abbrev pub With : (Node → Bool) → (Node → Bool) → Node → Node → Node → Type 0
With old new first from to = (n : Node) → new n ≡ (old n || (same_node to n && (same_node from first || old from)))

-- what is found is what a path of data joins with the first node
abbrev pub AreOn : List Record → List Record → Node → (Node → Bool) → Type 0
AreOn list part first found = (n : Node) → (found n ≡ true) ↔ Path (DataIn list part) n first

abbrev pub AreBack : List Record → List Record → Node → (Node → Bool) → Type 0
AreBack list part first found = (n : Node) → (found n ≡ true) ↔ Path (DataIn list part) first n

module _ (list : List Record) (first : Node) where
  pub none_on : (found : Node → Bool) → ((n : Node) → found n ≡ false) → AreOn list [] first found
  none_on found none n = ((λ is. absurd (let z : true ≡ false = sym is ∙ none n in cc)), (λ p. absurd (no_path list p)))

  pub none_back : (found : Node → Bool) → ((n : Node) → found n ≡ false) → AreBack list [] first found
  none_back found none n = ((λ is. absurd (let z : true ≡ false = sym is ∙ none n in cc)), (λ p. absurd (no_path list p)))

  -- parts with the same edges of data
  pub same_on : (part more : List Record) (found : Node → Bool) → ((a b : Node) → DataIn list part a b → DataIn list more a b) → ((a b : Node) → DataIn list more a b → DataIn list part a b)
      → AreOn list part first found → AreOn list more first found
  same_on part more found there here are n = ((λ is. wider (DataIn list part) (DataIn list more) there ((are n).0 is)), (λ p. (are n).1 (wider (DataIn list more) (DataIn list part) here p)))

  pub same_back : (part more : List Record) (found : Node → Bool) → ((a b : Node) → DataIn list part a b → DataIn list more a b) → ((a b : Node) → DataIn list more a b → DataIn list part a b)
      → AreBack list part first found → AreBack list more first found
  same_back part more found there here are n = ((λ is. wider (DataIn list part) (DataIn list more) there ((are n).0 is)), (λ p. (are n).1 (wider (DataIn list more) (DataIn list part) here p)))

  -- one more edge, from t to s
  module _ (part more : List Record) (t s : Node) (w : IsWith (DataIn list part) (DataIn list more) t s) (old new : Node → Bool) where
    found_or : (n to from : Node) → new n ≡ (old n || (same_node to n && (same_node from first || old from))) → new n ≡ true → (old n ≡ true) ⊎ ((n ≡ to) × ((from ≡ first) ⊎ (old from ≡ true)))
    found_or n to from is holds = by (or_cases (old n) (same_node to n && (same_node from first || old from)) (sym is ∙ holds))
      where
        why : (same_node from first ≡ true) ⊎ (old from ≡ true) → (from ≡ first) ⊎ (old from ≡ true)
        why (inl e) = inl (same_node_is from first e)
        why (inr o) = inr o

        by : (old n ≡ true) ⊎ ((same_node to n && (same_node from first || old from)) ≡ true) → (old n ≡ true) ⊎ ((n ≡ to) × ((from ≡ first) ⊎ (old from ≡ true)))
        by (inl a) = inl a
        by (inr b) = inr (sym (same_node_is to n (true_left (same_node to n) (same_node from first || old from) b)), why (or_cases (same_node from first) (old from) (true_right (same_node to n) (same_node from first || old from) b)))

    kept : (n to from : Node) → new n ≡ (old n || (same_node to n && (same_node from first || old from))) → old n ≡ true → new n ≡ true
    kept n to from is had = is ∙ or_left (old n) (same_node to n && (same_node from first || old from)) had

    both : (a b : Bool) → a ≡ true → b ≡ true → a && b ≡ true
    both a b p q = ap (λ x. x && b) p ∙ q

    added : (n to from : Node) → new n ≡ (old n || (same_node to n && (same_node from first || old from))) → n ≡ to → (from ≡ first) ⊎ (old from ≡ true) → new n ≡ true
    added n to from is same why = is ∙ or_right (old n) (same_node to n && (same_node from first || old from))
        (both (same_node to n) (same_node from first || old from) (ap (same_node to) same ∙ same_node_equiv.refl to) (reason why))
      where
        reason : (from ≡ first) ⊎ (old from ≡ true) → (same_node from first || old from) ≡ true
        reason (inl e) = or_left (same_node from first) (old from) (ap (λ x. same_node x first) e ∙ same_node_equiv.refl first)
        reason (inr o) = or_right (same_node from first) (old from) o

    pub next_on : ((a : Node) → DataIn list more a t → ⊥) → With old new first s t → AreOn list part first old → AreOn list more first new
    next_on none is are n = (λ holds. (on (DataIn list part) (DataIn list more) t s w none n first).1 (there (found_or n t s (is n) holds)), λ p. here ((on (DataIn list part) (DataIn list more) t s w none n first).0 p))
      where
        there : (old n ≡ true) ⊎ ((n ≡ t) × ((s ≡ first) ⊎ (old s ≡ true))) → Path (DataIn list part) n first ⊎ ((n ≡ t) × ((s ≡ first) ⊎ Path (DataIn list part) s first))
        there (inl a) = inl ((are n).0 a)
        there (inr (same, inl e)) = inr (same, inl e)
        there (inr (same, inr o)) = inr (same, inr ((are s).0 o))

        here : Path (DataIn list part) n first ⊎ ((n ≡ t) × ((s ≡ first) ⊎ Path (DataIn list part) s first)) → new n ≡ true
        here (inl q) = kept n t s (is n) ((are n).1 q)
        here (inr (same, inl e)) = added n t s (is n) same (inl e)
        here (inr (same, inr q)) = added n t s (is n) same (inr ((are s).1 q))

    pub next_back : ((b : Node) → DataIn list more s b → ⊥) → With old new first t s → AreBack list part first old → AreBack list more first new
    next_back none is are n = (λ holds. (back (DataIn list part) (DataIn list more) t s w none first n).1 (there (found_or n s t (is n) holds)), λ p. here ((back (DataIn list part) (DataIn list more) t s w none first n).0 p))
      where
        there : (old n ≡ true) ⊎ ((n ≡ s) × ((t ≡ first) ⊎ (old t ≡ true))) → Path (DataIn list part) first n ⊎ ((n ≡ s) × ((t ≡ first) ⊎ Path (DataIn list part) first t))
        there (inl a) = inl ((are n).0 a)
        there (inr (same, inl e)) = inr (same, inl e)
        there (inr (same, inr o)) = inr (same, inr ((are t).0 o))

        here : Path (DataIn list part) first n ⊎ ((n ≡ s) × ((t ≡ first) ⊎ Path (DataIn list part) first t)) → new n ≡ true
        here (inl q) = kept n s t (is n) ((are n).1 q)
        here (inr (same, inl e)) = added n s t (is n) same (inl e)
        here (inr (same, inr q)) = added n s t (is n) same (inr ((are t).1 q))

-- One more record behind

module _ (list part : List Record) (r : Record) (have : HaveCome part) (fine : flaw_of part r ≡ None) where
  abbrev after : List Record
  after = part ++ r ∷ []

  old_edge : (a b : Node) → IsEdge part a b → IsEdge after a b
  old_edge a b (by_input h) = by_input (Contains-append_left part (r ∷ []) (log.Input a b) h)
  old_edge a b (by_version h same next) = by_version (Contains-append_left part (r ∷ []) (log.Version a) h) same next

  low : (t : Node) → r ≡ log.Version t → 1 ≤ t.version
  low t is = let g = good_version part t (subst (λ x. flaw_of part x ≡ None) is fine) in omega (arith, g)

  more_edge : (t s : Node) → edge_in r ≡ Some (t, s) → (a b : Node) → IsEdge after a b → IsEdge part a b ⊎ ((a ≡ t) × (b ≡ s))
  more_edge t s is a b e = elim (edge_cases part r a b e) [ inl old ↦ inl old | inr made ↦ inr (only_edge r t s a b is made) ]

  pub quiet_behind : edge_in r ≡ None → (a b : Node) → DataIn list after a b → DataIn list part a b
  quiet_behind none a b (e, holds) = (elim (edge_cases part r a b e) [ inl old ↦ old | inr made ↦ absurd (no_edge_made r a b none made) ], holds)

  pub grown : (a b : Node) → DataIn list part a b → DataIn list after a b
  grown a b (e, holds) = (old_edge a b e, holds)

  pub not_data_behind : (t s : Node) → edge_in r ≡ Some (t, s) → is_data list t s ≡ false → (a b : Node) → DataIn list after a b → DataIn list part a b
  not_data_behind t s is fails a b (e, holds) = elim (more_edge t s is a b e) [
    | inl old ↦ (old, holds)
    | inr same ↦ absurd (let z : true ≡ false = sym holds ∙ ap (λ x. is_data list x b) same.0 ∙ ap (is_data list t) same.1 ∙ fails in cc)
  ]

  pub data_behind : (t s : Node) → edge_in r ≡ Some (t, s) → is_data list t s ≡ true → IsWith (DataIn list part) (DataIn list after) t s
  data_behind t s is holds = record {
    old = grown;
    new = (made_edge after r t s (Contains-push part r) is (low t), holds);
    more = λ a b e. elim (more_edge t s is a b e.0) [ inl old ↦ inl (old, e.1) | inr same ↦ inr same ];
  }

  pub none_behind : (t s : Node) → edge_in r ≡ Some (t, s) → (a : Node) → DataIn list after a t → ⊥
  none_behind t s is a e = unused part r have fine t s a (either_made r t s is) e.0

-- One more record before

module _ (list : List Record) (logged : IsWellLogged list) (k : ℕ) (r : Record) (at : slice_get list k ≡ Some r) (cut : drop k list ≡ r ∷ drop (k + 1) list) where
  abbrev rest : List Record
  rest = drop (k + 1) list

  split : (x : Record) → Contains (drop k list) x → (r ≡ x) ⊎ Contains rest x
  split x h = elim (Contains-append_cases (r ∷ []) rest x (subst (λ xs. Contains xs x) cut h)) [
    | inl here ↦ elim (Contains-push_cases [] r x here) [ inl none ↦ absurd (contains_none x none) | inr is ↦ inl is ]
    | inr there ↦ inr there
  ]

  in_drop : (x : Record) → Contains rest x → Contains (drop k list) x
  in_drop x h = subst (λ xs. Contains xs x) (sym cut) (Contains-behind r rest x h)

  here_in : Contains (drop k list) r
  here_in = subst (λ xs. Contains xs r) (sym cut) (Contains-at (r ∷ rest) 0 r refl)

  old_before : (a b : Node) → IsEdge rest a b → IsEdge (drop k list) a b
  old_before a b (by_input h) = by_input (in_drop (log.Input a b) h)
  old_before a b (by_version h same next) = by_version (in_drop (log.Version a) h) same next

  cases_before : (a b : Node) → IsEdge (drop k list) a b → IsEdge rest a b ⊎ ((r ≡ log.Input a b) ⊎ ((r ≡ log.Version a) × (b.pnode ≡ a.pnode) × (b.version + 1 ≡ a.version)))
  cases_before a b (by_input h) = elim (split (log.Input a b) h) [ inl is ↦ inr (inl is) | inr there ↦ inl (by_input there) ]
  cases_before a b (by_version h same next) = elim (split (log.Version a) h) [ inl is ↦ inr (inr (is, same, next)) | inr there ↦ inl (by_version there same next) ]

  pub quiet_before : edge_in r ≡ None → (a b : Node) → DataIn list (drop k list) a b → DataIn list rest a b
  quiet_before none a b (e, holds) = (elim (cases_before a b e) [ inl old ↦ old | inr made ↦ absurd (no_edge_made r a b none made) ], holds)

  pub grown_before : (a b : Node) → DataIn list rest a b → DataIn list (drop k list) a b
  grown_before a b (e, holds) = (old_before a b e, holds)

  more_before : (t s : Node) → edge_in r ≡ Some (t, s) → (a b : Node) → IsEdge (drop k list) a b → IsEdge rest a b ⊎ ((a ≡ t) × (b ≡ s))
  more_before t s is a b e = elim (cases_before a b e) [ inl old ↦ inl old | inr made ↦ inr (only_edge r t s a b is made) ]

  pub not_data_before : (t s : Node) → edge_in r ≡ Some (t, s) → is_data list t s ≡ false → (a b : Node) → DataIn list (drop k list) a b → DataIn list rest a b
  not_data_before t s is fails a b (e, holds) = elim (more_before t s is a b e) [
    | inl old ↦ (old, holds)
    | inr same ↦ absurd (let z : true ≡ false = sym holds ∙ ap (λ x. is_data list x b) same.0 ∙ ap (is_data list t) same.1 ∙ fails in cc)
  ]

  fine_r : flaw_of (take k list) r ≡ None
  fine_r = fine_here list k r logged at

  low_before : (t : Node) → r ≡ log.Version t → 1 ≤ t.version
  low_before t is = let g = good_version (take k list) t (subst (λ x. flaw_of (take k list) x ≡ None) is fine_r) in omega (arith, g)

  pub data_before : (t s : Node) → edge_in r ≡ Some (t, s) → is_data list t s ≡ true → IsWith (DataIn list rest) (DataIn list (drop k list)) t s
  data_before t s is holds = record {
    old = grown_before;
    new = (made_edge (drop k list) r t s here_in is (low_before t), holds);
    more = λ a b e. elim (more_before t s is a b e.0) [ inl old ↦ inl (old, e.1) | inr same ↦ inr same ];
  }

  -- a record at a later place that makes an edge from s
  at_later : (t s b : Node) → edge_in r ≡ Some (t, s) → (m : ℕ) (x : Record) → slice_get (drop k list) m ≡ Some x → (x ≡ log.Input s b) ⊎ (x ≡ log.Version s) → ⊥
  at_later t s b is m x there makes =
      let j : ℕ = k + m in
      let place : slice_get list j ≡ Some x = dropped list k m x there in
      let fine : flaw_of (take j list) x ≡ None = fine_here list j x logged place in
      let longer : take (j + 1) list ≡ take j list ++ x ∷ [] = one_more list j x (slice_get_within list j x place) (sym (get_or_from_slice_get list j x x place)) in
      let within : Contains (take (j + 1) list) r = Contains-at (take (j + 1) list) k r (in_take k (j + 1) list r (omega arith) at) in
      let e : IsEdge (take j list ++ x ∷ []) t s = subst (λ l. IsEdge l t s) longer (made_edge (take (j + 1) list) r t s within is (low_before t)) in
      unused (take j list) x (all_come (take j list) (logged_place list j logged)) fine s b t makes e

  pub none_before : (t s : Node) → edge_in r ≡ Some (t, s) → (b : Node) → DataIn list (drop k list) s b → ⊥
  none_before t s is b (by_input h, holds) = let (m, there) = Contains-place (drop k list) (log.Input s b) h in at_later t s b is m (log.Input s b) there (inl refl)
  none_before t s is b (by_version h same next, holds) = let (m, there) = Contains-place (drop k list) (log.Version s) h in at_later t s b is m (log.Version s) there (inr refl)

-- one more record, as a pass sees it

pub pass_on : (list : List Record) (k : ℕ) (r : Record) (first : Node) (old new : Node → Bool) → IsWellLogged list → slice_get list k ≡ Some r → take (k + 1) list ≡ take k list ++ r ∷ []
    → ((n : Node) → new n ≡ found_on list first (edge_in r) old n) → AreOn list (take k list) first old → AreOn list (take (k + 1) list) first new
pass_on list k r first old new logged at longer is are = subst (λ l. AreOn list l first new) (sym longer) (at_edge (edge_in r) refl is)
  where
    have : HaveCome (take k list)
    have = all_come (take k list) (logged_place list k logged)

    fine : flaw_of (take k list) r ≡ None
    fine = fine_here list k r logged at

    as_before : ((n : Node) → new n ≡ old n) → AreOn list (take k list) first new
    as_before same n = ((λ holds. (are n).0 (sym (same n) ∙ holds)), (λ p. same n ∙ (are n).1 p))

    at_data : (t s : Node) → edge_in r ≡ Some (t, s) → (b : Bool) → is_data list t s ≡ b → ((n : Node) → new n ≡ (if b then old n || (same_node t n && (same_node s first || old s)) else old n)) → AreOn list (take k list ++ r ∷ []) first new
    at_data t s made true holds now = next_on list first (take k list) (take k list ++ r ∷ []) t s (data_behind list (take k list) r have fine t s made holds) old new (none_behind list (take k list) r have fine t s made) now are
    at_data t s made false fails now = same_on list first (take k list) (take k list ++ r ∷ []) new (grown list (take k list) r have fine) (not_data_behind list (take k list) r have fine t s made fails) (as_before now)

    at_edge : (o : Option (Node × Node)) → edge_in r ≡ o → ((n : Node) → new n ≡ found_on list first o old n) → AreOn list (take k list ++ r ∷ []) first new
    at_edge None made now = same_on list first (take k list) (take k list ++ r ∷ []) new (grown list (take k list) r have fine) (quiet_behind list (take k list) r have fine made) (as_before now)
    at_edge (Some (t, s)) made now = at_data t s made (is_data list t s) refl now

pub pass_back : (list : List Record) (k : ℕ) (r : Record) (first : Node) (old new : Node → Bool) → IsWellLogged list → slice_get list k ≡ Some r → drop k list ≡ r ∷ drop (k + 1) list
    → ((n : Node) → new n ≡ found_back list first (edge_in r) old n) → AreBack list (drop (k + 1) list) first old → AreBack list (drop k list) first new
pass_back list k r first old new logged at cut is are = at_edge (edge_in r) refl is
  where
    as_before : ((n : Node) → new n ≡ old n) → AreBack list (drop (k + 1) list) first new
    as_before same n = ((λ holds. (are n).0 (sym (same n) ∙ holds)), (λ p. same n ∙ (are n).1 p))

    at_data : (t s : Node) → edge_in r ≡ Some (t, s) → (b : Bool) → is_data list t s ≡ b → ((n : Node) → new n ≡ (if b then old n || (same_node s n && (same_node t first || old t)) else old n)) → AreBack list (drop k list) first new
    at_data t s made true holds now = next_back list first (drop (k + 1) list) (drop k list) t s (data_before list logged k r at cut t s made holds) old new (none_before list logged k r at cut t s made) now are
    at_data t s made false fails now = same_back list first (drop (k + 1) list) (drop k list) new (grown_before list logged k r at cut) (not_data_before list logged k r at cut t s made fails) (as_before now)

    at_edge : (o : Option (Node × Node)) → edge_in r ≡ o → ((n : Node) → new n ≡ found_back list first o old n) → AreBack list (drop k list) first new
    at_edge None made now = same_back list first (drop (k + 1) list) (drop k list) new (grown_before list logged k r at cut) (quiet_before list logged k r at cut made) (as_before now)
    at_edge (Some (t, s)) made now = at_data t s made (is_data list t s) refl now

-- after the whole pass

pub all_on : (list : List Record) (first : Node) (found : Node → Bool) → AreOn list list first found → (n : Node) → (found n ≡ true) ↔ HasDataPath list n first
all_on list first found are n = ((λ holds. all_paths list ((are n).0 holds)), (λ p. (are n).1 (of_paths list p)))

pub all_back : (list : List Record) (first : Node) (found : Node → Bool) → AreBack list list first found → (n : Node) → (found n ≡ true) ↔ HasDataPath list first n
all_back list first found are n = ((λ holds. all_paths list ((are n).0 holds)), (λ p. (are n).1 (of_paths list p)))
