-- Along every edge of a well logged list the rank falls.
use Rattle.std.proofs.Common.{ℕ, ◌≡◌, ◌≤◌, ◌<◌, ◌+◌, ◌==◌, suc, Bool, true, false, not, ◌&&◌, ◌||◌, inl, inr, refl, sym, ap, ◌∙◌, subst, List, [], ◌∷◌, ◌++◌, length, arith, cond, append_assoc, lt_trans}
use Rattle.std.specs.Prelude.{None, nat_lt, if◌then◌else◌}
use Rattle.std.specs.List.{list_any, position_or_len}
use Rattle.std.proofs.lemmas.List.Sums.{prefix_len-le-length}
use Rattle.std.proofs.lemmas.List.Folds.{list_any-append}
use Rattle.std.proofs.lemmas.Bool.Decides.{nat_tests}
use Rattle.std.proofs.lemmas.Bool.{false_from_ne_true, or_cases}
use Rattle.std.proofs.lemmas.List.{append-nil}
use Rattle.pass_entry.specs.declared.objects.Node.{Node}
use Rattle.pass_entry.specs.declared.record.Record.{Record}
use Rattle.pass_entry.specs.declared.record.Record.TheVariants as log
use Rattle.pass_entry.specs.declared.record.FlawReason.TheVariants as flaw
use Rattle.pass_entry.proofs.Variants.{no_first}
use Rattle.pass_plain.specs.Versions.{same_node}
use Rattle.pass_plain.specs.Graphs.{IsEdge, HasPath}
use Rattle.pass_plain.specs.Graphs.HasPath.{edge, step}
use Rattle.pass_plain.specs.WellLogged.{current_of, has_source, is_known, is_current, flaw_of, first_flaw_after, IsWellLogged}
use Rattle.pass_plain.proofs.Lists.{or_false, same_numbers, true_left, true_right, not_false, not_below, and_none, or_none}
use Rattle.pass_plain.proofs.Lineages.{same_node-sym, same_node-self}
use Rattle.pass_plain.proofs.Flaws.{unflawed}
use Rattle.pass_graph.specs.ListRanks.{begins_after, list_rank, ListRankLaw, ListAcyclicLaw}
use Rattle.pass_graph.proofs.Logging.{no_edge, edge_cases, version_next}

-- the first place at which a test passes, with one more element

module _ {X : Type 0} (p : X → Bool) where
  pub first_of : (xs : List X) → position_or_len p xs ≤ length xs
  first_of xs = prefix_len-le-length (λ x. not (p x)) xs

  pub stays_first : (xs : List X) (y : X) → position_or_len p xs < length xs → position_or_len p (xs ++ y ∷ []) ≡ position_or_len p xs
  stays_first [] y within = absurd (omega arith)
  stays_first (x ∷ xs) y within = at_test (p x) within (λ w. stays_first xs y w)
    where
      at_test : (b : Bool) → cond (not b) (1 + position_or_len p xs) 0 < suc (length xs) → (position_or_len p xs < length xs → position_or_len p (xs ++ y ∷ []) ≡ position_or_len p xs)
          → cond (not b) (1 + position_or_len p (xs ++ y ∷ [])) 0 ≡ cond (not b) (1 + position_or_len p xs) 0
      at_test true w later = refl
      at_test false w later = ap (λ n. 1 + n) (later (omega arith))

  none_first : (xs : List X) → list_any p xs ≡ false → position_or_len p xs ≡ length xs
  none_first [] none = refl
  none_first (x ∷ xs) none =
      let (here, later) = or_false (p x) (list_any p xs) none in
      let rest = none_first xs later in
      ap (λ b. cond (not b) (1 + position_or_len p xs) 0) here ∙ omega (arith, rest)

  pub first_next : (xs : List X) (y : X) → list_any p xs ≡ false → position_or_len p (xs ++ y ∷ []) ≡ cond (p y) (length xs) (length xs + 1)
  first_next [] y none = at_test (p y)
    where
      at_test : (b : Bool) → cond (not b) (1 + 0) 0 ≡ cond b 0 (0 + 1)
      at_test true = refl
      at_test false = refl
  first_next (x ∷ xs) y none =
      let (here, later) = or_false (p x) (list_any p xs) none in
      ap (λ b. cond (not b) (1 + position_or_len p (xs ++ y ∷ [])) 0) here ∙ ap (λ n. 1 + n) (first_next xs y later) ∙ at_test (p y)
    where
      at_test : (b : Bool) → 1 + cond b (length xs) (length xs + 1) ≡ cond b (suc (length xs)) (suc (length xs) + 1)
      at_test true = omega arith
      at_test false = omega arith

  no_sooner : (xs : List X) (y : X) → position_or_len p xs ≡ length xs → length xs ≤ position_or_len p (xs ++ y ∷ [])
  no_sooner [] y all = omega arith
  no_sooner (x ∷ xs) y all = at_test (p x) all (λ a. no_sooner xs y a)
    where
      at_test : (b : Bool) → cond (not b) (1 + position_or_len p xs) 0 ≡ suc (length xs) → (position_or_len p xs ≡ length xs → length xs ≤ position_or_len p (xs ++ y ∷ []))
          → suc (length xs) ≤ cond (not b) (1 + position_or_len p (xs ++ y ∷ [])) 0
      at_test true a later = absurd (omega (arith, a))
      at_test false a later = let z = later (omega (arith, a)) in omega (arith, z)

  -- the first one of a list in which some element passes
  pub some_first : (xs : List X) → list_any p xs ≡ true → position_or_len p xs < length xs
  some_first [] any = absurd (cc)
  some_first (x ∷ xs) any = at_test (p x) any (λ a. some_first xs a)
    where
      at_test : (b : Bool) → b || list_any p xs ≡ true → (list_any p xs ≡ true → position_or_len p xs < length xs) → cond (not b) (1 + position_or_len p xs) 0 < suc (length xs)
      at_test true a later = omega arith
      at_test false a later = let z = later a in omega (arith, z)

  -- a new element stands behind what has passed, and is the first where it is the first to pass
  first_under : (xs : List X) (y : X) → p y ≡ true → position_or_len p (xs ++ y ∷ []) ≤ length xs
  first_under xs y passes = at_test (list_any p xs) refl
    where
      at_test : (b : Bool) → list_any p xs ≡ b → position_or_len p (xs ++ y ∷ []) ≤ length xs
      at_test true any = let within = some_first xs any in let z = stays_first xs y within in omega (arith, z, within)
      at_test false none = let z = first_next xs y none ∙ ap (λ b. cond b (length xs) (length xs + 1)) passes in omega (arith, z)

  first_over : (xs : List X) (y : X) → list_any p xs ≡ false → p y ≡ false → position_or_len p (xs ++ y ∷ []) ≡ length xs + 1
  first_over xs y none fails = first_next xs y none ∙ ap (λ b. cond b (length xs) (length xs + 1)) fails

abbrev pub closes : Node → Record → Bool
closes n r = has_source n r || begins_after n r

-- what the records so far say of the ranks
record IsRanked (list : List Record) : Type 0 where
  edges : (a b : Node) → IsEdge list a b → list_rank list b < list_rank list a
  sources : (n : Node) → list_any (has_source n) list ≡ true → n.version ≤ current_of list n.pnode
  begun : (n : Node) → list_any (begins_after n) list ≡ true → n.version < current_of list n.pnode

none_either : (p q : Record → Bool) (xs : List Record) → list_any p xs ≡ false → list_any q xs ≡ false → list_any (λ r. p r || q r) xs ≡ false
none_either p q [] a b = refl
none_either p q (x ∷ xs) a b =
    let (pa, ra) = or_false (p x) (list_any p xs) a in
    let (pb, rb) = or_false (q x) (list_any q xs) b in
    ap (λ c. (c || q x) || list_any (λ r. p r || q r) xs) pa ∙ ap (λ c. c || list_any (λ r. p r || q r) xs) pb ∙ none_either p q xs ra rb

-- the ranks of an old edge's ends still fall
old_falls : (list : List Record) (r : Record) (a b : Node) → list_rank list b < list_rank list a → list_rank (list ++ r ∷ []) b < list_rank (list ++ r ∷ []) a
old_falls list r a b falls = at_test (nat_lt (list_rank list a) (length list)) refl
  where
    most : list_rank list a ≤ length list
    most = first_of (closes a) list

    at_test : (t : Bool) → nat_lt (list_rank list a) (length list) ≡ t → list_rank (list ++ r ∷ []) b < list_rank (list ++ r ∷ []) a
    at_test true is =
        let within : list_rank list a < length list = grind (arith, nat_tests) in
        let za = stays_first (closes a) list r within in
        let zb = stays_first (closes b) list r (omega (arith, within, falls)) in
        omega (arith, za, zb, falls)
    at_test false is =
        let past : length list ≤ list_rank list a = grind (arith, nat_tests) in
        let zb = stays_first (closes b) list r (omega (arith, most, falls)) in
        let za = no_sooner (closes a) list r (omega (arith, past, most)) in
        omega (arith, za, zb, falls, most, past)

-- a new edge falls where its record closes the source, and nothing has closed the target
new_falls : (list : List Record) (r : Record) (a b : Node) → closes b r ≡ true → list_any (closes a) list ≡ false → closes a r ≡ false → list_rank (list ++ r ∷ []) b < list_rank (list ++ r ∷ []) a
new_falls list r a b closed unclosed fails =
    let za = first_over (closes a) list r unclosed fails in
    let zb = first_under (closes b) list r closed in
    omega (arith, za, zb)

no_successor : (n : ℕ) → (n == n + 1) ≡ false
no_successor n = grind (arith, nat_tests)

-- a current node, which no record has named as a source, is open
is_open : (list : List Record) → IsRanked list → (n : Node) → n.version ≡ current_of list n.pnode → list_any (has_source n) list ≡ false → list_any (closes n) list ≡ false
is_open list s n current unnamed =
    none_either (has_source n) (begins_after n) list unnamed (false_from_ne_true _ (λ h. let z = s.begun n h in omega (arith, z, current)))

-- so is the version to come
is_to_come : (list : List Record) → IsRanked list → (n : Node) → n.version ≡ current_of list n.pnode + 1 → list_any (closes n) list ≡ false
is_to_come list s n next =
    none_either (has_source n) (begins_after n) list (false_from_ne_true _ (λ h. let z = s.sources n h in omega (arith, z, next))) (false_from_ne_true _ (λ h. let z = s.begun n h in omega (arith, z, next)))

-- what a flawless edge has

record IsGoodInput (list : List Record) (t n : Node) : Type 0 where
  come : n.version ≤ current_of list n.pnode
  current : t.version ≡ current_of list t.pnode
  unnamed : list_any (has_source t) list ≡ false
  other : same_node n t ≡ false

good_input : (list : List Record) (t n : Node) → flaw_of list (log.Input t n) ≡ None → IsGoodInput list t n
good_input list t n fine =
    let (known, rest) = unflawed (not (is_known list t.pnode)) flaw.Unknown _ fine in
    let (there, rest2) = unflawed (not (is_known list n.pnode) || nat_lt (current_of list n.pnode) n.version) flaw.Unknown _ rest in
    let (version, rest3) = unflawed (not (is_current list t)) flaw.Version _ rest2 in
    let (fresh, repeat) = unflawed (list_any (has_source t) list || same_node t n) flaw.Source _ rest3 in
    let (unnamed, other) = or_false (list_any (has_source t) list) (same_node t n) fresh in
    record {
      come = not_below (current_of list n.pnode) n.version (or_false (not (is_known list n.pnode)) (nat_lt (current_of list n.pnode) n.version) there).1;
      current = same_numbers t.version (current_of list t.pnode) (not_false (is_current list t) version);
      unnamed = unnamed;
      other = same_node-sym n t ∙ other;
    }

pub good_version : (list : List Record) (n : Node) → flaw_of list (log.Version n) ≡ None → n.version ≡ current_of list n.pnode + 1
good_version list n fine =
    let (known, rest) = unflawed (not (is_known list n.pnode)) flaw.Unknown _ fine in
    same_numbers n.version (current_of list n.pnode + 1) (not_false (n.version == current_of list n.pnode + 1) (unflawed (not (n.version == current_of list n.pnode + 1)) flaw.Version None rest).0)

-- versions rise
pub rises : (list : List Record) (r : Record) → flaw_of list r ≡ None → (o : ℕ) → current_of list o ≤ current_of (list ++ r ∷ []) o
rises list (log.Version n) fine o = let z = version_next list (log.Version n) o in let y = at_test (n.pnode == o) refl in omega (arith, z, y)
  where
    at_test : (t : Bool) → (n.pnode == o) ≡ t → current_of list o ≤ (if t then n.version else current_of list o)
    at_test true same = let z = good_version list n fine in let y = ap (current_of list) (same_numbers n.pnode o same) in omega (arith, z, y)
    at_test false differ = omega arith
rises list (log.Object p k) fine o = let z = version_next list (log.Object p k) o in omega (arith, z)
rises list (log.Name p name) fine o = let z = version_next list (log.Name p name) o in omega (arith, z)
rises list (log.Attr n attr value) fine o = let z = version_next list (log.Attr n attr value) o in omega (arith, z)
rises list (log.Input t n) fine o = let z = version_next list (log.Input t n) o in omega (arith, z)
rises list (log.Size p size) fine o = let z = version_next list (log.Size p size) o in omega (arith, z)
rises list (log.Digest p block sum) fine o = let z = version_next list (log.Digest p block sum) o in omega (arith, z)
rises list (log.Ceiling p) fine o = let z = version_next list (log.Ceiling p) o in omega (arith, z)

module _ (list : List Record) (r : Record) (s : IsRanked list) (fine : flaw_of list r ≡ None) where
  edges_next : (a b : Node) → IsEdge (list ++ r ∷ []) a b → list_rank (list ++ r ∷ []) b < list_rank (list ++ r ∷ []) a
  edges_next a b e = elim (edge_cases list r a b e) [
    | inl old ↦ old_falls list r a b (s.edges a b old)
    | inr (inl is) ↦ by_input is
    | inr (inr is) ↦ by_version is.0 is.1 is.2
  ]
    where
      by_input : r ≡ log.Input a b → list_rank (list ++ r ∷ []) b < list_rank (list ++ r ∷ []) a
      by_input is =
          let g = good_input list a b (subst (λ x. flaw_of list x ≡ None) is fine) in
          new_falls list r a b (ap (closes b) is ∙ ap (λ c. c || false) (same_node-self b)) (is_open list s a g.current g.unnamed) (ap (closes a) is ∙ ap (λ c. c || false) g.other)

      by_version : r ≡ log.Version a → b.pnode ≡ a.pnode → b.version + 1 ≡ a.version → list_rank (list ++ r ∷ []) b < list_rank (list ++ r ∷ []) a
      by_version is same next =
          let g = good_version list a (subst (λ x. flaw_of list x ≡ None) is fine) in
          new_falls list r a b (ap (closes b) is ∙ ap (λ n. a.pnode == n && a.version == b.version + 1) same ∙ ap (λ n. a.pnode == a.pnode && a.version == n) next ∙ same_node-self a) (is_to_come list s a g)
          (ap (closes a) is ∙ ap (λ c. a.pnode == a.pnode && c) (no_successor a.version) ∙ and_none (a.pnode == a.pnode))

-- a source has come, and a version that was ended is below the current one

source_come : (list : List Record) (r : Record) → flaw_of list r ≡ None → (n : Node) → has_source n r ≡ true → n.version ≤ current_of list n.pnode
source_come list (log.Input t m) fine n is =
    let g = good_input list t m fine in
    let same : m.pnode ≡ n.pnode = same_numbers m.pnode n.pnode (true_left (m.pnode == n.pnode) (m.version == n.version) is) in
    let at : m.version ≡ n.version = same_numbers m.version n.version (true_right (m.pnode == n.pnode) (m.version == n.version) is) in
    let z = g.come in let y = ap (current_of list) same in omega (arith, z, y, at)
source_come list _ fine n is = absurd (cc)

version_begun : (list : List Record) (r : Record) → flaw_of list r ≡ None → (n : Node) → begins_after n r ≡ true → n.version < current_of (list ++ r ∷ []) n.pnode
version_begun list (log.Version m) fine n is =
    let same : (m.pnode == n.pnode) ≡ true = true_left (m.pnode == n.pnode) (m.version == n.version + 1) is in
    let at : m.version ≡ n.version + 1 = same_numbers m.version (n.version + 1) (true_right (m.pnode == n.pnode) (m.version == n.version + 1) is) in
    let z = version_next list (log.Version m) n.pnode ∙ ap (λ b. if b then m.version else current_of list n.pnode) same in omega (arith, z, at)
version_begun list _ fine n is = absurd (cc)

ranked_next : (list : List Record) (r : Record) → IsRanked list → flaw_of list r ≡ None → IsRanked (list ++ r ∷ [])
ranked_next list r s fine = record {
  edges = edges_next list r s fine;
  sources = λ n h. elim (or_cases (list_any (has_source n) list) (has_source n r || false) (sym (list_any-append (has_source n) list (r ∷ [])) ∙ h)) [
    | inl old ↦ let z = s.sources n old in let y = rises list r fine n.pnode in omega (arith, z, y)
    | inr here ↦ let z = source_come list r fine n (sym (or_none (has_source n r)) ∙ here) in let y = rises list r fine n.pnode in omega (arith, z, y)
  ];
  begun = λ n h. elim (or_cases (list_any (begins_after n) list) (begins_after n r || false) (sym (list_any-append (begins_after n) list (r ∷ [])) ∙ h)) [
    | inl old ↦ let z = s.begun n old in let y = rises list r fine n.pnode in omega (arith, z, y)
    | inr here ↦ version_begun list r fine n (sym (or_none (begins_after n r)) ∙ here)
  ];
}

-- what holds of the empty list, and with each record that has no flaw, holds of every well logged list
pub logged_induction : (P : List Record → Type 0) → ((list : List Record) (r : Record) → P list → flaw_of list r ≡ None → P (list ++ r ∷ [])) → (list rest : List Record) → P list → first_flaw_after list rest ≡ None → P (list ++ rest)
logged_induction P next list [] base fine = subst P (sym (append-nil list)) base
logged_induction P next list (r ∷ rest) base fine =
    let (here, later) = no_first _ (flaw_of list r) (first_flaw_after (list ++ r ∷ []) rest) fine in
    subst P (append_assoc list (r ∷ []) rest) (logged_induction P next (list ++ r ∷ []) rest (next list r base here) later)

none_ranked : IsRanked []
none_ranked = record {
  edges = λ a b e. absurd (no_edge a b e);
  sources = λ n h. absurd (cc);
  begun = λ n h. absurd (cc);
}

ranked : (list : List Record) → IsWellLogged list → IsRanked list
ranked list logged = logged_induction IsRanked ranked_next [] list none_ranked logged

pub list_rank_law : ListRankLaw
list_rank_law list logged a b e = (ranked list logged).edges a b e

path_falls : (list : List Record) → IsWellLogged list → {a b : Node} → HasPath list a b → list_rank list b < list_rank list a
path_falls list logged {a} {b} (edge e) = list_rank_law list logged a b e
path_falls list logged {a} {b} (step {b = m} e p) = lt_trans (path_falls list logged p) (list_rank_law list logged a m e)

pub list_acyclic_law : ListAcyclicLaw
list_acyclic_law list logged node p = let z = path_falls list logged p in omega (arith, z)
