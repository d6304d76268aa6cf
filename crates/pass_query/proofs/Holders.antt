-- The nodes of the files that had a name.
use Rattle.std.proofs.Common.{ℕ, ◌≡◌, ◌<◌, ◌+◌, zero, suc, refl, sym, ap, ◌∙◌, subst, List, [], ◌∷◌, ◌++◌, length, take, get_or}
use Rattle.std.specs.Prelude.{Option, Some, None, option_map, slice_get, Contains}
use Rattle.std.specs.List.{filter_map, cons_option, AllByRecursion}
use Rattle.std.specs.List.Sorted.{IsStrictlySortedBy}
use Rattle.std.specs.Ordering.{nat_cmp, ordering_then}
use Rattle.std.specs.declared.cmp.Ordering.TheVariants.{Less}
use Rattle.std.proofs.lemmas.List.{take_more}
use Rattle.std.proofs.lemmas.List.Elements.{filter_map-append}
use Rattle.pass_entry.specs.declared.objects.Node.{Node}
use Rattle.pass_entry.specs.declared.record.Record.{Record}
use Rattle.pass_entry.proofs.Places.{Contains-place, Contains-at}
use Rattle.pass_plain.proofs.Lists.{some_is}
use Rattle.pass_waldo.specs.Lookups.{AreAll, current_in}
use Rattle.pass_waldo.specs.Orders.{node_cmp}

-- the object at its current version
abbrev pub node_now : List Record → ℕ → Option Node
node_now list object = option_map (λ v. record { pnode = object; version = v }) (current_in list object)

is_now : (list : List Record) (p : ℕ) (n : Node) → node_now list p ≡ Some n → (n.pnode ≡ p) × (current_in list p ≡ Some n.version)
is_now list p n is = at_option (current_in list p) refl is
  where
    at_option : (o : Option ℕ) → current_in list p ≡ o → option_map (λ v. record { pnode = p; version = v }) o ≡ Some n → (n.pnode ≡ p) × (current_in list p ≡ Some n.version)
    at_option (Some v) there is =
        let same : record { pnode = p; version = v } ≡ n = some_is (record { pnode = p; version = v }) n is in
        (sym (ap (λ (m : Node). m.pnode) same), there ∙ ap (λ (m : Node). Some m.version) same)
    at_option None there is = absurd (cc)

now_is : (list : List Record) (n : Node) → current_in list n.pnode ≡ Some n.version → node_now list n.pnode ≡ Some n
now_is list n is = ap (option_map (λ v. record { pnode = n.pnode; version = v })) is

module _ {X Y : Type 0} (h : X → Option Y) where
  in_kept : (xs : List X) (i : ℕ) (x : X) (y : Y) → slice_get xs i ≡ Some x → h x ≡ Some y → (k : ℕ) × (slice_get (filter_map h xs) k ≡ Some y)
  in_kept [] i x y at is = absurd (cc)
  in_kept (z ∷ xs) zero x y at is = (0, ap (λ o. slice_get (cons_option o (filter_map h xs)) 0) (ap h (some_is z x at) ∙ is))
  in_kept (z ∷ xs) (suc i) x y at is = at_option (h z) (in_kept xs i x y at is)
    where
      at_option : (o : Option Y) → (k : ℕ) × (slice_get (filter_map h xs) k ≡ Some y) → (k : ℕ) × (slice_get (cons_option o (filter_map h xs)) k ≡ Some y)
      at_option (Some w) (k, there) = (suc k, there)
      at_option None (k, there) = (k, there)

  kept_from : (xs : List X) (k : ℕ) (y : Y) → slice_get (filter_map h xs) k ≡ Some y → (i : ℕ) × (x : X) × (slice_get xs i ≡ Some x) × (h x ≡ Some y)
  kept_from [] k y at = absurd (cc)
  kept_from (z ∷ xs) k y at = at_option (h z) refl k at (λ j there. kept_from xs j y there)
    where
      From : Type 0
      From = (i : ℕ) × (x : X) × (slice_get (z ∷ xs) i ≡ Some x) × (h x ≡ Some y)

      at_option : (o : Option Y) → h z ≡ o → (k : ℕ) → slice_get (cons_option o (filter_map h xs)) k ≡ Some y
          → ((j : ℕ) → slice_get (filter_map h xs) j ≡ Some y → (i : ℕ) × (x : X) × (slice_get xs i ≡ Some x) × (h x ≡ Some y)) → (i : ℕ) × (x : X) × (slice_get (z ∷ xs) i ≡ Some x) × (h x ≡ Some y)
      at_option (Some w) is zero at later = (0, z, refl, is ∙ at)
      at_option (Some w) is (suc k) at later = let (i, x, there, gives) = later k at in (suc i, x, there, gives)
      at_option None is k at later = let (i, x, there, gives) = later k at in (suc i, x, there, gives)

module _ (list : List Record) where
  abbrev nodes_now : List ℕ → List Node
  nodes_now row = filter_map (node_now list) row

  pub one_more : (row : List ℕ) (i p : ℕ) → i < length row → p ≡ get_or row i p → nodes_now (take (i + 1) row) ≡ nodes_now (take i row) ++ cons_option (node_now list p) []
  one_more row i p within is = ap nodes_now (take_more row i p within ∙ ap (λ x. take i row ++ x ∷ []) (sym is)) ∙ filter_map-append (node_now list) (take i row) (p ∷ [])

  all_after : (n : Node) (row : List ℕ) → AllByRecursion (λ q. nat_cmp n.pnode q ≡ Less) row → AllByRecursion (λ m. node_cmp n m ≡ Less) (nodes_now row)
  all_after n [] all = tt
  all_after n (q ∷ row) all = at_option (node_now list q) refl (all_after n row all.1)
    where
      at_option : (o : Option Node) → node_now list q ≡ o → AllByRecursion (λ m. node_cmp n m ≡ Less) (nodes_now row) → AllByRecursion (λ m. node_cmp n m ≡ Less) (cons_option o (nodes_now row))
      at_option (Some m) is later = (ap (λ x. ordering_then (nat_cmp n.pnode x) (nat_cmp n.version m.version)) (is_now list q m is).0 ∙ ap (λ o. ordering_then o (nat_cmp n.version m.version)) all.0, later)
      at_option None is later = later

  in_order : (row : List ℕ) → IsStrictlySortedBy nat_cmp row → IsStrictlySortedBy node_cmp (nodes_now row)
  unfolding IsStrictlySortedBy
  in_order [] up = tt
  in_order (p ∷ row) up = at_option (node_now list p) refl (in_order row up.1)
    where
      at_option : (o : Option Node) → node_now list p ≡ o → IsStrictlySortedBy node_cmp (nodes_now row) → IsStrictlySortedBy node_cmp (cons_option o (nodes_now row))
      at_option (Some n) is later = (all_after n row (subst (λ x. AllByRecursion (λ q. nat_cmp x q ≡ Less) row) (sym (is_now list p n is).0) up.0), later)
      at_option None is later = later

  pub all_named : (P : ℕ → Type 0) (row : List ℕ) → AreAll nat_cmp row P → AreAll node_cmp (nodes_now row) (λ n. P n.pnode × (current_in list n.pnode ≡ Some n.version))
  all_named P row are = record {
    ascending = in_order row are.ascending;
    all = λ n. (sound n, whole n);
  }
    where
      sound : (n : Node) → Contains (nodes_now row) n → P n.pnode × (current_in list n.pnode ≡ Some n.version)
      sound n there =
          let (k, at) = Contains-place (nodes_now row) n there in
          let (i, p, in_row, gives) = kept_from (node_now list) row k n at in
          let (object, now) = is_now list p n gives in
          (subst P (sym object) ((are.all p).0 (Contains-at row i p in_row)), ap (current_in list) object ∙ now)

      whole : (n : Node) → P n.pnode × (current_in list n.pnode ≡ Some n.version) → Contains (nodes_now row) n
      whole n (has, now) =
          let (i, at) = Contains-place row n.pnode ((are.all n.pnode).1 has) in
          let (k, there) = in_kept (node_now list) row i n.pnode n at (now_is list n now) in
          Contains-at (nodes_now row) k n there
