-- The first value of each node.
use Rattle.std.proofs.Common.{ℕ, ◌≡◌, ◌<◌, ◌+◌, Bool, true, false, not, ◌&&◌, refl, sym, ap, ◌∙◌, List, [], ◌∷◌, ◌++◌, length, take, get_or, cond}
use Rattle.std.specs.Prelude.{Option, Some, None, option_map, is_some, if◌then◌else◌}
use Rattle.std.specs.Option.{option_or}
use Rattle.std.specs.List.{find}
use Rattle.std.proofs.lemmas.List.{take_more}
use Rattle.std.proofs.lemmas.List.Folds.{find-append}
use Rattle.pass_entry.specs.declared.objects.Node.{Node}
use Rattle.pass_entry.proofs.Variants.{none_of}
use Rattle.pass_plain.specs.Versions.{same_node}
use Rattle.pass_graph.proofs.Noding.{same_node_is, same_node_equiv}
use Rattle.pass_recipe.specs.Programs.{first_of}

abbrev Given : Type 0
Given = Node × List ℕ

abbrev value : Given → List ℕ
value v = v.1

-- the first value is one of those before, or else the one that comes
one_more : (values : List Given) (i : ℕ) (v : Given) (n : Node) → i < length values → v ≡ get_or values i v
    → first_of (take (i + 1) values) n ≡ option_map value (option_or (find (λ (x : Given). same_node n x.0) (take i values)) (cond (same_node n v.0) (Some v) None))
one_more values i v n within at =
    ap (λ xs. first_of xs n) (take_more values i v within ∙ ap (λ x. take i values ++ x ∷ []) (sym at))
    ∙ ap (option_map value) (find-append (λ (x : Given). same_node n x.0) (take i values) (v ∷ []))

no_value : (o : Option Given) → option_map value o ≡ None → o ≡ None
no_value None is = refl
no_value (Some x) is = absurd (cc)

or_none : (o : Option Given) → option_map value o ≡ option_map value (option_or o None)
or_none None = refl
or_none (Some x) = refl

had : (o p : Option Given) → is_some (option_map value o) ≡ true → option_map value o ≡ option_map value (option_or o p)
had (Some x) p is = refl
had None p is = absurd (cc)

module _ (values : List Given) (i : ℕ) (v : Given) (within : i < length values) (at : v ≡ get_or values i v) where
  other : (n : Node) → same_node n v.0 ≡ false → first_of (take i values) n ≡ first_of (take (i + 1) values) n
  other n differ =
      or_none (find (λ (x : Given). same_node n x.0) (take i values))
      ∙ sym (one_more values i v n within at ∙ ap (λ b. option_map value (option_or (find (λ (x : Given). same_node n x.0) (take i values)) (cond b (Some v) None))) differ)

  -- a node that had no value has this one first
  first_new : first_of (take i values) v.0 ≡ None → (n : Node) → cond (same_node v.0 n) (Some v.1) (first_of (take i values) n) ≡ first_of (take (i + 1) values) n
  first_new none n = at_test (same_node v.0 n) refl
    where
      at_test : (b : Bool) → same_node v.0 n ≡ b → cond b (Some v.1) (first_of (take i values) n) ≡ first_of (take (i + 1) values) n
      at_test true same =
          let is : v.0 ≡ n = same_node_is v.0 n same in
          let before : find (λ (x : Given). same_node n x.0) (take i values) ≡ None = no_value (find (λ (x : Given). same_node n x.0) (take i values)) (ap (first_of (take i values)) (sym is) ∙ none) in
          sym (one_more values i v n within at ∙ ap (λ o. option_map value (option_or o (cond (same_node n v.0) (Some v) None))) before
          ∙ ap (λ b. option_map value (option_or None (cond b (Some v) None))) (same_node_equiv.symm n v.0 ∙ same))
      at_test false differ = other n (same_node_equiv.symm n v.0 ∙ differ)

  -- a node that had a value keeps it
  first_kept : is_some (first_of (take i values) v.0) ≡ true → (n : Node) → first_of (take i values) n ≡ first_of (take (i + 1) values) n
  first_kept some n = at_test (same_node n v.0) refl
    where
      at_test : (b : Bool) → same_node n v.0 ≡ b → first_of (take i values) n ≡ first_of (take (i + 1) values) n
      at_test true same =
          had (find (λ (x : Given). same_node n x.0) (take i values)) (cond (same_node n v.0) (Some v) None) (ap (λ m. is_some (first_of (take i values) m)) (same_node_is n v.0 same) ∙ some)
          ∙ sym (one_more values i v n within at)
      at_test false differ = other n differ

  -- one more value is noted where the node has none
  pub first_noted : (f : Node → Option (List ℕ)) → ((n : Node) → f n ≡ first_of (take i values) n) → (n : Node)
      → (if same_node v.0 n && not (is_some (f v.0)) then Some v.1 else f n) ≡ first_of (take (i + 1) values) n
  first_noted f is n = at_test (is_some (f v.0)) refl (same_node v.0 n) refl
    where
      at_test : (s : Bool) → is_some (f v.0) ≡ s → (b : Bool) → same_node v.0 n ≡ b → (if b && not s then Some v.1 else f n) ≡ first_of (take (i + 1) values) n
      at_test true had_one true same = is n ∙ first_kept (ap is_some (sym (is v.0)) ∙ had_one) n
      at_test true had_one false apart = is n ∙ first_kept (ap is_some (sym (is v.0)) ∙ had_one) n
      at_test false none true same =
          ap (λ b. cond b (Some v.1) (first_of (take i values) n)) (sym same) ∙ first_new (sym (is v.0) ∙ none_of (f v.0) none) n
      at_test false none false apart =
          is n ∙ ap (λ b. cond b (Some v.1) (first_of (take i values) n)) (sym apart) ∙ first_new (sym (is v.0) ∙ none_of (f v.0) none) n
