-- An archive of the chosen versions of another one.
use Rattle.std.proofs.Common.{◌≡◌, ◌⊎◌, Bool, true, false, List, [], ◌∷◌, inl, inr, refl, sym, ◌∙◌, ap, subst}
use Rattle.std.specs.Prelude.{Some, None, filter, if◌then◌else◌}
use Rattle.pass_entry.specs.declared.objects.Node.{Node}
use Rattle.pass_leaf.specs.Leaves.{Leaf}
use Rattle.pass_leaf.specs.Contents.{content_of, AreLeaves}
use Rattle.pass_leaf.specs.Keeping.{FileVersion}
use Rattle.pass_leaf.specs.Laws.{AreConsistent, IsAmong, KeptLaw, OthersLaw}
use Rattle.pass_prune.specs.Prunings.{contents_after, chosen_of, pruned}
use Rattle.pass_prune.proofs.Contents.{above, consistent, has_content, HasVersion, found_or}

-- the versions that pass a test are among all
module _ (f : FileVersion → Bool) where
  among_all : (vs : List FileVersion) (v : FileVersion) → IsAmong v (filter f vs) → IsAmong v vs × (f v ≡ true)
  among_all [] v among = absurd among
  among_all (d ∷ vs) v among = at_test (f d) refl among (among_all vs v)
    where
      at_test : (b : Bool) → f d ≡ b → IsAmong v (if b then d ∷ filter f vs else filter f vs) → (IsAmong v (filter f vs) → IsAmong v vs × (f v ≡ true)) → IsAmong v (d ∷ vs) × (f v ≡ true)
      at_test true is (inl same) rest = (inl same, ap f (sym same) ∙ is)
      at_test true is (inr among) rest = (inr (rest among).0, (rest among).1)
      at_test false is among rest = (inr (rest among).0, (rest among).1)

  among_some : (vs : List FileVersion) (v : FileVersion) → IsAmong v vs → f v ≡ true → IsAmong v (filter f vs)
  among_some [] v among is = absurd among
  among_some (d ∷ vs) v among is = at_test (f d) refl among (λ rest. among_some vs v rest is)
    where
      at_test : (b : Bool) → f d ≡ b → IsAmong v (d ∷ vs) → (IsAmong v vs → IsAmong v (filter f vs)) → IsAmong v (if b then d ∷ filter f vs else filter f vs)
      at_test true fits (inl same) on = inl same
      at_test true fits (inr rest) on = inr (on rest)
      at_test false fits (inl same) on = absurd (let e : true ≡ false = sym is ∙ ap f (sym same) ∙ fits in cc e)
      at_test false fits (inr rest) on = on rest

  still_consistent : (vs : List FileVersion) → AreConsistent vs → AreConsistent (filter f vs)
  still_consistent [] are = tt
  still_consistent (d ∷ vs) are = at_test (f d) (still_consistent vs are.2)
    where
      at_test : (b : Bool) → AreConsistent (filter f vs) → AreConsistent (if b then d ∷ filter f vs else filter f vs)
      at_test true rest = (λ v among. are.0 v (among_all vs v among).0, λ v among. are.1 v (among_all vs v among).0, rest)
      at_test false rest = rest

-- a chosen version has the same bytes in both archives, and no other is in the fresh one
module _ (kept : KeptLaw) (others : OthersLaw) (choice : Node → Bool) (leaves : List Leaf) (are : AreLeaves leaves) where
  test : FileVersion → Bool
  test v = choice v.node

  none_chosen : (node : Node) → ((v : FileVersion) → IsAmong v (contents_after [] leaves) → choice v.node ≡ true → v.node ≡ node → ⊥) → content_of (pruned choice leaves) node ≡ None
  unfolding test
  none_chosen node none =
      others [] (chosen_of choice leaves) node (λ v among same.
      let (there, is) = among_all test (contents_after [] leaves) v among in
      absurd (none v there is same))

  one_chosen : (v : FileVersion) → IsAmong v (contents_after [] leaves) → choice v.node ≡ true → content_of (pruned choice leaves) v.node ≡ content_of leaves v.node
  unfolding test
  one_chosen v among is =
      kept [] (chosen_of choice leaves) tt (still_consistent test (contents_after [] leaves) (consistent [] leaves are)) v (among_some test (contents_after [] leaves) v among is) (above [] leaves are v among)
      ∙ sym (has_content [] leaves are v among)

  pub pruned_has : (node : Node) → content_of (pruned choice leaves) node ≡ (if choice node then content_of leaves node else None)
  pruned_has node = at_test (choice node) refl (found_or [] leaves node)
    where
      at_test : (b : Bool) → choice node ≡ b → HasVersion [] leaves node ⊎ (content_of leaves node ≡ None) → content_of (pruned choice leaves) node ≡ (if b then content_of leaves node else None)
      at_test false is found = none_chosen node (λ v among chosen same. let e : true ≡ false = sym chosen ∙ ap choice same ∙ is in cc e)
      at_test true is (inl (v, among, same)) =
          subst (λ (n : Node). content_of (pruned choice leaves) n ≡ content_of leaves n) same (one_chosen v among (ap choice same ∙ is))
      at_test true is (inr none) =
          none_chosen node (λ v among chosen same.
          let e : Some v.bytes ≡ None = sym (has_content [] leaves are v among) ∙ ap (content_of leaves) same ∙ none in
          cc e) ∙ sym none
