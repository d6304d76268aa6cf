-- The first value of an attribute.
use Rattle.std.proofs.Common.{ℕ, ◌≡◌, ◌<◌, ◌+◌, Bool, true, false, sym, ap, ◌∙◌, List, [], ◌∷◌, ◌++◌, length, take, drop, get_or, cond}
use Rattle.std.specs.Prelude.{Some, None, bytes_eq, option_map}
use Rattle.std.specs.Option.{option_or}
use Rattle.std.specs.List.{find}
use Rattle.std.proofs.lemmas.List.{drop_more, take_more, take-append-drop}
use Rattle.std.proofs.lemmas.List.Folds.{find-append}
use Rattle.pass_view.specs.Labels.{value_among}

abbrev Tag : Type 0
Tag = List ℕ × List ℕ

module _ (attr : List ℕ) (tags : List Tag) (k : ℕ) (tag : Tag) (within : k < length tags) (at : tag ≡ get_or tags k tag) (none : find (λ t. bytes_eq t.0 attr) (take k tags) ≡ None) where
  abbrev passes : Tag → Bool
  passes t = bytes_eq t.0 attr

  -- none of the first ones has it, nor has the next one
  pub none_more : bytes_eq tag.0 attr ≡ false → find (λ t. bytes_eq t.0 attr) (take (k + 1) tags) ≡ None
  none_more other =
      ap (find passes) (take_more tags k tag within ∙ ap (λ y. take k tags ++ y ∷ []) (sym at)) ∙ find-append passes (take k tags) (tag ∷ [])
      ∙ ap (λ o. option_or o (find passes (tag ∷ []))) none ∙ ap (λ b. cond b (Some tag) None) other

  -- or the next one is the first
  pub found_here : bytes_eq tag.0 attr ≡ true → value_among tags attr ≡ Some tag.1
  found_here same =
      ap (λ ts. value_among ts attr) (sym (take-append-drop k tags) ∙ ap (λ ts. take k tags ++ ts) (drop_more tags k tag within ∙ ap (λ t. t ∷ drop (k + 1) tags) (sym at)))
      ∙ ap (option_map (λ (t : Tag). t.1)) (find-append passes (take k tags) (tag ∷ drop (k + 1) tags)
      ∙ ap (λ o. option_or o (find passes (tag ∷ drop (k + 1) tags))) none ∙ ap (λ b. cond b (Some tag) (find passes (drop (k + 1) tags))) same)
