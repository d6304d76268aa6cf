-- A map whose missing keys stand for a value that follows from the key.
use Rattle.std.proofs.Common.{◌≡◌, ℕ, [], Bool, true, false, cond, refl, ap, sym, ◌∙◌}
use Rattle.std.specs.Prelude.{Some, None, is_some}
use Rattle.std.specs.Option.{option_map_or}
use Rattle.std.specs.Ordering.{nat_cmp, is_eq}
use Rattle.std.specs.FinMap.{nat_cmp-IsAntisymmetric}
use Rattle.std.specs.BTreeMap.{BTreeMap, get, Updates}
use Rattle.std.specs.Map.{lookup}
use Rattle.pass_entry.proofs.Variants.{none_of}
use Rattle.pass_entry.proofs.Lists.{is_equal}

-- a missing key that gets the value for which it stands changes nothing
pub same_filled : {X L : Type 0} (g : X → L) (f : ℕ → L) (m n : BTreeMap ℕ X) (k : ℕ) (v : X) → Updates nat_cmp m n k (Some v)
    → is_some (get nat_cmp m k) ≡ false → g v ≡ f k → (q : ℕ) → option_map_or g (get nat_cmp n q) (f q) ≡ option_map_or g (get nat_cmp m q) (f q)
same_filled g f m n k v updates missing same q =
    ap (λ o. option_map_or g o (f q)) (updates.0 q) ∙ by_test (is_eq (nat_cmp k q)) refl
  where
    by_test : (b : Bool) → is_eq (nat_cmp k q) ≡ b → option_map_or g (cond b (Some v) (get nat_cmp m q)) (f q) ≡ option_map_or g (get nat_cmp m q) (f q)
    by_test false is = refl
    by_test true is =
        let here : k ≡ q = nat_cmp-IsAntisymmetric k q (is_equal (nat_cmp k q) is) in
        let none : get nat_cmp m q ≡ None = ap (λ q. get nat_cmp m q) (sym here) ∙ none_of (get nat_cmp m k) missing in
        same ∙ ap f here ∙ ap (λ o. option_map_or g o (f q)) (sym none)

pub nothing_in : {X : Type 0} (m : BTreeMap ℕ X) → m.entries ≡ [] → (q : ℕ) → get nat_cmp m q ≡ None
nothing_in m empty q = ap (λ es. lookup (λ k. is_eq (nat_cmp q k)) es) empty
