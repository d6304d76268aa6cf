-- The table as it is made keeps the rule.
use Rattle.std.proofs.Common.{◌≡◌, ℕ, zero, suc, [], ◌∷◌, refl, sym, subst, inl, arith}
use mathlib.Core.Option.{some, some-ne-none, some-injective}
use lib.ListN.{get_elem?}
use Rattle.pass_book.specs.declared.view.Opened.{Opened}
use Rattle.pass_book.specs.declared.view.View.{View}
use Rattle.pass_book.specs.Names.{IsOne}
use Rattle.pass_book.specs.Views.{Fits, Kept, first_view}
use Rattle.pass_book.proofs.Prefixes.{prefix_none}

pub begins : (opened : Opened) → Kept opened (0 ∷ 0 ∷ []) (first_view opened ∷ [])
begins opened = (
  0,
  first_view opened,
  [],
  [],
  record {
    there = refl;
    is_book = refl;
    from = refl;
    legal = (λ i e at. absurd cc);
    fits = fit;
    once = only;
    folded = tt;
    desks = tt;
    words_are = refl;
    rising = tt;
    durable_within = omega arith;
    no_vault = (λ none. (refl, refl));
    lent_away = (λ a among. absurd among);
    home = (λ o none. refl);
    backed = (λ i e at. absurd cc);
    pool = refl;
  },
)
  where
    v0 : View
    v0 = first_view opened

    fit : (i : ℕ) (v : View) → get_elem? (first_view opened ∷ []) i ≡ some v → Fits (first_view opened) [] [] v
    fit zero v e = subst (Fits (first_view opened) [] []) (some-injective (first_view opened) v e) record {
      opened = (λ _. refl);
      begins = prefix_none [];
      told = prefix_none [];
      listed = prefix_none [];
      told_listed = prefix_none [];
      agrees = refl;
      complete = refl;
      away = (λ one. inl refl);
      free = (λ one among. among);
      vault = (λ e. absurd cc);
    }
    fit (suc i) v e = absurd (some-ne-none v (sym e))

    only : (i j : ℕ) (v w : View) → get_elem? (first_view opened ∷ []) i ≡ some v → get_elem? (first_view opened ∷ []) j ≡ some w → IsOne v.name.role → v.name ≡ w.name → i ≡ j
    only zero zero v w p q one names = refl
    only zero (suc j) v w p q one names = absurd (some-ne-none w (sym q))
    only (suc i) j v w p q one names = absurd (some-ne-none v (sym p))
