-- A key tells its store and its node.
use Rattle.std.proofs.Common.{ℕ, ◌≡◌, ◌==◌, ◌≤◌, ◌<◌, ◌^◌, true, false, refl, sym, ap, ◌∙◌, arith, List, [], ◌∷◌, ◌++◌, drop, get_or, append_assoc}
use Rattle.std.specs.Prelude.{◌||◌, codes, decimal}
use Rattle.std.specs.List.{list_any}
use Rattle.std.specs.Str.Parse.{AllDigits}
use Rattle.std.proofs.lemmas.Bool.{eq-eqb, ne_eqb}
use Rattle.std.proofs.lemmas.Fmt.{decimal_injective, decimal_is_IsNumeral}
use Rattle.std.proofs.lemmas.Str.Parse.{digit_from_value}
use Rattle.pass_entry.specs.Words.{node_text}
use Rattle.pass_entry.specs.declared.objects.Node.{Node}
use Rattle.pass_plain.proofs.Lists.{or_true}
use Rattle.pass_view.specs.Laws.{AreApart, IsNarrow}
use Rattle.pass_view.proofs.Readings.{left_false, right_false}

-- A text is taken apart at its last mark.
module _ (mark : ℕ) where
  abbrev Lacks : List ℕ → Type 0
  Lacks text = list_any (λ b. b == mark) text ≡ false

  has : (t u : List ℕ) → list_any (λ b. b == mark) (t ++ (mark ∷ u)) ≡ true
  has [] u = ap (λ b. b || list_any (λ c. c == mark) u) (eq-eqb mark mark refl)
  has (b ∷ t) u = ap (λ x. (b == mark) || x) (has t u) ∙ or_true (b == mark)

  pub parted : (s t u v : List ℕ) → Lacks u → Lacks v → s ++ (mark ∷ u) ≡ t ++ (mark ∷ v) → (s ≡ t) × (u ≡ v)
  parted [] [] u v none other e = (refl, ap (drop 1) e)
  parted [] (b ∷ t) u v none other e = absurd (let z : false ≡ true = sym none ∙ ap (λ xs. list_any (λ c. c == mark) (drop 1 xs)) e ∙ has t v in cc)
  parted (b ∷ s) [] u v none other e = absurd (let z : false ≡ true = sym other ∙ ap (λ xs. list_any (λ c. c == mark) (drop 1 xs)) (sym e) ∙ has s u in cc)
  parted (b ∷ s) (c ∷ t) u v none other e =
      let rest = parted s t u v none other (ap (drop 1) e) in
      (λ i. ap (λ xs. get_or xs 0 0) e i ∷ rest.0 i, rest.1)

  -- no digit is a mark
  pub digits_lack : (far : (c : ℕ) → 48 ≤ c → c ≤ 57 → c ≡ mark → ⊥) (ds : List ℕ) → AllDigits 10 ds → Lacks ds
  digits_lack far [] all = refl
  digits_lack far (c ∷ cs) all =
      let in_range = digit_from_value c all.0 in
      ap (λ b. b || list_any (λ d. d == mark) cs) (ne_eqb c mark (far c (omega (arith, in_range)) (omega (arith, in_range)))) ∙ digits_lack far cs all.1

dot_far : (c : ℕ) → 48 ≤ c → c ≤ 57 → c ≡ 46 → ⊥
dot_far c low high is = omega (arith, low, is)

colon_far : (c : ℕ) → 48 ≤ c → c ≤ 57 → c ≡ 58 → ⊥
colon_far c low high is = omega (arith, high, is)

digits : (n : ℕ) → n < 2 ^ 64 → AllDigits 10 (decimal n)
digits n h = (decimal_is_IsNumeral n h).0.1

-- a text with another one behind it lacks what both lack
lack_both : (mark : ℕ) (xs ys : List ℕ) → Lacks mark xs → Lacks mark ys → Lacks mark (xs ++ ys)
lack_both mark [] ys none other = other
lack_both mark (b ∷ xs) ys none other =
    ap (λ x. x || list_any (λ c. c == mark) (xs ++ ys)) (left_false (b == mark) (list_any (λ c. c == mark) xs) none)
    ∙ lack_both mark xs ys (right_false (b == mark) (list_any (λ c. c == mark) xs) none) other

no_colon : (a : Node) → IsNarrow a → Lacks 58 (node_text a)
no_colon a narrow =
    lack_both 58 (decimal a.pnode ++ codes ".") (decimal a.version)
    (lack_both 58 (decimal a.pnode) (codes ".") (digits_lack 58 colon_far (decimal a.pnode) (digits a.pnode narrow.pnode)) refl)
    (digits_lack 58 colon_far (decimal a.version) (digits a.version narrow.version))

same_text : (a b : Node) → IsNarrow a → IsNarrow b → node_text a ≡ node_text b → a ≡ b
same_text a b x y e =
    let both = parted 46 (decimal a.pnode) (decimal b.pnode) (decimal a.version) (decimal b.version)
    (digits_lack 46 dot_far (decimal a.version) (digits a.version x.version)) (digits_lack 46 dot_far (decimal b.version) (digits b.version y.version))
    (sym (append_assoc (decimal a.pnode) (46 ∷ []) (decimal a.version)) ∙ e ∙ append_assoc (decimal b.pnode) (46 ∷ []) (decimal b.version)) in
    let pnode = decimal_injective a.pnode b.pnode x.pnode y.pnode both.0 in
    let version = decimal_injective a.version b.version x.version y.version both.1 in
    λ i. record { pnode = pnode i; version = version i }

pub apart : AreApart
apart s t a b x y e =
    let both = parted 58 s t (node_text a) (node_text b) (no_colon a x) (no_colon b y) e in
    (both.0, same_text a b x y both.1)
