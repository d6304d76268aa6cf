-- Paths along edges of any kind, with one more edge.
use Rattle.std.proofs.Common.{◌≡◌, ◌⊎◌, inl, inr, sym, subst}
use Rattle.std.specs.Prelude.{◌↔◌}
use Rattle.pass_entry.specs.declared.objects.Node.{Node}

abbrev pub Edges : Type 1
Edges = Node → Node → Type 0

pub data Path (E : Edges) : Node → Node → Type 0 where
  edge : {a b : Node} → E a b → Path E a b
  step : {a b c : Node} → E a b → Path E b c → Path E a c

pub wider : (E F : Edges) → ((a b : Node) → E a b → F a b) → {a b : Node} → Path E a b → Path F a b
wider E F grows {a} {b} (edge e) = edge (grows a b e)
wider E F grows {a} (step {b = m} e p) = step (grows a m e) (wider E F grows p)

-- a path goes over one edge first
first_edge : (E : Edges) (P : Type 0) (a : Node) → ((b : Node) → E a b → P) → {c : Node} → Path E a c → P
first_edge E P a from {c} (edge e) = from c e
first_edge E P a from (step {b = m} e p) = from m e

-- one more edge, from t to s
pub record IsWith (E F : Edges) (t s : Node) : Type 0 where
  pub old : (a b : Node) → E a b → F a b
  pub new : F t s
  pub more : (a b : Node) → F a b → E a b ⊎ ((a ≡ t) × (b ≡ s))

module _ (E F : Edges) (t s : Node) (w : IsWith E F t s) where
  -- where no edge leads to t, a path begins with the new edge or hasn't it
  abbrev pub On : Node → Node → Type 0
  On n f = Path E n f ⊎ ((n ≡ t) × ((s ≡ f) ⊎ Path E s f))

  on_edge : {n f : Node} → E n f ⊎ ((n ≡ t) × (f ≡ s)) → On n f
  on_edge (inl old) = inl (edge old)
  on_edge (inr (is, end)) = inr (is, inl (sym end))

  on_first : {n m f : Node} → Path E m f → E n m ⊎ ((n ≡ t) × (m ≡ s)) → On n f
  on_first rest (inl old) = inl (step old rest)
  on_first {f = f} rest (inr (is, next)) = inr (is, inr (subst (λ x. Path E x f) next rest))

  on_step : ((a : Node) → F a t → ⊥) → {n m f : Node} → F n m → On m f → On n f
  on_step none {n} {m} e (inl rest) = on_first rest (w.more n m e)
  on_step none {n} e (inr (is, later)) = absurd (none n (subst (F n) is e))

  on_new : ((a : Node) → F a t → ⊥) → {n f : Node} → Path F n f → On n f
  on_new none {n} {f} (edge e) = on_edge (w.more n f e)
  on_new none (step e p) = on_step none e (on_new none p)

  on_old : {n f : Node} → On n f → Path F n f
  on_old (inl p) = wider E F w.old p
  on_old {n} {f} (inr (is, inl end)) = edge (subst (λ x. F x f) (sym is) (subst (F t) end w.new))
  on_old {n} {f} (inr (is, inr p)) = subst (λ x. Path F x f) (sym is) (step w.new (wider E F w.old p))

  pub on : ((a : Node) → F a t → ⊥) → (n f : Node) → Path F n f ↔ On n f
  on none n f = (on_new none, on_old)

  -- where no edge leaves s, a path ends with the new edge or hasn't it
  abbrev pub Back : Node → Node → Type 0
  Back f n = Path E f n ⊎ ((n ≡ s) × ((t ≡ f) ⊎ Path E f t))

  back_edge : {f n : Node} → E f n ⊎ ((f ≡ t) × (n ≡ s)) → Back f n
  back_edge (inl old) = inl (edge old)
  back_edge (inr (is, end)) = inr (end, inl (sym is))

  back_first : {f m n : Node} → E f m → Back m n → Back f n
  back_first old (inl rest) = inl (step old rest)
  back_first {f} old (inr (is, inl end)) = inr (is, inr (edge (subst (E f) (sym end) old)))
  back_first old (inr (is, inr rest)) = inr (is, inr (step old rest))

  back_step : ((b : Node) → F s b → ⊥) → {f m n : Node} → Path F m n → Back m n → E f m ⊎ ((f ≡ t) × (m ≡ s)) → Back f n
  back_step none p later (inl old) = back_first old later
  back_step none {n = n} p later (inr (is, next)) = absurd (first_edge F ⊥ s none (subst (λ x. Path F x n) next p))

  back_new : ((b : Node) → F s b → ⊥) → {f n : Node} → Path F f n → Back f n
  back_new none {f} {n} (edge e) = back_edge (w.more f n e)
  back_new none {f} (step {b = m} e p) = back_step none p (back_new none p) (w.more f m e)

  lengthen : {a b c : Node} → Path F a b → F b c → Path F a c
  lengthen (edge e) last = step e (edge last)
  lengthen (step e p) last = step e (lengthen p last)

  back_old : {f n : Node} → Back f n → Path F f n
  back_old (inl p) = wider E F w.old p
  back_old {f} {n} (inr (is, inl end)) = edge (subst (λ x. F x n) end (subst (F t) (sym is) w.new))
  back_old {f} {n} (inr (is, inr p)) = subst (Path F f) (sym is) (lengthen (wider E F w.old p) w.new)

  pub back : ((b : Node) → F s b → ⊥) → (f n : Node) → Path F f n ↔ Back f n
  back none f n = (back_new none, back_old)
