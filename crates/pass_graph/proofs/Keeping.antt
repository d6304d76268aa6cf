-- Between two OUTs of one node its object takes nothing new.
use Rattle.std.proofs.Common.{ℕ, ◌≡◌, ◌≤◌, ◌<◌, suc, true, false, inl, inr, sym, arith}
use Rattle.std.proofs.lemmas.Bool.{cases_Bool}
use Rattle.pass_graph.specs.Lawful.{IsBetween}
use Rattle.pass_graph.proofs.Stories.{Story, IsStory, mono}
use Rattle.pass_entry.proofs.Lists.{le_or_above}

still : (s : Story) → IsStory s → (x p q i : ℕ) → q < s.size → s.is_out p ≡ true → s.what p ≡ x → s.version x p ≡ s.version x q → p < i → i < q → s.what i ≡ x → s.fresh i ≡ false
still s h x p q i lq out ep ev pi iq ei =
    elim (cases_Bool (s.fresh i)) [
      | inr f ↦ f
      | inl f ↦
          let li : i < s.size = omega arith in
          let m1 : s.version x p ≤ s.version x i = mono s h x p i (omega arith) (omega arith) in
          let m2 : s.version x i ≤ s.version x (suc i) = mono s h x i (suc i) (omega arith) li in
          let m3 : s.version x (suc i) ≤ s.version x q = mono s h x (suc i) q iq (omega arith) in
          let same : s.version x p ≡ s.version x i = omega arith in
          let fr : s.freezes i ≡ true = h.marks i p x li f ei pi out ep same in
          absurd (omega (arith, h.moves i x li ei fr))
    ]

-- whichever stands first
pub still_between : (s : Story) → IsStory s → (x p q i : ℕ) → p < s.size → q < s.size → s.is_out p ≡ true → s.is_out q ≡ true → s.what p ≡ x → s.what q ≡ x → s.version x p ≡ s.version x q → IsBetween p q i → s.what i ≡ x → s.fresh i ≡ false
still_between s h x p q i lp lq outp outq ep eq ev between ei =
    elim (le_or_above p q) [
      | inl le ↦ still s h x p q i lq outp ep ev (omega (arith, between.0)) (omega (arith, between.1)) ei
      | inr gt ↦ still s h x q p i lp outq eq (sym ev) (omega (arith, between.0)) (omega (arith, between.1)) ei
    ]
