-- A text is one of a trace, or has one first fault.
use Rattle.std.proofs.Common.{◌≡◌, ℕ, zero, suc, ◌+◌, ◌-◌, ◌<◌, List, length, Option, Some, None, refl, sym, ap, ◌∙◌, inl, inr, ◌⊎◌, arith}
use Rattle.std.proofs.lemmas.Bool.{cases_order, cases_eq}
use Rattle.pass_trace.specs.declared.trace.TraceReason.{TraceReason}
use Rattle.pass_trace.specs.declared.limits.Scale.{Scale}
use Rattle.pass_trace.specs.Lines.{lines_of}
use Rattle.pass_trace.specs.Traces.{fault_at, IsTraceText, IsFirstFault}

module _ (scale : Scale) where
  pub not_text-from_fault : (bytes : List ℕ) (line : ℕ) (reason : TraceReason) → IsFirstFault scale bytes line reason → IsTraceText scale bytes → ⊥
  not_text-from_fault bytes line reason f text =
      let none = text (line - 1) (omega (arith, f.number, f.there)) in
      cc (sym none ∙ f.fault)

  -- a fault that is first stands before no other first fault
  not_later : (bytes : List ℕ) (line other : ℕ) (reason another : TraceReason) → IsFirstFault scale bytes line reason → IsFirstFault scale bytes other another → line < other → ⊥
  not_later bytes line other reason another f g before =
      let none = g.first (line - 1) (omega (arith, f.number, before)) in
      cc (sym none ∙ f.fault)

  pub same_fault : (bytes : List ℕ) (line other : ℕ) (reason another : TraceReason) → IsFirstFault scale bytes line reason → IsFirstFault scale bytes other another → (line ≡ other) × (reason ≡ another)
  same_fault bytes line other reason another f g =
      elim (cases_order line other) [
        | inl same ↦
            let there = ap (λ n. fault_at scale (lines_of bytes) (n - 1)) same in
            let both = sym f.fault ∙ there ∙ g.fault in
            let reasons : reason ≡ another = cc in
            (same, reasons)
        | inr apart ↦ elim apart [
          | inl before ↦ absurd (not_later bytes line other reason another f g before)
          | inr behind ↦ absurd (not_later bytes other line another reason g f behind)
        ]
      ]

  abbrev None_below : List (List ℕ) → ℕ → Type 0
  None_below texts n = (k : ℕ) → k < n → fault_at scale texts k ≡ None

  abbrev Some_below : List (List ℕ) → ℕ → Type 0
  Some_below texts n = (k : ℕ) × (reason : TraceReason) × (k < n) × (fault_at scale texts k ≡ Some reason) × None_below texts k

  None_below-more : (texts : List (List ℕ)) (n : ℕ) → None_below texts n → fault_at scale texts n ≡ None → None_below texts (suc n)
  None_below-more texts n none here k h =
      elim (cases_eq k n) [
        | inl same ↦ ap (fault_at scale texts) same ∙ here
        | inr other ↦ none k (omega (arith, h, other))
      ]

  least_at : (texts : List (List ℕ)) (n : ℕ) (found : Option TraceReason) → fault_at scale texts n ≡ found → None_below texts n → None_below texts (suc n) ⊎ Some_below texts (suc n)
  least_at texts n None here none = inl (None_below-more texts n none here)
  least_at texts n (Some reason) here none = inr (n, reason, omega arith, here, none)

  least : (texts : List (List ℕ)) (n : ℕ) → None_below texts n ⊎ Some_below texts n
  least texts zero = inl (λ k h. absurd (omega (arith, h)))
  least texts (suc n) =
      elim (least texts n) [
        | inl none ↦ least_at texts n (fault_at scale texts n) refl none
        | inr some ↦ inr (some.0, some.1, omega (arith, some.2), some.3, some.4)
      ]

  pub text_or_fault : (bytes : List ℕ) → IsTraceText scale bytes ⊎ ((line : ℕ) × (reason : TraceReason) × IsFirstFault scale bytes line reason)
  text_or_fault bytes =
      let texts = lines_of bytes in
      elim (least texts (length texts)) [
        | inl none ↦ inl none
        | inr some ↦
            let before : (some.0 + 1) - 1 ≡ some.0 = omega arith in
            inr (
              some.0 + 1,
              some.1,
              record {
                number = omega arith;
                there = omega (arith, some.2);
                fault = ap (fault_at scale texts) before ∙ some.3;
                first = λ k h. some.4 k (omega (arith, h));
              },
            )
      ]
