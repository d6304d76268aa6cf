-- What is written of what was judged.
use Rattle.std.proofs.Common.{◌≡◌, ◌∙◌, ◌⊎◌, List, ℕ, inl, inr, sym, ap}
use Rattle.std.specs.Prelude.{◌≢◌, Option, Some, None}
use Rattle.std.specs.Option.{option_map_or}
use Rattle.pass_entry.proofs.Lists.{some_is}
use Rattle.pass_status.specs.declared.status.Status.{Status}
use Rattle.pass_status.specs.declared.status.Status.TheVariants as status
use Rattle.pass_ask.specs.Answers.{text_with}
use Rattle.pass_old.specs.declared.status.OldStatus.{OldStatus}
use Rattle.pass_old.specs.declared.status.OldStatus.TheVariants as old_status
use Rattle.pass_old.specs.Answers.{same_of, old_text_with}
use Rattle.pass_old.specs.Statuses.{old_text}

pub inside : (a b : Status) → old_status.Same a ≡ old_status.Same b → a ≡ b
inside a b is = cc

pub same_is : (j : OldStatus) (s : Status) → same_of j ≡ Some s → j ≡ old_status.Same s
same_is (old_status.Same t) s is = ap (λ (x : Status). old_status.Same x) (some_is t s is)
same_is _ s is = absurd (cc)

pub own_text : (j : OldStatus) (text : List ℕ) → same_of j ≡ None → old_text_with j text ≡ old_text j
own_text j text is = ap (λ (o : Option Status). option_map_or (λ s. text_with s text) o (old_text j)) is

pub same_text : (j : OldStatus) (s : Status) (text : List ℕ) → same_of j ≡ Some s → old_text_with j text ≡ text_with s text
same_text j s text is = ap (λ (o : Option Status). option_map_or (λ s. text_with s text) o (old_text j)) is

pub not_same : (j : OldStatus) (s : Status) → same_of j ≡ None → j ≡ old_status.Same s → ⊥
not_same j s none is = let z : ◌≡◌ {A = Option Status} None (Some s) = sym none ∙ ap same_of is in cc

pub stands_same : (j : OldStatus) (r s : Status) → j ≡ old_status.Same s → (r ≡ s) ⊎ ((r ≡ status.WriteFault) ⊎ (r ≡ status.NoMemory))
    → (old_status.Same r ≡ j) ⊎ ((old_status.Same r ≡ old_status.Same status.WriteFault) ⊎ (old_status.Same r ≡ old_status.Same status.NoMemory))
stands_same j r s is (inl e) = inl (ap (λ (x : Status). old_status.Same x) e ∙ sym is)
stands_same j r s is (inr (inl e)) = inr (inl (ap (λ (x : Status). old_status.Same x) e))
stands_same j r s is (inr (inr e)) = inr (inr (ap (λ (x : Status). old_status.Same x) e))

-- an answer that isn't want of memory is what was judged, or a fault of the sink
pub stands_as : (answered judged : OldStatus) → answered ≢ old_status.Same status.NoMemory
    → (answered ≡ judged) ⊎ ((answered ≡ old_status.Same status.WriteFault) ⊎ (answered ≡ old_status.Same status.NoMemory)) → (answered ≡ judged) ⊎ (answered ≡ old_status.Same status.WriteFault)
stands_as answered judged known (inl e) = inl e
stands_as answered judged known (inr (inl e)) = inr e
stands_as answered judged known (inr (inr e)) = absurd (known e)

pub unlike_only : (answered judged : OldStatus) → answered ≡ old_status.Unlike → (answered ≡ judged) ⊎ ((answered ≡ old_status.Same status.WriteFault) ⊎ (answered ≡ old_status.Same status.NoMemory))
    → judged ≡ old_status.Unlike
unlike_only answered judged is (inl e) = sym e ∙ is
unlike_only answered judged is (inr (inl e)) = let z : old_status.Same status.WriteFault ≡ old_status.Unlike = sym e ∙ is in absurd (cc)
unlike_only answered judged is (inr (inr e)) = let z : old_status.Same status.NoMemory ≡ old_status.Unlike = sym e ∙ is in absurd (cc)
