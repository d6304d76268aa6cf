-- What is written of what was judged.
use Rattle.std.proofs.Common.{◌≡◌, ℕ, List, refl, ◌⊎◌, inl, inr, Bool, true, false, cond}
use Rattle.std.specs.Prelude.{◌≢◌, IsTrue}
use Rattle.pass_status.specs.declared.status.Status.{Status}
use Rattle.pass_status.specs.declared.status.Status.TheVariants as status
use Rattle.pass_status.specs.Statuses.{status_text}
use Rattle.pass_ask.specs.Answers.{is_reported, text_with}

-- an answer that isn't want of memory is what was judged, or a fault of the sink
pub stands_as : (answered judged : Status) → answered ≢ status.NoMemory → (answered ≡ judged) ⊎ ((answered ≡ status.WriteFault) ⊎ (answered ≡ status.NoMemory))
    → (answered ≡ judged) ⊎ (answered ≡ status.WriteFault)
stands_as answered judged known (inl same) = inl same
stands_as answered judged known (inr (inl fault)) = inr fault
stands_as answered judged known (inr (inr starved)) = absurd (known starved)

-- but for Done no other status than one with a report has another text than its own
pub refusal_text : (s : Status) (report : List ℕ) → s ≢ status.Done → (IsTrue (is_reported s) → s ≡ status.Done) → text_with s report ≡ status_text s
refusal_text s report other only = by (is_reported s) (status_text s) (λ reported. other (only reported))
  where
    by : (reported : Bool) (own : List ℕ) → (IsTrue reported → ⊥) → cond reported report own ≡ own
    by true own none = absurd (none refl)
    by false own none = refl
