-- The script of a form in memory: which of its calls fail (this project's own rule).
use Rattle.std.specs.Prelude.{◌≡◌, ◌⊎◌, ℕ, zero, suc, ◌+◌, ◌<◌, Bool, true, false, ◌||◌, ◌==◌, nat_lt, if◌then◌else◌, List, Option, Some, None, Result, IsOk, IsErr}
use Rattle.std.specs.List.{list_any}
use Rattle.pass_outside.specs.Faults.{count_end}

-- a call is listed by its number, from 1
abbrev pub listed : List ℕ → ℕ → Bool
listed fail number = list_any (λ n. n == number) fail

-- a call comes after the last one before the stop
abbrev pub stopped : Option ℕ → ℕ → Bool
stopped None number = false
stopped (Some last) number = nat_lt last number

-- a call is to fail: it is listed, or it comes after the stop
abbrev pub is_due : List ℕ → Option ℕ → ℕ → Bool
is_due fail stop number = stopped stop number || listed fail number

-- how many of the first calls were to fail
abbrev pub due_among : List ℕ → Option ℕ → ℕ → ℕ
due_among fail stop zero = 0
due_among fail stop (suc n) = due_among fail stop n + (if is_due fail stop (suc n) then 1 else 0)

-- What a form in memory goes by: the list, the stop, the number of calls so far, of faults, and of calls that found no memory.
pub record Script : Type 0 where
  pub fail : List ℕ
  pub stop : Option ℕ
  pub calls : ℕ
  pub faults : ℕ
  pub starved : ℕ

-- a count stands at its end
abbrev pub IsOver : Script → Type 0
IsOver s = (s.calls ≡ count_end) ⊎ (s.faults ≡ count_end)

-- One call that is counted: it fails exactly where it is to fail or finds no memory.
pub record GoesOn {T E : Type 0} (old new : Script) (result : Result T E) : Type 0 where
  pub fail : new.fail ≡ old.fail
  pub stop : new.stop ≡ old.stop
  pub calls : new.calls ≡ old.calls + 1
  pub ok : IsOk result → (is_due old.fail old.stop (old.calls + 1) ≡ false) × (new.starved ≡ old.starved)
  pub err : IsErr result → (is_due old.fail old.stop (old.calls + 1) ≡ true) × (new.starved ≡ old.starved) ⊎ (is_due old.fail old.stop (old.calls + 1) ≡ false) × (new.starved ≡ old.starved + 1)

-- the faults are the calls that were to fail and those that found no memory
abbrev pub IsCounted : Script → Type 0
IsCounted s = s.faults ≡ due_among s.fail s.stop s.calls + s.starved

-- a call is counted and goes on
pub record HasBegun (old new : Script) : Type 0 where
  pub goes : IsOver old → ⊥
  pub room : old.faults < count_end
  pub fine : is_due old.fail old.stop (old.calls + 1) ≡ false
  pub counted : new ≡ record old { calls = old.calls + 1 }

-- a call is refused: a count stands at its end, or it is to fail
abbrev pub IsRefused : Script → Script → Type 0
IsRefused old new =
    (IsOver old × (new ≡ old)) ⊎ ((IsOver old → ⊥) × (is_due old.fail old.stop (old.calls + 1) ≡ true) × (new ≡ record old { calls = old.calls + 1; faults = old.faults + 1 }))
