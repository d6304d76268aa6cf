-- Tasks whose processes come to one history. This project's own rule.
use Rattle.std.specs.Prelude.{◌≡◌, ◌≢◌, ◌≤◌, true, false, List, [], ◌∷◌, None, All, Contains, length}
use Rattle.pass_turns.specs.Turners.{Turned, TurnerState}

-- a task whose process has seen more, and made no more
pub record IsLater (old new : TurnerState) : Type 0 where
  pub turned : Turned old [] new
  pub ended : new.ended ≡ old.ended
  pub left : new.left ≡ old.left
  pub cause : new.cause ≡ old.cause

-- each task is later than the one at its place
abbrev pub AreLater : List TurnerState → List TurnerState → Type 0
AreLater [] [] = Unit {0}
AreLater (t ∷ ts) (u ∷ us) = IsLater t u × AreLater ts us
AreLater _ _ = ⊥

-- a task that has turns left, and was not left
abbrev pub GoesOn : TurnerState → Type 0
GoesOn t = (t.left ≢ 0) × (t.cause ≡ None)

-- one of them lives, and has seen as much as each that has ended
pub record HasMetEnded (tasks : List TurnerState) : Type 0 where
  pub one : TurnerState
  pub among : Contains tasks one
  pub living : one.ended ≡ false
  pub met : All (λ t. t.ended ≡ true → length t.seen ≤ length one.seen) tasks
