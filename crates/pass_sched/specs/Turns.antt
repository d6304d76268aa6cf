-- What one turn of a task does.
use Rattle.std.specs.Prelude.{◌≡◌, ◌≢◌, ℕ, ◌+◌, ◌-◌, ◌^◌, ◌<◌, ◌↔◌, ◌⊎◌, List, [], Option, Some, All, sum_by}
use Rattle.pass_sched.specs.declared.task.Turn.{Turn}
use Rattle.pass_sched.specs.declared.task.Turn.TheVariants.{Moved, Waiting, Ended, Failed}

-- the count rose, or stands at the end of its type
abbrev pub Rises : ℕ → ℕ → Type 0
Rises old new = (old < new) ⊎ ((old ≡ 2 ^ 64 - 1) × (new ≡ 2 ^ 64 - 1))

module _ {X : Type 0} (order left turns : X → ℕ) (last : X → Option Turn) where
  -- what a turn takes off the steps that are left: its own, and those of each child that it bears
  abbrev pub spent : Turn → List X → ℕ
  spent Moved kids = 1 + sum_by left kids
  spent Waiting kids = 0
  spent Ended kids = 0
  spent Failed kids = 0

  -- one turn, which bears these children (this project's own rule)
  pub record IsTurn (before : X) (kids : List X) (answer : Turn) (after : X) : Type 0 where
    pub same_order : order after ≡ order before
    pub rises : Rises (turns before) (turns after)
    pub is_last : last after ≡ Some answer
    pub falls : left after + spent answer kids ≡ left before
    pub born_by_moves : answer ≢ Moved → kids ≡ []
    pub kids_live : All (λ kid. 0 < left kid) kids
    pub ends : (answer ≡ Ended) ↔ (left before ≡ 0)
