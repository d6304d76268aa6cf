-- The table by which the lines of a text are walked: of each thread the last line that leaves a call open. Threads are told apart by a
-- number that is made of their bytes.
use Rattle.std.specs.Prelude.{ℕ, ◌≡◌, ◌+◌, ◌*◌, ◌%◌, ◌^◌, ◌<◌, true, List, Some}
use Rattle.std.specs.BTreeMap.{BTreeMap, get}
use Rattle.std.specs.List.{fold}
use Rattle.std.specs.Ordering.{nat_cmp}
use Rattle.pass_strace.specs.Calls.{is_left_open, line_at, process_of, said_of}

abbrev pub key_of : List ℕ → ℕ
key_of process = fold (λ key b. ((key * 256) % 2 ^ 64 + b) % 2 ^ 64) 0 process

pub record IsLastByKey (lines : List (List ℕ)) (key k j : ℕ) : Type 0 where
  pub earlier : j < k
  pub opens : is_left_open (said_of (line_at lines j)) ≡ true
  pub last : (m : ℕ) → j < m → m < k → is_left_open (said_of (line_at lines m)) ≡ true → key_of (process_of (line_at lines m)) ≡ key → ⊥

abbrev pub AreLast : List (List ℕ) → BTreeMap ℕ ℕ → ℕ → Type 0
AreLast lines table k = (key j : ℕ) → get nat_cmp table key ≡ Some j → IsLastByKey lines key k j
