-- Where the lines of each process stand.
use Rattle.std.specs.Prelude.{ℕ, ◌+◌, ◌≡◌, List, Option, Some, slice_get}
use Rattle.std.specs.Ordering.{nat_cmp}
use Rattle.std.specs.BTreeMap.{get}
use Rattle.pass_plain.specs.Traces.{Line}
use Rattle.pass_replay.specs.Lines.{IsNextLine}
use Rattle.pass_walk.specs.declared.places.Places.{Places}

-- the place after each line at which its process has its next one
abbrev pub NextPlace : List Line → List (Option ℕ) → ℕ → Line → Type 0
NextPlace trace nexts place l = (o : Option ℕ) × (slice_get nexts place ≡ Some o) × IsNextLine trace l.process (place + 1) o

-- each process has its first line there, and each line the next one of its process
pub record ArePlaces (trace : List Line) (places : Places) : Type 0 where
  pub first : (process : ℕ) → IsNextLine trace process 0 (get nat_cmp places.firsts process)
  pub next : (place : ℕ) (l : Line) → slice_get trace place ≡ Some l → NextPlace trace places.nexts.items place l
