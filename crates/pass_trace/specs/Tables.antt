-- What the table of a reader holds of the lines so far.
use Rattle.std.specs.Prelude.{◌≡◌, ℕ, suc, ◌≤◌, ◌<◌, ◌==◌, nat_lt, List, length, slice_index}
use Rattle.std.specs.List.{list_any}
use Rattle.pass_trace.specs.declared.trace.TraceLine.{TraceLine}
use Rattle.pass_trace.specs.declared.limits.Scale.TheVariants.{Long}
use Rattle.pass_trace.specs.Limits.{most_created, last_process}
use Rattle.pass_trace.specs.Rules.{forks, forks_as, count_created}

-- the parent of each process that a line forks, by the process's number, and 0 for each other
pub record IsTable (lines : List TraceLine) (parents : List ℕ) (created : ℕ) : Type 0 where
  pub size : length parents ≡ suc (last_process Long)
  pub count : created ≡ count_created lines
  pub most : created ≤ most_created Long
  pub forked : (child : ℕ) → child ≤ last_process Long → nat_lt 0 (slice_index parents child) ≡ list_any (forks child) lines
  pub by_parent : (parent child : ℕ) → 0 < parent → child ≤ last_process Long → (slice_index parents child == parent) ≡ list_any (forks_as parent child) lines
