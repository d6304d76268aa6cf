-- How leaves are gathered, and written in batches (this project's own rule).
use Rattle.std.specs.Prelude.{ℕ, ◌+◌, List, [], ◌∷◌, ◌++◌, length, nat_lt, nat_le, if◌then◌else◌}
use Rattle.pass_leaf.specs.Leaves.{Leaf, leaf_bytes}
use Rattle.pass_leaf.specs.Contents.{last_content}
use Rattle.pass_leaf.specs.Keeping.{leaf_from, FileVersion, is_above}

-- how many bytes the frames of leaves have
abbrev pub frames_size : List Leaf → ℕ
frames_size [] = 0
frames_size (leaf ∷ leaves) = 5 + length (leaf_bytes leaf) + frames_size leaves

-- once the frames of gathered leaves have so many bytes they are written: 16 MiB
abbrev pub batch_size : ℕ
batch_size = 16777216

-- leaves that are kept one after the other: those that are written, those that are gathered behind them, and how many batches were written
pub record Gathering : Type 0 where
  pub written : List Leaf
  pub gathered : List Leaf
  pub batches : ℕ

abbrev pub all_of : Gathering → List Leaf
all_of g = g.written ++ g.gathered

-- with one batch more, of all that is gathered
abbrev pub with_batch : Gathering → Gathering
with_batch g = record { written = all_of g; gathered = []; batches = g.batches + 1 }

-- with all that is gathered written
abbrev pub settled : Gathering → Gathering
settled g = if nat_lt 0 (length g.gathered) then with_batch g else g

-- with one leaf more gathered
abbrev pub with_gathered : Gathering → Leaf → Gathering
with_gathered g leaf = record { written = g.written; gathered = g.gathered ++ leaf ∷ []; batches = g.batches }

-- with one leaf more, by which a batch may be full
abbrev pub with_leaf : Gathering → Leaf → Gathering
with_leaf g leaf = if nat_le batch_size (frames_size (g.gathered ++ leaf ∷ [])) then with_batch (with_gathered g leaf) else with_gathered g leaf

-- one version more is kept where it is above its file's last leaf
abbrev pub with_version : Gathering → FileVersion → Gathering
with_version g v = if is_above (all_of g) v.node then with_leaf g (leaf_from (last_content (all_of g) v.node.pnode) v.node v.bytes) else g
