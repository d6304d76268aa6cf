-- Of which blocks an act on a file gives digests.
use Rattle.std.specs.Prelude.{◌≡◌, ℕ, ◌+◌, ◌-◌, ◌*◌, ◌<◌, ◌≤◌, ◌==◌, ◌&&◌, ◌||◌, Bool, true, false, nat_le, nat_lt, List, [], ◌∷◌, ◌++◌, length, map, Option, None, IfSome}
use Rattle.std.specs.Option.{option_map_or}
use Rattle.std.specs.List.{range_with_len}
use Rattle.pass_entry.specs.Limits.{block_size, block_count, file_limit}
use Rattle.pass_entry.specs.declared.entry.Act.{Act}
use Rattle.pass_entry.specs.declared.record.Record.{Record}
use Rattle.pass_plain.specs.Files.{file_act}
use Rattle.pass_plain.specs.Records.{is_written, digest_of}
use Rattle.pass_plain.specs.Recording.{is_digested_by}
use Rattle.pass_file.specs.BlockSets.{is_among}
use Rattle.pass_file.specs.FileViews.{end_of}
use Rattle.pass_file.specs.declared.touched.Touched.{Touched}

abbrev pub is_at : Option ℕ → ℕ → Bool
is_at edge block = option_map_or (λ e. e == block) edge false

abbrev pub is_within : ℕ → ℕ → ℕ → Bool
is_within first end_ block = nat_le first block && nat_lt block end_

abbrev pub is_touched : Touched → ℕ → Bool
is_touched t block = is_at t.edge block || is_within t.first t.end block

-- no block at all, of a file of this size
abbrev pub nothing_at : ℕ → Touched
nothing_at size = record { edge = None; first = block_count; end = block_count; size = size }

-- what an act touches of a file with this content and with digests of these blocks
pub record IsTouchOf (content rows : List ℕ) (a : Act) (t : Touched) : Type 0 where
  pub sized : t.size ≡ length (file_act content a)
  pub limit : t.size ≤ file_limit
  pub written : (block : ℕ) → is_written a block ≡ is_within t.first t.end block
  pub digested : (block : ℕ) → is_digested_by (length content) t.size (is_among rows block) a block ≡ is_touched t block
  pub inside : (block : ℕ) → is_touched t block ≡ true → block * block_size < t.size
  pub few : t.end ≤ t.first + 2
  pub order : t.first ≤ t.end
  pub most : t.end ≤ block_count
  pub ordered : IfSome t.edge (λ e. e < t.first)
  -- an act that reaches nowhere touches nothing
  pub still : end_of a ≡ 0 → (t.edge ≡ None) × (t.end ≡ t.first)

-- the digests of what is touched, in ascending order
abbrev pub digests_at : ℕ → List ℕ → Touched → List Record
digests_at file content t = option_map_or (λ e. digest_of file content e ∷ []) t.edge [] ++ map (digest_of file content) (range_with_len t.first (t.end - t.first))
