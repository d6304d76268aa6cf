-- What the records behind a place of a list say of its rows.
use Rattle.std.specs.Prelude.{ℕ, ◌*◌, Bool, false, nat_le, if◌then◌else◌}
use Rattle.std.specs.Option.{option_map_or}
use Rattle.std.specs.declared.cmp.Ordering.{Ordering}
use Rattle.std.specs.Ordering.{nat_cmp, ordering_then}
use Rattle.std.specs.BTreeMap.{get}
use Rattle.pass_plain.specs.Records.{block_size}
use Rattle.pass_range.specs.declared.range.Range.{Range}
use Rattle.pass_range.specs.declared.later.Later.{Later}
use Rattle.pass_range.specs.Sources.{Touch, stays, sets, goes}
use Rattle.pass_range.specs.Tables.{range_at}

-- by file, and by block in a file
abbrev pub range_cmp : Range → Range → Ordering
range_cmp a b = ordering_then (nat_cmp a.pnode b.pnode) (nat_cmp a.block b.block)

-- they give the file a size of at most this one
abbrev pub has_size : Later → ℕ → ℕ → Bool
has_size later pnode size = option_map_or (λ least. nat_le least size) (get nat_cmp later.least pnode) false

-- what they do to the row of a block
abbrev pub touch_in : Later → ℕ → ℕ → Touch
touch_in later pnode block =
    option_map_or sets (get range_cmp later.rows (range_at pnode block)) (if has_size later pnode (block * block_size) then goes else stays)
