-- What stays of a file at an act that changes no content.
use Rattle.std.proofs.Common.{◌≡◌, ℕ, ◌*◌, List, length, refl, ap, sym, ◌∙◌, Bool, true, false, ◌&&◌}
use Rattle.std.specs.Prelude.{nat_le, if◌then◌else◌}
use Rattle.pass_entry.specs.declared.entry.Act.{Act}
use Rattle.pass_entry.specs.declared.entry.Act.TheVariants as act
use Rattle.pass_plain.specs.Files.{file_act}
use Rattle.pass_plain.specs.Records.{block_size, row_act}
use Rattle.pass_plain.specs.Recording.{block_count, flags, is_change}
use Rattle.pass_plain.proofs.KeptFiles.{quiet_row}
pub use Rattle.pass_plain.proofs.KeptFiles.{quiet_bytes}
use Rattle.pass_range.proofs.Dirtying.{quiet_act}
use Rattle.pass_flow.specs.Flows.{is_flow_act}
use Rattle.pass_file.specs.FileViews.{dirty_by, end_of}

pub quiet_dirty : (old : List ℕ) (had : Bool) (a : Act) (block : ℕ) (was : Bool) → is_change a ≡ false → dirty_by (length old) (length (file_act old a)) had a block was ≡ was
unfolding dirty_by
quiet_dirty old had a block was is =
    ap (λ (b : Bool). if b then true else if is_change a && nat_le (length (file_act old a)) (block * block_size) then false else was) (quiet_act had true old block a is)
    ∙ ap (λ (b : Bool). if b && nat_le (length (file_act old a)) (block * block_size) then false else was) is

pub quiet_rows : (rows : List Bool) (had : ℕ → Bool) (a : Act) → is_change a ≡ false → rows ≡ flags had block_count → rows ≡ flags (λ block. row_act block (had block) a) block_count
quiet_rows rows had a is same = same ∙ ap (λ (had : ℕ → Bool). flags had block_count) (λ i block. sym (quiet_row a block (had block) is) i)

pub quiet_dirties : (dirty : List Bool) (old : List ℕ) (had was : ℕ → Bool) (a : Act) → is_change a ≡ false → dirty ≡ flags was block_count
    → dirty ≡ flags (λ block. dirty_by (length old) (length (file_act old a)) (had block) a block (was block)) block_count
quiet_dirties dirty old had was a is same = same ∙ ap (λ (was : ℕ → Bool). flags was block_count) (λ i block. sym (quiet_dirty old (had block) a block (was block) is) i)

-- an act that all kinds of objects have

pub flow_end : (a : Act) → is_flow_act a ≡ true → end_of a ≡ 0
flow_end (act.Put out at bytes) is = absurd (cc)
flow_end (act.Cut out size) is = absurd (cc)
flow_end _ is = refl
