-- The blocks of a content over which a leaf is laid.
use Rattle.std.proofs.Common.{◌≡◌, ◌∙◌, ℕ, ◌+◌, ◌-◌, ◌*◌, ◌<◌, ◌≤◌, ◌==◌, min, true, false, List, [], ◌∷◌, length, inl, inr, refl, sym, ap, arith}
use Rattle.std.specs.Prelude.{◌≢◌, fold}
use Rattle.std.specs.List.{list_any}
use Rattle.std.proofs.lemmas.Bool.{cases_lt}
use Rattle.std.proofs.lemmas.List.{get_or_past, ext_get_or}
use Rattle.pass_entry.specs.Limits.{block_size}
use Rattle.pass_entry.proofs.Lists.{alike, or_false}
use Rattle.pass_plain.specs.Files.{resized}
use Rattle.pass_leaf.specs.declared.leaf.LeafBlock.{LeafBlock}
use Rattle.pass_leaf.specs.Leaves.{Leaf, IsFormed, AreBlocks}
use Rattle.pass_leaf.specs.Contents.{with_block, laid}
use Rattle.pass_leaf.specs.Keeping.{part}
use Rattle.pass_leaf.proofs.Blocks.{part_short}
use Rattle.pass_leaf.proofs.Laying.{byte, byte_part, byte_before, byte_behind, byte_resized, length-part, length-resized, length-with_block}
use Rattle.pass_audit.specs.Courses.{ReachOver, has_block}

same_part : (x y : List ℕ) (block : ℕ) → min block_size (length x - block * block_size) ≡ min block_size (length y - block * block_size)
    → ((i : ℕ) → block * block_size ≤ i → i < block * block_size + block_size → byte x i ≡ byte y i) → part x block ≡ part y block
same_part x y block long same =
    ext_get_or 0 (part x block) (part y block) (length-part x block ∙ long ∙ sym (length-part y block))
    (λ i lt.
    let small : i < block_size = omega (arith, lt, length-part x block) in
    byte_part x block i small ∙ same (block * block_size + i) (omega arith) (omega (arith, small)) ∙ sym (byte_part y block i small))

part_put : (content : List ℕ) (b : LeafBlock) (block : ℕ) → b.number * block_size + length b.bytes ≤ length content → length b.bytes ≤ block_size → b.number ≢ block → part (with_block content b) block ≡ part content block
part_put content b block within short other =
    same_part (with_block content b) content block (ap (λ (n : ℕ). min block_size (n - block * block_size)) (length-with_block content b within)) (λ i above below. elim (cases_lt b.number block) [
      | inl before ↦ byte_behind content b i within (omega (arith, above, before, short))
      | inr behind ↦ byte_before content b i within (omega (arith, below, behind, other))
    ])

parts_put : (size from : ℕ) (blocks : List LeafBlock) (content : List ℕ) (block : ℕ) → AreBlocks size from blocks → length content ≡ size → list_any (λ b. b.number == block) blocks ≡ false → part (fold with_block content blocks) block ≡ part content block
parts_put size from [] content block are long none = refl
parts_put size from (b ∷ blocks) content block are long none =
    let rest = or_false (b.number == block) (list_any (λ b. b.number == block) blocks) none in
    let within : b.number * block_size + length b.bytes ≤ length content = omega (arith, are.0.long, are.0.within, long) in
    let other : b.number ≢ block = λ same. let z : true ≡ false = sym (alike b.number block same) ∙ rest.0 in absurd (cc z) in
    parts_put size (b.number + 1) blocks (with_block content b) block are.1 (length-with_block content b within ∙ long) rest.1 ∙ part_put content b block within (omega (arith, are.0.long, part_short size b.number)) other

part_resized : (content : List ℕ) (size block : ℕ) → ReachOver (length content) size block → part (resized content size) block ≡ part content block
part_resized content size block (inl same) =
    same_part (resized content size) content block (ap (λ (n : ℕ). min block_size (n - block * block_size)) (length-resized content size ∙ sym same)) (λ i above below. elim (cases_lt i size) [
      | inl before ↦ byte_resized content size i before
      | inr past ↦ get_or_past (resized content size) i 0 (omega (arith, past, length-resized content size)) ∙ sym (get_or_past content i 0 (omega (arith, past, same)))
    ])
part_resized content size block (inr both) =
    same_part (resized content size) content block (omega (arith, both.0, both.1, length-resized content size)) (λ i above below. byte_resized content size i (omega (arith, below, both.1)))

pub part_laid : (old : List ℕ) (leaf : Leaf) (block : ℕ) → IsFormed leaf → ReachOver (length old) leaf.size block → has_block leaf block ≡ false
    → part (laid old leaf) block ≡ part old block
part_laid old leaf block formed reach none =
    parts_put leaf.size 0 leaf.blocks (resized old leaf.size) block formed.blocks (length-resized old leaf.size) none ∙ part_resized old leaf.size block reach
