-- The blocks of leaves, as they are read and written.
use Rattle.std.proofs.Common.{◌≡◌, ℕ, ◌+◌, ◌-◌, ◌*◌, ◌<◌, ◌≤◌, ◌^◌, List, [], ◌∷◌, ◌++◌, length, refl, sym, ◌∙◌, ap, subst, arith, append_assoc, length-append}
use Rattle.std.proofs.lemmas.List.{append-nil}
use Rattle.pass_entry.specs.Limits.{block_size}
use Rattle.pass_plain.specs.Records.{range_len}
use Rattle.pass_leaf.specs.declared.leaf.LeafBlock.{LeafBlock}
use Rattle.pass_leaf.specs.Leaves.{Leaf, IsFormed, MayStand, AreBlocks, block_bytes, blocks_bytes, head_bytes, leaf_bytes}
use Rattle.pass_leaf.specs.Reads.{raw_bytes, IsFit}
use Rattle.pass_leaf.proofs.Fields.{HasNoBlock, same_raw, raw_length, head_length}

pub part_short : (size block : ℕ) → range_len size block ≤ 4096
part_short size block = omega arith

pub block_short : (size from : ℕ) (b : LeafBlock) → MayStand size from b → length b.bytes < 2 ^ 16
block_short size from b may = omega (arith, may.long, part_short size b.number)

-- the number from which on blocks may stand behind these
abbrev pub next_from : ℕ → List LeafBlock → ℕ
next_from from [] = from
next_from from (b ∷ blocks) = next_from (b.number + 1) blocks

pub next_from-push : (from : ℕ) (blocks : List LeafBlock) (b : LeafBlock) → next_from from (blocks ++ b ∷ []) ≡ b.number + 1
next_from-push from [] b = refl
next_from-push from (c ∷ blocks) b = next_from-push (c.number + 1) blocks b

pub AreBlocks-push : (size from : ℕ) (blocks : List LeafBlock) (b : LeafBlock) → AreBlocks size from blocks → MayStand size (next_from from blocks) b → AreBlocks size from (blocks ++ b ∷ [])
AreBlocks-push size from [] b are may = (may, tt)
AreBlocks-push size from (c ∷ blocks) b are may = (are.0, AreBlocks-push size (c.number + 1) blocks b are.1 may)

pub blocks_bytes-push : (blocks : List LeafBlock) (b : LeafBlock) → blocks_bytes (blocks ++ b ∷ []) ≡ blocks_bytes blocks ++ block_bytes b
blocks_bytes-push [] b = append-nil (block_bytes b)
blocks_bytes-push (c ∷ blocks) b = ap (λ (l : List ℕ). block_bytes c ++ l) (blocks_bytes-push blocks b) ∙ sym (append_assoc (block_bytes c) (blocks_bytes blocks) (block_bytes b))

-- the blocks that a leaf with these bytes has behind those that were read
pub record Goes (size from : ℕ) (left : List ℕ) (blocks all : List LeafBlock) : Type 0 where
  pub more : List LeafBlock
  pub is : all ≡ blocks ++ more
  pub left_is : left ≡ blocks_bytes more
  pub fit : AreBlocks size from more

-- blocks that were read so far, and the bytes that are left
pub record IsReading (size from : ℕ) (old left : List ℕ) (blocks : List LeafBlock) : Type 0 where
  pub fit : AreBlocks size 0 blocks
  pub next : next_from 0 blocks ≡ from
  pub taken : old ≡ blocks_bytes blocks ++ left
  pub only : (all : List LeafBlock) → AreBlocks size 0 all → old ≡ blocks_bytes all → Goes size from left blocks all

pub reading_none : (size : ℕ) (old : List ℕ) → IsReading size 0 old old []
reading_none size old = record { fit = tt; next = refl; taken = refl; only = λ all fit is. record { more = all; is = refl; left_is = is; fit = fit } }

-- one block more
pub reading_more : (size from : ℕ) (old left after : List ℕ) (blocks : List LeafBlock) (b : LeafBlock) → IsReading size from old left blocks → MayStand size from b → left ≡ block_bytes b ++ after
    → IsReading size (b.number + 1) old after (blocks ++ b ∷ [])
reading_more size from old left after blocks b r may is = record {
  fit = AreBlocks-push size 0 blocks b r.fit (subst (λ (n : ℕ). MayStand size n b) (sym r.next) may);
  next = next_from-push 0 blocks b;
  taken = r.taken ∙ ap (λ (l : List ℕ). blocks_bytes blocks ++ l) is ∙ sym (append_assoc (blocks_bytes blocks) (block_bytes b) after) ∙ ap (λ (l : List ℕ). l ++ after) (sym (blocks_bytes-push blocks b));
  only = λ all fit same. let g = r.only all fit same in goes_on g.more all g.is g.left_is g.fit;
}
  where
    goes_on : (more all : List LeafBlock) → all ≡ blocks ++ more → left ≡ blocks_bytes more → AreBlocks size from more → Goes size (b.number + 1) after (blocks ++ b ∷ []) all
    goes_on [] all all_is left_is fit = absurd (omega (arith, ap length left_is, ap length is, length-append (block_bytes b) after, raw_length b.number b.bytes))
    goes_on (c ∷ more) all all_is left_is fit =
        let s = same_raw b.number c.number b.bytes c.bytes after (blocks_bytes more) may.number fit.0.number (block_short size from b may) (block_short size from c fit.0) (sym is ∙ left_is) in
        let one : b ≡ c = λ i. record { number = s.number i; bytes = s.bytes i } in
        record {
          more = more;
          is = all_is ∙ ap (λ (x : LeafBlock). blocks ++ x ∷ more) (sym one) ∙ sym (append_assoc blocks (b ∷ []) more);
          left_is = s.rest;
          fit = subst (λ (n : ℕ). AreBlocks size (n + 1) more) (sym s.number) fit.1;
        }

-- no block may stand at the front
abbrev pub HasNoNext : ℕ → ℕ → List ℕ → Type 0
HasNoNext size from left = (b : LeafBlock) (rest : List ℕ) → MayStand size from b → left ≡ block_bytes b ++ rest → ⊥

pub no_block : (size from : ℕ) (left : List ℕ) → HasNoBlock left → HasNoNext size from left
no_block size from left none b rest may is = none b.number b.bytes rest may.number (block_short size from b may) is

pub unfit_block : (size from n : ℕ) (bytes left after : List ℕ) → n < 2 ^ 32 → length bytes < 2 ^ 16 → left ≡ raw_bytes n bytes ++ after → (IsFit size from n (length bytes) → ⊥) → HasNoNext size from left
unfit_block size from n bytes left after small fits is unfit b rest may other =
    let s = same_raw n b.number bytes b.bytes after rest small may.number fits (block_short size from b may) (sym is ∙ other) in
    unfit (record {
      ascends = subst (λ (k : ℕ). from ≤ k) (sym s.number) may.ascends;
      within = subst (λ (k : ℕ). k * block_size < size) (sym s.number) may.within;
      long = ap length s.bytes ∙ may.long ∙ ap (range_len size) (sym s.number);
    })

-- these bytes are not so many blocks
abbrev pub AreNoBlocks : ℕ → ℕ → List ℕ → Type 0
AreNoBlocks size count old = (blocks : List LeafBlock) → length blocks ≡ count → AreBlocks size 0 blocks → old ≡ blocks_bytes blocks → ⊥

pub reading_stops : (size from count : ℕ) (old left : List ℕ) (blocks : List LeafBlock) → IsReading size from old left blocks → length blocks < count → HasNoNext size from left → AreNoBlocks size count old
reading_stops size from count old left blocks r few none all many fit is = let g = r.only all fit is in stops g.more g.is g.left_is g.fit
  where
    stops : (more : List LeafBlock) → all ≡ blocks ++ more → left ≡ blocks_bytes more → AreBlocks size from more → ⊥
    stops [] all_is left_is fit = omega (arith, few, many, ap length all_is, ap length (append-nil blocks))
    stops (b ∷ more) all_is left_is fit = none b (blocks_bytes more) fit.0 left_is

pub reading_left : (size from count : ℕ) (old left : List ℕ) (blocks : List LeafBlock) → IsReading size from old left blocks → length blocks ≡ count → 0 < length left → AreNoBlocks size count old
reading_left size from count old left blocks r whole some all many fit is = let g = r.only all fit is in ends g.more g.is g.left_is
  where
    ends : (more : List LeafBlock) → all ≡ blocks ++ more → left ≡ blocks_bytes more → ⊥
    ends [] all_is left_is = omega (arith, some, ap length left_is)
    ends (b ∷ more) all_is left_is = omega (arith, whole, many, ap length all_is, length-append blocks (b ∷ more))

pub reading_done : (size from : ℕ) (old left : List ℕ) (blocks : List LeafBlock) → IsReading size from old left blocks → left ≡ [] → old ≡ blocks_bytes blocks
reading_done size from old left blocks r none = r.taken ∙ ap (λ (l : List ℕ). blocks_bytes blocks ++ l) none ∙ append-nil (blocks_bytes blocks)

-- how long the blocks of a leaf are: at most one full block for each number below its end
pub blocks_bound : (size n from : ℕ) (blocks : List LeafBlock) → size ≤ n * 4096 → from ≤ n → AreBlocks size from blocks → length (blocks_bytes blocks) ≤ 4102 * (n - from)
blocks_bound size n from [] fits within are = omega arith
blocks_bound size n from (b ∷ blocks) fits within are =
    let may = are.0 in
    let below : b.number < n = omega (arith, may.within, fits) in
    let rest = blocks_bound size n (b.number + 1) blocks fits (omega (arith, below)) are.1 in
    omega (arith, rest, below, may.ascends, may.long, part_short size b.number, raw_length b.number b.bytes, length-append (block_bytes b) (blocks_bytes blocks))

pub leaf_bound : (leaf : Leaf) → IsFormed leaf → leaf.size ≤ 2 ^ 28 → length (leaf_bytes leaf) < 2 ^ 32
leaf_bound leaf formed fits =
    let head = head_bytes leaf.node leaf.size (length leaf.blocks) in
    let rest = blocks_bound leaf.size 65536 0 leaf.blocks (omega (arith, fits)) (omega arith) formed.blocks in
    omega (arith, rest, head_length leaf.node leaf.size (length leaf.blocks), length-append head (blocks_bytes leaf.blocks))
