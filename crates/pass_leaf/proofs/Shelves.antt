-- The parts of an open archive.
use Rattle.std.proofs.Common.{◌≡◌, ◌⊎◌, ℕ, ◌+◌, ◌<◌, ◌≤◌, ◌^◌, List, [], ◌∷◌, ◌++◌, length, take, drop, IsTrue, inl, inr, ⊎_elim, sym, ◌∙◌, ap, subst, arith, length-append, take-append-drop}
use Rattle.std.proofs.lemmas.List.{take_all, drop_all}
use Rattle.pass_outside.specs.Moments.{Moment}
use Rattle.pass_leaf.specs.declared.fault.OldFault.TheVariants as faults
use Rattle.pass_leaf.specs.declared.stock.Stock.{Stock}
use Rattle.pass_leaf.specs.declared.tail.Tail.{Tail}
use Rattle.pass_leaf.specs.Leaves.{Leaf, leaf_bytes}
use Rattle.pass_leaf.specs.Contents.{last_version, AreLeaves}
use Rattle.pass_leaf.specs.Keeping.{FileVersion, is_above}
use Rattle.pass_leaf.specs.Gatherings.{frames_size}
use Rattle.pass_leaf.specs.Reads.{AreContents, EndsThere, IsBatch, IsGathered}
use Rattle.pass_leaf.specs.Open.{IsOpen, IsUnkept}
use Rattle.pass_leaf.proofs.Answering.{above_lt, next_of, grown, gathered_size}

-- the leaves on the disk, and the others
pub parts : (w : ℕ) (leaves : List Leaf) → take w leaves ++ drop w leaves ≡ leaves
parts w leaves = take-append-drop w leaves

module _ (m : Moment) (old new : Stock) (tail : Tail) (o : IsOpen m old tail) (contents : AreContents new.contents new.leaves) where
  -- no leaf more
  pub open_same : new.leaves ≡ old.leaves → new.written ≡ old.written → new.frames.items ≡ old.frames.items → IsOpen m new tail
  open_same leaves written frames = record {
    stocked = record {
      are = subst AreLeaves (sym leaves) o.stocked.are;
      contents_are = contents;
      few = omega (arith, o.stocked.few, written, ap length leaves);
      gathered_are = subst (λ (b : List ℕ). IsGathered b (drop new.written new.leaves)) (sym frames)
          (subst (IsGathered old.frames.items) (λ i. drop (sym written i) (sym leaves i)) o.stocked.gathered_are);
    };
    ends = subst (λ (l : List Leaf). EndsThere tail l m) (λ i. take (sym written i) (sym leaves i)) o.ends;
    room = subst (λ (b : List ℕ). (b ≡ []) ⊎ (tail.end + length b < 2 ^ 39)) (sym frames) o.room;
  }

  -- one leaf more
  pub open_more : (leaf : Leaf) → new.leaves ≡ old.leaves ++ leaf ∷ [] → new.written ≡ old.written → AreLeaves (old.leaves ++ leaf ∷ [])
      → IsBatch new.frames.items (drop old.written old.leaves ++ leaf ∷ []) → tail.end + length new.frames.items < 2 ^ 39 → IsOpen m new tail
  open_more leaf leaves written are batch room =
      let more = grown old.written new.written old.leaves new.leaves leaf o.stocked.few written leaves in
      record {
        stocked = record {
          are = subst AreLeaves (sym leaves) are;
          contents_are = contents;
          few = omega (arith, o.stocked.few, written, ap length leaves, length-append old.leaves (leaf ∷ []));
          gathered_are = inr (subst (IsBatch new.frames.items) (sym more.1) batch);
        };
        ends = subst (λ (l : List Leaf). EndsThere tail l m) (sym more.0) o.ends;
        room = inr room;
      }

-- all leaves are on the disk
pub open_settled : (m : Moment) (old new : Stock) (tail : Tail) → AreLeaves old.leaves → AreContents new.contents new.leaves → new.leaves ≡ old.leaves
    → new.written ≡ length old.leaves → new.frames.items ≡ [] → EndsThere tail (take old.written old.leaves ++ drop old.written old.leaves) m → IsOpen m new tail
open_settled m old new tail are contents leaves written frames ends =
    let few : length new.leaves ≤ new.written = omega (arith, written, ap length leaves) in
    record {
      stocked = record {
        are = subst AreLeaves (sym leaves) are;
        contents_are = contents;
        few = omega (arith, written, ap length leaves);
        gathered_are = inl (frames, drop_all new.written new.leaves few);
      };
      ends = subst (λ (l : List Leaf). EndsThere tail l m) (parts old.written old.leaves ∙ sym leaves ∙ sym (take_all new.written new.leaves few)) ends;
      room = inl frames;
    }

pub settled_parts : (old new : Stock) → new.leaves ≡ old.leaves → new.written ≡ length old.leaves
    → (take new.written new.leaves ≡ take old.written old.leaves ++ drop old.written old.leaves) × (drop new.written new.leaves ≡ [])
settled_parts old new leaves written =
    let few : length new.leaves ≤ new.written = omega (arith, written, ap length leaves) in
    (take_all new.written new.leaves few ∙ leaves ∙ sym (parts old.written old.leaves), drop_all new.written new.leaves few)

-- all that was found is on the disk
pub whole_of : (leaves all : List Leaf) (w : ℕ) → all ≡ leaves → w ≡ length leaves → (take w all ≡ leaves) × (drop w all ≡ [])
whole_of leaves all w is written =
    let few : length all ≤ w = omega (arith, written, ap length is) in
    (take_all w all few ∙ is, drop_all w all few)

-- the room for a batch
pub room_of : (m : Moment) (stock : Stock) (tail : Tail) → IsOpen m stock tail → 0 < length stock.frames.items → tail.end + length stock.frames.items < 2 ^ 39
room_of m stock tail o some = ⊎_elim (λ none. absurd (omega (arith, ap length none, some))) (λ room. room) o.room

-- of all leaves, those on the disk and the others
module _ (w : ℕ) (leaves : List Leaf) (v : FileVersion) where
  pub above_in : IsTrue (is_above (take w leaves ++ drop w leaves) v.node) → last_version leaves v.node.pnode < v.node.version
  above_in above = above_lt (last_version leaves v.node.pnode) v.node.version (subst (λ (l : List Leaf). IsTrue (is_above l v.node)) (parts w leaves) above)

  pub next_in : (leaf : Leaf) → leaf ≡ next_of leaves v → leaf ≡ next_of (take w leaves ++ drop w leaves) v
  next_in leaf is = is ∙ ap (λ (l : List Leaf). next_of l v) (sym (parts w leaves))

  -- there is no room for the frame of the next leaf
  pub full_in : (leaf : Leaf) (end at : ℕ) (bytes : List ℕ) → leaf ≡ next_of leaves v → IsGathered bytes (drop w leaves) → at ≡ end + length bytes → 2 ^ 39 ≤ at + (length (leaf_bytes leaf) + 5)
      → IsUnkept (take w leaves ++ drop w leaves) (end + frames_size (drop w leaves)) v (faults.BadFrame at)
  full_in leaf end at bytes is gathered at_is full =
      let size = gathered_size bytes (drop w leaves) gathered in
      (omega (arith, at_is, size), omega (arith, at_is, size, full, ap (λ (l : Leaf). length (leaf_bytes l)) (next_in leaf is)))
