-- How the frames of an archive are judged one after another.
use Rattle.std.proofs.Common.{◌≡◌, ◌⊎◌, ℕ, ◌+◌, ◌<◌, ◌≤◌, ◌^◌, true, List, [], ◌∷◌, ◌++◌, length, take, drop, map, get_or, inl, inr, refl, sym, ◌∙◌, ap, subst, arith, append_assoc, length-append}
use Rattle.std.specs.Int.{w32, to_be_bytes}
use Rattle.std.proofs.lemmas.List.{take_at, drop_at, map-append}
use Rattle.pass_outside.specs.Moments.{Moment}
use Rattle.pass_log.specs.declared.fault.LogFault.{LogFault}
use Rattle.pass_log.specs.declared.fault.LogFault.TheVariants as log_faults
use Rattle.pass_log.specs.LogImage.{IsUnread as IsUnreadLog}
use Rattle.pass_log.specs.Frames.{number, longest, IsFront}
use Rattle.pass_log.proofs.Scan.{front_nil, front_append, front_frame, scan_rests, spells, left_length}
use Rattle.pass_log.proofs.Crash.{image_scan, image_short}
use Rattle.pass_leaf.specs.declared.reading.LeafFault.{LeafFault}
use Rattle.pass_leaf.specs.declared.reading.LeafFault.TheVariants as leaf_faults
use Rattle.pass_leaf.specs.declared.fault.OldFault.{OldFault}
use Rattle.pass_leaf.specs.declared.fault.OldFault.TheVariants as faults
use Rattle.pass_leaf.specs.Leaves.{Leaf, leaf_bytes}
use Rattle.pass_leaf.specs.Contents.{AreLeaves}
use Rattle.pass_leaf.specs.Archives.{IsArchive, is_open, IsBroken, MayNotStand, IsMisplaced, HasBadFrame, IsUnread}
use Rattle.pass_leaf.specs.Reads.{IsNextLeaf}
use Rattle.pass_leaf.proofs.Lists.{are-push}

-- the frames in front of the rest are these leaves
pub record IsWalking (bytes rest : List ℕ) (place : ℕ) (leaves : List Leaf) : Type 0 where
  pub front : List ℕ
  pub is : bytes ≡ front ++ rest
  pub size : length front ≡ place
  pub passes : IsFront front (map leaf_bytes leaves)
  pub are : AreLeaves leaves
  pub some : 0 < length rest

pub walking_none : (bytes : List ℕ) → 0 < length bytes → IsWalking bytes bytes 0 []
walking_none bytes some = record { front = []; is = refl; size = refl; passes = front_nil; are = tt; some = some }

-- one frame more
module _ (bytes rest : List ℕ) (place : ℕ) (leaves : List Leaf) (w : IsWalking bytes rest place leaves)
    (frame after : List ℕ) (fits : length frame < 2 ^ 32) (is : rest ≡ 1 ∷ to_be_bytes w32 (length frame) ++ frame ++ after) (more : 0 < length after) where
  one : List ℕ
  one = 1 ∷ to_be_bytes w32 (length frame) ++ frame

  four : length (to_be_bytes w32 (length frame)) ≡ 4
  four = refl

  one_size : length one ≡ 5 + length frame
  unfolding one
  one_size = omega (arith, four, length-append (to_be_bytes w32 (length frame)) frame)

  parts : bytes ≡ (w.front ++ one) ++ after
  unfolding one
  parts = w.is ∙ ap (λ (l : List ℕ). w.front ++ l) is ∙ sym (append_assoc w.front (1 ∷ to_be_bytes w32 (length frame) ++ frame) after)

  pub walking_more : (new : List Leaf) → IsNextLeaf leaves frame new → IsWalking bytes after (place + (5 + length frame)) new
  unfolding one
  walking_more new n =
      let list : map leaf_bytes leaves ++ frame ∷ [] ≡ map leaf_bytes new =
      ap (λ (f : List ℕ). map leaf_bytes leaves ++ f ∷ []) (sym n.bytes) ∙ sym (map-append leaf_bytes leaves (n.leaf ∷ [])) ∙ ap (map leaf_bytes) (sym n.put) in
      record {
        front = w.front ++ one;
        is = parts;
        size = omega (arith, length-append w.front one, one_size, w.size);
        passes = subst (IsFront (w.front ++ one)) list (front_append w.front one (map leaf_bytes leaves) (frame ∷ []) w.passes (front_frame frame fits));
        are = subst AreLeaves (sym n.put) (are-push leaves n.leaf w.are n.formed n.above);
        some = more;
      }

  pub frame_misplaced : MayNotStand leaves frame → IsMisplaced leaves rest
  frame_misplaced bad = (
    omega (arith, size, left, length-append frame after, more),
    subst (MayNotStand leaves) (sym (ap (λ (n : ℕ). take n (drop 5 rest)) size ∙ ap (take (length frame)) behind ∙ take_at frame after (length frame) refl)) bad,
  )
    where
      at : drop 1 rest ≡ to_be_bytes w32 (length frame) ++ (frame ++ after)
      at = ap (drop 1) is ∙ append_assoc (to_be_bytes w32 (length frame)) frame after

      size : number (drop 1 rest) ≡ length frame
      size = spells (length frame) (drop 1 rest) (frame ++ after) fits at

      left : length (drop 1 rest) ≡ 4 + length (frame ++ after)
      left = left_length (length frame) (drop 1 rest) (frame ++ after) fits at

      behind : drop 5 rest ≡ frame ++ after
      behind = ap (drop 5) (is ∙ ap (λ (l : List ℕ). 1 ∷ l) (append_assoc (to_be_bytes w32 (length frame)) frame after))
          ∙ drop_at (1 ∷ to_be_bytes w32 (length frame)) (frame ++ after) 5 (omega (arith, four))

-- the frame of an open gate here is bad
pub walking_bad : (bytes rest : List ℕ) (place : ℕ) (leaves : List Leaf) → IsWalking bytes rest place leaves → is_open rest ≡ true
    → IsBroken rest ⊎ IsMisplaced leaves rest → HasBadFrame bytes place
walking_bad bytes rest place leaves w gate bad =
    let here : drop place bytes ≡ rest = ap (drop place) w.is ∙ drop_at w.front rest place w.size in
    let front : take place bytes ≡ w.front = ap (take place) w.is ∙ take_at w.front rest place w.size in
    record {
      leaves = leaves;
      front = subst (λ (l : List ℕ). IsFront l (map leaf_bytes leaves)) (sym front) w.passes;
      are = w.are;
      within = omega (arith, ap length w.is, length-append w.front rest, w.size, w.some);
      gate = ap is_open here ∙ gate;
      bad = subst (λ (l : List ℕ). IsBroken l ⊎ IsMisplaced leaves l) (sym here) bad;
    }

-- what the fault of a frame tells
pub frame_fault : (bytes : List ℕ) (place : ℕ) (e : LeafFault) (r : OldFault) → (e ≡ leaf_faults.Bad → r ≡ faults.BadFrame place) → (e ≡ leaf_faults.NoMemory → r ≡ faults.NoMemory)
    → (e ≡ leaf_faults.Bad → HasBadFrame bytes place) → (r ≡ faults.NoMemory) ⊎ ((at : ℕ) × (r ≡ faults.BadFrame at) × HasBadFrame bytes at)
frame_fault bytes place leaf_faults.Bad r bad memory has = inr (place, bad refl, has refl)
frame_fault bytes place leaf_faults.NoMemory r bad memory has = inl (memory refl)

-- no gate is open here: these are all frames
pub walking_done : (bytes rest : List ℕ) (place : ℕ) (leaves : List Leaf) → IsWalking bytes rest place leaves → (get_or rest 0 0 ≡ 1 → ⊥)
    → 1 < length bytes → length bytes ≤ longest → IsArchive bytes leaves place
walking_done bytes [] place leaves w shut some fits = absurd (omega (arith, w.some))
walking_done bytes (gate ∷ tail) place leaves w shut some fits = record {
  frames = image_scan bytes some fits ∙ scan_rests (map leaf_bytes leaves) place bytes (record { front = w.front; gate = gate; tail = tail; is = w.is; shut = shut; passes = w.passes; place = w.size });
  are = w.are;
}

pub empty_archive : (bytes : List ℕ) → length bytes ≤ 1 → IsArchive bytes [] 0
empty_archive bytes few = record { frames = image_short bytes few; are = tt }

-- the fault of reading the area
pub unread_as : (m : Moment) (fault : LogFault) (r : OldFault) → (fault ≡ log_faults.DiskFault → r ≡ faults.DiskFault) → ((at : ℕ) → fault ≡ log_faults.BadFrame at → r ≡ faults.BadFrame at)
    → (fault ≡ log_faults.NoMemory → r ≡ faults.NoMemory) → IsUnreadLog m fault → IsUnread m r
unread_as m log_faults.DiskFault r device frame memory unread = subst (IsUnread m) (sym (device refl)) tt
unread_as m (log_faults.BadFrame at) r device frame memory unread = subst (IsUnread m) (sym (frame at refl)) unread
unread_as m log_faults.NoMemory r device frame memory unread = subst (IsUnread m) (sym (memory refl)) tt
unread_as m (log_faults.BadRecord place why) r device frame memory unread = absurd unread
unread_as m (log_faults.Broken opened now) r device frame memory unread = absurd unread
