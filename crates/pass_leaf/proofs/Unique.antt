-- Bytes have the leaves of one archive at most.
use Rattle.std.proofs.Common.{◌≡◌, ◌⊎◌, ℕ, ◌+◌, ◌<◌, ◌≤◌, ◌==◌, true, List, [], ◌∷◌, ◌++◌, length, take, drop, map, get_or, Result, Ok, Err, inl, inr, refl, sym, ◌∙◌, ap, subst, arith, append_assoc, length-append}
use Rattle.std.proofs.lemmas.Bool.Decides.{nat_tests}
use Rattle.std.proofs.lemmas.List.{append-nil, take-append-drop, length-drop}
use Rattle.pass_log.specs.Frames.{Frames, scan, before, number}
use Rattle.pass_log.proofs.Scan.{scan_open, scan_broken}
use Rattle.pass_log.proofs.Crash.{image_scan}
use Rattle.pass_leaf.specs.declared.leaf.LeafBlock.{LeafBlock}
use Rattle.pass_leaf.specs.Leaves.{Leaf, IsFormed, AreBlocks, block_bytes, blocks_bytes, leaf_bytes}
use Rattle.pass_leaf.specs.Contents.{last_version, AreLeavesAfter, AreLeaves}
use Rattle.pass_leaf.specs.Archives.{is_open, IsBroken, MayNotStand, IsMisplaced}
use Rattle.pass_leaf.specs.Laws.{OneArchiveLaw, NoBadFrameLaw}
use Rattle.pass_leaf.proofs.Fields.{same_raw, raw_length, same_head, formed_fields}
use Rattle.pass_leaf.proofs.Blocks.{block_short}

-- a leaf has one spelling
same_blocks : (size from : ℕ) (xs ys : List LeafBlock) → AreBlocks size from xs → AreBlocks size from ys → blocks_bytes xs ≡ blocks_bytes ys → xs ≡ ys
same_blocks size from [] [] a b is = refl
same_blocks size from [] (y ∷ ys) a b is = absurd (omega (arith, ap length is, length-append (block_bytes y) (blocks_bytes ys), raw_length y.number y.bytes))
same_blocks size from (x ∷ xs) [] a b is = absurd (omega (arith, ap length is, length-append (block_bytes x) (blocks_bytes xs), raw_length x.number x.bytes))
same_blocks size from (x ∷ xs) (y ∷ ys) a b is =
    let s = same_raw x.number y.number x.bytes y.bytes (blocks_bytes xs) (blocks_bytes ys) a.0.number b.0.number (block_short size from x a.0) (block_short size from y b.0) is in
    let one : x ≡ y = λ i. record { number = s.number i; bytes = s.bytes i } in
    let rest : xs ≡ ys = same_blocks size (x.number + 1) xs ys a.1 (subst (λ (n : ℕ). AreBlocks size (n + 1) ys) (sym s.number) b.1) s.rest in
    λ i. one i ∷ rest i

pub one_spelling : (a b : Leaf) → IsFormed a → IsFormed b → leaf_bytes a ≡ leaf_bytes b → a ≡ b
one_spelling a b f g is =
    let h = same_head a.node b.node a.size b.size (length a.blocks) (length b.blocks) (blocks_bytes a.blocks) (blocks_bytes b.blocks) (formed_fields a f) (formed_fields b g) is in
    let blocks : a.blocks ≡ b.blocks = same_blocks a.size 0 a.blocks b.blocks f.blocks (subst (λ (n : ℕ). AreBlocks n 0 b.blocks) (sym h.size) g.blocks) h.rest in
    λ i. record { node = record { pnode = h.pnode i; version = h.version i }; size = h.size i; blocks = blocks i }

-- lists of frames that are the same begin with the same one
first_is : (x y : List ℕ) (xs ys : List (List ℕ)) → x ∷ xs ≡ y ∷ ys → x ≡ y
first_is x y xs ys is = ap (λ (l : List (List ℕ)). get_or l 0 []) is

rest_is : (x y : List ℕ) (xs ys : List (List ℕ)) → x ∷ xs ≡ y ∷ ys → xs ≡ ys
rest_is x y xs ys is = ap (λ (l : List (List ℕ)). drop 1 l) is

same_leaves : (past other xs ys : List Leaf) → AreLeavesAfter past xs → AreLeavesAfter other ys → map leaf_bytes xs ≡ map leaf_bytes ys → xs ≡ ys
same_leaves past other [] [] a b is = refl
same_leaves past other [] (y ∷ ys) a b is = absurd (omega (arith, ap length is))
same_leaves past other (x ∷ xs) [] a b is = absurd (omega (arith, ap length is))
same_leaves past other (x ∷ xs) (y ∷ ys) a b is =
    let one = one_spelling x y a.0 b.0 (first_is (leaf_bytes x) (leaf_bytes y) (map leaf_bytes xs) (map leaf_bytes ys) is) in
    let rest = same_leaves (past ++ x ∷ []) (other ++ y ∷ []) xs ys a.2 b.2 (rest_is (leaf_bytes x) (leaf_bytes y) (map leaf_bytes xs) (map leaf_bytes ys) is) in
    λ i. one i ∷ rest i

abbrev list_in : Result Frames ℕ → List (List ℕ)
list_in (Ok r) = r.list
list_in (Err e) = []

abbrev end_in : Result Frames ℕ → ℕ
end_in (Ok r) = r.end
end_in (Err e) = 0

pub one_archive : OneArchiveLaw
one_archive bytes a b n m x y =
    let same = sym x.frames ∙ y.frames in
    (same_leaves [] [] a b x.are y.are (ap list_in same), ap end_in same)

-- the frame behind the first leaves is the next leaf
record Next (past : List Leaf) (frame : List ℕ) : Type 0 where
  leaf : Leaf
  formed : IsFormed leaf
  bytes : leaf_bytes leaf ≡ frame
  above : last_version past leaf.node.pnode < leaf.node.version

next_in : (past xs ys : List Leaf) (frame : List ℕ) (more : List (List ℕ)) → AreLeavesAfter past xs → AreLeavesAfter past ys → map leaf_bytes xs ≡ map leaf_bytes ys ++ frame ∷ more → Next (past ++ ys) frame
next_in past [] ys frame more a b is = absurd (omega (arith, ap length is, length-append (map leaf_bytes ys) (frame ∷ more)))
next_in past (x ∷ xs) [] frame more a b is = record {
  leaf = x;
  formed = a.0;
  bytes = first_is (leaf_bytes x) frame (map leaf_bytes xs) more is;
  above = subst (λ (l : List Leaf). last_version l x.node.pnode < x.node.version) (sym (append-nil past)) a.1;
}
next_in past (x ∷ xs) (y ∷ ys) frame more a b is =
    let one = one_spelling x y a.0 b.0 (first_is (leaf_bytes x) (leaf_bytes y) (map leaf_bytes xs) (map leaf_bytes ys ++ frame ∷ more) is) in
    let rest = next_in (past ++ y ∷ []) xs ys frame more (subst (λ (l : Leaf). AreLeavesAfter (past ++ l ∷ []) xs) one a.2) b.2
    (rest_is (leaf_bytes x) (leaf_bytes y) (map leaf_bytes xs) (map leaf_bytes ys ++ frame ∷ more) is) in
    subst (λ (l : List Leaf). Next l frame) (append_assoc past (y ∷ []) ys) rest

abbrev found : List (List ℕ) → ℕ → Result Frames ℕ
found list end = Ok (record { list = list; end = end })

behind : (list front : List (List ℕ)) (end : ℕ) (frame : List ℕ) (r : Result Frames ℕ) → found list end ≡ before front (before (frame ∷ []) r) → (more : List (List ℕ)) × (list ≡ front ++ frame ∷ more)
behind list front end frame (Ok r) is = (r.list, ap list_in is)
behind list front end frame (Err e) is = absurd (cc is)

not_broken : (list front : List (List ℕ)) (end place : ℕ) (r : Result Frames ℕ) → r ≡ Err place → found list end ≡ before front r → ⊥
not_broken list front end place (Ok r) fails is = cc fails
not_broken list front end place (Err e) fails is = cc is

is_one : (gate : ℕ) → (gate == 1) ≡ true → gate ≡ 1
is_one gate is = grind (arith, nat_tests)

may_stand : (past : List Leaf) (frame : List ℕ) → Next past frame → MayNotStand past frame → ⊥
may_stand past frame next (inl none) = none next.leaf next.formed next.bytes
may_stand past frame next (inr (other, formed, bytes, below)) =
    let same = one_spelling other next.leaf formed next.formed (bytes ∙ sym next.bytes) in
    let there : next.leaf.node.version ≤ last_version past next.leaf.node.pnode = subst (λ (l : Leaf). l.node.version ≤ last_version past l.node.pnode) same below in
    omega (arith, there, next.above)

not_bad : (leaves front : List Leaf) (end place : ℕ) (rest : List ℕ) → AreLeaves leaves → AreLeaves front → 0 < length rest → is_open rest ≡ true → IsBroken rest ⊎ IsMisplaced front rest
    → found (map leaf_bytes leaves) end ≡ before (map leaf_bytes front) (scan 0 place rest) → ⊥
not_bad leaves front end place [] are front_are some gate_is bad is = omega (arith, some)
not_bad leaves front end place (gate ∷ tail) are front_are some gate_is (inl broken) is =
    not_broken (map leaf_bytes leaves) (map leaf_bytes front) end place (scan 0 place (gate ∷ tail)) (ap (λ (g : ℕ). scan 0 place (g ∷ tail)) (is_one gate gate_is) ∙ scan_broken place tail broken) is
not_bad leaves front end place (gate ∷ tail) are front_are some gate_is (inr misplaced) is =
    let frame = take (number tail) (drop 4 tail) in
    let opened = ap (λ (g : ℕ). scan 0 place (g ∷ tail)) (is_one gate gate_is) ∙ scan_open place tail misplaced.0 in
    let b = behind (map leaf_bytes leaves) (map leaf_bytes front) end frame (scan (number tail + 4) (place + 1) tail) (is ∙ ap (before (map leaf_bytes front)) opened) in
    may_stand front frame (next_in [] leaves front frame b.0 are front_are b.1) misplaced.1

pub no_bad_frame : NoBadFrameLaw
no_bad_frame bytes leaves end at archive some fits bad =
    let front = take at bytes in
    let rest = drop at bytes in
    let parts = take-append-drop at bytes in
    let more : 0 < length rest = omega (arith, bad.within, ap length parts, length-drop at bytes) in
    not_bad leaves bad.leaves end (0 + length front) rest archive.are bad.are more bad.gate bad.bad
    (sym archive.frames ∙ image_scan bytes some fits ∙ ap (scan 0 0) (sym parts) ∙ bad.front.passes 0 rest more)
