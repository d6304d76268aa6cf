-- A leaf gives back the content of which it was made.
use Rattle.std.proofs.Common.{◌≡◌, ◌⊎◌, ℕ, zero, suc, ◌+◌, ◌-◌, ◌*◌, ◌/◌, ◌<◌, ◌≤◌, ◌==◌, min, Bool, true, false, not, ◌&&◌, List, [], ◌∷◌, ◌++◌, length, get_or, take, drop, replicate, map, filter, inl, inr, ⊎_elim, refl, sym, ◌∙◌, ap, subst, arith, length-append, length-take, length-drop}
use Rattle.std.specs.Prelude.{fold, if◌then◌else◌}
use Rattle.std.specs.List.{list_all, range_with_len}
use Rattle.std.proofs.lemmas.Bool.{cases_lt, cases_eq}
use Rattle.std.proofs.lemmas.Bool.Decides.{nat_tests}
use Rattle.std.proofs.lemmas.List.{length-replicate, get_or-take, get_or-drop, get_or_past, get_or_append_left, get_or-append_right, get_or-replicate, ext_get_or}
use Rattle.pass_entry.specs.Limits.{block_size}
use Rattle.pass_plain.specs.Files.{extended, resized}
use Rattle.pass_leaf.specs.declared.leaf.LeafBlock.{LeafBlock}
use Rattle.pass_leaf.specs.Leaves.{Leaf, IsFormed, AreBlocks}
use Rattle.pass_leaf.specs.Contents.{with_block, laid}
use Rattle.pass_leaf.specs.Keeping.{part, is_alike, differs, block_of, block_total}
use Rattle.pass_leaf.specs.Laws.{LaidLaw}

-- the byte at a place; behind the end a content counts as zero
abbrev pub byte : List ℕ → ℕ → ℕ
byte content i = get_or content i 0

zeros_past : (n i : ℕ) → byte (replicate n 0) i ≡ 0
zeros_past n i = elim (cases_lt i n) [
  | inl below ↦ get_or-replicate n i 0 0 below
  | inr past ↦ get_or_past (replicate n 0) i 0 (omega (arith, past, length-replicate {A = ℕ} n 0))
]

byte_extended : (content : List ℕ) (size i : ℕ) → byte (extended content size) i ≡ byte content i
byte_extended content size i = elim (cases_lt i (length content)) [
  | inl below ↦ get_or_append_left content (replicate (size - length content) 0) 0 i below
  | inr past ↦ get_or-append_right content (replicate (size - length content) 0) (length content) i 0 refl past ∙ zeros_past (size - length content) (i - length content) ∙ sym (get_or_past content i 0 past)
]

pub length-resized : (content : List ℕ) (size : ℕ) → length (resized content size) ≡ size
length-resized content size =
    omega (arith, length-take size (extended content size), length-append content (replicate (size - length content) 0), length-replicate {A = ℕ} (size - length content) 0)

pub byte_resized : (content : List ℕ) (size i : ℕ) → i < size → byte (resized content size) i ≡ byte content i
byte_resized content size i below = get_or-take size (extended content size) i 0 below ∙ byte_extended content size i

pub byte_part : (content : List ℕ) (block i : ℕ) → i < block_size → byte (part content block) i ≡ byte content (block * block_size + i)
byte_part content block i below = get_or-take block_size (drop (block * block_size) content) i 0 below ∙ get_or-drop (block * block_size) content i 0

pub length-part : (content : List ℕ) (block : ℕ) → length (part content block) ≡ min block_size (length content - block * block_size)
length-part content block = omega (arith, length-take block_size (drop (block * block_size) content), length-drop (block * block_size) content)

-- contents that are alike have the same bytes
all_head : (x : ℕ) (xs : List ℕ) → list_all (λ x. x == 0) (x ∷ xs) ≡ true → (x ≡ 0) × (list_all (λ x. x == 0) xs ≡ true)
all_head x xs all = by_test (x == 0) refl all
  where
    by_test : (b : Bool) → (x == 0) ≡ b → (b && list_all (λ x. x == 0) xs) ≡ true → (x ≡ 0) × (list_all (λ x. x == 0) xs ≡ true)
    by_test false is h = absurd (cc h)
    by_test true is h = (grind (arith, nat_tests), h)

zero_at : (xs : List ℕ) (i : ℕ) → list_all (λ x. x == 0) xs ≡ true → byte xs i ≡ 0
zero_at [] i all = refl
zero_at (x ∷ xs) zero all = (all_head x xs all).0
zero_at (x ∷ xs) (suc i) all = zero_at xs i (all_head x xs all).1

alike_head : (x y : ℕ) (xs ys : List ℕ) → is_alike (x ∷ xs) (y ∷ ys) ≡ true → (x ≡ y) × (is_alike xs ys ≡ true)
alike_head x y xs ys same = by_test (x == y) refl same
  where
    by_test : (b : Bool) → (x == y) ≡ b → (b && is_alike xs ys) ≡ true → (x ≡ y) × (is_alike xs ys ≡ true)
    by_test false is h = absurd (cc h)
    by_test true is h = (grind (arith, nat_tests), h)

alike_at : (xs ys : List ℕ) (i : ℕ) → is_alike xs ys ≡ true → byte xs i ≡ byte ys i
alike_at [] ys i same = sym (zero_at ys i same)
alike_at (x ∷ xs) [] i same = zero_at (x ∷ xs) i same
alike_at (x ∷ xs) (y ∷ ys) zero same = (alike_head x y xs ys same).0
alike_at (x ∷ xs) (y ∷ ys) (suc i) same = alike_at xs ys i (alike_head x y xs ys same).1

-- a content with a block put over it
pub length-with_block : (content : List ℕ) (b : LeafBlock) → b.number * block_size + length b.bytes ≤ length content → length (with_block content b) ≡ length content
length-with_block content b within =
    let at = b.number * block_size in
    omega (
      arith,
      within,
      length-append (take at content ++ b.bytes) (drop (at + length b.bytes) content),
      length-append (take at content) b.bytes,
      length-take at content,
      length-drop (at + length b.bytes) content,
    )

pub byte_before : (content : List ℕ) (b : LeafBlock) (i : ℕ) → b.number * block_size + length b.bytes ≤ length content → i < b.number * block_size → byte (with_block content b) i ≡ byte content i
byte_before content b i within below =
    let at = b.number * block_size in
    let front : length (take at content) ≡ at = omega (arith, within, length-take at content) in
    get_or_append_left (take at content ++ b.bytes) (drop (at + length b.bytes) content) 0 i (omega (arith, below, front, length-append (take at content) b.bytes))
    ∙ get_or_append_left (take at content) b.bytes 0 i (omega (arith, below, front))
    ∙ get_or-take at content i 0 below

byte_within : (content : List ℕ) (b : LeafBlock) (i : ℕ) → b.number * block_size + length b.bytes ≤ length content → b.number * block_size ≤ i → i < b.number * block_size + length b.bytes
    → byte (with_block content b) i ≡ byte b.bytes (i - b.number * block_size)
byte_within content b i within above below =
    let at = b.number * block_size in
    let front : length (take at content) ≡ at = omega (arith, within, length-take at content) in
    get_or_append_left (take at content ++ b.bytes) (drop (at + length b.bytes) content) 0 i (omega (arith, below, front, length-append (take at content) b.bytes))
    ∙ get_or-append_right (take at content) b.bytes at i 0 front above

pub byte_behind : (content : List ℕ) (b : LeafBlock) (i : ℕ) → b.number * block_size + length b.bytes ≤ length content → b.number * block_size + length b.bytes ≤ i → byte (with_block content b) i ≡ byte content i
byte_behind content b i within above =
    let at = b.number * block_size in
    let front : length (take at content ++ b.bytes) ≡ at + length b.bytes = omega (arith, within, length-take at content, length-append (take at content) b.bytes) in
    let place : at + length b.bytes + (i - (at + length b.bytes)) ≡ i = omega (arith, above) in
    get_or-append_right (take at content ++ b.bytes) (drop (at + length b.bytes) content) (at + length b.bytes) i 0 front above
    ∙ get_or-drop (at + length b.bytes) content (i - (at + length b.bytes)) 0
    ∙ ap (byte content) place

-- Putting blocks of a content over one of the same size gives the content, where each byte is there already or lies in a block.
abbrev IsIn : List ℕ → ℕ → Type 0
IsIn [] i = ⊥
IsIn (b ∷ blocks) i = ((b * block_size ≤ i) × (i < b * block_size + block_size)) ⊎ IsIn blocks i

abbrev AreBelow : ℕ → List ℕ → Type 0
AreBelow size [] = Unit {0}
AreBelow size (b ∷ blocks) = (b * block_size < size) × AreBelow size blocks

abbrev IsCovered : List ℕ → List ℕ → List ℕ → Type 0
IsCovered new content blocks = (i : ℕ) → i < length new → (byte content i ≡ byte new i) ⊎ IsIn blocks i

-- with a block of the content put over it, one more block is there
module _ (new content : List ℕ) (b i : ℕ) (long : length content ≡ length new) (below : b * block_size < length new) (lt : i < length new) where
  one : LeafBlock
  one = block_of new b

  one_size : length one.bytes ≡ min block_size (length new - b * block_size)
  unfolding one
  one_size = length-part new b

  fits : b * block_size + length one.bytes ≤ length content
  unfolding one
  fits = omega (arith, one_size, long, below)

  put_here : b * block_size ≤ i → i < b * block_size + block_size → byte (with_block content (block_of new b)) i ≡ byte new i
  unfolding one
  put_here above near =
      let place : b * block_size + (i - b * block_size) ≡ i = omega (arith, above) in
      byte_within content (block_of new b) i fits above (omega (arith, one_size, near, lt))
      ∙ byte_part new b (i - b * block_size) (omega (arith, above, near))
      ∙ ap (byte new) place

  left_front : i < b * block_size → byte (with_block content (block_of new b)) i ≡ byte content i
  unfolding one
  left_front under = byte_before content (block_of new b) i fits under

  left_back : b * block_size + block_size ≤ i → byte (with_block content (block_of new b)) i ≡ byte content i
  unfolding one
  left_back past = byte_behind content (block_of new b) i fits (omega (arith, one_size, past))

  goes_on : (blocks : List ℕ) → (byte content i ≡ byte new i) ⊎ IsIn (b ∷ blocks) i → (byte (with_block content (block_of new b)) i ≡ byte new i) ⊎ IsIn blocks i
  goes_on blocks h = elim (cases_lt i (b * block_size)) [
    | inl under ↦ elim h [
      | inl same ↦ inl (left_front under ∙ same)
      | inr rest ↦ elim rest [ inl here ↦ absurd (omega (arith, under, here.0)) | inr more ↦ inr more ]
    ]
    | inr above ↦ elim (cases_lt i (b * block_size + block_size)) [
      | inl near ↦ inl (put_here above near)
      | inr past ↦ elim h [
        | inl same ↦ inl (left_back past ∙ same)
        | inr rest ↦ elim rest [ inl here ↦ absurd (omega (arith, past, here.1)) | inr more ↦ inr more ]
      ]
    ]
  ]

  one_long : length (with_block content (block_of new b)) ≡ length new
  unfolding one
  one_long = length-with_block content (block_of new b) fits ∙ long

covered_all : (new : List ℕ) (blocks : List ℕ) (content : List ℕ) → length content ≡ length new → AreBelow (length new) blocks → IsCovered new content blocks → fold with_block content (map (block_of new) blocks) ≡ new
covered_all new [] content long below covered = ext_get_or 0 content new long (λ i lt. ⊎_elim (λ e. e) (λ none. absurd none) (covered i (omega (arith, lt, long))))
covered_all new (b ∷ blocks) content long below covered =
    covered_all new blocks (with_block content (block_of new b)) (one_long new content b 0 long below.0 (omega (arith, below.0))) below.1 (λ i lt. goes_on new content b i long below.0 lt blocks (covered i lt))

-- the numbers of a range that pass a test
below_if : (size a : ℕ) (rest : List ℕ) (t : Bool) → a * block_size < size → AreBelow size rest → AreBelow size (if t then a ∷ rest else rest)
below_if size a rest true here below = (here, below)
below_if size a rest false here below = below

below_range : (p : ℕ → Bool) (size a n : ℕ) → a + n ≤ block_total size → AreBelow size (filter p (range_with_len a n))
below_range p size a zero fits = tt
below_range p size a (suc n) fits = below_if size a (filter p (range_with_len (a + 1) n)) (p a) (omega (arith, fits)) (below_range p size (a + 1) n (omega (arith, fits)))

in_if : (a i : ℕ) (rest : List ℕ) (t : Bool) → (t ≡ true → (a * block_size ≤ i) × (i < a * block_size + block_size)) ⊎ IsIn rest i → (t ≡ true) ⊎ IsIn rest i → IsIn (if t then a ∷ rest else rest) i
in_if a i rest true (inl here) h = inl (here refl)
in_if a i rest true (inr more) h = inr more
in_if a i rest false _ (inl is) = absurd (cc is)
in_if a i rest false _ (inr more) = more

in_range : (p : ℕ → Bool) (a n i k : ℕ) → a ≤ k → k < a + n → p k ≡ true → k * block_size ≤ i → i < k * block_size + block_size → IsIn (filter p (range_with_len a n)) i
in_range p a zero i k least most passes above near = absurd (omega (arith, least, most))
in_range p a (suc n) i k least most passes above near = elim (cases_eq k a) [
  | inl is ↦
      in_if a i (filter p (range_with_len (a + 1) n)) (p a) (inl (λ t. (subst (λ (m : ℕ). m * block_size ≤ i) is above, subst (λ (m : ℕ). i < m * block_size + block_size) is near))) (inl (ap p (sym is) ∙ passes))
  | inr other ↦
      let far : a < k = omega (arith, least, other) in
      let more = in_range p (a + 1) n i k (omega (arith, far)) (omega (arith, most)) passes above near in
      in_if a i (filter p (range_with_len (a + 1) n)) (p a) (inr more) (inr more)
]

-- each byte of the older content is there, or lies in a block that differs
not_false : (b : Bool) → not b ≡ false → b ≡ true
not_false false h = absurd (cc h)
not_false true h = refl

alike_byte : (old new : List ℕ) (i k : ℕ) → k * block_size ≤ i → i < k * block_size + block_size → is_alike (part old k) (part new k) ≡ true → byte old i ≡ byte new i
alike_byte old new i k above near is =
    let j = i - k * block_size in
    let small : j < block_size = omega (arith, above, near) in
    let place : k * block_size + j ≡ i = omega (arith, above) in
    ap (byte old) (sym place) ∙ sym (byte_part old k j small) ∙ alike_at (part old k) (part new k) j is ∙ byte_part new k j small ∙ ap (byte new) place

covers_by : (old new : List ℕ) (i k : ℕ) (t : Bool) → differs old new k ≡ t → i < length new → k * block_size ≤ i → i < k * block_size + block_size → k < block_total (length new)
    → (byte (resized old (length new)) i ≡ byte new i) ⊎ IsIn (filter (differs old new) (range_with_len 0 (block_total (length new)))) i
covers_by old new i k true is lt above near within = inr (in_range (differs old new) 0 (block_total (length new)) i k (omega arith) (omega (arith, within)) is above near)
covers_by old new i k false is lt above near within = inl (byte_resized old (length new) i lt ∙ alike_byte old new i k above near (not_false (is_alike (part old k) (part new k)) is))

covers : (old new : List ℕ) → IsCovered new (resized old (length new)) (filter (differs old new) (range_with_len 0 (block_total (length new))))
covers old new i lt =
    let k = i / 4096 in
    let above : k * block_size ≤ i = omega arith in
    let near : i < k * block_size + block_size = omega arith in
    let within : k < block_total (length new) = omega (arith, lt) in
    covers_by old new i k (differs old new k) refl lt above near within

pub laid_again : LaidLaw
laid_again old new node =
    covered_all new (filter (differs old new) (range_with_len 0 (block_total (length new)))) (resized old (length new)) (length-resized old (length new)) (below_range (differs old new) (length new) 0 (block_total (length new)) (omega arith)) (covers old new)

-- a leaf makes a content of its size
length-put : (size from : ℕ) (blocks : List LeafBlock) (now : List ℕ) → length now ≡ size → AreBlocks size from blocks → length (fold with_block now blocks) ≡ size
length-put size from [] now long are = long
length-put size from (b ∷ blocks) now long are =
    let within : b.number * block_size + length b.bytes ≤ length now = omega (arith, are.0.long, are.0.within, long) in
    length-put size (b.number + 1) blocks (with_block now b) (length-with_block now b within ∙ long) are.1

pub length-laid : (old : List ℕ) (leaf : Leaf) → IsFormed leaf → length (laid old leaf) ≡ leaf.size
length-laid old leaf formed = length-put leaf.size 0 leaf.blocks (resized old leaf.size) (length-resized old leaf.size) formed.blocks
