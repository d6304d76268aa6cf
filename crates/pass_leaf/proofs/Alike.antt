-- How contents are compared.
use Rattle.std.proofs.Common.{◌≡◌, ℕ, zero, suc, ◌+◌, ◌*◌, ◌^◌, ◌<◌, ◌≤◌, ◌==◌, ◌&&◌, min, Bool, true, false, List, [], ◌∷◌, length, take, drop, refl, sym, ◌∙◌, ap, arith, length-take, length-drop}
use Rattle.std.specs.Prelude.{bytes_eq, map, filter, if◌then◌else◌, ◌++◌}
use Rattle.std.specs.List.{list_all, range_with_len}
use Rattle.pass_leaf.specs.declared.leaf.LeafBlock.{LeafBlock}
use Rattle.pass_entry.specs.Limits.{block_size}
use Rattle.pass_entry.specs.declared.objects.Node.{Node}
use Rattle.pass_plain.specs.Records.{range_len}
use Rattle.pass_leaf.specs.Leaves.{AreBlocks, IsFormed}
use Rattle.pass_leaf.specs.Keeping.{part, is_alike, differs, block_total, block_of, leaf_from}

and_true : (a : Bool) → (a && true) ≡ a
and_true true = refl
and_true false = refl

and_front : (a b c d : Bool) → (((a && b) && c) && d) ≡ (a && ((b && c) && d))
and_front true b c d = refl
and_front false b c d = refl

pub alike_parts : (xs ys : List ℕ) (n : ℕ) → n ≡ min (length xs) (length ys) → ((bytes_eq (take n xs) (take n ys) && list_all (λ y. y == 0) (drop n xs)) && list_all (λ y. y == 0) (drop n ys)) ≡ is_alike xs ys
alike_parts [] ys zero is = refl
alike_parts [] ys (suc n) is = absurd (omega (arith, is))
alike_parts (x ∷ xs) [] zero is = and_true (list_all (λ y. y == 0) (x ∷ xs))
alike_parts (x ∷ xs) [] (suc n) is = absurd (omega (arith, is))
alike_parts (x ∷ xs) (y ∷ ys) zero is = absurd (omega (arith, is))
alike_parts (x ∷ xs) (y ∷ ys) (suc n) is =
    and_front (x == y) (bytes_eq (take n xs) (take n ys)) (list_all (λ y. y == 0) (drop n xs)) (list_all (λ y. y == 0) (drop n ys))
    ∙ ap (λ (b : Bool). x == y && b) (alike_parts xs ys n (omega (arith, is)))

-- the blocks of one number more
made-push : (p : ℕ → Bool) (f : ℕ → LeafBlock) (xs : List ℕ) (y : ℕ) → map f (filter p (xs ++ y ∷ [])) ≡ map f (filter p xs) ++ (if p y then f y ∷ [] else [])
made-push p f [] y = base (p y)
  where
    base : (t : Bool) → map f (if t then y ∷ [] else []) ≡ (if t then f y ∷ [] else [])
    base true = refl
    base false = refl
made-push p f (x ∷ xs) y = step (p x) (filter p (xs ++ y ∷ [])) (filter p xs) (if p y then f y ∷ [] else []) (made-push p f xs y)
  where
    step : (t : Bool) (l r : List ℕ) (e : List LeafBlock) → map f l ≡ map f r ++ e → map f (if t then x ∷ l else l) ≡ map f (if t then x ∷ r else r) ++ e
    step true l r e same = ap (λ (k : List LeafBlock). f x ∷ k) same
    step false l r e same = same

range-push : (a n : ℕ) → range_with_len a (suc n) ≡ range_with_len a n ++ (a + n) ∷ []
range-push a zero = let same : a ≡ a + 0 = omega arith in ap (λ (k : ℕ). k ∷ []) same
range-push a (suc n) = let same : a + 1 + n ≡ a + suc n = omega arith in ap (λ (l : List ℕ). a ∷ l) (range-push (a + 1) n ∙ ap (λ (k : ℕ). range_with_len (a + 1) n ++ k ∷ []) same)

number_more : (p : ℕ → Bool) (f : ℕ → LeafBlock) (n : ℕ) → map f (filter p (range_with_len 0 (n + 1))) ≡ map f (filter p (range_with_len 0 n)) ++ (if p n then f n ∷ [] else [])
number_more p f n =
    let next : n + 1 ≡ suc n = omega arith in
    let here : 0 + n ≡ n = omega arith in
    ap (λ (k : ℕ). map f (filter p (range_with_len 0 k))) next ∙ ap (λ (l : List ℕ). map f (filter p l)) (range-push 0 n) ∙ ap (λ (k : ℕ). map f (filter p (range_with_len 0 n ++ k ∷ []))) here ∙ made-push p f (range_with_len 0 n) n

pub number_next : (old new : List ℕ) (n : ℕ) (blocks more : List LeafBlock) → blocks ≡ map (block_of new) (filter (differs old new) (range_with_len 0 n))
    → more ≡ blocks ++ (if differs old new n then block_of new n ∷ [] else []) → more ≡ map (block_of new) (filter (differs old new) (range_with_len 0 (n + 1)))
number_next old new n blocks more so_far put =
    put ∙ ap (λ (l : List LeafBlock). l ++ (if differs old new n then block_of new n ∷ [] else [])) so_far ∙ sym (number_more (differs old new) (block_of new) n)

-- the blocks that are made have the form
pub changed_fit : (size : ℕ) (new : List ℕ) (p : ℕ → Bool) (a n : ℕ) → size ≡ length new → size ≤ 2 ^ 28 → a + n ≤ block_total size → AreBlocks size a (map (block_of new) (filter p (range_with_len a n)))
changed_fit size new p a zero is fits within = tt
changed_fit size new p a (suc n) is fits within =
    by_test (p a) (changed_fit size new p (a + 1) n is fits (omega (arith, within)))
  where
    long : length (part new a) ≡ range_len size a
    long = omega (arith, is, within, length-take block_size (drop (a * block_size) new), length-drop (a * block_size) new)

    by_test : (t : Bool) → AreBlocks size (a + 1) (map (block_of new) (filter p (range_with_len (a + 1) n))) → AreBlocks size a (map (block_of new) (if t then a ∷ filter p (range_with_len (a + 1) n) else filter p (range_with_len (a + 1) n)))
    by_test true rest = (record { ascends = omega arith; number = omega (arith, within, fits); within = omega (arith, within); long = long }, rest)
    by_test false rest = weaken (map (block_of new) (filter p (range_with_len (a + 1) n))) rest
      where
        weaken : (blocks : List LeafBlock) → AreBlocks size (a + 1) blocks → AreBlocks size a blocks
        weaken [] are = tt
        weaken (b ∷ blocks) are = (record { ascends = omega (arith, are.0.ascends); number = are.0.number; within = are.0.within; long = are.0.long }, are.1)

length-made : (new : List ℕ) (p : ℕ → Bool) (a n : ℕ) → length (map (block_of new) (filter p (range_with_len a n))) ≤ n
length-made new p a zero = omega arith
length-made new p a (suc n) = by_test (p a) (length-made new p (a + 1) n)
  where
    by_test : (t : Bool) → length (map (block_of new) (filter p (range_with_len (a + 1) n))) ≤ n → length (map (block_of new) (if t then a ∷ filter p (range_with_len (a + 1) n) else filter p (range_with_len (a + 1) n))) ≤ suc n
    by_test true few = omega (arith, few)
    by_test false few = omega (arith, few)

pub made_formed : (old new : List ℕ) (node : Node) → 1 ≤ node.pnode → node.pnode < 2 ^ 64 → node.version < 2 ^ 64 → length new ≤ 2 ^ 28 → IsFormed (leaf_from old node new)
made_formed old new node some pnode version fits = record {
  pnode = (some, pnode);
  version = version;
  size = omega (arith, fits);
  count = omega (arith, fits, length-made new (differs old new) 0 (block_total (length new)));
  blocks = changed_fit (length new) new (differs old new) 0 (block_total (length new)) refl fits (omega arith);
}
