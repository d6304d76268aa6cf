-- What a table has in one block, in its first blocks, and behind a size.
use Rattle.std.proofs.Common.{◌≡◌, ◌∙◌, ℕ, zero, suc, ◌+◌, ◌*◌, ◌-◌, ◌<◌, ◌≤◌, ◌==◌, ◌&&◌, Bool, true, false, List, [], ◌∷◌, ◌++◌, length, take, drop, replicate, get_or, refl, ap, sym, arith}
use Rattle.std.specs.Prelude.{Some, None, is_some}
use Rattle.std.specs.List.{list_all}
use Rattle.std.proofs.Math.Seq.{drop-append-add, take-append-add}
use Rattle.std.proofs.lemmas.Bool.Decides.{nat_tests}
use Rattle.std.proofs.lemmas.List.{take_at, take-append-drop, take-take, take_all, drop-take, drop-drop, drop_all, length-take-le, length-drop, length-replicate, take-replicate, drop-replicate, append-nil}
use Rattle.pass_plain.specs.Files.{extended}
use Rattle.pass_table.specs.Tables.{zeros, bytes_of, flat, AreWhole}
use Rattle.pass_table.proofs.Flats.{Block, start, starts, flat_length}

-- the bytes of one block
pub block_at : (size : ℕ) (table : List Block) (b : ℕ) → AreWhole size table → b < length table → take size (drop (start size b) (flat table)) ≡ bytes_of (get_or table b None)
block_at size [] b whole low = absurd (omega (arith, low))
block_at size (x ∷ table) zero whole low = take_at (bytes_of x) (flat table) size whole.0
block_at size (x ∷ table) (suc b) whole low =
    let here = whole.0 in
    ap (λ n. take size (drop n (bytes_of x ++ flat table))) (let z : size + start size b ≡ length (bytes_of x) + start size b = omega (arith, here) in z)
    ∙ ap (take size) (drop-append-add (bytes_of x) (flat table) (start size b))
    ∙ block_at size table b whole.1 (omega (arith, low))

-- a part of one block
pub part_at : (size : ℕ) (table : List Block) (b from len : ℕ) → AreWhole size table → b < length table → from + len ≤ size
    → take len (drop from (bytes_of (get_or table b None))) ≡ take len (drop (start size b + from) (flat table))
part_at size table b from len whole low within =
    ap (λ xs. take len (drop from xs)) (sym (block_at size table b whole low))
    ∙ ap (λ n. take len (drop from (take n (drop (start size b) (flat table))))) (let z : size ≡ from + (size - from) = omega (arith, within) in z)
    ∙ ap (take len) (drop-take from (size - from) (drop (start size b) (flat table)))
    ∙ take-take len (size - from) (drop from (drop (start size b) (flat table))) (omega (arith, within))
    ∙ ap (take len) (drop-drop from (start size b) (flat table))

-- the first blocks
pub first_blocks : (size : ℕ) (table : List Block) (n : ℕ) → AreWhole size table → n ≤ length table → flat (take n table) ≡ take (start size n) (flat table)
first_blocks size table zero whole low = refl
first_blocks size [] (suc n) whole low = absurd (omega (arith, low))
first_blocks size (x ∷ table) (suc n) whole low =
    let here = whole.0 in
    ap (λ xs. bytes_of x ++ xs) (first_blocks size table n whole.1 (omega (arith, low)))
    ∙ sym (take-append-add (bytes_of x) (flat table) (start size n))
    ∙ ap (λ m. take m (bytes_of x ++ flat table)) (let z : length (bytes_of x) + start size n ≡ size + start size n = omega (arith, here) in z)

pub first_whole : (size : ℕ) (table : List Block) (n : ℕ) → AreWhole size table → AreWhole size (take n table)
first_whole size table zero whole = tt
first_whole size [] (suc n) whole = tt
first_whole size (x ∷ table) (suc n) whole = (whole.0, first_whole size table n whole.1)

-- the last block made zero from a place on
pub cleared : (old : List ℕ) (p at n m : ℕ) → p ≡ at → at + m ≡ length old → n ≡ m
    → take p old ++ replicate n 0 ++ drop (p + length (replicate {A = ℕ} n 0)) old ≡ take at old ++ replicate (length old - at) 0
cleared old p at n m same whole is =
    let size : length (replicate {A = ℕ} n 0) ≡ m = length-replicate n 0 ∙ is in
    let none : drop (p + length (replicate {A = ℕ} n 0)) old ≡ [] = drop_all (p + length (replicate {A = ℕ} n 0)) old (omega (arith, size, same, whole)) in
    (λ i. take (same i) old ++ replicate n 0 ++ none i)
    ∙ append-nil (take at old ++ replicate n 0)
    ∙ ap (λ k. take at old ++ replicate k 0) (let z : n ≡ length old - at = omega (arith, is, whole) in z)

-- a last block without bytes is zero from each place on
pub clear_already : (size : ℕ) (table : List Block) (b from : ℕ) → zeros ≡ replicate size 0 → AreWhole size table → length table ≡ b + 1 → from ≤ size → is_some (get_or table b None) ≡ false
    → flat table ≡ take (start size b + from) (flat table) ++ replicate (length (flat table) - (start size b + from)) 0
clear_already size table b from zero_is whole count within none =
    let long : length (flat table) ≡ start size b + size = flat_length size table whole ∙ ap (start size) count ∙ (let z : start size (b + 1) ≡ start size b + size = ap (start size) (let y : b + 1 ≡ suc b = omega arith in y) ∙ (omega arith) in z) in
    let rest : drop (start size b + from) (flat table) ≡ replicate (length (flat table) - (start size b + from)) 0 =
    sym (take_all (size - from) (drop (start size b + from) (flat table)) (let d = length-drop (start size b + from) (flat table) in omega (arith, d, long)))
    ∙ sym (part_at size table b from (size - from) whole (omega (arith, count)) (omega (arith, within)))
    ∙ ap (λ (x : Block). take (size - from) (drop from (bytes_of x))) (not_made (get_or table b None) none)
    ∙ ap (λ xs. take (size - from) (drop from xs)) zero_is
    ∙ ap (take (size - from)) (drop-replicate from size 0)
    ∙ take-replicate (size - from) (size - from) 0 (omega arith)
    ∙ ap (λ n. replicate n 0) (let z : size - from ≡ length (flat table) - (start size b + from) = omega (arith, long) in z) in
    sym (take-append-drop (start size b + from) (flat table)) ∙ ap (λ xs. take (start size b + from) (flat table) ++ xs) rest
  where
    not_made : (o : Block) → is_some o ≡ false → o ≡ None
    not_made None is = refl
    not_made (Some own) is = absurd (cc)

pub zero_is : zeros ≡ replicate 4096 0
unfolding zeros
zero_is = refl

pub all_zero : (bytes : List ℕ) → list_all (λ b. b == 0) bytes ≡ true → bytes ≡ replicate (length bytes) 0
all_zero [] is = refl
all_zero (b ∷ bytes) is = (λ i. equal b (is_zero (b == 0) (list_all (λ x. x == 0) bytes) is) i ∷ all_zero bytes (rest (b == 0) (list_all (λ x. x == 0) bytes) is) i)
  where
    equal : (b : ℕ) → (b == 0) ≡ true → b ≡ 0
    equal b is = grind (arith, nat_tests)

    is_zero : (p q : Bool) → (p && q) ≡ true → p ≡ true
    is_zero true q is = refl
    is_zero false q is = absurd (cc)

    rest : (p q : Bool) → (p && q) ≡ true → q ≡ true
    rest true q is = is
    rest false q is = absurd (cc)

pub replicate_add : (m n : ℕ) → replicate {A = ℕ} m 0 ++ replicate n 0 ≡ replicate (m + n) 0
replicate_add zero n = ap (λ k. replicate k 0) (let z : n ≡ 0 + n = omega arith in z)
replicate_add (suc m) n = ap (λ xs. 0 ∷ xs) (replicate_add m n) ∙ ap (λ k. replicate k 0) (let z : suc (m + n) ≡ suc m + n = omega arith in z)

-- a block of zeros is what no bytes stand for
pub zeros_extended : (size : ℕ) (bytes : List ℕ) → zeros ≡ replicate size 0 → length bytes ≤ size → list_all (λ b. b == 0) bytes ≡ true → zeros ≡ extended bytes size
zeros_extended size bytes zero_is low is =
    zero_is ∙ ap (λ n. replicate n 0) (let z : size ≡ length bytes + (size - length bytes) = omega (arith, low) in z)
    ∙ sym (replicate_add (length bytes) (size - length bytes)) ∙ ap (λ xs. xs ++ replicate (size - length bytes) 0) (sym (all_zero bytes is))

-- a part of a block without bytes
pub part_zero : (from len : ℕ) → from + len ≤ 4096 → replicate {A = ℕ} len 0 ≡ take len (drop from zeros)
part_zero from len within = any 4096 from len within ∙ ap (λ xs. take len (drop from xs)) (sym zero_is)
  where
    any : (size from len : ℕ) → from + len ≤ size → replicate {A = ℕ} len 0 ≡ take len (drop from (replicate size 0))
    any size from len within = sym (ap (take len) (drop-replicate from size 0) ∙ take-replicate len (size - from) 0 (omega (arith, within)))

-- A cut: the blocks below a size, of which the rest of the last one is zero

pub cut_flat : (table new : List Block) (count size : ℕ) → AreWhole 4096 table → size ≤ length table * 4096 → size ≤ count * 4096 → count * 4096 < size + 4096
    → flat new ≡ take size (flat (take count table)) ++ replicate (length (flat new) - size) 0
    → flat new ≡ take size (flat table) ++ replicate (length (flat new) - size) 0
cut_flat table new count size whole low covers least is =
    is ∙ ap (λ xs. take size xs ++ replicate (length (flat new) - size) 0) (first_blocks 4096 table count whole (omega (arith, low, least)))
    ∙ ap (λ xs. xs ++ replicate (length (flat new) - size) 0) (take-take size (start 4096 count) (flat table) (let z = starts count in omega (arith, z, covers)))

-- where the size is a block's end, nothing is left of it
pub cut_even : (table : List Block) (count size : ℕ) → AreWhole 4096 table → size ≤ length table * 4096 → count * 4096 ≡ size
    → flat (take count table) ≡ take size (flat table) ++ replicate (length (flat (take count table)) - size) 0
cut_even table count size whole low even =
    let is = first_blocks 4096 table count whole (omega (arith, low, even)) ∙ ap (λ n. take n (flat table)) (starts count ∙ even) in
    let long : length (flat (take count table)) ≡ size = ap length is ∙ length-take-le size (flat table) (let z = flat_length 4096 table whole ∙ starts (length table) in omega (arith, z, low)) in
    is ∙ sym (append-nil (take size (flat table))) ∙ ap (λ n. take size (flat table) ++ replicate n 0) (let z : 0 ≡ length (flat (take count table)) - size = omega (arith, long) in z)
