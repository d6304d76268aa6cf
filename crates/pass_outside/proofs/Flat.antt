-- Bytes in blocks: a read of one block, a write to one, more blocks and fewer.
use Rattle.std.proofs.Common.{◌≡◌, ℕ, zero, suc, ◌+◌, ◌-◌, ◌*◌, ◌<◌, ◌≤◌, min, max, List, [], ◌∷◌, ◌++◌, length, take, drop, set, get_or, replicate, Vec, refl, sym, ◌∙◌, ap, arith, append_assoc, add-one, below_more, ◌≢◌, get_or-set_other, get_or-set_same, length-append, length-take, length-drop}
use Rattle.std.proofs.Math.Nat.{mul-suc}
use Rattle.std.proofs.Math.Seq.{take-add, take-append-add, drop-append-add}
use Rattle.std.proofs.lemmas.List.{append-nil, length-replicate, take_at, take-append-le, drop-append-le, drop-drop, take-replicate, drop-replicate, replicate-append-replicate, take_min, drop_min, take_more, get_or-take, set-get_or}
use Rattle.std.specs.declared.alloc.Global.{Global}
use Rattle.pass_outside.specs.Areas.{written}
use Rattle.pass_outside.specs.Blocks.{padded, flat, held, AreWithin, over, IsArea}
use Rattle.pass_entry.proofs.Places.{take_append, drop_append}

abbrev pub Block : Type 0
Block = Vec ℕ Global

-- lists

pub length-over : (old : List ℕ) (at : ℕ) (bytes : List ℕ) → at + length bytes ≤ length old → length (over old at bytes) ≡ length old
length-over old at bytes le = omega (arith, le, length-append (take at old ++ bytes) (drop (at + length bytes) old), length-append (take at old) bytes, length-take at old, length-drop (at + length bytes) old)

-- a write to the first part
over_front : (xs ys : List ℕ) (at : ℕ) (bytes : List ℕ) → at + length bytes ≤ length xs → over (xs ++ ys) at bytes ≡ over xs at bytes ++ ys
over_front xs ys at bytes le =
    let a : take at (xs ++ ys) ≡ take at xs = take-append-le at xs ys (omega (arith, le)) in
    let b : drop (at + length bytes) (xs ++ ys) ≡ drop (at + length bytes) xs ++ ys = drop-append-le (at + length bytes) xs ys le in
    ap (λ (l : List ℕ). l ++ bytes ++ drop (at + length bytes) (xs ++ ys)) a ∙ ap (λ (l : List ℕ). take at xs ++ bytes ++ l) b
    ∙ sym (append_assoc (take at xs ++ bytes) (drop (at + length bytes) xs) ys)

-- a write to the second part
over_back : (xs ys : List ℕ) (at n : ℕ) (bytes : List ℕ) → n ≡ length xs + at → over (xs ++ ys) n bytes ≡ xs ++ over ys at bytes
over_back xs ys at n bytes is =
    let a : take n (xs ++ ys) ≡ xs ++ take at ys = ap (λ (k : ℕ). take k (xs ++ ys)) is ∙ take-append-add xs ys at in
    let same : n + length bytes ≡ length xs + (at + length bytes) = omega (arith, is) in
    let b : drop (n + length bytes) (xs ++ ys) ≡ drop (at + length bytes) ys = ap (λ (k : ℕ). drop k (xs ++ ys)) same ∙ drop-append-add xs ys (at + length bytes) in
    ap (λ (l : List ℕ). l ++ bytes ++ drop (n + length bytes) (xs ++ ys)) a ∙ ap (λ (l : List ℕ). (xs ++ take at ys) ++ bytes ++ l) b
    ∙ append_assoc (xs ++ take at ys) bytes (drop (at + length bytes) ys) ∙ append_assoc xs (take at ys) (bytes ++ drop (at + length bytes) ys)
    ∙ ap (λ (l : List ℕ). xs ++ l) (sym (append_assoc (take at ys) bytes (drop (at + length bytes) ys)))

-- two writes, one behind the other
pub over_more : (old : List ℕ) (at : ℕ) (first then : List ℕ) (n : ℕ) → n ≡ at + length first → n + length then ≤ length old → over (over old at first) n then ≡ over old at (first ++ then)
over_more old at first then n is le =
    let head = take at old ++ first in
    let long : length head ≡ n = omega (arith, is, le, length-append (take at old) first, length-take at old) in
    let rest = drop (at + length first) old in
    let back : over (head ++ rest) n then ≡ head ++ over rest 0 then = over_back head rest 0 n then (omega (arith, long)) in
    let drops : drop (0 + length then) rest ≡ drop (at + length (first ++ then)) old =
    drop-drop (0 + length then) (at + length first) old ∙ ap (λ (k : ℕ). drop k old) (omega (arith, length-append first then)) in
    back ∙ ap (λ (l : List ℕ). head ++ (then ++ l)) drops
    ∙ sym (append_assoc head then (drop (at + length (first ++ then)) old))
    ∙ ap (λ (l : List ℕ). l ++ drop (at + length (first ++ then)) old) (append_assoc (take at old) first then)
    ∙ ap (λ (l : List ℕ). l ++ drop (at + length (first ++ then)) old) refl
    ∙ refl

-- a block

pub length-padded : (size : ℕ) (bytes : List ℕ) → length bytes ≤ size → length (padded size bytes) ≡ size
unfolding padded
length-padded size bytes le = omega (arith, le, length-append bytes (replicate (size - length bytes) 0), length-replicate {A = ℕ} (size - length bytes) 0)

-- a whole block is its bytes
pub padded_whole : (size : ℕ) (bytes : List ℕ) → length bytes ≡ size → padded size bytes ≡ bytes
unfolding padded
padded_whole size bytes is =
    let none : size - length bytes ≡ 0 = omega (arith, is) in
    ap (λ (k : ℕ). bytes ++ replicate k 0) none ∙ append-nil bytes

-- an empty block is zeros
pub padded_none : (size : ℕ) → padded size [] ≡ replicate size 0
unfolding padded
padded_none size =
    let all : size - 0 ≡ size = omega arith in
    ap (λ (k : ℕ). replicate k 0) all

-- zeros written out change nothing
pub padded_grown : (size : ℕ) (old new : List ℕ) → length old ≤ size → new ≡ old ++ replicate (size - length old) 0 → padded size new ≡ padded size old
unfolding padded
padded_grown size old new le is =
    let long : length new ≡ size = omega (arith, ap length is, le, length-append old (replicate (size - length old) 0), length-replicate {A = ℕ} (size - length old) 0) in
    let none : size - length new ≡ 0 = omega (arith, long) in
    ap (λ (k : ℕ). new ++ replicate k 0) none ∙ append-nil new ∙ is

-- the front of bytes with zeros behind them
take_zeros : (n rest left : ℕ) (bytes front : List ℕ) → n - length bytes ≤ rest → n - length bytes ≡ left → take n bytes ≡ front → take n (bytes ++ replicate rest 0) ≡ front ++ replicate left 0
take_zeros n rest left bytes front few same is =
    take_append n bytes (replicate rest 0)
    ∙ ap (λ (l : List ℕ). take n bytes ++ l) (take-replicate (n - length bytes) rest 0 few ∙ ap (λ (k : ℕ). replicate k 0) same)
    ∙ ap (λ (l : List ℕ). l ++ replicate left 0) is

-- a read of a block: what is there, then zeros
pub read_padded : (size : ℕ) (bytes : List ℕ) (from n start count : ℕ) → length bytes ≤ size → from + n ≤ size → start ≡ min from (length bytes) → count ≡ min (length bytes - start) n
    → take n (drop from (padded size bytes)) ≡ take count (drop start bytes) ++ replicate (n - count) 0
unfolding padded
read_padded size bytes from n start count le within start_is count_is =
    let zeros : List ℕ = replicate (size - length bytes) 0 in
    let rest = size - length bytes - (from - length bytes) in
    let long : length (drop from bytes) ≡ length bytes - from = length-drop from bytes in
    let drops : drop from (bytes ++ zeros) ≡ drop from bytes ++ replicate rest 0 =
    drop_append from bytes zeros ∙ ap (λ (l : List ℕ). drop from bytes ++ l) (drop-replicate (from - length bytes) (size - length bytes) 0) in
    let few : n - length (drop from bytes) ≤ rest = omega (arith, long, within, le) in
    let same : n - length (drop from bytes) ≡ n - count = omega (arith, long, start_is, count_is) in
    let counts : min n (length (drop from bytes)) ≡ count = omega (arith, long, start_is, count_is) in
    let front : take n (drop from bytes) ≡ take count (drop start bytes) =
    sym (take_min n (drop from bytes)) ∙ ap (λ (k : ℕ). take k (drop from bytes)) counts ∙ ap (take count) (sym (drop_min from bytes) ∙ ap (λ (k : ℕ). drop k bytes) (sym start_is)) in
    ap (take n) drops ∙ take_zeros n rest (n - count) (drop from bytes) (take count (drop start bytes)) few same front

-- a block cut short
cut_padded : (size : ℕ) (bytes : List ℕ) (o : ℕ) → length bytes ≤ size → o ≤ size → padded size (take o bytes) ≡ take o (padded size bytes) ++ replicate (size - o) 0
unfolding padded
cut_padded size bytes o le within =
    let long : length (take o bytes) ≡ min o (length bytes) = length-take o bytes in
    let left = o - length bytes in
    let few : left ≤ size - length bytes = omega (arith, within) in
    let sum : size - length (take o bytes) ≡ left + (size - o) = omega (arith, long, le, within) in
    ap (λ (k : ℕ). take o bytes ++ replicate k 0) sum
    ∙ ap (λ (l : List ℕ). take o bytes ++ l) (sym (replicate-append-replicate left (size - o) 0))
    ∙ sym (append_assoc (take o bytes) (replicate left 0) (replicate (size - o) 0))
    ∙ ap (λ (l : List ℕ). l ++ replicate (size - o) 0) (sym (take_append o bytes (replicate (size - length bytes) 0) ∙ ap (λ (l : List ℕ). take o bytes ++ l) (take-replicate left (size - length bytes) 0 few)))

-- blocks

pub length-held : (bs : List Block) → length (held bs) ≡ length bs
length-held [] = refl
length-held (b ∷ bs) = ap suc (length-held bs)

pub held-append : (xs ys : List Block) → held (xs ++ ys) ≡ held xs ++ held ys
held-append [] ys = refl
held-append (x ∷ xs) ys = ap (λ (l : List ℕ). length x.items ∷ l) (held-append xs ys)

pub held-set : (bs : List Block) (i : ℕ) (b : Block) → held (set bs i b) ≡ set (held bs) i (length b.items)
held-set [] i b = refl
held-set (x ∷ xs) zero b = refl
held-set (x ∷ xs) (suc i) b = ap (λ (l : List ℕ). length x.items ∷ l) (held-set xs i b)

pub held_at : (bs : List Block) (i : ℕ) (d : Block) → i < length bs → get_or (held bs) i 0 ≡ length (get_or bs i d).items
held_at [] i d le = absurd (omega (arith, le))
held_at (x ∷ xs) zero d le = refl
held_at (x ∷ xs) (suc i) d le = held_at xs i d (omega (arith, le))

tail_within : (size : ℕ) (b : Block) (bs : List Block) → AreWithin size (b ∷ bs) → AreWithin size bs
tail_within size b bs within k = within (suc k)

pub flat-append : (size : ℕ) (xs ys : List Block) → flat size (xs ++ ys) ≡ flat size xs ++ flat size ys
flat-append size [] ys = refl
flat-append size (x ∷ xs) ys = ap (λ (l : List ℕ). padded size x.items ++ l) (flat-append size xs ys) ∙ sym (append_assoc (padded size x.items) (flat size xs) (flat size ys))

pub length-flat : (size : ℕ) (bs : List Block) → AreWithin size bs → length (flat size bs) ≡ size * length bs
length-flat size [] within = omega arith
length-flat size (b ∷ bs) within =
    let first : length (padded size b.items) ≡ size = length-padded size b.items (within 0) in
    let rest : length (flat size bs) ≡ size * length bs = length-flat size bs (tail_within size b bs within) in
    omega (arith, length-append (padded size b.items) (flat size bs), first, rest, mul-suc size (length bs))

-- an empty block more
pub flat_more : (size : ℕ) (bs : List Block) (b : Block) → b.items ≡ [] → flat size (bs ++ b ∷ []) ≡ flat size bs ++ replicate size 0
flat_more size bs b is =
    flat-append size bs (b ∷ []) ∙ ap (λ (l : List ℕ). flat size bs ++ l) (append-nil (padded size b.items) ∙ ap (padded size) is ∙ padded_none size)

pub within_more : (size : ℕ) (bs : List Block) (b : Block) → AreWithin size bs → length b.items ≤ size → AreWithin size (bs ++ b ∷ [])
within_more size [] b within le zero = le
within_more size [] b within le (suc k) = omega arith
within_more size (x ∷ xs) b within le zero = within 0
within_more size (x ∷ xs) b within le (suc k) = within_more size xs b (tail_within size x xs within) le k

pub within_set : (size : ℕ) (bs : List Block) (i : ℕ) (b : Block) → AreWithin size bs → length b.items ≤ size → AreWithin size (set bs i b)
within_set size [] i b within le k = omega arith
within_set size (x ∷ xs) zero b within le zero = le
within_set size (x ∷ xs) zero b within le (suc k) = within (suc k)
within_set size (x ∷ xs) (suc i) b within le zero = within 0
within_set size (x ∷ xs) (suc i) b within le (suc k) = within_set size xs i b (tail_within size x xs within) le k

pub within_take : (size : ℕ) (bs : List Block) (n : ℕ) → AreWithin size bs → AreWithin size (take n bs)
within_take size bs zero within k = omega arith
within_take size [] (suc n) within k = omega arith
within_take size (x ∷ xs) (suc n) within zero = within 0
within_take size (x ∷ xs) (suc n) within (suc k) = within_take size xs n (tail_within size x xs within) k

-- each block is within
pub within_at : (size : ℕ) (bs : List Block) (i : ℕ) (d : Block) → AreWithin size bs → i < length bs → length (get_or bs i d).items ≤ size
within_at size bs i d within le = omega (arith, within i, held_at bs i d le)

-- a read within one block
pub read_at : (size : ℕ) (bs : List Block) (i o n : ℕ) (d : Block) → AreWithin size bs → i < length bs → o + n ≤ size
    → take n (drop (size * i + o) (flat size bs)) ≡ take n (drop o (padded size (get_or bs i d).items))
read_at size [] i o n d within le fits = absurd (omega (arith, le))
read_at size (b ∷ bs) zero o n d within le fits =
    let long : length (padded size b.items) ≡ size = length-padded size b.items (within 0) in
    let none : size * 0 + o ≡ o = omega arith in
    ap (λ (k : ℕ). take n (drop k (padded size b.items ++ flat size bs))) none
    ∙ ap (take n) (drop-append-le o (padded size b.items) (flat size bs) (omega (arith, long, fits)))
    ∙ take-append-le n (drop o (padded size b.items)) (flat size bs) (omega (arith, length-drop o (padded size b.items), long, fits))
read_at size (b ∷ bs) (suc i) o n d within le fits =
    let long : length (padded size b.items) ≡ size = length-padded size b.items (within 0) in
    let sum : size * suc i + o ≡ length (padded size b.items) + (size * i + o) = omega (arith, long, mul-suc size i) in
    ap (λ (k : ℕ). take n (drop k (padded size b.items ++ flat size bs))) sum
    ∙ ap (take n) (drop-append-add (padded size b.items) (flat size bs) (size * i + o))
    ∙ read_at size bs i o n d (tail_within size b bs within) (omega (arith, le)) fits

-- a write within one whole block
pub write_at_block : (size : ℕ) (bs : List Block) (i o : ℕ) (piece : List ℕ) (new d : Block) → AreWithin size bs → i < length bs → get_or (held bs) i 0 ≡ size → o + length piece ≤ size
    → new.items ≡ over (get_or bs i d).items o piece → flat size (set bs i new) ≡ over (flat size bs) (size * i + o) piece
write_at_block size [] i o piece new d within le whole fits is = absurd (omega (arith, le))
write_at_block size (b ∷ bs) zero o piece new d within le whole fits is =
    let none : size * 0 + o ≡ o = omega arith in
    let long : length new.items ≡ size = ap length is ∙ length-over b.items o piece (omega (arith, whole, fits)) ∙ whole in
    ap (λ (l : List ℕ). l ++ flat size bs) (padded_whole size new.items long ∙ is)
    ∙ sym (over_front b.items (flat size bs) o piece (omega (arith, whole, fits)))
    ∙ ap (λ (l : List ℕ). over (l ++ flat size bs) o piece) (sym (padded_whole size b.items whole))
    ∙ ap (λ (k : ℕ). over (padded size b.items ++ flat size bs) k piece) (sym none)
write_at_block size (b ∷ bs) (suc i) o piece new d within le whole fits is =
    let long : length (padded size b.items) ≡ size = length-padded size b.items (within 0) in
    let sum : size * suc i + o ≡ length (padded size b.items) + (size * i + o) = omega (arith, long, mul-suc size i) in
    ap (λ (l : List ℕ). padded size b.items ++ l) (write_at_block size bs i o piece new d (tail_within size b bs within) (omega (arith, le)) whole fits is)
    ∙ sym (over_back (padded size b.items) (flat size bs) (size * i + o) (size * suc i + o) piece sum)

-- a block made whole
pub flat_whole : (size : ℕ) (bs : List Block) (i : ℕ) (new d : Block) → i < length bs → padded size new.items ≡ padded size (get_or bs i d).items → flat size (set bs i new) ≡ flat size bs
flat_whole size [] i new d le is = absurd (omega (arith, le))
flat_whole size (b ∷ bs) zero new d le is = ap (λ (l : List ℕ). l ++ flat size bs) is
flat_whole size (b ∷ bs) (suc i) new d le is = ap (λ (l : List ℕ). padded size b.items ++ l) (flat_whole size bs i new d (omega (arith, le)) is)

-- blocks dropped
pub cut_blocks : (size : ℕ) (bs : List Block) (i : ℕ) → AreWithin size bs → i ≤ length bs → flat size (take i bs) ≡ take (size * i) (flat size bs)
cut_blocks size bs zero within le =
    let none : size * 0 ≡ 0 = omega arith in
    ap (λ (k : ℕ). take k (flat size bs)) (sym none)
cut_blocks size [] (suc i) within le = absurd (omega (arith, le))
cut_blocks size (b ∷ bs) (suc i) within le =
    let long : length (padded size b.items) ≡ size = length-padded size b.items (within 0) in
    let sum : size * suc i ≡ length (padded size b.items) + size * i = omega (arith, long, mul-suc size i) in
    ap (λ (l : List ℕ). padded size b.items ++ l) (cut_blocks size bs i (tail_within size b bs within) (omega (arith, le)))
    ∙ sym (ap (λ (k : ℕ). take k (padded size b.items ++ flat size bs)) sum ∙ take-append-add (padded size b.items) (flat size bs) (size * i))

-- blocks dropped, and the last one cut short
pub cut_in_block : (size : ℕ) (bs : List Block) (i o : ℕ) (new d : Block) → AreWithin size bs → i < length bs → o ≤ size → new.items ≡ take o (get_or bs i d).items
    → flat size (set (take (suc i) bs) i new) ≡ take (size * i + o) (flat size bs) ++ replicate (size - o) 0
cut_in_block size [] i o new d within le fits is = absurd (omega (arith, le))
cut_in_block size (b ∷ bs) zero o new d within le fits is =
    let long : length (padded size b.items) ≡ size = length-padded size b.items (within 0) in
    let none : o ≡ size * 0 + o = omega arith in
    append-nil (padded size new.items) ∙ ap (padded size) is ∙ cut_padded size b.items o (within 0) fits
    ∙ ap (λ (l : List ℕ). l ++ replicate (size - o) 0) (sym (take-append-le o (padded size b.items) (flat size bs) (omega (arith, long, fits))) ∙ ap (λ (k : ℕ). take k (padded size b.items ++ flat size bs)) none)
cut_in_block size (b ∷ bs) (suc i) o new d within le fits is =
    let long : length (padded size b.items) ≡ size = length-padded size b.items (within 0) in
    let sum : size * suc i + o ≡ length (padded size b.items) + (size * i + o) = omega (arith, long, mul-suc size i) in
    ap (λ (l : List ℕ). padded size b.items ++ l) (cut_in_block size bs i o new d (tail_within size b bs within) (omega (arith, le)) fits is)
    ∙ sym (append_assoc (padded size b.items) (take (size * i + o) (flat size bs)) (replicate (size - o) 0))
    ∙ ap (λ (l : List ℕ). l ++ replicate (size - o) 0) (sym (ap (λ (k : ℕ). take k (padded size b.items ++ flat size bs)) sum ∙ take-append-add (padded size b.items) (flat size bs) (size * i + o)))

-- steps of the code

-- a block written out, or left as it was, is the same block
pub same_block : (size : ℕ) (bs : List Block) (i : ℕ) (b new : Block) → AreWithin size bs → i < length bs → b ≡ get_or bs i b → padded size new.items ≡ padded size b.items → flat size (set bs i new) ≡ flat size bs
same_block size bs i b new within le is same = flat_whole size bs i new b le (same ∙ ap (λ (x : Block). padded size x.items) is)

pub grown_whole : (size : ℕ) (old new : List ℕ) → length old ≤ size → new ≡ old ++ replicate (size - length old) 0 → length new ≡ size
grown_whole size old new le is = omega (arith, ap length is, le, length-append old (replicate (size - length old) 0), length-replicate {A = ℕ} (size - length old) 0)

-- the other blocks stay as they are
pub held_elsewhere : (bs : List Block) (i k : ℕ) (new : Block) → k ≢ i → get_or (held (set bs i new)) k 0 ≡ get_or (held bs) k 0
held_elsewhere bs i k new other = ap (λ (l : List ℕ). get_or l k 0) (held-set bs i new) ∙ get_or-set_other (held bs) i k (length new.items) 0 other

-- one block more is whole
pub whole_more : (size : ℕ) (bs : List Block) (first next : ℕ) (new : Block) → next < length bs → length new.items ≡ size → ((k : ℕ) → k < next → first ≤ k → get_or (held bs) k 0 ≡ size)
    → (k : ℕ) → k < next + 1 → first ≤ k → get_or (held (set bs next new)) k 0 ≡ size
whole_more size bs first next new le long so_far =
    below_more (λ k. first ≤ k → get_or (held (set bs next new)) k 0 ≡ size) next
    (λ k lt from. let other : k ≢ next = omega (arith, lt) in
    ap (λ (l : List ℕ). get_or l k 0) (held-set bs next new) ∙ get_or-set_other (held bs) next k (length new.items) 0 other ∙ so_far k lt from)
    (λ from. ap (λ (l : List ℕ). get_or l next 0) (held-set bs next new) ∙ get_or-set_same (held bs) next (length new.items) 0 (omega (arith, le, length-held bs)) ∙ long)

pub more_zeros : (size : ℕ) (first bs grown : List Block) (b : Block) (n : ℕ) → grown ≡ bs ++ b ∷ [] → b.items ≡ [] → flat size bs ≡ flat size first ++ replicate n 0
    → flat size grown ≡ flat size first ++ replicate (n + size) 0
more_zeros size first bs grown b n grows none is =
    ap (flat size) grows ∙ flat_more size bs b none ∙ ap (λ (l : List ℕ). l ++ replicate size 0) is
    ∙ append_assoc (flat size first) (replicate n 0) (replicate size 0) ∙ ap (λ (l : List ℕ). flat size first ++ l) (replicate-append-replicate n size 0)

pub copy_more : {X : Type 0} (F : List Block → X) (bs copy grown : List Block) (i : ℕ) (b c : Block) → i < length bs → b ≡ get_or bs i b → grown ≡ copy ++ c ∷ []
    → F (copy ++ c ∷ []) ≡ F (take i bs ++ b ∷ []) → F grown ≡ F (take (i + 1) bs)
copy_more F bs copy grown i b c le is grows same =
    ap F grows ∙ same ∙ ap F (ap (λ (x : Block). take i bs ++ x ∷ []) is ∙ sym (take_more bs i b le))

pub flat_same : (size : ℕ) (xs ys : List Block) (b c : Block) → flat size xs ≡ flat size ys → b.items ≡ c.items → flat size (xs ++ b ∷ []) ≡ flat size (ys ++ c ∷ [])
flat_same size xs ys b c same is =
    flat-append size xs (b ∷ []) ∙ ap (λ (l : List ℕ). l ++ (padded size b.items ++ [])) same ∙ ap (λ (l : List ℕ). flat size ys ++ (padded size l ++ [])) is ∙ sym (flat-append size ys (c ∷ []))

pub held_same : (xs ys : List Block) (b c : Block) → held xs ≡ held ys → b.items ≡ c.items → held (xs ++ b ∷ []) ≡ held (ys ++ c ∷ [])
held_same xs ys b c same is =
    held-append xs (b ∷ []) ∙ ap (λ (l : List ℕ). l ++ length b.items ∷ []) same ∙ ap (λ (l : List ℕ). held ys ++ length l ∷ []) is ∙ sym (held-append ys (c ∷ []))

pub cut_whole : (size : ℕ) (bs cut : List Block) (i len : ℕ) → AreWithin size bs → i ≤ length bs → len ≡ size * i → cut ≡ take i bs
    → (n : ℕ) × (flat size cut ≡ take len (flat size bs) ++ replicate n 0)
cut_whole size bs cut i len within le is cuts =
    (0, ap (flat size) cuts ∙ cut_blocks size bs i within le ∙ ap (λ (k : ℕ). take k (flat size bs)) (sym is) ∙ sym (append-nil (take len (flat size bs))))

pub cut_rest : (size : ℕ) (bs cut : List Block) (i o len : ℕ) (b new : Block) → AreWithin size bs → i < length bs → o ≤ size → len ≡ size * i + o → cut ≡ take (i + 1) bs → b ≡ get_or cut i b → new.items ≡ take o b.items
    → (n : ℕ) × (flat size (set cut i new) ≡ take len (flat size bs) ++ replicate n 0)
cut_rest size bs cut i o len b new within le fits is cuts at_i news =
    let same : get_or bs i b ≡ b = sym (get_or-take (i + 1) bs i b (omega arith)) ∙ sym (ap (λ (l : List Block). get_or l i b) cuts) ∙ sym at_i in (
      size - o,
      ap (λ (l : List Block). flat size (set l i new)) (cuts ∙ ap (λ (k : ℕ). take k bs) (add-one i))
          ∙ cut_in_block size bs i o new b within le fits (news ∙ ap (λ (x : Block). take o x.items) (sym same))
          ∙ ap (λ (k : ℕ). take k (flat size bs) ++ replicate (size - o) 0) (sym is),
    )

pub held_kept : (size : ℕ) (bs : List Block) (i : ℕ) (new : Block) → length new.items ≡ size → get_or (held bs) i 0 ≡ size → held (set bs i new) ≡ held bs
held_kept size bs i new long whole = held-set bs i new ∙ ap (λ (k : ℕ). set (held bs) i k) (long ∙ sym whole) ∙ set-get_or (held bs) i 0

pub write_more : (size : ℕ) (bs first : List Block) (i o at : ℕ) (done piece : List ℕ) (new b : Block) → AreWithin size bs → AreWithin size first → length bs ≡ length first → i < length bs → get_or (held bs) i 0 ≡ size → o + length piece ≤ size
    → b ≡ get_or bs i b → new.items ≡ over b.items o piece → size * i + o ≡ at + length done → at + length done + length piece ≤ size * length first
    → flat size bs ≡ over (flat size first) at done → flat size (set bs i new) ≡ over (flat size first) at (done ++ piece)
write_more size bs first i o at done piece new b within within_first same le whole fits is news place room so_far =
    let long : length (flat size first) ≡ size * length first = length-flat size first within_first in
    write_at_block size bs i o piece new b within le whole fits (news ∙ ap (λ (x : Block). over x.items o piece) is)
    ∙ ap (λ (l : List ℕ). over l (size * i + o) piece) so_far
    ∙ over_more (flat size first) at done piece (size * i + o) place (omega (arith, room, long, place))

pub read_more : (size : ℕ) (bs : List Block) (i o at done count : ℕ) (into new : List ℕ) (b : Block) → AreWithin size bs → i < length bs → o + count ≤ size → b ≡ get_or bs i b → size * i + o ≡ at + done → done + count ≤ length into
    → new ≡ over into done (take count (drop o (padded size b.items))) → take done into ≡ take done (drop at (flat size bs))
    → take (done + count) new ≡ take (done + count) (drop at (flat size bs))
read_more size bs i o at done count into new b within le fits is place room news so_far =
    let piece : List ℕ = take count (drop o (padded size b.items)) in
    let block : length (padded size b.items) ≡ size = ap (λ (x : Block). length (padded size x.items)) is ∙ length-padded size (get_or bs i b).items (within_at size bs i b within le) in
    let long : length piece ≡ count = length-take count (drop o (padded size b.items)) ∙ omega (arith, length-drop o (padded size b.items), block, fits) in
    let head : length (take done into ++ piece) ≡ done + count = omega (arith, length-append (take done into) piece, length-take done into, room, long) in
    let from : piece ≡ take count (drop (at + done) (flat size bs)) =
    ap (λ (x : Block). take count (drop o (padded size x.items))) is ∙ sym (read_at size bs i o count b within le fits) ∙ ap (λ (k : ℕ). take count (drop k (flat size bs))) place in
    ap (take (done + count)) news
    ∙ take_at (take done into ++ piece) (drop (done + length piece) into) (done + count) head
    ∙ ap (λ (l : List ℕ). l ++ piece) so_far
    ∙ ap (λ (l : List ℕ). take done (drop at (flat size bs)) ++ l) (from ∙ ap (take count) (sym (drop-drop done at (flat size bs))))
    ∙ sym (take-add done count (drop at (flat size bs)))

-- an area

pub length-written : (old : List ℕ) (at : ℕ) (bytes : List ℕ) → length (written old at bytes) ≡ max (length old) (at + length bytes)
length-written old at bytes =
    let head = (take at old ++ replicate (at - length old) 0) ++ bytes in
    omega (arith, length-append head (drop (at + length bytes) old), length-append (take at old ++ replicate (at - length old) 0) bytes, length-append (take at old) (replicate (at - length old) 0), length-take at old, length-replicate {A = ℕ} (at - length old) 0, length-drop (at + length bytes) old)

-- a write over an area and the zeros behind it
pub written_over : (old : List ℕ) (zeros at : ℕ) (bytes : List ℕ) → at + length bytes ≤ length old + zeros
    → over (old ++ replicate zeros 0) at bytes ≡ written old at bytes ++ replicate (zeros - (at + length bytes - length old)) 0
written_over old zeros at bytes fits =
    let end = at + length bytes in
    let few : at - length old ≤ zeros = omega (arith, fits) in
    let front : take at (old ++ replicate zeros 0) ≡ take at old ++ replicate (at - length old) 0 =
    take_append at old (replicate zeros 0) ∙ ap (λ (l : List ℕ). take at old ++ l) (take-replicate (at - length old) zeros 0 few) in
    let back : drop end (old ++ replicate zeros 0) ≡ drop end old ++ replicate (zeros - (end - length old)) 0 =
    drop_append end old (replicate zeros 0) ∙ ap (λ (l : List ℕ). drop end old ++ l) (drop-replicate (end - length old) zeros 0) in
    ap (λ (l : List ℕ). l ++ bytes ++ drop end (old ++ replicate zeros 0)) front
    ∙ ap (λ (l : List ℕ). (take at old ++ replicate (at - length old) 0) ++ bytes ++ l) back
    ∙ sym (append_assoc ((take at old ++ replicate (at - length old) 0) ++ bytes) (drop end old) (replicate (zeros - (end - length old)) 0))

-- blocks that hold these bytes, and zeros behind them, are an area of them
pub area_is : (size : ℕ) (bs : List Block) (len n : ℕ) (bytes : List ℕ) → AreWithin size bs → flat size bs ≡ bytes ++ replicate n 0 → length bytes ≡ len → IsArea size len bs × (take len (flat size bs) ≡ bytes)
area_is size bs len n bytes within is long =
    let front : take len (flat size bs) ≡ bytes = ap (take len) is ∙ take_at bytes (replicate n 0) len long in
    let whole : length (flat size bs) ≡ len + n = ap length is ∙ omega (arith, length-append bytes (replicate n 0), length-replicate {A = ℕ} n 0, long) in
    let rest : n ≡ length (flat size bs) - len = omega (arith, whole) in (
      record {
        within = within;
        enough = omega (arith, whole);
        zeros = is ∙ ap (λ (l : List ℕ). l ++ replicate n 0) (sym front) ∙ ap (λ (k : ℕ). take len (flat size bs) ++ replicate k 0) rest;
      },
      front,
    )

-- more zeros behind an area
pub area_grown : (size : ℕ) (bs grown : List Block) (len n : ℕ) → IsArea size len bs → AreWithin size grown → flat size grown ≡ flat size bs ++ replicate n 0
    → IsArea size len grown × (take len (flat size grown) ≡ take len (flat size bs))
area_grown size bs grown len n area within grows =
    let old : List ℕ = take len (flat size bs) in
    let some = length (flat size bs) - len in
    area_is size grown len (some + n) old within
    (grows ∙ ap (λ (l : List ℕ). l ++ replicate n 0) area.zeros ∙ append_assoc old (replicate some 0) (replicate n 0) ∙ ap (λ (l : List ℕ). old ++ l) (replicate-append-replicate some n 0))
    (length-take len (flat size bs) ∙ omega (arith, area.enough))

-- a write to an area
pub area_written : (size : ℕ) (bs new : List Block) (len at to : ℕ) (bytes : List ℕ) → IsArea size len bs → AreWithin size new → at + length bytes ≤ length (flat size bs) → flat size new ≡ over (flat size bs) at bytes → to ≡ max len (at + length bytes)
    → IsArea size to new × (take to (flat size new) ≡ written (take len (flat size bs)) at bytes)
area_written size bs new len at to bytes area within fits writes is =
    let old : List ℕ = take len (flat size bs) in
    let some = length (flat size bs) - len in
    let long : length old ≡ len = length-take len (flat size bs) ∙ omega (arith, area.enough) in
    area_is size new to (some - (at + length bytes - length old)) (written old at bytes) within
    (writes ∙ ap (λ (l : List ℕ). over l at bytes) area.zeros ∙ written_over old some at bytes (omega (arith, fits, long, area.enough)))
    (length-written old at bytes ∙ ap (λ (k : ℕ). max k (at + length bytes)) long ∙ sym is)
