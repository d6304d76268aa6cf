-- A table that gets more places, and what is read from it piece by piece.
use Rattle.std.proofs.Common.{◌≡◌, ◌∙◌, ℕ, ◌+◌, ◌-◌, ◌≤◌, List, [], ◌∷◌, ◌++◌, length, take, drop, replicate, ap, sym, arith, append_assoc}
use Rattle.std.specs.Prelude.{None}
use Rattle.std.proofs.Math.Seq.{drop-append-add, take-append-add, take-add}
use Rattle.std.proofs.lemmas.List.{take_at, drop_at, take-append-le, drop-append-le, take-append-drop, take-take, take_all, drop-drop, length-append, length-take, length-take-le, length-replicate, take-replicate, drop-replicate, append-nil}
use Rattle.pass_plain.specs.Files.{extended, resized}
use Rattle.pass_table.specs.Tables.{bytes_of, flat, AreWhole}
use Rattle.pass_table.proofs.Flats.{Block}
use Rattle.pass_table.proofs.Parts.{replicate_add}

pub extended_same : (xs : List ℕ) (n : ℕ) → n ≡ length xs → xs ≡ extended xs n
extended_same xs n is = sym (append-nil xs) ∙ ap (λ k. xs ++ replicate k 0) (let z : 0 ≡ n - length xs = omega (arith, is) in z)

-- more zeros behind zeros
pub extended_more : (xs : List ℕ) (m n k : ℕ) → length xs ≤ m → n ≡ m + k → extended xs m ++ replicate k 0 ≡ extended xs n
extended_more xs m n k low is =
    append_assoc xs (replicate (m - length xs) 0) (replicate k 0)
    ∙ ap (λ ys. xs ++ ys) (replicate_add (m - length xs) k ∙ ap (λ i. replicate i 0) (let z : m - length xs + k ≡ n - length xs = omega (arith, is, low) in z))

pub flat_push : (table : List Block) (own : Block) → flat (table ++ own ∷ []) ≡ flat table ++ bytes_of own
flat_push [] own = append-nil (bytes_of own)
flat_push (x ∷ table) own = ap (λ xs. bytes_of x ++ xs) (flat_push table own) ∙ sym (append_assoc (bytes_of x) (flat table) (bytes_of own))

pub whole_push : (size : ℕ) (table : List Block) (own : Block) → AreWhole size table → length (bytes_of own) ≡ size → AreWhole size (table ++ own ∷ [])
whole_push size [] own whole here = (here, tt)
whole_push size (x ∷ table) own whole here = (whole.0, whole_push size table own whole.1 here)

-- a place more for a block
pub none_push : (size : ℕ) (old table new : List Block) → bytes_of None ≡ replicate size 0 → new ≡ table ++ None ∷ [] → length (flat old) ≤ length (flat table)
    → flat table ≡ extended (flat old) (length (flat table)) → flat new ≡ extended (flat old) (length (flat new))
none_push size old table new zero_is is low so_far =
    let now : flat new ≡ flat table ++ replicate size 0 = ap flat is ∙ flat_push table None ∙ ap (λ xs. flat table ++ xs) zero_is in
    let long : length (flat new) ≡ length (flat table) + size = ap length now ∙ length-append (flat table) (replicate size 0) ∙ ap (λ n. length (flat table) + n) (length-replicate size 0) in
    now ∙ ap (λ xs. xs ++ replicate size 0) so_far ∙ extended_more (flat old) (length (flat table)) (length (flat new)) size low long

-- a block of bytes more
pub part_more : (bytes : List ℕ) (n size : ℕ) → n ≤ length bytes → extended (take n bytes) n ++ extended (take size (drop n bytes)) size ≡ extended (take (n + size) bytes) (n + size)
part_more bytes n size low =
    let front = take n bytes in
    let part = take size (drop n bytes) in
    let long : length front ≡ n = length-take-le n bytes low in
    let both : length (take (n + size) bytes) ≡ n + length part = ap length (take-add n size bytes) ∙ length-append front part ∙ ap (λ k. k + length part) long in
    ap (λ xs. xs ++ (part ++ replicate (size - length part) 0)) (sym (extended_same front n (sym long)))
    ∙ sym (append_assoc front part (replicate (size - length part) 0))
    ∙ (λ i. sym (take-add n size bytes) i ++ replicate ((let z : size - length part ≡ n + size - length (take (n + size) bytes) = omega (arith, both) in z) i) 0)

-- behind the size more places are zero
pub zero_more : (old new : List ℕ) (size : ℕ) → size ≤ length old → length old ≤ length new → drop size old ≡ replicate (length old - size) 0 → new ≡ extended old (length new)
    → drop size new ≡ replicate (length new - size) 0
zero_more old new size low long behind is =
    ap (drop size) is ∙ drop-append-le size old (replicate (length new - length old) 0) low ∙ ap (λ xs. xs ++ replicate (length new - length old) 0) behind
    ∙ replicate_add (length old - size) (length new - length old) ∙ ap (λ n. replicate n 0) (let z : length old - size + (length new - length old) ≡ length new - size = omega (arith, low, long) in z)

pub seen_more : (old new : List ℕ) (size : ℕ) → size ≤ length old → new ≡ extended old (length new) → take size new ≡ take size old
seen_more old new size low is = ap (take size) is ∙ take-append-le size old (replicate (length new - length old) 0) low

-- a larger size shows zeros
module _ (old : List ℕ) (size new : ℕ) (low : size ≤ length old) (larger : size ≤ new) (within : new ≤ length old) (behind : drop size old ≡ replicate (length old - size) 0) where
  pub zero_larger : drop new old ≡ replicate (length old - new) 0
  zero_larger =
      ap (λ n. drop n old) (let z : new ≡ size + (new - size) = omega (arith, larger) in z) ∙ sym (drop-drop (new - size) size old) ∙ ap (drop (new - size)) behind
      ∙ drop-replicate (new - size) (length old - size) 0 ∙ ap (λ n. replicate n 0) (let z : length old - size - (new - size) ≡ length old - new = omega (arith, larger) in z)

  pub seen_larger : take new old ≡ resized (take size old) new
  seen_larger =
      let long : length (take size old) ≡ size = length-take-le size old low in
      let is : take new old ≡ take size old ++ replicate (new - size) 0 =
      ap (take new) (sym (take-append-drop size old) ∙ ap (λ xs. take size old ++ xs) behind)
      ∙ ap (λ n. take n (take size old ++ replicate (length old - size) 0)) (let z : new ≡ length (take size old) + (new - size) = omega (arith, long, larger) in z)
      ∙ take-append-add (take size old) (replicate (length old - size) 0) (new - size)
      ∙ ap (λ xs. take size old ++ xs) (take-replicate (new - size) (length old - size) 0 (omega (arith, within, larger))) in
      let same : take size old ++ replicate (new - size) 0 ≡ extended (take size old) new = ap (λ n. take size old ++ replicate n 0) (let z : new - size ≡ new - length (take size old) = omega (arith, long) in z) in
      is ∙ same ∙ sym (take_all new (extended (take size old) new) (let n = ap length (sym (is ∙ same)) in let t = length-take-le new old within in omega (arith, n, t)))

-- a smaller size
module _ (old new : List ℕ) (size less : ℕ) (low : size ≤ length old) (smaller : less ≤ size) (is : new ≡ take less old ++ replicate (length new - less) 0) where
  here : length (take less old) ≡ less
  here = length-take-le less old (omega (arith, low, smaller))

  pub zero_smaller : drop less new ≡ replicate (length new - less) 0
  zero_smaller = ap (drop less) is ∙ drop_at (take less old) (replicate (length new - less) 0) less here

  pub seen_smaller : take less new ≡ resized (take size old) less
  seen_smaller =
      ap (take less) is ∙ take_at (take less old) (replicate (length new - less) 0) less here
      ∙ sym (take-take less size old smaller)
      ∙ sym (take-append-le less (take size old) (replicate (less - length (take size old)) 0) (let n = length-take-le size old low in omega (arith, n, smaller)))

-- one piece more was read
pub read_more : (src old mid new piece : List ℕ) (done len : ℕ) → length piece ≡ len → done ≤ length src → mid ≡ take done src ++ drop done old → piece ≡ take len (drop done src)
    → new ≡ take done mid ++ piece ++ drop (done + length piece) mid → new ≡ take (done + len) src ++ drop (done + len) old
read_more src old mid new piece done len size low so_far is now =
    let front : length (take done src) ≡ done = length-take-le done src low in
    let one : take done mid ≡ take done src = ap (take done) so_far ∙ take_at (take done src) (drop done old) done front in
    let two : drop (done + length piece) mid ≡ drop (done + len) old =
    (λ i. drop (done + size i) (so_far i)) ∙ ap (λ n. drop n (take done src ++ drop done old)) (let z : done + len ≡ length (take done src) + len = omega (arith, front) in z)
    ∙ drop-append-add (take done src) (drop done old) len ∙ drop-drop len done old in
    now ∙ (λ i. one i ++ is i ++ two i) ∙ ap (λ xs. xs ++ drop (done + len) old) (sym (take-add done len src))

-- the front of what a block has from a place on
pub rest_front : (bytes rest : List ℕ) (at done k len : ℕ) → rest ≡ take k (drop (at + done) bytes) → len ≤ length rest → take len rest ≡ take len (drop done (drop at bytes))
rest_front bytes rest at done k len is low =
    let n = ap length is ∙ length-take k (drop (at + done) bytes) in
    ap (take len) is ∙ take-take len k (drop (at + done) bytes) (omega (arith, n, low)) ∙ ap (take len) (sym (drop-drop done at bytes))
