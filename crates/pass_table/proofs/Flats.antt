-- A write into one block.
use Rattle.std.proofs.Common.{◌≡◌, ◌∙◌, ℕ, zero, suc, ◌+◌, ◌*◌, ◌-◌, ◌<◌, ◌≤◌, List, [], ◌∷◌, ◌++◌, length, take, drop, get_or, Vec, refl, ap, sym, subst, arith, append_assoc}
use Rattle.std.specs.Prelude.{Option, Some, None, slice_set}
use Rattle.std.specs.declared.alloc.Global.{Global}
use Rattle.std.proofs.Math.Seq.{take-append-add, drop-append-add}
use Rattle.std.proofs.lemmas.List.{take-append-le, drop-append-le, length-append, length-take-le, length-drop, take-append-drop, take_all, take_at, drop-drop, length-replicate}
use Rattle.pass_table.specs.Tables.{zeros, bytes_of, flat, AreWhole, AreZero}

abbrev pub Block : Type 0
Block = Option (Vec ℕ Global)

-- where a block begins
abbrev pub start : ℕ → ℕ → ℕ
start size zero = 0
start size (suc b) = size + start size b

pub starts : (b : ℕ) → start 4096 b ≡ b * 4096
starts zero = omega arith
starts (suc b) = let z = starts b in omega (arith, z)

module _ (size : ℕ) (own new : Vec ℕ Global) (from : ℕ) (bytes : List ℕ) (within : from + length bytes ≤ size) (put : new.items ≡ take from own.items ++ bytes ++ drop (from + length bytes) own.items) where
  here : (rest : List ℕ) → length own.items ≡ size → new.items ++ rest ≡ take from (own.items ++ rest) ++ bytes ++ drop (from + length bytes) (own.items ++ rest)
  here rest whole =
      ap (λ xs. xs ++ rest) put
      ∙ append_assoc (take from own.items ++ bytes) (drop (from + length bytes) own.items) rest
      ∙ (λ i. sym (take-append-le from own.items rest (omega (arith, within, whole))) i ++ bytes ++ sym (drop-append-le (from + length bytes) own.items rest (omega (arith, within, whole))) i)

  behind : (front rest : List ℕ) (s : ℕ) → length front ≡ size
      → front ++ (take (s + from) rest ++ bytes ++ drop (s + from + length bytes) rest) ≡ take (size + s + from) (front ++ rest) ++ bytes ++ drop (size + s + from + length bytes) (front ++ rest)
  behind front rest s whole =
      let t : take (size + s + from) (front ++ rest) ≡ front ++ take (s + from) rest = ap (λ n. take n (front ++ rest)) (let z : size + s + from ≡ length front + (s + from) = omega (arith, whole) in z) ∙ take-append-add front rest (s + from) in
      let d : drop (size + s + from + length bytes) (front ++ rest) ≡ drop (s + from + length bytes) rest = ap (λ n. drop n (front ++ rest)) (let z : size + s + from + length bytes ≡ length front + (s + from + length bytes) = omega (arith, whole) in z) ∙ drop-append-add front rest (s + from + length bytes) in
      sym (append_assoc front (take (s + from) rest ++ bytes) (drop (s + from + length bytes) rest))
      ∙ ap (λ xs. xs ++ drop (s + from + length bytes) rest) (sym (append_assoc front (take (s + from) rest) bytes))
      ∙ (λ i. sym t i ++ bytes ++ sym d i)

  pub flat_put : (table : List Block) (b : ℕ) → AreWhole size table → b < length table → get_or table b None ≡ Some own
      → flat (slice_set (slice_set table b None) b (Some new)) ≡ take (start size b + from) (flat table) ++ bytes ++ drop (start size b + from + length bytes) (flat table)
  flat_put [] b whole low is = absurd (omega (arith, low))
  flat_put (x ∷ table) zero whole low is =
      subst (λ (y : Block). new.items ++ flat table ≡ take from (bytes_of y ++ flat table) ++ bytes ++ drop (from + length bytes) (bytes_of y ++ flat table)) (sym is)
      (here (flat table) (ap (λ (y : Block). length (bytes_of y)) (sym is) ∙ whole.0))
      ∙ ap (λ (n : ℕ). take n (bytes_of x ++ flat table) ++ bytes ++ drop (n + length bytes) (bytes_of x ++ flat table)) (let z : from ≡ 0 + from = omega arith in z)
  flat_put (x ∷ table) (suc b) whole low is =
      ap (λ xs. bytes_of x ++ xs) (flat_put table b whole.1 (omega (arith, low)) is) ∙ behind (bytes_of x) (flat table) (start size b) whole.0

  pub whole_put : (table : List Block) (b : ℕ) → AreWhole size table → length new.items ≡ size → AreWhole size (slice_set (slice_set table b None) b (Some new))
  whole_put [] b whole same = whole
  whole_put (x ∷ table) zero whole same = (same, whole.1)
  whole_put (x ∷ table) (suc b) whole same = (whole.0, whole_put table b whole.1 same)

pub whole_at : (size : ℕ) (table : List Block) (b : ℕ) (own : Vec ℕ Global) → AreWhole size table → b < length table → get_or table b None ≡ Some own → length own.items ≡ size
whole_at size [] b own whole low is = absurd (omega (arith, low))
whole_at size (x ∷ table) zero own whole low is = ap (λ (y : Block). length (bytes_of y)) (sym is) ∙ whole.0
whole_at size (x ∷ table) (suc b) own whole low is = whole_at size table b own whole.1 (omega (arith, low)) is

pub put_length : (own new : List ℕ) (from : ℕ) (bytes : List ℕ) → new ≡ take from own ++ bytes ++ drop (from + length bytes) own → from + length bytes ≤ length own → length new ≡ length own
put_length own new from bytes is within =
    let whole = ap length is in
    let one = length-append (take from own ++ bytes) (drop (from + length bytes) own) in
    let two = length-append (take from own) bytes in
    let three = length-take-le from own (omega (arith, within)) in
    let four = length-drop (from + length bytes) own in
    omega (arith, whole, one, two, three, four, within)

pub flat_length : (size : ℕ) (table : List Block) → AreWhole size table → length (flat table) ≡ start size (length table)
flat_length size [] whole = refl
flat_length size (x ∷ table) whole =
    let one = length-append (bytes_of x) (flat table) in
    let more = flat_length size table whole.1 in
    let here = whole.0 in
    omega (arith, one, more, here)

-- two writes, the second where the first ended, are one
module _ (old mid new bytes : List ℕ) (at first p q : ℕ) (at_p : p ≡ at) (at_q : q ≡ at + first) (few : first ≤ length bytes) (within : at + length bytes ≤ length old)
    (one : mid ≡ take p old ++ take first bytes ++ drop (p + length (take first bytes)) old)
    (two : new ≡ take q mid ++ take (length bytes - first) (drop first bytes) ++ drop (q + length (take (length bytes - first) (drop first bytes))) mid) where
  size : length (take first bytes) ≡ first
  size = length-take-le first bytes few

  rest : take (length bytes - first) (drop first bytes) ≡ drop first bytes
  rest = take_all (length bytes - first) (drop first bytes) (let z = length-drop first bytes in omega (arith, z))

  abbrev front : List ℕ
  front = take at old ++ take first bytes

  fronts : length front ≡ at + first
  fronts = let a = length-append (take at old) (take first bytes) in let b = length-take-le at old (omega (arith, within)) in omega (arith, a, b, size)

  mids : mid ≡ front ++ drop (at + first) old
  mids = one ∙ (λ i. take (at_p i) old ++ take first bytes ++ drop (at_p i + size i) old)

  take_mid : take q mid ≡ take at old ++ take first bytes
  take_mid = (λ i. take (at_q i) (mids i)) ∙ take_at front (drop (at + first) old) (at + first) fronts

  left : length (take (length bytes - first) (drop first bytes)) ≡ length bytes - first
  left = ap length rest ∙ length-drop first bytes

  drop_mid : drop (q + length (take (length bytes - first) (drop first bytes))) mid ≡ drop (at + length bytes) old
  drop_mid =
      (λ i. drop (at_q i + left i) (mids i))
      ∙ ap (λ k. drop k (front ++ drop (at + first) old)) (let z : at + first + (length bytes - first) ≡ length front + (length bytes - first) = omega (arith, fronts) in z)
      ∙ drop-append-add front (drop (at + first) old) (length bytes - first)
      ∙ drop-drop (length bytes - first) (at + first) old
      ∙ ap (λ k. drop k old) (let z : at + first + (length bytes - first) ≡ at + length bytes = omega (arith, few) in z)

  pub spliced : new ≡ take at old ++ bytes ++ drop (at + length bytes) old
  spliced =
      two
      ∙ (λ i. take_mid i ++ rest i ++ drop_mid i)
      ∙ ap (λ xs. xs ++ drop (at + length bytes) old) (append_assoc (take at old) (take first bytes) (drop first bytes) ∙ ap (λ xs. take at old ++ xs) (take-append-drop first bytes))

-- A spare block in the place of one that isn't made

pub flat_made : (table : List Block) (b : ℕ) (own : Vec ℕ Global) → b < length table → get_or table b None ≡ None → own.items ≡ zeros → flat (slice_set table b (Some own)) ≡ flat table
flat_made [] b own low is none = absurd (omega (arith, low))
flat_made (x ∷ table) zero own low is none = ap (λ xs. xs ++ flat table) (none ∙ ap bytes_of (sym is))
flat_made (x ∷ table) (suc b) own low is none = ap (λ xs. bytes_of x ++ xs) (flat_made table b own (omega (arith, low)) is none)

pub whole_made : (table : List Block) (b : ℕ) (own : Vec ℕ Global) → AreWhole 4096 table → own.items ≡ zeros → AreWhole 4096 (slice_set table b (Some own))
unfolding zeros
whole_made [] b own whole none = whole
whole_made (x ∷ table) zero own whole none = (ap length none ∙ length-replicate {A = ℕ} 4096 0, whole.1)
whole_made (x ∷ table) (suc b) own whole none = (whole.0, whole_made table b own whole.1 none)

pub zero_front : (xs : List (Vec ℕ Global)) (own : Vec ℕ Global) → AreZero (xs ++ own ∷ []) → AreZero xs × (own.items ≡ zeros)
zero_front [] own all = (tt, all.0)
zero_front (x ∷ xs) own all = let more = zero_front xs own all.1 in ((all.0, more.0), more.1)
