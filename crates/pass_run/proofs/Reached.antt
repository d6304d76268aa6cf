-- What stands on a store area of a file's ranges, and the bytes that it opens with.
use Rattle.std.proofs.Common.{◌≡◌, ◌∙◌, ◌<◌, ◌≤◌, ◌+◌, ◌-◌, ◌*◌, ℕ, zero, suc, List, length, take, drop, get_or, refl, sym, ap, arith, ⊎_elim}
use Rattle.std.specs.Prelude.{Option, Some, None, is_some, replicate}
use Rattle.std.proofs.lemmas.Bool.{cases_lt}
use Rattle.std.proofs.lemmas.Grind.{same_number_lists}
use Rattle.std.proofs.lemmas.List.{get_or-take, get_or-drop, take-append-le, take-take, length-take, length-drop}
use Rattle.pass_entry.specs.declared.record.Record.{Record}
use Rattle.pass_range.specs.Lawful.{IsOpened}
use Rattle.pass_range.specs.Places.{stands_there, found_there, Holds}
use Rattle.pass_range.specs.Rows.{range, row_of, number_of}

-- bytes that stand on an area lie within it
pub held_within : (at : ℕ) (bytes area : List ℕ) → 0 < length bytes → Holds at bytes area → at + length bytes ≤ length area
held_within at bytes area some held =
    let long = sym (ap length held) ∙ length-take (length bytes) (drop at area) in
    let rest = length-drop at area in
    omega (arith, some, long, rest)

-- what an area had within its end, and has still
module _ (at len : ℕ) (old new : List ℕ) (held : Holds at (stands_there at old) new) (few : len ≤ 4096) (within : at + len ≤ length old) where
  rest : length (drop at old) ≡ length old - at
  rest = length-drop at old

  stood : take len (stands_there at old) ≡ take len (drop at old)
  stood = take-take len 4096 (drop at old) few

  enough : len ≤ length (stands_there at old)
  enough = let long = length-take 4096 (drop at old) in omega (arith, long, rest, few, within)

  found : found_there at len old ≡ take len (drop at old)
  found = take-append-le len (drop at old) (replicate len 0) (omega (arith, rest, within))

  size : length (found_there at len old) ≡ len
  size = ap length found ∙ length-take len (drop at old) ∙ (let r = rest in omega (arith, r, within))

  pub older_holds : Holds at (found_there at len old) new
  older_holds =
      ap (λ (n : ℕ). take n (drop at new)) size
      ∙ sym (take-take len (length (stands_there at old)) (drop at new) enough)
      ∙ ap (take len) held ∙ stood ∙ sym found

  pub older_within : 0 < len → at + len ≤ length new
  older_within some =
      let e = enough in
      let all = held_within at (stands_there at old) new (omega (arith, e, some)) held in
      omega (arith, all, e)

-- the block of a byte
block_of : (k : ℕ) → (block : ℕ) × (block * 4096 ≤ k) × (k < (block + 1) * 4096)
block_of zero = (0, (omega arith), (omega arith))
block_of (suc k) =
    let (block, low, high) = block_of k in
    ⊎_elim
    (λ (same : suc k < (block + 1) * 4096). (block, (omega (arith, low)), same))
    (λ (over : (block + 1) * 4096 ≤ suc k). (block + 1, over, (omega (arith, high))))
    (cases_lt (suc k) ((block + 1) * 4096))

in_range : (block : ℕ) (bytes : List ℕ) (at : ℕ) → block * 4096 ≤ at → at < (block + 1) * 4096 → get_or (range block bytes) (at - block * 4096) 0 ≡ get_or bytes at 0
in_range block bytes at low high =
    get_or-take 4096 (drop (block * 4096) bytes) (at - block * 4096) 0 (omega (arith, low, high)) ∙ get_or-drop (block * 4096) bytes (at - block * 4096) 0
    ∙ ap (λ (k : ℕ). get_or bytes k 0) (let z : block * 4096 + (at - block * 4096) ≡ at = omega (arith, low) in z)

-- a file opens with one content
pub opened_one : (list : List Record) (store : List ℕ) (pnode number : ℕ) (one other : List ℕ) → number_of list pnode ≡ Some number → IsOpened list store pnode one → IsOpened list store pnode other → one ≡ other
opened_one list store pnode number one other numbered first_is other_is = same_number_lists one other (first_is.sized ∙ sym other_is.sized) (λ k low. at_block k (block_of k))
  where
    at_block : (k : ℕ) → (block : ℕ) × (block * 4096 ≤ k) × (k < (block + 1) * 4096) → get_or one k 0 ≡ get_or other k 0
    at_block k (block, low, high) = by_row (row_of list pnode block) refl
      where
        by_row : (o : Option (List ℕ)) → row_of list pnode block ≡ o → get_or one k 0 ≡ get_or other k 0
        by_row None none = first_is.zero block none k low high ∙ sym (other_is.zero block none k low high)
        by_row (Some digest) some =
            let row = ap is_some some in
            sym (in_range block one k low high)
            ∙ ap (λ (l : List ℕ). get_or l (k - block * 4096) 0) (first_is.ranges number block numbered row ∙ sym (other_is.ranges number block numbered row))
            ∙ in_range block other k low high
