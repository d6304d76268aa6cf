-- A write, as the file sees it: its bytes are those of the table up to its size, and behind that the table is zero.
use Rattle.std.proofs.Common.{◌≡◌, ◌∙◌, ℕ, ◌+◌, ◌-◌, ◌<◌, ◌≤◌, max, List, [], ◌∷◌, ◌++◌, length, take, drop, replicate, ⊎_elim, refl, ap, sym, arith}
use Rattle.std.proofs.Common.{◌==◌, false}
use Rattle.std.proofs.lemmas.Bool.Decides.{nat_tests}
use Rattle.std.proofs.Math.Seq.{take-append-add, drop-append-add}
use Rattle.std.proofs.lemmas.List.{take-append-le, length-append, length-take-le, length-drop, take-append-drop, take_all, drop-take, drop-drop, take-replicate, drop-replicate, length-replicate}
use Rattle.pass_plain.specs.Files.{extended, written}
use Rattle.pass_plain.proofs.Replays.{le_or_ge}

module _ (old : List ℕ) (size at b : ℕ) (rest : List ℕ) (low : size ≤ length old) (within : at + length (b ∷ rest) ≤ length old) (zero : drop size old ≡ replicate (length old - size) 0) where
  abbrev bytes : List ℕ
  bytes = b ∷ rest

  abbrev seen : List ℕ
  seen = take size old

  abbrev end_ : ℕ
  end_ = at + length bytes

  sized : length seen ≡ size
  sized = length-take-le size old low

  whole : seen ++ replicate (length old - size) 0 ≡ old
  whole = ap (λ xs. seen ++ xs) (sym zero) ∙ take-append-drop size old

  front : take at old ≡ take at (extended seen at)
  front = ⊎_elim
      (λ (le : at ≤ size). ap (take at) (sym (take-append-drop size old)) ∙ take-append-le at seen (drop size old) (omega (arith, le, sized))
      ∙ sym (take-append-le at seen (replicate (at - length seen) 0) (omega (arith, le, sized))))
      (λ (ge : size ≤ at).
      ap (take at) (sym whole)
      ∙ ap (λ n. take n (seen ++ replicate (length old - size) 0)) (let z : at ≡ length seen + (at - size) = omega (arith, ge, sized) in z)
      ∙ take-append-add seen (replicate (length old - size) 0) (at - size)
      ∙ ap (λ xs. seen ++ xs) (take-replicate (at - size) (length old - size) 0 (omega (arith, within)) ∙ ap (λ n. replicate n 0) (let z : at - size ≡ at - length seen = omega (arith, sized) in z))
      ∙ sym (take_all at (extended seen at) (let l = length-append seen (replicate (at - length seen) 0) in let r = length-replicate {A = ℕ} (at - length seen) 0 in omega (arith, l, r, ge, sized))))
      (le_or_ge at size)

  head : List ℕ
  head = take at old ++ bytes

  heads : length head ≡ end_
  unfolding head
  heads = let l = length-append (take at old) bytes in let t = length-take-le at old (omega (arith, within)) in omega (arith, l, t)

  behind : drop end_ seen ≡ take (max size end_ - end_) (drop end_ old)
  behind = ⊎_elim
      (λ (le : end_ ≤ size). ap (λ n. drop end_ (take n old)) (let z : size ≡ end_ + (max size end_ - end_) = omega (arith, le) in z) ∙ drop-take end_ (max size end_ - end_) old)
      (λ (ge : size ≤ end_). none (drop end_ seen) (let d = length-drop end_ seen in omega (arith, d, sized, ge)) ∙ sym (none (take (max size end_ - end_) (drop end_ old)) (short (max size end_ - end_) (drop end_ old) (omega (arith, ge)))))
      (le_or_ge end_ size)
    where
      none : (xs : List ℕ) → length xs ≡ 0 → xs ≡ []
      none [] is = refl
      none (x ∷ xs) is = absurd (omega (arith, is))

      short : (n : ℕ) (xs : List ℕ) → n ≡ 0 → length (take n xs) ≡ 0
      short n xs is = length-take-le n xs (omega (arith, is)) ∙ is

  -- the file's bytes after it
  pub seen_written : take (max size end_) (take at old ++ bytes ++ drop end_ old) ≡ written seen at bytes
  unfolding head
  seen_written =
      ap (λ n. take n (head ++ drop end_ old)) (let z : max size end_ ≡ length head + (max size end_ - end_) = omega (arith, heads) in z)
      ∙ take-append-add head (drop end_ old) (max size end_ - end_)
      ∙ ap (λ xs. head ++ xs) (sym behind)
      ∙ ap (λ xs. xs ++ bytes ++ drop end_ seen) front

  -- and behind them it is zero still
  pub still_zero : drop (max size end_) (take at old ++ bytes ++ drop end_ old) ≡ replicate (length old - max size end_) 0
  unfolding head
  still_zero =
      ap (λ n. drop n (head ++ drop end_ old)) (let z : max size end_ ≡ length head + (max size end_ - end_) = omega (arith, heads) in z)
      ∙ drop-append-add head (drop end_ old) (max size end_ - end_)
      ∙ drop-drop (max size end_ - end_) end_ old
      ∙ ap (λ n. drop n old) (let z : end_ + (max size end_ - end_) ≡ size + (max size end_ - size) = omega arith in z)
      ∙ sym (drop-drop (max size end_ - size) size old)
      ∙ ap (drop (max size end_ - size)) zero
      ∙ drop-replicate (max size end_ - size) (length old - size) 0
      ∙ ap (λ n. replicate n 0) (let z : length old - size - (max size end_ - size) ≡ length old - max size end_ = omega arith in z)

pub seen_any : (old : List ℕ) (size at : ℕ) (bytes : List ℕ) → 0 < length bytes → size ≤ length old → at + length bytes ≤ length old → drop size old ≡ replicate (length old - size) 0
    → take (max size (at + length bytes)) (take at old ++ bytes ++ drop (at + length bytes) old) ≡ written (take size old) at bytes
seen_any old size at [] some low within none = absurd (omega (arith, some))
seen_any old size at (b ∷ rest) some low within none = seen_written old size at b rest low within none

pub zero_any : (old : List ℕ) (size at : ℕ) (bytes : List ℕ) → 0 < length bytes → size ≤ length old → at + length bytes ≤ length old → drop size old ≡ replicate (length old - size) 0
    → drop (max size (at + length bytes)) (take at old ++ bytes ++ drop (at + length bytes) old) ≡ replicate (length old - max size (at + length bytes)) 0
zero_any old size at [] some low within none = absurd (omega (arith, some))
zero_any old size at (b ∷ rest) some low within none = still_zero old size at b rest low within none

pub some_length : (n : ℕ) → (n == 0) ≡ false → 0 < n
some_length n is = grind (arith, nat_tests)
