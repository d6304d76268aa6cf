-- A part of a file's bytes is read.
use Rattle.std.proofs.Common.{◌≡◌, ◌∙◌, ◌⊎◌, ℕ, ◌+◌, ◌-◌, ◌*◌, ◌<◌, ◌≤◌, min, List, ◌++◌, length, take, drop, replicate, inl, inr, ⊎_elim, refl, sym, ap, subst, arith, append_assoc, length-append, length-drop, length-take}
use Rattle.std.proofs.lemmas.List.{take_at, drop_at, take_all, drop_all, append-nil, drop-drop}
use borrow.Rule.Slice.PartMut.{put_mid}
use Rattle.pass_outside.specs.Areas.{written}
use Rattle.pass_outside.specs.Images.{torn_written}
use Rattle.pass_plain.specs.Records.{range_len}
use Rattle.pass_range.specs.Places.{Holds, IsApart}
use Rattle.pass_range.specs.Rows.{range}
use Rattle.pass_range.proofs.Apart.{torn_apart, holds_range, range_held}

-- bytes with this block's range read anew
module _ (block len : ℕ) (bytes got : List ℕ) (inside : block * 4096 < length bytes) (is : len ≡ range_len (length bytes) block) (long : length got ≡ len) where
  put_is : put_mid (block * 4096) (block * 4096 + len - block * 4096) bytes got ≡ take (block * 4096) bytes ++ (got ++ drop (block * 4096 + len) bytes)
  put_is =
      ap (λ (k : ℕ). take (block * 4096) bytes ++ (got ++ drop k (drop (block * 4096) bytes))) (let z : block * 4096 + len - block * 4096 ≡ len = omega arith in z)
      ∙ ap (λ (l : List ℕ). take (block * 4096) bytes ++ (got ++ l)) (drop-drop len (block * 4096) bytes ∙ ap (λ (k : ℕ). drop k bytes) (let z : block * 4096 + len ≡ block * 4096 + len = refl in z))

  front : length (take (block * 4096) bytes) ≡ block * 4096
  front = omega (arith, length-take (block * 4096) bytes, inside)

  pub length-put : length (put_mid (block * 4096) (block * 4096 + len - block * 4096) bytes got) ≡ length bytes
  length-put =
      ap length put_is
      ∙ (let z : length (take (block * 4096) bytes ++ (got ++ drop (block * 4096 + len) bytes)) ≡ length bytes =
      omega (arith, front, long, is, inside, length-append (take (block * 4096) bytes) (got ++ drop (block * 4096 + len) bytes), length-append got (drop (block * 4096 + len) bytes), length-drop (block * 4096 + len) bytes) in z)

  -- the range is what was read
  pub range-put : range block (put_mid (block * 4096) (block * 4096 + len - block * 4096) bytes got) ≡ got
  range-put =
      ap (λ (l : List ℕ). take 4096 (drop (block * 4096) l)) put_is
      ∙ ap (take 4096) (drop_at (take (block * 4096) bytes) (got ++ drop (block * 4096 + len) bytes) (block * 4096) front)
      ∙ ⊎_elim
      (λ (whole : len ≡ 4096). take_at got (drop (block * 4096 + len) bytes) 4096 (long ∙ whole))
      (λ (last : (len < 4096) × (length bytes ≤ block * 4096 + len)).
      ap (λ (l : List ℕ). take 4096 (got ++ l)) (drop_all (block * 4096 + len) bytes last.1) ∙ ap (take 4096) (append-nil got) ∙ take_all 4096 got (omega (arith, long, last.0)))
      (cases len (length bytes) (block * 4096) is inside)
    where
      cases : (len size at : ℕ) → len ≡ min size ((block + 1) * 4096) - block * 4096 → block * 4096 < size → (len ≡ 4096) ⊎ ((len < 4096) × (size ≤ block * 4096 + len))
      cases len size at is inside = ⊎_elim
          (λ (large : (block + 1) * 4096 ≤ size). inl (omega (arith, is, large)))
          (λ (small : size < (block + 1) * 4096). inr (omega (arith, is, small, inside), omega (arith, is, small, inside)))
          (split ((block + 1) * 4096) size)
        where
          split : (a b : ℕ) → (a ≤ b) ⊎ (b < a)
          split a b = grind arith

  -- and that of any other block stays
  pub range-other : (other : ℕ) → (other ≡ block → ⊥) → range other (put_mid (block * 4096) (block * 4096 + len - block * 4096) bytes got) ≡ range other bytes
  range-other other apart =
      let to : put_mid (block * 4096) (block * 4096 + len - block * 4096) bytes got ≡ written bytes (block * 4096) got =
      put_is ∙ sym (append_assoc (take (block * 4096) bytes) got (drop (block * 4096 + len) bytes))
      ∙ ap (λ (l : List ℕ). l ++ got ++ drop (block * 4096 + len) bytes) (sym (append-nil (take (block * 4096) bytes)) ∙ ap (λ (k : ℕ). take (block * 4096) bytes ++ replicate {A = ℕ} k 0) (let z : 0 ≡ block * 4096 - length bytes = omega (arith, inside) in z))
      ∙ ap (λ (k : ℕ). (take (block * 4096) bytes ++ replicate (block * 4096 - length bytes) 0) ++ got ++ drop (block * 4096 + k) bytes) (sym long) in
      let short : length (range other bytes) ≤ 4096 = omega (arith, length-take 4096 (drop (other * 4096) bytes)) in
      let few : length got ≤ 4096 = omega (arith, long, is) in
      range_held other bytes (put_mid (block * 4096) (block * 4096 + len - block * 4096) bytes got) (same_long other)
      (subst (Holds (other * 4096) (range other bytes)) (sym to)
      (torn_apart (block * 4096) (length got) bytes (written bytes (block * 4096) got) (torn_written bytes (block * 4096) got) (other * 4096) (range other bytes)
      (beside other block (length (range other bytes)) (length got) apart short few) (holds_range other bytes)))
    where
      same_long : (other : ℕ) → length (range other (put_mid (block * 4096) (block * 4096 + len - block * 4096) bytes got)) ≡ length (range other bytes)
      same_long other =
          omega (
            arith,
            length-put,
            length-take 4096 (drop (other * 4096) bytes),
            length-drop (other * 4096) bytes,
            length-take 4096 (drop (other * 4096) (put_mid (block * 4096) (block * 4096 + len - block * 4096) bytes got)),
            length-drop (other * 4096) (put_mid (block * 4096) (block * 4096 + len - block * 4096) bytes got),
          )

      beside : (a b m n : ℕ) → (a ≡ b → ⊥) → m ≤ 4096 → n ≤ 4096 → IsApart (a * 4096) m (b * 4096) n
      beside a b m n apart one two = ⊎_elim (λ (less : a < b). inl (omega (arith, less, one))) (λ (more : b < a). inr (omega (arith, more, two))) (split a b apart)
        where
          split : (a b : ℕ) → (a ≡ b → ⊥) → (a < b) ⊎ (b < a)
          split a b apart = grind (arith, apart)
