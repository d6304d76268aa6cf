-- Bytes that are put into a content that was made long enough before.
use Rattle.std.proofs.Common.{◌≡◌, ◌≤◌, ◌+◌, ◌-◌, ◌==◌, ℕ, zero, suc, List, [], ◌∷◌, ◌++◌, length, take, drop, refl, ap, sym, ◌∙◌, arith, false}
use Rattle.std.specs.Prelude.{replicate}
use Rattle.std.proofs.lemmas.List.{take-replicate, drop-replicate, take_all, length-drop, append-nil}
use Rattle.pass_plain.specs.Files.{extended, written}

take_same : (content : List ℕ) (at size : ℕ) → at ≤ size → take at (extended content size) ≡ take at (extended content at)
take_same [] at size le =
    ap (λ n. take at (replicate n 0)) (let z : size - 0 ≡ size = omega arith in z) ∙ take-replicate at size 0 le
    ∙ sym (ap (λ n. take at (replicate n 0)) (let z : at - 0 ≡ at = omega arith in z) ∙ take-replicate at at 0 (omega arith))
take_same (b ∷ content) zero size le = refl
take_same (b ∷ content) (suc at) zero le = absurd (omega arith)
take_same (b ∷ content) (suc at) (suc size) le =
    ap (λ n. b ∷ take at (content ++ replicate n 0)) (let z : suc size - length (b ∷ content) ≡ size - length content = omega arith in z)
    ∙ ap (λ bs. b ∷ bs) (take_same content at size (omega (arith, le)))
    ∙ ap (λ n. b ∷ take at (content ++ replicate n 0)) (let z : at - length content ≡ suc at - length (b ∷ content) = omega arith in z)

drop_same : (content : List ℕ) (size : ℕ) → drop size (extended content size) ≡ drop size content
drop_same [] size =
    drop-replicate size (size - 0) 0 ∙ ap (λ n. replicate n 0) (let z : size - 0 - size ≡ 0 = omega arith in z) ∙ sym (none size)
  where
    none : (n : ℕ) → drop {A = ℕ} n [] ≡ []
    none zero = refl
    none (suc n) = refl
drop_same (b ∷ content) zero = ap (λ n. b ∷ (content ++ replicate n 0)) (let z : 0 - length (b ∷ content) ≡ 0 = omega arith in z) ∙ append-nil (b ∷ content)
drop_same (b ∷ content) (suc size) =
    ap (λ n. drop size (content ++ replicate n 0)) (let z : suc size - length (b ∷ content) ≡ size - length content = omega arith in z) ∙ drop_same content size

-- the bytes stand in the content that was made long enough
pub put_is_written : (content : List ℕ) (at : ℕ) (bytes : List ℕ) → (length bytes == 0) ≡ false
    → take at (extended content (at + length bytes)) ++ bytes ++ drop (at + length bytes) (extended content (at + length bytes)) ≡ written content at bytes
put_is_written content at [] some = absurd (cc)
put_is_written content at (b ∷ bytes) some =
    λ i. take_same content at (at + length (b ∷ bytes)) (omega arith) i ++ b ∷ bytes ++ drop_same content (at + length (b ∷ bytes)) i

-- a slice of all elements, put back
pub put_back : {X : Type 0} (n : ℕ) (xs ys : List X) → length xs ≡ n → length ys ≡ n → take n (xs ++ drop (length xs) ys) ≡ xs
put_back {X} n xs ys size same =
    ap (λ zs. take n (xs ++ zs)) (empty (drop (length xs) ys) (omega (arith, length-drop (length xs) ys))) ∙ ap (λ zs. take n zs) (append-nil xs) ∙ take_all n xs (omega arith)
  where
    empty : (zs : List X) → length zs ≡ 0 → zs ≡ []
    empty [] e = refl
    empty (z ∷ zs) e = absurd (omega arith)
