-- A start without the bytes of its files, file by file.
use Rattle.std.proofs.Common.{◌≡◌, ◌<◌, ◌+◌, ◌∷◌, [], ℕ, zero, suc, List, ◌++◌, length, take, map, drop, get_or, refl, ap, sym, ◌∙◌, arith}
use Rattle.std.specs.Prelude.{Some, slice_get}
use Rattle.std.proofs.Math.ListN.{set}
use Rattle.std.proofs.lemmas.List.{append-nil, drop_all, take_all, length-map}
use Rattle.pass_plain.specs.declared.start.StartFile.{StartFile}
use Rattle.pass_plain.specs.Outlines.{outline}

-- a file with the outline of the one that stood there
pub outlines-set : (files : List StartFile) (i : ℕ) (f d : StartFile) → outline f ≡ outline (get_or files i d) → map outline (set files i f) ≡ map outline files
outlines-set [] i f d same = refl
outlines-set (x ∷ files) zero f d same = ap (λ o. o ∷ map outline files) same
outlines-set (x ∷ files) (suc i) f d same = ap (λ os. outline x ∷ os) (outlines-set files i f d same)

pub cleared-set : (files : List StartFile) (i : ℕ) (f : StartFile) → f.bytes.items ≡ []
    → ((k : ℕ) (file : StartFile) → k < i → slice_get files k ≡ Some file → file.bytes.items ≡ [])
    → (k : ℕ) (file : StartFile) → k < i + 1 → slice_get (set files i f) k ≡ Some file → file.bytes.items ≡ []
cleared-set [] i f none before k file low at = absurd (cc)
cleared-set (x ∷ files) zero f none before zero file low at = let same : f ≡ file = cc in ap (λ (g : StartFile). g.bytes.items) (sym same) ∙ none
cleared-set (x ∷ files) zero f none before (suc k) file low at = absurd (omega (arith, low))
cleared-set (x ∷ files) (suc i) f none before zero file low at = before zero file (omega arith) at
cleared-set (x ∷ files) (suc i) f none before (suc k) file low at =
    cleared-set files i f none (λ j g lower there. before (suc j) g (omega (arith, lower)) there) k file (omega (arith, low)) at

-- behind the file that changed all stand as before
pub behind-set : (files : List StartFile) (i : ℕ) (f : StartFile) → drop (i + 1) (set files i f) ≡ drop (i + 1) files
behind-set files i f = let one : i + 1 ≡ suc i = omega arith in ap (λ k. drop k (set files i f)) one ∙ past files i ∙ ap (λ k. drop k files) (sym one)
  where
    past : (files : List StartFile) (i : ℕ) → drop (suc i) (set files i f) ≡ drop (suc i) files
    past [] i = refl
    past (x ∷ files) zero = refl
    past (x ∷ files) (suc i) = past files i

-- a vector that a slice of its whole length was written over
pub written_over : {X : Type 0} (xs ys : List X) (n : ℕ) → n ≡ length ys → length xs ≡ length ys → take n (xs ++ drop (length xs) ys) ≡ xs
written_over xs ys n all long =
    ap (λ l. take n (xs ++ l)) (drop_all (length xs) ys (omega (arith, long))) ∙ ap (take n) (append-nil xs) ∙ take_all n xs (omega (arith, all, long))

pub same_length : (xs ys : List StartFile) → map outline xs ≡ map outline ys → length xs ≡ length ys
same_length xs ys same = sym (length-map xs outline) ∙ ap length same ∙ length-map ys outline
