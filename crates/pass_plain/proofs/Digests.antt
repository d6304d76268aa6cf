-- One more block of a file.
use Rattle.std.proofs.Common.{◌≡◌, ◌+◌, ℕ, zero, suc, List, [], ◌∷◌, ◌++◌, length, map, refl, ap, sym, ◌∙◌, arith, Bool, true, false, cond, get_or, ◌<◌, append_assoc}
use Rattle.std.specs.Prelude.{filter}
use Rattle.std.specs.List.{range_with_len}
use Rattle.std.proofs.lemmas.List.{map-append}
use Rattle.std.proofs.lemmas.List.Elements.{filter-append}
use Rattle.std.proofs.lemmas.List.FromFn.{get_or-map-range_with_len}
use Rattle.pass_entry.specs.declared.entry.Act.{Act}
use Rattle.pass_entry.specs.declared.record.Record.{Record}
use Rattle.pass_plain.specs.Records.{digest_of}
use Rattle.pass_plain.specs.Recording.{digests_by, is_digested_by, flags}

pub range-more : (a n : ℕ) → range_with_len a (n + 1) ≡ range_with_len a n ++ (a + n) ∷ []
range-more a n = ap (λ m. range_with_len a m) (let z : n + 1 ≡ suc n = omega arith in z) ∙ one_more a n
  where
    one_more : (a n : ℕ) → range_with_len a (suc n) ≡ range_with_len a n ++ (a + n) ∷ []
    one_more a zero = ap (λ m. m ∷ []) (let z : a ≡ a + 0 = omega arith in z)
    one_more a (suc n) = ap (λ xs. a ∷ xs) (one_more (a + 1) n ∙ ap (λ m. range_with_len (a + 1) n ++ m ∷ []) (let z : (a + 1) + n ≡ a + suc n = omega arith in z))

mapped_if : {X Y : Type 0} (f : X → Y) (x : X) (b : Bool) → map f (cond b (x ∷ []) []) ≡ cond b (f x ∷ []) []
mapped_if f x true = refl
mapped_if f x false = refl

module _ (file old : ℕ) (new : List ℕ) (had : ℕ → Bool) (a : Act) (n : ℕ) where
  test : ℕ → Bool
  test block = is_digested_by old (length new) (had block) a block

  digests-more : digests_by file old new had a (n + 1) ≡ digests_by file old new had a n ++ cond (is_digested_by old (length new) (had n) a n) (digest_of file new n ∷ []) []
  unfolding test
  digests-more =
      ap (λ blocks. map (digest_of file new) (filter test blocks)) (range-more 0 n)
      ∙ ap (λ blocks. map (digest_of file new) blocks) (filter-append test (range_with_len 0 n) ((0 + n) ∷ []))
      ∙ map-append (digest_of file new) (filter test (range_with_len 0 n)) (cond (test (0 + n)) ((0 + n) ∷ []) [])
      ∙ ap (λ more. digests_by file old new had a n ++ more) (mapped_if (digest_of file new) (0 + n) (test (0 + n)) ∙ ap (λ m. cond (test m) (digest_of file new m ∷ []) []) (let z : 0 + n ≡ n = omega arith in z))

  -- the list with the digest of one more block
  pub digests_then : (first list list' : List Record) → list ≡ first ++ digests_by file old new had a n → is_digested_by old (length new) (had n) a n ≡ true
      → list' ≡ list ++ digest_of file new n ∷ [] → list' ≡ first ++ digests_by file old new had a (n + 1)
  digests_then first list list' so_far test next =
      next ∙ ap (λ l. l ++ digest_of file new n ∷ []) so_far ∙ append_assoc first (digests_by file old new had a n) (digest_of file new n ∷ [])
      ∙ ap (λ l. first ++ l) (sym (digests-more ∙ ap (λ b. digests_by file old new had a n ++ cond b (digest_of file new n ∷ []) []) test))

  pub digests_else : (first list : List Record) → list ≡ first ++ digests_by file old new had a n → is_digested_by old (length new) (had n) a n ≡ false
      → list ≡ first ++ digests_by file old new had a (n + 1)
  digests_else first list so_far test =
      so_far ∙ ap (λ l. first ++ l) (sym (digests-more ∙ ap (λ b. digests_by file old new had a n ++ cond b (digest_of file new n ∷ []) []) test ∙ append_none (digests_by file old new had a n)))
    where
      append_none : (xs : List Record) → xs ++ [] ≡ xs
      append_none [] = refl
      append_none (x ∷ xs) = ap (λ ys. x ∷ ys) (append_none xs)

-- the flag of a block
pub flag_at : (had : ℕ → Bool) (rows : List Bool) (n block : ℕ) (d : Bool) → rows ≡ flags had n → block < n → get_or rows block d ≡ had block
flag_at had rows n block d is within = ap (λ xs. get_or xs block d) is ∙ get_or-map-range_with_len had 0 n block block d within (let z : 0 + block ≡ block = omega arith in z)
