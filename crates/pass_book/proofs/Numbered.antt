-- A file has one number.
use Rattle.std.proofs.Common.{◌≡◌, ◌∙◌, ◌==◌, ◌+◌, ℕ, zero, suc, Bool, true, false, cond, List, [], ◌∷◌, map, filter, refl, sym, ap, arith}
use Rattle.std.specs.Prelude.{Some, slice_get}
use Rattle.std.specs.List.{position_from}
use Rattle.pass_entry.specs.declared.entry.Entry.{Entry}
use Rattle.pass_entry.specs.declared.objects.Kind.{Kind}
use Rattle.pass_entry.specs.declared.objects.Kind.TheVariants as kind
use Rattle.pass_plain.specs.Sessions.{Session}
use Rattle.pass_plain.specs.Legal.{IsLegal}
use Rattle.pass_plain.specs.Sound.{IsSound}
use Rattle.pass_plain.specs.Registries.{same_kind, registry_after}
use Rattle.pass_plain.proofs.Lists.{same_numbers, same_itself, some_is}
use Rattle.pass_plain.proofs.Making.{stocked}
use Rattle.pass_book.specs.Numbers.{files_of, IsFileNumber}

-- no number stands twice
abbrev IsSingle : List (ℕ × Kind) → Type 0
IsSingle objects = (i j : ℕ) (a b : ℕ × Kind) → slice_get objects i ≡ Some a → slice_get objects j ≡ Some b → a.0 ≡ b.0 → i ≡ j

single_rest : (o : ℕ × Kind) (objects : List (ℕ × Kind)) → IsSingle (o ∷ objects) → IsSingle objects
single_rest o objects single i j a b one two same = let z : suc i ≡ suc j = single (suc i) (suc j) a b one two same in omega (arith, z)

-- a file is one of the objects
file_there : (objects : List (ℕ × Kind)) (k p : ℕ) → slice_get (files_of objects) k ≡ Some p → (j : ℕ) × (a : ℕ × Kind) × (slice_get objects j ≡ Some a) × (a.0 ≡ p)
file_there [] k p at = absurd (cc)
file_there (o ∷ objects) k p at = by_kind (same_kind o.1 kind.File) k at (λ j there. file_there objects j p there)
  where
    by_kind : (t : Bool) (k : ℕ) → slice_get (map (λ (o : ℕ × Kind). o.0) (cond t (o ∷ filter (λ (o : ℕ × Kind). same_kind o.1 kind.File) objects) (filter (λ (o : ℕ × Kind). same_kind o.1 kind.File) objects))) k ≡ Some p
        → ((j : ℕ) → slice_get (files_of objects) j ≡ Some p → (i : ℕ) × (a : ℕ × Kind) × (slice_get objects i ≡ Some a) × (a.0 ≡ p))
        → (j : ℕ) × (a : ℕ × Kind) × (slice_get (o ∷ objects) j ≡ Some a) × (a.0 ≡ p)
    by_kind true zero at more = (0, o, refl, some_is o.0 p at)
    by_kind true (suc k) at more = let m = more k at in (suc m.0, m.1, m.2, m.3)
    by_kind false k at more = let m = more k at in (suc m.0, m.1, m.2, m.3)

-- the file is first found at its number
pub first_at : (objects : List (ℕ × Kind)) → IsSingle objects → (n k p : ℕ) → slice_get (files_of objects) k ≡ Some p → position_from (λ file. file == p) n (files_of objects) ≡ Some (n + k)
first_at [] single n k p at = absurd (cc)
first_at (o ∷ objects) single n k p at = by_kind (same_kind o.1 kind.File) k at (λ m j there. first_at objects (single_rest o objects single) m j p there)
  where
    by_test : (t : Bool) → (o.0 == p) ≡ t → (k : ℕ) → slice_get (o.0 ∷ files_of objects) k ≡ Some p
        → ((m j : ℕ) → slice_get (files_of objects) j ≡ Some p → position_from (λ file. file == p) m (files_of objects) ≡ Some (m + j))
        → cond t (Some n) (position_from (λ file. file == p) (n + 1) (files_of objects)) ≡ Some (n + k)
    by_test true same zero at more = ap Some (omega arith)
    by_test true same (suc k) at more =
        let there = file_there objects k p at in
        let z : 0 ≡ suc there.0 = single 0 (suc there.0) o there.1 refl there.2 (same_numbers o.0 p same ∙ sym there.3) in
        absurd (omega (arith, z))
    by_test false other zero at more = absurd (clash (sym other ∙ ap (λ (q : ℕ). q == p) (some_is o.0 p at) ∙ same_itself p))
      where
        clash : false ≡ true → ⊥
        clash e = absurd (cc)
    by_test false other (suc k) at more = more (n + 1) k at ∙ ap Some (omega arith)

    by_kind : (t : Bool) (k : ℕ) → slice_get (map (λ (o : ℕ × Kind). o.0) (cond t (o ∷ filter (λ (o : ℕ × Kind). same_kind o.1 kind.File) objects) (filter (λ (o : ℕ × Kind). same_kind o.1 kind.File) objects))) k ≡ Some p
        → ((m j : ℕ) → slice_get (files_of objects) j ≡ Some p → position_from (λ file. file == p) m (files_of objects) ≡ Some (m + j))
        → position_from (λ file. file == p) n (map (λ (o : ℕ × Kind). o.0) (cond t (o ∷ filter (λ (o : ℕ × Kind). same_kind o.1 kind.File) objects) (filter (λ (o : ℕ × Kind). same_kind o.1 kind.File) objects))) ≡ Some (n + k)
    by_kind true k at more = by_test (o.0 == p) refl k at more
    by_kind false k at more = more n k at

-- a file has one number
pub number_one : (session : Session) → IsSound session → (h : List Entry) → IsLegal session h → (file m n : ℕ) → IsFileNumber session h file m → IsFileNumber session h file n → m ≡ n
number_one session sound h legal file m n one two =
    let objects = (registry_after session h).objects in
    let single = (stocked session sound h legal).single in
    let z : 0 + m ≡ 0 + n = some_is (0 + m) (0 + n) (sym (first_at objects single 0 m file one) ∙ first_at objects single 0 n file two) in
    omega (arith, z)
