-- The rows of a well logged list are of files that it makes.
use Rattle.std.proofs.Common.{◌≡◌, ◌∙◌, ◌==◌, ◌&&◌, ◌+◌, ◌*◌, ◌<◌, ◌≤◌, ℕ, Bool, true, false, not, cond, List, [], ◌∷◌, ◌++◌, length, refl, sym, ap, subst, arith}
use Rattle.std.specs.Prelude.{Option, Some, None, is_some, nat_le, if◌then◌else◌}
use Rattle.std.specs.Option.{option_map_or}
use Rattle.std.specs.List.{position_from, cons_option}
use Rattle.std.proofs.lemmas.Bool.Decides.{nat_tests}
use Rattle.std.proofs.lemmas.List.Elements.{filter_map-append}
use Rattle.pass_entry.specs.declared.objects.Kind.{Kind}
use Rattle.pass_entry.specs.declared.objects.Kind.TheVariants as kind
use Rattle.pass_entry.specs.declared.record.Record.{Record}
use Rattle.pass_entry.specs.declared.record.Record.TheVariants as log
use Rattle.pass_entry.specs.declared.record.FlawReason.TheVariants as flaw
use Rattle.pass_plain.specs.Records.{block_size}
use Rattle.pass_plain.specs.Registries.{same_kind}
use Rattle.pass_plain.specs.WellLogged.{kind_of, size_of, is_known, is_file_of, flaw_if, flaw_of, IsWellLogged}
use Rattle.pass_plain.proofs.Lists.{not_false, same_numbers, some_is}
use Rattle.pass_plain.proofs.Flaws.{unflawed}
use Rattle.pass_range.specs.Rows.{file_made, files_of, number_of, row_of}
use Rattle.pass_range.specs.Sources.{stays, sets, goes, row_after}
use Rattle.pass_range.proofs.Logged.{logged_induction, position_left}
use Rattle.pass_range.proofs.LastRows.{row-next}
use Rattle.pass_range.proofs.Numbers.{size-next, kind-next, number-here}

-- files have numbers, and rows are of files and begin within them
record IsFiled (list : List Record) : Type 0 where
  numbered : (p : ℕ) → is_file_of list p ≡ true → is_some (number_of list p) ≡ true
  rows : (p b : ℕ) → is_some (row_of list p b) ≡ true → (is_some (number_of list p) ≡ true) × (b * block_size < size_of list p)

-- a number stays
pub number-stays : (list more : List Record) (p n : ℕ) → number_of list p ≡ Some n → number_of (list ++ more) p ≡ Some n
number-stays list more p n is =
    ap (position_from (λ file. file == p) 0) (filter_map-append file_made list more) ∙ position_left (λ file. file == p) 0 (files_of list) (files_of more) n is

still_some : (list : List Record) (r : Record) (p : ℕ) → is_some (number_of list p) ≡ true → is_some (number_of (list ++ r ∷ []) p) ≡ true
still_some list r p some = by_number (number_of list p) refl some
  where
    by_number : (o : Option ℕ) → number_of list p ≡ o → is_some o ≡ true → is_some (number_of (list ++ r ∷ []) p) ≡ true
    by_number None is some = absurd (cc)
    by_number (Some n) is some = ap is_some (number-stays list (r ∷ []) p n is)

-- a file that a record makes has a number
made_some : (list : List Record) (made : ℕ) (k : Kind) → same_kind k kind.File ≡ true → is_some (number_of (list ++ log.Object made k ∷ []) made) ≡ true
made_some list made k file = by_number (number_of list made) refl
  where
    by_number : (o : Option ℕ) → number_of list made ≡ o → is_some (number_of (list ++ log.Object made k ∷ []) made) ≡ true
    by_number None is = ap is_some (number-here list (log.Object made k) made (ap (λ (t : Bool). cons_option (if t then Some made else None) []) file) is)
    by_number (Some n) is = ap is_some (number-stays list (log.Object made k ∷ []) made n is)

-- the tests of a digest
digest_of : (list : List Record) (q o : ℕ) (d : List ℕ) → flaw_of list (log.Digest q o d) ≡ None → (is_file_of list q ≡ true) × (o * 4096 < size_of list q)
digest_of list q o d passes =
    let one = unflawed (not (is_known list q)) flaw.Unknown (flaw_if (not (is_file_of list q)) flaw.Kind (flaw_if (nat_le (size_of list q) (o * 4096)) flaw.Block None)) passes in
    let two = unflawed (not (is_file_of list q)) flaw.Kind (flaw_if (nat_le (size_of list q) (o * 4096)) flaw.Block None) one.1 in
    let three = (unflawed (nat_le (size_of list q) (o * 4096)) flaw.Block None two.1).0 in
    (not_false (is_file_of list q) two.0, below (size_of list q) (o * 4096) three)
  where
    below : (m n : ℕ) → nat_le m n ≡ false → n < m
    below m n h = grind (arith, nat_tests, h)

filed_next : (list : List Record) (r : Record) → IsFiled list → flaw_of list r ≡ None → IsFiled (list ++ r ∷ [])
filed_next list (log.Object made k) filed passes = record {
  numbered = λ p file. by_made p (made == p) refl (sym (ap (λ (o : Option Kind). option_map_or (λ k. same_kind k kind.File) o false) (kind-next list (log.Object made k) p)) ∙ file);
  rows = λ p b has.
      let was = filed.rows p b (sym (ap is_some (row-next list (log.Object made k) p b)) ∙ has) in
      (still_some list (log.Object made k) p was.0, subst (λ (n : ℕ). b * block_size < n) (sym (size-next list (log.Object made k) p)) was.1);
}
  where
    by_made : (p : ℕ) (t : Bool) → (made == p) ≡ t → option_map_or (λ k. same_kind k kind.File) (if t then Some k else kind_of list p) false ≡ true → is_some (number_of (list ++ log.Object made k ∷ []) p) ≡ true
    by_made p true same file = ap (λ (q : ℕ). is_some (number_of (list ++ log.Object made k ∷ []) q)) (sym (same_numbers made p same)) ∙ made_some list made k file
    by_made p false apart file = still_some list (log.Object made k) p (filed.numbered p file)
filed_next list (log.Size q size) filed passes = record {
  numbered = λ p file. still_some list (log.Size q size) p
      (filed.numbered p (sym (ap (λ (o : Option Kind). option_map_or (λ k. same_kind k kind.File) o false) (kind-next list (log.Size q size) p)) ∙ file));
  rows = λ p b has. by_tests p b (q == p) (nat_le size (b * block_size)) refl refl (sym (ap is_some (row-next list (log.Size q size) p b)) ∙ has) (size-next list (log.Size q size) p);
}
  where
    below : (m n : ℕ) → nat_le m n ≡ false → n < m
    below m n h = grind (arith, nat_tests, h)

    none_some : false ≡ true → ⊥
    none_some e = absurd (cc)

    by_tests : (p b : ℕ) (s t : Bool) → (q == p) ≡ s → nat_le size (b * block_size) ≡ t → is_some (row_after (if s && t then goes else stays) (row_of list p b)) ≡ true
        → size_of (list ++ log.Size q size ∷ []) p ≡ (if s then size else size_of list p)
        → (is_some (number_of (list ++ log.Size q size ∷ []) p) ≡ true) × (b * block_size < size_of (list ++ log.Size q size ∷ []) p)
    by_tests p b true true here past has sized = absurd (none_some has)
    by_tests p b true false here past has sized =
        (still_some list (log.Size q size) p (filed.rows p b has).0, subst (λ (n : ℕ). b * block_size < n) (sym sized) (below size (b * block_size) past))
    by_tests p b false t here past has sized =
        (still_some list (log.Size q size) p (filed.rows p b has).0, subst (λ (n : ℕ). b * block_size < n) (sym sized) (filed.rows p b has).1)
filed_next list (log.Digest q o d) filed passes = record {
  numbered = λ p file. still_some list (log.Digest q o d) p
      (filed.numbered p (sym (ap (λ (k : Option Kind). option_map_or (λ k. same_kind k kind.File) k false) (kind-next list (log.Digest q o d) p)) ∙ file));
  rows = λ p b has. by_tests p b (q == p) (o == b) refl refl (sym (ap is_some (row-next list (log.Digest q o d) p b)) ∙ has);
}
  where
    tested : (is_file_of list q ≡ true) × (o * 4096 < size_of list q)
    tested = digest_of list q o d passes

    by_row : (p b : ℕ) → (is_some (number_of list p) ≡ true) × (b * block_size < size_of list p)
        → (is_some (number_of (list ++ log.Digest q o d ∷ []) p) ≡ true) × (b * block_size < size_of (list ++ log.Digest q o d ∷ []) p)
    by_row p b was = (still_some list (log.Digest q o d) p was.0, subst (λ (n : ℕ). b * block_size < n) (sym (size-next list (log.Digest q o d) p)) was.1)

    by_tests : (p b : ℕ) (s t : Bool) → (q == p) ≡ s → (o == b) ≡ t → is_some (row_after (if s && t then sets d else stays) (row_of list p b)) ≡ true
        → (is_some (number_of (list ++ log.Digest q o d ∷ []) p) ≡ true) × (b * block_size < size_of (list ++ log.Digest q o d ∷ []) p)
    by_tests p b true true one two has =
        let file : q ≡ p = same_numbers q p one in
        let block : o ≡ b = same_numbers o b two in
        by_row p b (
          subst (λ (i : ℕ). is_some (number_of list i) ≡ true) file (filed.numbered q tested.0),
          subst (λ (i : ℕ). i * block_size < size_of list p) block (subst (λ (i : ℕ). o * block_size < size_of list i) file tested.1),
        )
    by_tests p b true false one two has = by_row p b (filed.rows p b has)
    by_tests p b false t one two has = by_row p b (filed.rows p b has)
filed_next list r filed passes = record {
  numbered = λ p file. still_some list r p (filed.numbered p (sym (ap (λ (o : Option Kind). option_map_or (λ k. same_kind k kind.File) o false) (kind-next list r p)) ∙ file));
  rows = λ p b has.
      let was = filed.rows p b (sym (ap is_some (row-next list r p b)) ∙ has) in
      (still_some list r p was.0, subst (λ (n : ℕ). b * block_size < n) (sym (size-next list r p)) was.1);
}

pub row_files : (list : List Record) → IsWellLogged list → (p b : ℕ) → is_some (row_of list p b) ≡ true → (is_some (number_of list p) ≡ true) × (b * block_size < size_of list p)
row_files list logged = (logged_induction IsFiled (record { numbered = λ p file. absurd (none_some file); rows = λ p b has. absurd (none_some has) }) filed_next list logged).rows
  where
    none_some : false ≡ true → ⊥
    none_some e = absurd (cc)

-- two files have two numbers

from-le : (test : ℕ → Bool) (n : ℕ) (xs : List ℕ) (m : ℕ) → position_from test n xs ≡ Some m → (n ≤ m) × (m < n + length xs)
from-le test n [] m is = absurd (cc)
from-le test n (x ∷ xs) m is = by_test (test x) (from-le test (n + 1) xs m) is
  where
    by_test : (t : Bool) → (position_from test (n + 1) xs ≡ Some m → (n + 1 ≤ m) × (m < n + 1 + length xs)) → cond t (Some n) (position_from test (n + 1) xs) ≡ Some m → (n ≤ m) × (m < n + length (x ∷ xs))
    by_test true more is = let z = some_is n m is in (omega (arith, z), omega (arith, z))
    by_test false more is = let z = more is in (omega (arith, z.0), omega (arith, z.1))

pub number-below : (list : List Record) (p n : ℕ) → number_of list p ≡ Some n → n < length (files_of list)
number-below list p n is = let z = from-le (λ file. file == p) 0 (files_of list) n is in omega (arith, z.1)

number_one : (n : ℕ) (xs : List ℕ) (p q m : ℕ) → position_from (λ file. file == p) n xs ≡ Some m → position_from (λ file. file == q) n xs ≡ Some m → q ≡ p
number_one n [] p q m is so = absurd (cc)
number_one n (x ∷ xs) p q m is so = by_tests (x == p) (x == q) refl refl (number_one (n + 1) xs p q m) is so
  where
    by_tests : (s t : Bool) → (x == p) ≡ s → (x == q) ≡ t → (position_from (λ file. file == p) (n + 1) xs ≡ Some m → position_from (λ file. file == q) (n + 1) xs ≡ Some m → q ≡ p)
        → cond s (Some n) (position_from (λ file. file == p) (n + 1) xs) ≡ Some m → cond t (Some n) (position_from (λ file. file == q) (n + 1) xs) ≡ Some m → q ≡ p
    by_tests true true one two more is so = sym (same_numbers x q two) ∙ same_numbers x p one
    by_tests true false one two more is so = absurd (let z = some_is n m is in let y = from-le (λ file. file == q) (n + 1) xs m so in omega (arith, z, y.0))
    by_tests false true one two more is so = absurd (let z = some_is n m so in let y = from-le (λ file. file == p) (n + 1) xs m is in omega (arith, z, y.0))
    by_tests false false one two more is so = more is so

pub number-one : (list : List Record) (p q n : ℕ) → number_of list p ≡ Some n → number_of list q ≡ Some n → q ≡ p
number-one list p q n is so = number_one 0 (files_of list) p q n is so
