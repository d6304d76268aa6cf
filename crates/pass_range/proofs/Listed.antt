-- What is listed is exactly what is unmatched.
use Rattle.std.proofs.Common.{◌≡◌, ◌∙◌, ◌+◌, ◌<◌, ℕ, zero, suc, Bool, true, false, not, cond, List, [], ◌∷◌, ◌++◌, length, take, get_or, map, filter, refl, sym, ap, arith}
use Rattle.std.specs.Prelude.{Option, Some, None, slice_get, Contains, option_map, bytes_eq}
use Rattle.std.specs.Option.{option_map_or}
use Rattle.std.proofs.lemmas.List.{append-nil, map-append}
use Rattle.std.proofs.lemmas.List.Elements.{filter-append}
use Rattle.std.proofs.lemmas.Slice.Eq.{bytes_eq-Decides}
use Rattle.std.proofs.lemmas.Bool.{false≢true}
use Rattle.md5.specs.Md5.{md5}
use Rattle.pass_entry.specs.declared.record.Record.{Record}
use Rattle.pass_entry.proofs.Places.{Contains-place, Contains-at}
use Rattle.pass_plain.specs.Records.{range_len}
use Rattle.pass_plain.specs.WellLogged.{size_of}
use Rattle.pass_plain.proofs.Replays.{take-next}
use Rattle.pass_plain.proofs.Lists.{some_is, filtered, in_filtered, not_true}
use Rattle.pass_range.specs.declared.range.Range.{Range}
use Rattle.pass_range.specs.declared.table.Table.{Table}
use Rattle.pass_range.specs.declared.table.TableFile.{TableFile}
use Rattle.pass_range.specs.Places.{place, found_there}
use Rattle.pass_range.specs.Rows.{number_of, IsUnmatched}
use Rattle.pass_range.specs.Tables.{Row, range_at, IsAscending, IsTableOf, file_in, is_matched, unmatched_in, AreUnmatched}

abbrev range_of : Row → Range
range_of row = row.0

-- the ranges that pass a test, of one row more
module _ (test : Row → Bool) (rows : List Row) (i : ℕ) (row : Row) (low : i < length rows) (is : row ≡ get_or rows i row) where
  one_more : map range_of (filter test (take (i + 1) rows)) ≡ map range_of (filter test (take i rows)) ++ map range_of (filter test (row ∷ []))
  one_more = ap (λ (l : List Row). map range_of (filter test l)) (take-next rows i row low is)
      ∙ ap (map range_of) (filter-append test (take i rows) (row ∷ [])) ∙ map-append range_of (filter test (take i rows)) (filter test (row ∷ []))

  pub one_passes : test row ≡ true → map range_of (filter test (take (i + 1) rows)) ≡ map range_of (filter test (take i rows)) ++ row.0 ∷ []
  one_passes passes = one_more ∙ ap (λ (b : Bool). map range_of (filter test (take i rows)) ++ map range_of (cond b (row ∷ []) [])) passes

  pub one_fails : test row ≡ false → map range_of (filter test (take (i + 1) rows)) ≡ map range_of (filter test (take i rows))
  one_fails fails = one_more ∙ ap (λ (b : Bool). map range_of (filter test (take i rows)) ++ map range_of (cond b (row ∷ []) [])) fails ∙ append-nil (map range_of (filter test (take i rows)))

-- places of a map and of a filter

mapped : (rows : List Row) (i : ℕ) (r : Range) → slice_get (map range_of rows) i ≡ Some r → (row : Row) × (slice_get rows i ≡ Some row) × (row.0 ≡ r)
mapped [] i r at = absurd (cc)
mapped (row ∷ rows) zero r at = (row, refl, some_is row.0 r at)
mapped (row ∷ rows) (suc i) r at = mapped rows i r at

in_mapped : (rows : List Row) (i : ℕ) (row : Row) → slice_get rows i ≡ Some row → slice_get (map range_of rows) i ≡ Some row.0
in_mapped [] i row at = absurd (cc)
in_mapped (x ∷ rows) zero row at = ap (λ (r : Row). Some r.0) (some_is x row at)
in_mapped (x ∷ rows) (suc i) row at = in_mapped rows i row at

two_filtered : (test : Row → Bool) (rows : List Row) (i j : ℕ) (x y : Row) → i < j → slice_get (filter test rows) i ≡ Some x → slice_get (filter test rows) j ≡ Some y
    → (k : ℕ) × (l : ℕ) × (k < l) × (slice_get rows k ≡ Some x) × (slice_get rows l ≡ Some y)
two_filtered test [] i j x y less first second = absurd (cc)
two_filtered test (z ∷ rows) i j x y less first second = by_test (test z) i j less (two_filtered test rows) first second
  where
    by_test : (t : Bool) (i j : ℕ) → i < j
        → ((i j : ℕ) (x y : Row) → i < j → slice_get (filter test rows) i ≡ Some x → slice_get (filter test rows) j ≡ Some y → (k : ℕ) × (l : ℕ) × (k < l) × (slice_get rows k ≡ Some x) × (slice_get rows l ≡ Some y))
        → slice_get (cond t (z ∷ filter test rows) (filter test rows)) i ≡ Some x → slice_get (cond t (z ∷ filter test rows) (filter test rows)) j ≡ Some y
        → (k : ℕ) × (l : ℕ) × (k < l) × (slice_get (z ∷ rows) k ≡ Some x) × (slice_get (z ∷ rows) l ≡ Some y)
    by_test false i j less more first second = let m = more i j x y less first second in (suc m.0, suc m.1, (let z : suc m.0 < suc m.1 = omega (arith, m.2) in z), m.3, m.4)
    by_test true i zero less more first second = absurd (omega (arith, less))
    by_test true zero (suc j) less more first second = let m = filtered test rows j y second in (zero, suc m.1, (let z : zero < suc m.1 = omega arith in z), first, m.2)
    by_test true (suc i) (suc j) less more first second = let m = more i j x y (omega (arith, less)) first second in (suc m.0, suc m.1, (let z : suc m.0 < suc m.1 = omega (arith, m.2) in z), m.3, m.4)

pub ascending_filter : (test : Row → Bool) (rows : List Row) → IsAscending (map range_of rows) → IsAscending (map range_of (filter test rows))
ascending_filter test rows ascending = λ i j a b less first second.
    let x = mapped (filter test rows) i a first in
    let y = mapped (filter test rows) j b second in
    let m = two_filtered test rows i j x.0 y.0 less x.1 y.1 in
    ascending m.0 m.1 a b m.2 (in_mapped rows m.0 x.0 m.3 ∙ ap (λ (r : Range). Some r) x.2) (in_mapped rows m.1 y.0 m.4 ∙ ap (λ (r : Range). Some r) y.2)

-- a row that isn't matched is one of a file of the table
unmatched_file : (table : Table) (store : List ℕ) (row : Row) → is_matched table store row ≡ false
    → (file : TableFile) × (file_in table row.0.pnode ≡ Some file) × (bytes_eq (md5 (found_there (place file.number row.0.block) (range_len file.size row.0.block) store)) row.1 ≡ false)
unmatched_file table store row fails = by_file (file_in table row.0.pnode) fails
  where
    by_file : (o : Option TableFile) → option_map_or (λ (file : TableFile). bytes_eq (md5 (found_there (place file.number row.0.block) (range_len file.size row.0.block) store)) row.1) o true ≡ false
        → (file : TableFile) × (o ≡ Some file) × (bytes_eq (md5 (found_there (place file.number row.0.block) (range_len file.size row.0.block) store)) row.1 ≡ false)
    by_file None fails = absurd (false≢true (sym fails))
    by_file (Some file) fails = (file, refl, fails)

-- the number and the size in a file of a list
pub numbered : (o : Option ℕ) (size : ℕ) (file : TableFile) → option_map (λ n. record { number = n; size = size }) o ≡ Some file → (o ≡ Some file.number) × (file.size ≡ size)
numbered None size file is = absurd (cc)
numbered (Some n) size file is =
    let same = some_is (record { number = n; size = size }) file is in
    (ap (λ (f : TableFile). Some f.number) same, ap (λ (f : TableFile). f.size) (sym same))

module _ (list : List Record) (table : Table) (store : List ℕ) (is : IsTableOf list table) where
  abbrev rows : List Row
  rows = table.rows.items

  abbrev fails : Row → Bool
  fails row = not (is_matched table store row)

  listed_is : (p b : ℕ) → Contains (unmatched_in table store) (range_at p b) → IsUnmatched list store p b
  listed_is p b has =
      let at = Contains-place (unmatched_in table store) (range_at p b) has in
      let m = mapped (filter fails rows) at.0 (range_at p b) at.1 in
      let f = filtered fails rows at.0 m.0 m.1 in
      let row : Row = (range_at p b, m.0.1) in
      let same : m.0 ≡ row = same_row m.0 (range_at p b) m.2 in
      let found = unmatched_file table store row (not_true (is_matched table store row) (ap fails (sym same) ∙ f.0)) in
      let file = numbered (number_of list p) (size_of list p) found.0 (sym (is.files p) ∙ found.1) in
      record {
        number = found.0.number;
        numbered = file.0;
        digest = m.0.1;
        row = (is.rows p b m.0.1).0 (Contains-at rows f.1 row (f.2 ∙ ap (λ (r : Row). Some r) same));
        differs = λ equal. false≢true (sym found.2 ∙ (bytes_eq-Decides (md5 (found_there (place found.0.number b) (range_len found.0.size b) store)) m.0.1).1
            (ap (λ (n : ℕ). md5 (found_there (place found.0.number b) (range_len n b) store)) file.1 ∙ equal));
      }
    where
      same_row : (row : Row) (r : Range) → row.0 ≡ r → row ≡ (r, row.1)
      same_row row r e = λ i. (e i, row.1)

  is_listed : (p b : ℕ) → IsUnmatched list store p b → Contains (unmatched_in table store) (range_at p b)
  is_listed p b un =
      let row : Row = (range_at p b, un.digest) in
      let at = Contains-place rows row ((is.rows p b un.digest).1 un.row) in
      let file : file_in table p ≡ Some (record { number = un.number; size = size_of list p }) =
      is.files p ∙ ap (λ (o : Option ℕ). option_map (λ n. record { number = n; size = size_of list p }) o) un.numbered in
      let test : is_matched table store row ≡ false =
      ap (λ (o : Option TableFile). option_map_or (λ (f : TableFile). bytes_eq (md5 (found_there (place f.number b) (range_len f.size b) store)) un.digest) o true) file
      ∙ differ (md5 (found_there (place un.number b) (range_len (size_of list p) b) store)) un.digest un.differs in
      let f = in_filtered fails rows at.0 row at.1 (ap not test) in
      Contains-at (unmatched_in table store) f.0 (range_at p b) (in_mapped (filter fails rows) f.0 row f.1)
    where
      differ : (xs ys : List ℕ) → (xs ≡ ys → ⊥) → bytes_eq xs ys ≡ false
      differ xs ys apart = by_test (bytes_eq xs ys) refl
        where
          by_test : (t : Bool) → bytes_eq xs ys ≡ t → t ≡ false
          by_test true e = absurd (apart ((bytes_eq-Decides xs ys).0 e))
          by_test false e = refl

  pub listed_exactly : AreUnmatched list store (unmatched_in table store)
  listed_exactly = record {
    ascending = ascending_filter fails rows is.ascending;
    exact = λ p b. (listed_is p b, is_listed p b);
  }
