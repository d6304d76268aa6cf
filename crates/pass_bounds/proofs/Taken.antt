-- How many bytes a record that was read has taken.
use Rattle.std.proofs.Common.{◌≡◌, ◌+◌, ◌-◌, ◌≤◌, ℕ, Bool, cond, ltb, eqb, List, [], ◌∷◌, length, take, drop, Ok, Err, refl, ap, subst, arith, true, false, length-append}
use Rattle.std.specs.Prelude.{nat_le, nat_lt}
use Rattle.std.specs.List.{list_all}
use Rattle.pass_entry.specs.Texts.{is_line_byte, is_name_byte}
use Rattle.std.specs.Int.{Width, w8, w16, w32, w64, byte_len, from_be_bytes}
use Rattle.std.proofs.lemmas.Bool.{ltb-false}
use Rattle.std.proofs.lemmas.List.{length-drop, length-take}
use Rattle.pass_entry.specs.declared.record.Record.{Record}
use Rattle.pass_entry.specs.declared.record.Record.TheVariants as record_of
use Rattle.pass_entry.specs.Lengths.{record_length}
use Rattle.pass_entry.specs.Ranges.{is_number}
use Rattle.pass_entry.proofs.Variants.{guard_ok}
use Rattle.pass_record.specs.declared.fault.RecordFault.TheVariants as fault
use Rattle.pass_record.specs.Fields.{number_at, bytes_at, text_at, node_at, kind_at, is_kind_byte, kind_of_byte, is_any, is_value_length, name_at, attr_at, value_at, md5_at}
use Rattle.pass_record.specs.Reading.{object_at, named_at, attribute_at, input_at, version_at, file_size_at, digest_at, ceiling_at, fields_at, record_at}
use Rattle.pass_record.specs.Spelling.{spelling, line_bytes}
use Rattle.pass_record.proofs.Parts.{bind_ok, passed, ok_is}
use Rattle.pass_record.proofs.Steps.{Reader, one_at, two_at, three_at}
use Rattle.pass_record.proofs.Spellings.{record_length-some}

-- what is read has taken so many bytes, and is so
abbrev pub Reads : {A : Type 0} → Reader A → (A → ℕ) → (A → Type 0) → Type 0
Reads {A} at size Is = (bytes : List ℕ) (x : A) (rest : List ℕ) → at bytes ≡ Ok (x, rest) → (length bytes ≡ size x + length rest) × Is x

abbrev IsAny : {A : Type 0} → A → Type 0
IsAny x = Unit {0}

number_read : (w : Width) (is_within : ℕ → Bool) → Reads (number_at w is_within) (λ n. byte_len w) IsAny
number_read w is_within bytes n rest e =
    let k = byte_len w in
    let v = from_be_bytes w (take k bytes) in
    let g = passed (ltb (length bytes) k) fault.Short (cond (is_within v) (Ok (v, drop k bytes)) (Err fault.Value)) (n, rest) e in
    let m = guard_ok (is_within v) (v, drop k bytes) (n, rest) fault.Value g.1 in
    let long : k ≤ length bytes = ltb-false _ _ g.0 in
    let rest-is : length (drop k bytes) ≡ length rest = ap (λ (p : ℕ × List ℕ). length p.1) m.1 in
    let left = length-drop k bytes in
    (omega (arith, long, rest-is, left), tt)

bytes_read : (count : ℕ) (is_within : ℕ → Bool) → Reads (bytes_at count is_within) (λ text. count) (λ text. length text ≡ count)
bytes_read count is_within bytes text rest e =
    let g = passed (ltb (length bytes) count) fault.Short (cond (list_all is_within (take count bytes)) (Ok (take count bytes, drop count bytes)) (Err fault.Value)) (text, rest) e in
    let m = guard_ok (list_all is_within (take count bytes)) (take count bytes, drop count bytes) (text, rest) fault.Value g.1 in
    let long : count ≤ length bytes = ltb-false _ _ g.0 in
    let text-is : length (take count bytes) ≡ length text = ap (λ (p : List ℕ × List ℕ). length p.0) m.1 in
    let rest-is : length (drop count bytes) ≡ length rest = ap (λ (p : List ℕ × List ℕ). length p.1) m.1 in
    let left = length-drop count bytes in
    let taken = length-take count bytes in
    (omega (arith, long, rest-is, left), omega (arith, long, text-is, taken))

text_read : (w : Width) (is_length is_byte : ℕ → Bool) → Reads (text_at w is_length is_byte) (λ text. byte_len w + length text) IsAny
text_read w is_length is_byte bytes text rest e =
    let a = bind_ok (number_at w is_length bytes) (λ (n : ℕ × List ℕ). bytes_at n.0 is_byte n.1) (text, rest) e in
    let (whole, any) = number_read w is_length bytes a.0.0 a.0.1 a.1 in
    let (behind, long) = bytes_read a.0.0 is_byte a.0.1 text rest a.2 in
    (omega (arith, whole, behind, long), tt)

md5_read : Reads md5_at (λ md5. 16) (λ md5. length md5 ≡ 16)
md5_read bytes md5 rest e =
    let g = passed (ltb (length bytes) 16) fault.Short (Ok (take 16 bytes, drop 16 bytes)) (md5, rest) e in
    let long : 16 ≤ length bytes = ltb-false _ _ g.0 in
    let same = ok_is (take 16 bytes, drop 16 bytes) (md5, rest) g.1 in
    let text-is : length (take 16 bytes) ≡ length md5 = ap (λ (p : List ℕ × List ℕ). length p.0) same in
    let rest-is : length (drop 16 bytes) ≡ length rest = ap (λ (p : List ℕ × List ℕ). length p.1) same in
    let left = length-drop 16 bytes in
    let taken = length-take 16 bytes in
    (omega (arith, long, rest-is, left), omega (arith, long, text-is, taken))

-- fields one behind another, of which a value is made

module _ {A X : Type 0} {p : Reader A} (s : A → ℕ) {P : A → Type 0} (first : Reads p s P) (make : A → X) (t : X → ℕ) (Q : X → Type 0) (sized : (a : A) → P a → (t (make a) ≡ s a) × Q (make a)) where
  one_read : Reads (one_at p make) t Q
  one_read bytes x rest e =
      let a = bind_ok (p bytes) (λ (a : A × List ℕ). Ok (make a.0, a.1)) (x, rest) e in
      let (whole, is) = first bytes a.0.0 a.0.1 a.1 in
      let same = ok_is (make a.0.0, a.0.1) (x, rest) a.2 in
      let (all, made) = sized a.0.0 is in
      let left : length a.0.1 ≡ length rest = ap (λ (y : X × List ℕ). length y.1) same in
      let value : make a.0.0 ≡ x = ap (λ (y : X × List ℕ). y.0) same in
      let size : t (make a.0.0) ≡ t x = ap t value in
      (omega (arith, whole, all, left, size), subst Q value made)

module _ {A B X : Type 0} {p : Reader A} {q : Reader B} (s : A → ℕ) (u : B → ℕ) {P : A → Type 0} {Q : B → Type 0} (first : Reads p s P) (second : Reads q u Q)
    (make : A → B → X) (t : X → ℕ) (R : X → Type 0) (sized : (a : A) (b : B) → P a → Q b → (t (make a b) ≡ s a + u b) × R (make a b)) where
  two_read : Reads (two_at p q make) t R
  two_read bytes x rest e =
      let a = bind_ok (p bytes) (λ (a : A × List ℕ). one_at q (make a.0) a.1) (x, rest) e in
      let (whole, is) = first bytes a.0.0 a.0.1 a.1 in
      let b = bind_ok (q a.0.1) (λ (b : B × List ℕ). Ok (make a.0.0 b.0, b.1)) (x, rest) a.2 in
      let (behind, so) = second a.0.1 b.0.0 b.0.1 b.1 in
      let same = ok_is (make a.0.0 b.0.0, b.0.1) (x, rest) b.2 in
      let (all, made) = sized a.0.0 b.0.0 is so in
      let left : length b.0.1 ≡ length rest = ap (λ (y : X × List ℕ). length y.1) same in
      let value : make a.0.0 b.0.0 ≡ x = ap (λ (y : X × List ℕ). y.0) same in
      let size : t (make a.0.0 b.0.0) ≡ t x = ap t value in
      (omega (arith, whole, behind, all, left, size), subst R value made)

module _ {A B C X : Type 0} {p : Reader A} {q : Reader B} {r : Reader C} (s : A → ℕ) (u : B → ℕ) (v : C → ℕ) {P : A → Type 0} {Q : B → Type 0} {R : C → Type 0}
    (first : Reads p s P) (second : Reads q u Q) (third : Reads r v R)
    (make : A → B → C → X) (t : X → ℕ) (S : X → Type 0) (sized : (a : A) (b : B) (c : C) → P a → Q b → R c → (t (make a b c) ≡ s a + u b + v c) × S (make a b c)) where
  three_read : Reads (three_at p q r make) t S
  three_read bytes x rest e =
      let a = bind_ok (p bytes) (λ (a : A × List ℕ). two_at q r (make a.0) a.1) (x, rest) e in
      let (whole, is) = first bytes a.0.0 a.0.1 a.1 in
      let b = bind_ok (q a.0.1) (λ (b : B × List ℕ). one_at r (make a.0.0 b.0) b.1) (x, rest) a.2 in
      let (behind, so) = second a.0.1 b.0.0 b.0.1 b.1 in
      let c = bind_ok (r b.0.1) (λ (c : C × List ℕ). Ok (make a.0.0 b.0.0 c.0, c.1)) (x, rest) b.2 in
      let (last, too) = third b.0.1 c.0.0 c.0.1 c.1 in
      let same = ok_is (make a.0.0 b.0.0 c.0.0, c.0.1) (x, rest) c.2 in
      let (all, made) = sized a.0.0 b.0.0 c.0.0 is so too in
      let left : length c.0.1 ≡ length rest = ap (λ (y : X × List ℕ). length y.1) same in
      let value : make a.0.0 b.0.0 c.0.0 ≡ x = ap (λ (y : X × List ℕ). y.0) same in
      let size : t (make a.0.0 b.0.0 c.0.0) ≡ t x = ap t value in
      (omega (arith, whole, behind, last, all, left, size), subst S value made)

-- nodes and kinds

node_read : Reads node_at (λ node. 16) IsAny
unfolding node_at
node_read = two_read _ _ (number_read w64 is_number) (number_read w64 is_number) (λ pnode version. record { pnode = pnode; version = version }) (λ node. 16) IsAny (λ a b p q. (refl, tt))

kind_read : Reads kind_at (λ kind. 1) IsAny
unfolding kind_at
kind_read = one_read _ (number_read w8 is_kind_byte) kind_of_byte (λ kind. 1) IsAny (λ a p. (refl, tt))

name_read : Reads name_at (λ name. 1 + length name) IsAny
unfolding name_at
name_read = text_read w8 is_any is_name_byte

attr_read : Reads attr_at (λ attr. 1 + length attr) IsAny
unfolding attr_at
attr_read = text_read w8 (nat_le 1) is_name_byte

value_read : Reads value_at (λ value. 2 + length value) IsAny
unfolding value_at
value_read = text_read w16 is_value_length is_line_byte

-- records

-- how many bytes a record has behind its tag
abbrev behind_tag : Record → ℕ
behind_tag one = record_length one - 1

abbrev HasLength : Record → Type 0
HasLength one = length (spelling one) ≡ record_length one

object_read : Reads object_at behind_tag HasLength
unfolding object_at spelling
object_read = two_read _ _ (number_read w64 is_number) kind_read record_of.Object behind_tag HasLength (λ a b p q. (refl, refl))

named_read : Reads named_at behind_tag HasLength
unfolding named_at spelling
named_read = two_read _ _ (number_read w64 is_number) name_read record_of.Name behind_tag HasLength (λ a b p q. (omega arith, omega arith))

attribute_read : Reads attribute_at behind_tag HasLength
unfolding attribute_at spelling
attribute_read = three_read _ _ _ node_read attr_read value_read record_of.Attr behind_tag HasLength (λ a b c p q r. (omega arith, let z = length-append b (line_bytes c) in omega (arith, z)))

input_read : Reads input_at behind_tag HasLength
unfolding input_at spelling
input_read = two_read _ _ node_read node_read record_of.Input behind_tag HasLength (λ a b p q. (refl, refl))

version_read : Reads version_at behind_tag HasLength
unfolding version_at spelling
version_read = one_read _ node_read record_of.Version behind_tag HasLength (λ a p. (refl, refl))

file_size_read : Reads file_size_at behind_tag HasLength
unfolding file_size_at spelling
file_size_read = two_read _ _ (number_read w64 is_number) (number_read w64 (λ n. nat_le n 4194304)) record_of.Size behind_tag HasLength (λ a b p q. (refl, refl))

digest_read : Reads digest_at behind_tag HasLength
unfolding digest_at spelling
digest_read = three_read _ _ _ (number_read w64 is_number) (number_read w32 (λ n. nat_lt n 1024)) md5_read record_of.Digest behind_tag HasLength (λ a b c p q r. (refl, omega (arith, r)))

ceiling_read : Reads ceiling_at behind_tag HasLength
unfolding ceiling_at spelling
ceiling_read = one_read _ (number_read w64 is_number) record_of.Ceiling behind_tag HasLength (λ a p. (refl, refl))

-- a reader by a test of the tag
either : (b : Bool) (at other : Reader Record) → Reads at behind_tag HasLength → Reads other behind_tag HasLength → Reads (λ bytes. cond b (at bytes) (other bytes)) behind_tag HasLength
either true at other here there = here
either false at other here there = there

fields_read : (tag : ℕ) → Reads (fields_at tag) behind_tag HasLength
fields_read tag =
    either (eqb tag 1) object_at _ object_read
    (either (eqb tag 2) named_at _ named_read
    (either (eqb tag 3) attribute_at _ attribute_read
    (either (eqb tag 4) input_at _ input_read
    (either (eqb tag 5) version_at _ version_read
    (either (eqb tag 6) file_size_at _ file_size_read
    (either (eqb tag 7) digest_at _ digest_read
    (either (eqb tag 8) ceiling_at (λ bytes. Err fault.Tag) ceiling_read (λ bytes x rest e. absurd cc))))))))

-- a record that was read has taken its length, and its spelling has that length
pub record_read : Reads record_at record_length HasLength
unfolding record_at
record_read [] one rest e = absurd cc
record_read (tag ∷ bytes) one rest e =
    let (whole, is) = fields_read tag bytes one rest e in
    let some = record_length-some one in
    (omega (arith, whole, some), is)
