-- The fields of records: nodes, kinds, names, attributes and their values.
use Rattle.std.proofs.Common.{◌≡◌, ℕ, zero, suc, ◌^◌, ◌<◌, ◌≤◌, Bool, true, ltb, leb, eqb, ◌&&◌, List, [], ◌∷◌, ◌++◌, length, Result, Ok, refl, subst, arith, inl, inr}
use Rattle.std.specs.List.{list_all}
use Rattle.std.specs.Int.{w8, w16, w32, w64, to_be_bytes}
use Rattle.std.proofs.lemmas.Bool.{and_parts, and_from, or_cases, or_right, leb-true, le-leb, ltb-true, eqb-true}
use Rattle.std.proofs.lemmas.List.{nil_from_length}
use Rattle.pass_entry.specs.declared.objects.Kind.{Kind}
use Rattle.pass_entry.specs.declared.objects.Kind.TheVariants as kind_of
use Rattle.pass_entry.specs.declared.objects.Node.{Node}
use Rattle.pass_entry.specs.Ranges.{is_number, is_node, is_name_or_none, is_value}
use Rattle.pass_entry.specs.Texts.{is_line_byte, is_name_byte, is_name}
use Rattle.pass_record.specs.declared.fault.RecordFault.{RecordFault}
use Rattle.pass_record.specs.Fields.{object_number_at, node_at, is_kind_byte, kind_of_byte, kind_at, is_any, name_at, attr_at, is_value_length, value_at, size_at, block_at}
use Rattle.pass_record.specs.Spelling.{AreBytes, kind_byte, node_bytes, name_bytes, line_bytes}
use Rattle.pass_record.proofs.Parts.{Takes, IsField, NumberFits, TextFits, number_field, text_field, wide8, wide16, wide32, wide64}
use Rattle.pass_record.proofs.Steps.{one_takes, one_again, one_stays, two_takes, two_again, two_stays}

-- the same field, by another word for which values fit
IsField-fits : {A : Type 0} {at : List ℕ → Result (A × List ℕ) RecordFault} {spelled : A → List ℕ} {P : A → Type 0} (Q : A → Type 0) → IsField at spelled P → ((x : A) → P x → Q x) → ((x : A) → Q x → P x)
    → IsField at spelled Q
IsField-fits Q field there back = record {
  takes = λ bytes x rest fits e. let t = field.takes bytes x rest fits e in (t.0, there x t.1);
  again = λ x rest fits. field.again x rest (back x fits);
  stays = field.stays;
}

-- ---- numbers of objects, and nodes

abbrev pub IsNumber : ℕ → Type 0
IsNumber n = is_number n ≡ true

below_word : (n : ℕ) → IsNumber n → NumberFits (2 ^ 64) is_number n
below_word n h =
    let parts = and_parts (leb 1 n) (ltb n (2 ^ 48)) h in
    let below : n < 2 ^ 48 = ltb-true n (2 ^ 48) parts.1 in
    (omega arith, h)

pub number : IsField object_number_at (to_be_bytes w64) IsNumber
number = IsField-fits IsNumber (number_field w64 (2 ^ 64) wide64 is_number) (λ n h. h.1) below_word

abbrev pub node_from : ℕ → ℕ → Node
node_from pnode version = record { pnode = pnode; version = version }

abbrev pub IsNode : Node → Type 0
IsNode node = is_node node ≡ true

node_takes : (bytes : List ℕ) (node : Node) (rest : List ℕ) → AreBytes bytes → node_at bytes ≡ Ok (node, rest) → Takes bytes (node_bytes node) rest × IsNode node
unfolding node_at
node_takes bytes node rest fits e =
    let t = two_takes number number node_from bytes node rest fits e in
    subst (λ (x : Node). Takes bytes (node_bytes x) rest × IsNode x) t.made (t.taken, and_from (is_number t.a) (is_number t.b) t.a_fits t.b_fits)

node_again : (node : Node) (rest : List ℕ) → IsNode node → node_at (node_bytes node ++ rest) ≡ Ok (node, rest)
unfolding node_at
node_again node rest fits =
    let parts = and_parts (is_number node.pnode) (is_number node.version) fits in
    two_again number number node_from node.pnode node.version rest parts.0 parts.1

pub node : IsField node_at node_bytes IsNode
unfolding node_at
node = record { takes = node_takes; again = node_again; stays = two_stays number number node_from }

-- ---- kinds

abbrev pub IsKind : Kind → Type 0
IsKind kind = Unit {0}

abbrev pub kind_bytes : Kind → List ℕ
kind_bytes kind = kind_byte kind ∷ []

-- the kinds have the bytes 1 to 4
kind_back : (b : ℕ) → is_kind_byte b ≡ true → to_be_bytes w8 b ≡ kind_bytes (kind_of_byte b)
kind_back zero h = absurd cc
kind_back (suc zero) h = refl
kind_back (suc (suc zero)) h = refl
kind_back (suc (suc (suc zero))) h = refl
kind_back (suc (suc (suc (suc zero)))) h = refl
kind_back (suc (suc (suc (suc (suc b))))) h =
    let parts = and_parts (leb 1 (suc (suc (suc (suc (suc b)))))) (leb (suc (suc (suc (suc (suc b))))) 4) h in
    let few : suc (suc (suc (suc (suc b)))) ≤ 4 = leb-true _ _ parts.1 in
    absurd (omega arith)

kind_takes : (bytes : List ℕ) (kind : Kind) (rest : List ℕ) → AreBytes bytes → kind_at bytes ≡ Ok (kind, rest) → Takes bytes (kind_bytes kind) rest × IsKind kind
unfolding kind_at
kind_takes bytes kind rest fits e =
    let t = one_takes (number_field w8 (2 ^ 8) wide8 is_kind_byte) kind_of_byte bytes kind rest fits e in
    subst (λ (x : Kind). Takes bytes (kind_bytes x) rest × IsKind x) t.made (subst (λ (text : List ℕ). Takes bytes text rest) (kind_back t.a t.fits.1) t.taken, tt)

kind_again : (kind : Kind) (rest : List ℕ) → IsKind kind → kind_at (kind_bytes kind ++ rest) ≡ Ok (kind, rest)
unfolding kind_at
kind_again kind_of.Process rest fits = one_again (number_field w8 (2 ^ 8) wide8 is_kind_byte) kind_of_byte 1 rest (omega arith, refl)
kind_again kind_of.File rest fits = one_again (number_field w8 (2 ^ 8) wide8 is_kind_byte) kind_of_byte 2 rest (omega arith, refl)
kind_again kind_of.Pipe rest fits = one_again (number_field w8 (2 ^ 8) wide8 is_kind_byte) kind_of_byte 3 rest (omega arith, refl)
kind_again kind_of.App rest fits = one_again (number_field w8 (2 ^ 8) wide8 is_kind_byte) kind_of_byte 4 rest (omega arith, refl)

pub kind : IsField kind_at kind_bytes IsKind
unfolding kind_at
kind = record { takes = kind_takes; again = kind_again; stays = one_stays (number_field w8 (2 ^ 8) wide8 is_kind_byte) kind_of_byte }

-- ---- texts

abbrev pub IsNameOrNone : List ℕ → Type 0
IsNameOrNone name = is_name_or_none name ≡ true

abbrev NameFits : (ℕ → Bool) → List ℕ → Type 0
NameFits is_length name = TextFits (2 ^ 8) is_length is_name_byte name

-- the parts of a name
name_parts : (name : List ℕ) → is_name name ≡ true → (1 ≤ length name) × (length name ≤ 255) × (list_all is_name_byte name ≡ true)
name_parts name h =
    let parts = and_parts (leb 1 (length name) && leb (length name) 255) (list_all is_name_byte name) h in
    let lengths = and_parts (leb 1 (length name)) (leb (length name) 255) parts.0 in
    (leb-true _ _ lengths.0, leb-true _ _ lengths.1, parts.1)

name_from : (name : List ℕ) → 1 ≤ length name → length name < 256 → list_all is_name_byte name ≡ true → is_name name ≡ true
name_from name some few each =
    let lengths = and_from (leb 1 (length name)) (leb (length name) 255) (le-leb _ _ some) (le-leb _ _ (omega arith)) in
    and_from (leb 1 (length name) && leb (length name) 255) (list_all is_name_byte name) lengths each

name_or_none : (name : List ℕ) → NameFits is_any name → IsNameOrNone name
name_or_none [] h = refl
name_or_none (b ∷ name) h =
    or_right (eqb (length (b ∷ name)) 0) (is_name (b ∷ name)) (name_from (b ∷ name) (omega arith) h.0.0 h.1)

or_none_fits : (name : List ℕ) → IsNameOrNone name → NameFits is_any name
or_none_fits name h =
    elim (or_cases (eqb (length name) 0) (is_name name) h) [
      | inl none ↦ rw (nil_from_length name (eqb-true _ _ none)) ((omega arith, refl), refl)
      | inr named ↦ let parts = name_parts name named in ((omega arith, refl), parts.2)
    ]

pub name : IsField name_at name_bytes IsNameOrNone
unfolding name_at
name = IsField-fits IsNameOrNone (text_field w8 (2 ^ 8) wide8 is_any is_name_byte) name_or_none or_none_fits

abbrev pub IsAttr : List ℕ → Type 0
IsAttr attr = is_name attr ≡ true

attr_is : (attr : List ℕ) → NameFits (leb 1) attr → IsAttr attr
attr_is attr h = name_from attr (leb-true _ _ h.0.1) h.0.0 h.1

attr_fits : (attr : List ℕ) → IsAttr attr → NameFits (leb 1) attr
attr_fits attr h = let parts = name_parts attr h in ((omega arith, le-leb _ _ parts.0), parts.2)

pub attr : IsField attr_at name_bytes IsAttr
unfolding attr_at
attr = IsField-fits IsAttr (text_field w8 (2 ^ 8) wide8 (leb 1) is_name_byte) attr_is attr_fits

abbrev pub IsValue : List ℕ → Type 0
IsValue value = is_value value ≡ true

abbrev ValueFits : List ℕ → Type 0
ValueFits value = TextFits (2 ^ 16) is_value_length is_line_byte value

value_is : (value : List ℕ) → ValueFits value → IsValue value
value_is value h =
    let lengths = and_parts (leb 1 (length value)) (leb (length value) 1024) h.0.1 in
    and_from (leb 1 (length value)) (leb (length value) 1024 && list_all is_line_byte value) lengths.0 (and_from (leb (length value) 1024) (list_all is_line_byte value) lengths.1 h.1)

value_fits : (value : List ℕ) → IsValue value → ValueFits value
value_fits value h =
    let parts = and_parts (leb 1 (length value)) (leb (length value) 1024 && list_all is_line_byte value) h in
    let line = and_parts (leb (length value) 1024) (list_all is_line_byte value) parts.1 in
    let few : length value ≤ 1024 = leb-true _ _ line.0 in
    ((omega arith, and_from (leb 1 (length value)) (leb (length value) 1024) parts.0 line.0), line.1)

pub value : IsField value_at line_bytes IsValue
unfolding value_at
value = IsField-fits IsValue (text_field w16 (2 ^ 16) wide16 is_value_length is_line_byte) value_is value_fits

-- ---- sizes and blocks

abbrev pub IsSize : ℕ → Type 0
IsSize n = leb n 4194304 ≡ true

size_fits : (n : ℕ) → IsSize n → NumberFits (2 ^ 64) (λ n. leb n 4194304) n
size_fits n h = let few : n ≤ 4194304 = leb-true _ _ h in (omega arith, h)

pub size : IsField size_at (to_be_bytes w64) IsSize
size = IsField-fits IsSize (number_field w64 (2 ^ 64) wide64 (λ n. leb n 4194304)) (λ n h. h.1) size_fits

abbrev pub IsBlock : ℕ → Type 0
IsBlock n = ltb n 1024 ≡ true

block_fits : (n : ℕ) → IsBlock n → NumberFits (2 ^ 32) (λ n. ltb n 1024) n
block_fits n h = let few : n < 1024 = ltb-true _ _ h in (omega arith, h)

pub block : IsField block_at (to_be_bytes w32) IsBlock
block = IsField-fits IsBlock (number_field w32 (2 ^ 32) wide32 (λ n. ltb n 1024)) (λ n h. h.1) block_fits
