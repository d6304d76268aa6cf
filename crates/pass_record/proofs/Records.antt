-- What was read behind a tag are a record's fields, what was written is read again, and what comes behind changes nothing.
use Rattle.std.proofs.Common.{◌≡◌, ℕ, suc, Bool, true, false, cond, eqb, ltb, leb, ◌&&◌, List, [], ◌∷◌, ◌++◌, length, Result, Ok, Err, refl, sym, ap, subst, ◌∙◌, ◌⊎◌, inl, inr, append_assoc}
use Rattle.std.specs.Int.{w32, w64, to_be_bytes}
use Rattle.std.proofs.lemmas.Bool.{and_parts, and_from, eqb-true, eq-eqb}
use Rattle.pass_entry.specs.declared.objects.Kind.{Kind}
use Rattle.pass_entry.specs.declared.objects.Node.{Node}
use Rattle.pass_entry.specs.declared.record.Record.{Record}
use Rattle.pass_entry.specs.declared.record.Record.TheVariants as record_of
use Rattle.pass_entry.specs.Ranges.{IsInRange, is_number, is_node, is_name_or_none, is_value}
use Rattle.pass_entry.specs.Texts.{is_name}
use Rattle.pass_record.specs.declared.fault.RecordFault.{RecordFault}
use Rattle.pass_record.specs.declared.fault.RecordFault.TheVariants as fault
use Rattle.pass_record.specs.Faults.{Extends}
use Rattle.pass_record.specs.Reading.{object_at, named_at, attribute_at, input_at, version_at, file_size_at, digest_at, ceiling_at, fields_at, record_at}
use Rattle.pass_record.specs.Spelling.{AreBytes, spelling, field_bytes, tag_of, node_bytes, name_bytes, line_bytes}
use Rattle.pass_record.proofs.Parts.{md5_field}
use Rattle.pass_record.proofs.Steps.{one_takes, one_again, one_stays, two_takes, two_again, two_stays, three_takes, three_again, three_stays}
use Rattle.pass_record.proofs.RecordFields as field

-- the fields behind a tag are those of the record
pub record ReadsFields (tag : ℕ) (bytes : List ℕ) (one : Record) (rest : List ℕ) : Type 0 where
  pub tag_is : tag_of one ≡ tag
  pub in_range : IsInRange one
  pub parts : bytes ≡ field_bytes one ++ rest

-- ---- what was read

abbrev pub done : Record → List ℕ → Result (Record × List ℕ) RecordFault
done one rest = Ok (one, rest)

abbrev Reading : (List ℕ → Result (Record × List ℕ) RecordFault) → ℕ → Type 0
Reading at tag = (bytes : List ℕ) (one : Record) (rest : List ℕ) → AreBytes bytes → at bytes ≡ Ok (one, rest) → ReadsFields tag bytes one rest

object_takes : Reading object_at 1
unfolding object_at
object_takes bytes one rest fits e =
    let t = two_takes field.number field.kind record_of.Object bytes one rest fits e in
    subst (λ (x : Record). ReadsFields 1 bytes x rest) t.made (record { tag_is = refl; in_range = t.a_fits; parts = t.taken.parts })

named_takes : Reading named_at 2
unfolding named_at
named_takes bytes one rest fits e =
    let t = two_takes field.number field.name record_of.Name bytes one rest fits e in
    subst (λ (x : Record). ReadsFields 2 bytes x rest) t.made
    (record { tag_is = refl; in_range = and_from (is_number t.a) (is_name_or_none t.b) t.a_fits t.b_fits; parts = t.taken.parts })

attribute_takes : Reading attribute_at 3
unfolding attribute_at
attribute_takes bytes one rest fits e =
    let t = three_takes field.node field.attr field.value record_of.Attr bytes one rest fits e in
    subst (λ (x : Record). ReadsFields 3 bytes x rest) t.made (record {
      tag_is = refl;
      in_range = and_from (is_node t.a && is_name t.b) (is_value t.c) (and_from (is_node t.a) (is_name t.b) t.a_fits t.b_fits) t.c_fits;
      parts = t.taken.parts ∙ ap (λ (text : List ℕ). text ++ rest) (sym (append_assoc (node_bytes t.a) (name_bytes t.b) (line_bytes t.c)));
    })

input_takes : Reading input_at 4
unfolding input_at
input_takes bytes one rest fits e =
    let t = two_takes field.node field.node record_of.Input bytes one rest fits e in
    subst (λ (x : Record). ReadsFields 4 bytes x rest) t.made
    (record { tag_is = refl; in_range = and_from (is_node t.a) (is_node t.b) t.a_fits t.b_fits; parts = t.taken.parts })

version_takes : Reading version_at 5
unfolding version_at
version_takes bytes one rest fits e =
    let t = one_takes field.node record_of.Version bytes one rest fits e in
    subst (λ (x : Record). ReadsFields 5 bytes x rest) t.made (record { tag_is = refl; in_range = t.fits; parts = t.taken.parts })

file_size_takes : Reading file_size_at 6
unfolding file_size_at
file_size_takes bytes one rest fits e =
    let t = two_takes field.number field.size record_of.Size bytes one rest fits e in
    subst (λ (x : Record). ReadsFields 6 bytes x rest) t.made
    (record { tag_is = refl; in_range = and_from (is_number t.a) (leb t.b 4194304) t.a_fits t.b_fits; parts = t.taken.parts })

digest_takes : Reading digest_at 7
unfolding digest_at
digest_takes bytes one rest fits e =
    let t = three_takes field.number field.block md5_field record_of.Digest bytes one rest fits e in
    subst (λ (x : Record). ReadsFields 7 bytes x rest) t.made (record {
      tag_is = refl;
      in_range = and_from (is_number t.a && ltb t.b 1024) (eqb (length t.c) 16) (and_from (is_number t.a) (ltb t.b 1024) t.a_fits t.b_fits) (eq-eqb _ _ t.c_fits);
      parts = t.taken.parts ∙ ap (λ (text : List ℕ). text ++ rest) (sym (append_assoc (to_be_bytes w64 t.a) (to_be_bytes w32 t.b) t.c));
    })

ceiling_takes : Reading ceiling_at 8
unfolding ceiling_at
ceiling_takes bytes one rest fits e =
    let t = one_takes field.number record_of.Ceiling bytes one rest fits e in
    subst (λ (x : Record). ReadsFields 8 bytes x rest) t.made (record { tag_is = refl; in_range = t.fits; parts = t.taken.parts })

-- which way a test of the tag went
branch : (tag n : ℕ) (x y z : Result (Record × List ℕ) RecordFault) → cond (eqb tag n) x y ≡ z → ((tag ≡ n) × (x ≡ z)) ⊎ (y ≡ z)
branch tag n x y z e = way (eqb tag n) refl e
  where
    way : (b : Bool) → eqb tag n ≡ b → cond b x y ≡ z → ((tag ≡ n) × (x ≡ z)) ⊎ (y ≡ z)
    way true test e = inl (eqb-true tag n test, e)
    way false test e = inr e

-- the fields are those of the tag
as_tag : (tag n : ℕ) (bytes : List ℕ) (one : Record) (rest : List ℕ) → tag ≡ n → ReadsFields n bytes one rest → ReadsFields tag bytes one rest
as_tag tag n bytes one rest same h = record { tag_is = h.tag_is ∙ sym same; in_range = h.in_range; parts = h.parts }

pub fields_take : (tag : ℕ) (bytes : List ℕ) (one : Record) (rest : List ℕ) → AreBytes bytes → fields_at tag bytes ≡ Ok (one, rest) → ReadsFields tag bytes one rest
fields_take tag bytes one rest fits e =
    elim (branch tag 1 _ _ (done one rest) e) [
      | inl h ↦ as_tag tag 1 bytes one rest h.0 (object_takes bytes one rest fits h.1)
      | inr e1 ↦ elim (branch tag 2 _ _ (done one rest) e1) [
        | inl h ↦ as_tag tag 2 bytes one rest h.0 (named_takes bytes one rest fits h.1)
        | inr e2 ↦ elim (branch tag 3 _ _ (done one rest) e2) [
          | inl h ↦ as_tag tag 3 bytes one rest h.0 (attribute_takes bytes one rest fits h.1)
          | inr e3 ↦ elim (branch tag 4 _ _ (done one rest) e3) [
            | inl h ↦ as_tag tag 4 bytes one rest h.0 (input_takes bytes one rest fits h.1)
            | inr e4 ↦ elim (branch tag 5 _ _ (done one rest) e4) [
              | inl h ↦ as_tag tag 5 bytes one rest h.0 (version_takes bytes one rest fits h.1)
              | inr e5 ↦ elim (branch tag 6 _ _ (done one rest) e5) [
                | inl h ↦ as_tag tag 6 bytes one rest h.0 (file_size_takes bytes one rest fits h.1)
                | inr e6 ↦ elim (branch tag 7 _ _ (done one rest) e6) [
                  | inl h ↦ as_tag tag 7 bytes one rest h.0 (digest_takes bytes one rest fits h.1)
                  | inr e7 ↦ elim (branch tag 8 _ _ (done one rest) e7) [
                    | inl h ↦ as_tag tag 8 bytes one rest h.0 (ceiling_takes bytes one rest fits h.1)
                    | inr e8 ↦ absurd cc
                  ]
                ]
              ]
            ]
          ]
        ]
      ]
    ]

AreBytes-rest : (b : ℕ) (bytes : List ℕ) → AreBytes (b ∷ bytes) → AreBytes bytes
AreBytes-rest b bytes h i = h (suc i)

pub record_takes : (bytes : List ℕ) (one : Record) (rest : List ℕ) → AreBytes bytes → record_at bytes ≡ Ok (one, rest) → (bytes ≡ spelling one ++ rest) × IsInRange one
unfolding record_at spelling
record_takes [] one rest fits e = absurd cc
record_takes (tag ∷ bytes) one rest fits e =
    let t = fields_take tag bytes one rest (AreBytes-rest tag bytes fits) e in
    (ap (λ (b : ℕ). b ∷ bytes) (sym t.tag_is) ∙ ap (λ (text : List ℕ). tag_of one ∷ text) t.parts, t.in_range)

-- ---- what was written

object_again : (pnode : ℕ) (kind : Kind) (rest : List ℕ) → IsInRange (record_of.Object pnode kind) → object_at (field_bytes (record_of.Object pnode kind) ++ rest) ≡ Ok (record_of.Object pnode kind, rest)
unfolding object_at
object_again pnode kind rest fits = two_again field.number field.kind record_of.Object pnode kind rest fits tt

named_again : (pnode : ℕ) (name rest : List ℕ) → IsInRange (record_of.Name pnode name) → named_at (field_bytes (record_of.Name pnode name) ++ rest) ≡ Ok (record_of.Name pnode name, rest)
unfolding named_at
named_again pnode name rest fits =
    let h = and_parts (is_number pnode) (is_name_or_none name) fits in
    two_again field.number field.name record_of.Name pnode name rest h.0 h.1

attribute_again : (node : Node) (attr value rest : List ℕ) → IsInRange (record_of.Attr node attr value)
    → attribute_at (field_bytes (record_of.Attr node attr value) ++ rest) ≡ Ok (record_of.Attr node attr value, rest)
unfolding attribute_at
attribute_again node attr value rest fits =
    let h = and_parts (is_node node && is_name attr) (is_value value) fits in
    let g = and_parts (is_node node) (is_name attr) h.0 in
    ap (λ (text : List ℕ). attribute_at (text ++ rest)) (append_assoc (node_bytes node) (name_bytes attr) (line_bytes value))
    ∙ three_again field.node field.attr field.value record_of.Attr node attr value rest g.0 g.1 h.1

input_again : (target source : Node) (rest : List ℕ) → IsInRange (record_of.Input target source) → input_at (field_bytes (record_of.Input target source) ++ rest) ≡ Ok (record_of.Input target source, rest)
unfolding input_at
input_again target source rest fits =
    let h = and_parts (is_node target) (is_node source) fits in
    two_again field.node field.node record_of.Input target source rest h.0 h.1

version_again : (node : Node) (rest : List ℕ) → IsInRange (record_of.Version node) → version_at (field_bytes (record_of.Version node) ++ rest) ≡ Ok (record_of.Version node, rest)
unfolding version_at
version_again node rest fits = one_again field.node record_of.Version node rest fits

file_size_again : (pnode size : ℕ) (rest : List ℕ) → IsInRange (record_of.Size pnode size) → file_size_at (field_bytes (record_of.Size pnode size) ++ rest) ≡ Ok (record_of.Size pnode size, rest)
unfolding file_size_at
file_size_again pnode size rest fits =
    let h = and_parts (is_number pnode) (leb size 4194304) fits in
    two_again field.number field.size record_of.Size pnode size rest h.0 h.1

digest_again : (pnode block : ℕ) (md5 rest : List ℕ) → IsInRange (record_of.Digest pnode block md5)
    → digest_at (field_bytes (record_of.Digest pnode block md5) ++ rest) ≡ Ok (record_of.Digest pnode block md5, rest)
unfolding digest_at
digest_again pnode block md5 rest fits =
    let h = and_parts (is_number pnode && ltb block 1024) (eqb (length md5) 16) fits in
    let g = and_parts (is_number pnode) (ltb block 1024) h.0 in
    ap (λ (text : List ℕ). digest_at (text ++ rest)) (append_assoc (to_be_bytes w64 pnode) (to_be_bytes w32 block) md5)
    ∙ three_again field.number field.block md5_field record_of.Digest pnode block md5 rest g.0 g.1 (eqb-true _ _ h.1)

ceiling_again : (pnode : ℕ) (rest : List ℕ) → IsInRange (record_of.Ceiling pnode) → ceiling_at (field_bytes (record_of.Ceiling pnode) ++ rest) ≡ Ok (record_of.Ceiling pnode, rest)
unfolding ceiling_at
ceiling_again pnode rest fits = one_again field.number record_of.Ceiling pnode rest fits

pub record_again : (one : Record) (rest : List ℕ) → IsInRange one → record_at (spelling one ++ rest) ≡ Ok (one, rest)
unfolding record_at spelling
record_again (record_of.Object pnode kind) rest fits = object_again pnode kind rest fits
record_again (record_of.Name pnode name) rest fits = named_again pnode name rest fits
record_again (record_of.Attr node attr value) rest fits = attribute_again node attr value rest fits
record_again (record_of.Input target source) rest fits = input_again target source rest fits
record_again (record_of.Version node) rest fits = version_again node rest fits
record_again (record_of.Size pnode size) rest fits = file_size_again pnode size rest fits
record_again (record_of.Digest pnode block md5) rest fits = digest_again pnode block md5 rest fits
record_again (record_of.Ceiling pnode) rest fits = ceiling_again pnode rest fits

-- ---- what comes behind

abbrev Stays : (List ℕ → Result (Record × List ℕ) RecordFault) → Type 0
Stays at = (bytes more : List ℕ) → Extends (at bytes) more (at (bytes ++ more))

object_stays : Stays object_at
unfolding object_at
object_stays bytes more = two_stays field.number field.kind record_of.Object bytes more

named_stays : Stays named_at
unfolding named_at
named_stays bytes more = two_stays field.number field.name record_of.Name bytes more

attribute_stays : Stays attribute_at
unfolding attribute_at
attribute_stays bytes more = three_stays field.node field.attr field.value record_of.Attr bytes more

input_stays : Stays input_at
unfolding input_at
input_stays bytes more = two_stays field.node field.node record_of.Input bytes more

version_stays : Stays version_at
unfolding version_at
version_stays bytes more = one_stays field.node record_of.Version bytes more

file_size_stays : Stays file_size_at
unfolding file_size_at
file_size_stays bytes more = two_stays field.number field.size record_of.Size bytes more

digest_stays : Stays digest_at
unfolding digest_at
digest_stays bytes more = three_stays field.number field.block md5_field record_of.Digest bytes more

ceiling_stays : Stays ceiling_at
unfolding ceiling_at
ceiling_stays bytes more = one_stays field.number record_of.Ceiling bytes more

either : (b : Bool) (r s : Result (Record × List ℕ) RecordFault) (more : List ℕ) (r' s' : Result (Record × List ℕ) RecordFault) → Extends r more s → Extends r' more s' → Extends (cond b r r') more (cond b s s')
either true r s more r' s' h h' = h
either false r s more r' s' h h' = h'

pub record_stays : (bytes more : List ℕ) → Extends (record_at bytes) more (record_at (bytes ++ more))
unfolding record_at
record_stays [] more = tt
record_stays (tag ∷ bytes) more =
    either (eqb tag 1) _ _ more _ _ (object_stays bytes more)
    (either (eqb tag 2) _ _ more _ _ (named_stays bytes more)
    (either (eqb tag 3) _ _ more _ _ (attribute_stays bytes more)
    (either (eqb tag 4) _ _ more _ _ (input_stays bytes more)
    (either (eqb tag 5) _ _ more _ _ (version_stays bytes more)
    (either (eqb tag 6) _ _ more _ _ (file_size_stays bytes more)
    (either (eqb tag 7) _ _ more _ _ (digest_stays bytes more)
    (either (eqb tag 8) _ _ more (Err fault.Tag) (Err fault.Tag) (ceiling_stays bytes more) refl)))))))
