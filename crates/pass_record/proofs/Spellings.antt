-- The laws of the spelling: each record within its ranges has one, of its length, none begins another's, and a cut one is short.
use Rattle.std.proofs.Common.{◌+◌, ◌≤◌, ◌≡◌, ℕ, ◌&&◌, ltb, eqb, ◌<◌, List, [], ◌++◌, length, take, drop, Result, Ok, Err, refl, sym, ap, ◌∙◌, arith, append-nil, length-append}
use Rattle.std.proofs.lemmas.Bool.{and_parts, eqb-true}
use Rattle.std.proofs.lemmas.List.{take-append-drop, length-drop, drop_at}
use Rattle.pass_entry.specs.declared.record.Record.{Record}
use Rattle.pass_entry.specs.declared.record.Record.TheVariants as record_of
use Rattle.pass_entry.specs.Lengths.{record_length}
use Rattle.pass_entry.specs.Ranges.{IsInRange, is_number}
use Rattle.pass_record.specs.declared.fault.RecordFault.{RecordFault}
use Rattle.pass_record.specs.declared.fault.RecordFault.TheVariants as fault
use Rattle.pass_record.specs.Faults.{Extends, Fails}
use Rattle.pass_record.specs.Reading.{record_at}
use Rattle.pass_record.specs.Spelling.{AreBytes, StandsAtFront, spelling, line_bytes}
use Rattle.pass_record.proofs.Parts.{ok_is}
use Rattle.pass_record.proofs.Records.{done, record_takes, record_again, record_stays}

pub spelling-length : (one : Record) → IsInRange one → length (spelling one) ≡ record_length one
unfolding spelling
spelling-length (record_of.Object pnode kind) fits = refl
spelling-length (record_of.Name pnode name) fits = omega arith
spelling-length (record_of.Attr node attr value) fits = omega (arith, length-append attr (line_bytes value))
spelling-length (record_of.Input target source) fits = refl
spelling-length (record_of.Version node) fits = refl
spelling-length (record_of.Size pnode size) fits = refl
spelling-length (record_of.Digest pnode block md5) fits =
    let parts = and_parts (is_number pnode && ltb block 1024) (eqb (length md5) 16) fits in
    let len : length md5 ≡ 16 = eqb-true _ _ parts.1 in
    omega arith
spelling-length (record_of.Ceiling pnode) fits = refl

same_read : (one other : Record) (x y : List ℕ) → done one x ≡ done other y → (one ≡ other) × (x ≡ y)
same_read one other x y e =
    let same = ok_is (one, x) (other, y) e in
    (ap (λ (read : Record × List ℕ). read.0) same, ap (λ (read : Record × List ℕ). read.1) same)

pub one_spelling : (one other : Record) (x y : List ℕ) → IsInRange one → IsInRange other → spelling one ++ x ≡ spelling other ++ y → (one ≡ other) × (x ≡ y)
one_spelling one other x y fits other_fits same =
    same_read one other x y (sym (record_again one x fits) ∙ ap record_at same ∙ record_again other y other_fits)

-- what is read of bytes that begin with less than what stands there
cut : (r : Result (Record × List ℕ) RecordFault) (more : List ℕ) (whole : Result (Record × List ℕ) RecordFault) (one : Record) → Extends r more whole → whole ≡ Ok (one, []) → 0 < length more → r ≡ Err fault.Short
cut (Ok x) more whole one extends is some =
    let same = same_read x.0 one (x.1 ++ more) [] (sym extends ∙ is) in
    let none : length (x.1 ++ more) ≡ 0 = ap length same.1 in
    absurd (omega (arith, length-append x.1 more))
cut (Err fault.Short) more whole one extends is some = refl
cut (Err fault.Tag) more whole one extends is some = absurd cc
cut (Err fault.Value) more whole one extends is some = absurd cc
cut (Err fault.NoMemory) more whole one extends is some = absurd extends

pub cut_is_short : (one : Record) (n : ℕ) → IsInRange one → n < record_length one → record_at (take n (spelling one)) ≡ Err fault.Short
cut_is_short one n fits lt =
    let whole : record_at (take n (spelling one) ++ drop n (spelling one)) ≡ Ok (one, []) =
    ap record_at (take-append-drop n (spelling one) ∙ sym (append-nil (spelling one))) ∙ record_again one [] fits in
    let some : 0 < length (drop n (spelling one)) = omega (arith, length-drop n (spelling one), spelling-length one fits) in
    cut (record_at (take n (spelling one))) (drop n (spelling one)) _ one (record_stays (take n (spelling one)) (drop n (spelling one))) whole some

-- ---- what decode answers

pub stands : (bytes : List ℕ) (one : Record) (rest : List ℕ) → AreBytes bytes → record_at bytes ≡ Ok (one, rest) → StandsAtFront one bytes × (rest ≡ drop (record_length one) bytes)
stands bytes one rest fits e =
    let t = record_takes bytes one rest fits e in
    let rest-is : drop (record_length one) bytes ≡ rest = ap (drop (record_length one)) t.0 ∙ drop_at (spelling one) rest (record_length one) (spelling-length one t.1) in
    (record { in_range = t.1; spelled = t.0 ∙ ap (λ (r : List ℕ). spelling one ++ r) (sym rest-is) }, sym rest-is)

-- a record has a tag at least
pub record_length-some : (one : Record) → 0 < record_length one
record_length-some (record_of.Object pnode kind) = omega arith
record_length-some (record_of.Name pnode name) = omega arith
record_length-some (record_of.Attr node attr value) = omega arith
record_length-some (record_of.Input target source) = omega arith
record_length-some (record_of.Version node) = omega arith
record_length-some (record_of.Size pnode size) = omega arith
record_length-some (record_of.Digest pnode block md5) = omega arith
record_length-some (record_of.Ceiling pnode) = omega arith

-- what stands at the front is no longer than the bytes
pub at_front-within : (bytes : List ℕ) (one : Record) → StandsAtFront one bytes → record_length one ≤ length bytes
at_front-within bytes one h =
    let whole : length bytes ≡ length (spelling one) + length (drop (record_length one) bytes) = ap length h.spelled ∙ length-append (spelling one) (drop (record_length one) bytes) in
    omega (arith, spelling-length one h.in_range)

pub read_at_front : (bytes : List ℕ) (one : Record) → StandsAtFront one bytes → record_at bytes ≡ Ok (one, drop (record_length one) bytes)
read_at_front bytes one h = ap record_at h.spelled ∙ record_again one (drop (record_length one) bytes) h.in_range

-- the one record that was read is the one that stands there
pub only_read : (bytes : List ℕ) (one other : Record) (rest : List ℕ) (len : ℕ) → record_at bytes ≡ Ok (one, rest) → len ≡ record_length one → StandsAtFront other bytes
    → (other ≡ one) × (record_length other ≡ len)
only_read bytes one other rest len e len-is h =
    let same = same_read other one (drop (record_length other) bytes) rest (sym (read_at_front bytes other h) ∙ e) in
    (same.0, ap record_length same.0 ∙ sym len-is)

abbrev pub found : {Y : Type 0} → Y → Result Y RecordFault
found y = Ok y

-- where a record stands, only memory fails
pub only_fails : {Y : Type 0} (bytes : List ℕ) (other : Record) (e : RecordFault) (y : Y) → Fails e (record_at bytes) → StandsAtFront other bytes → Fails e (found y)
only_fails bytes other fault.Short y fails h = let there = read_at_front bytes other h in absurd cc
only_fails bytes other fault.Tag y fails h = let there = read_at_front bytes other h in absurd cc
only_fails bytes other fault.Value y fails h = let there = read_at_front bytes other h in absurd cc
only_fails bytes other fault.NoMemory y fails h = tt

not_memory : (r : Result (Record × List ℕ) RecordFault) (more : List ℕ) (longer : Result (Record × List ℕ) RecordFault) → Extends r more longer → r ≡ Err fault.NoMemory → ⊥
not_memory (Ok x) more longer extends e = cc
not_memory (Err fault.Short) more longer extends e = cc
not_memory (Err fault.Tag) more longer extends e = cc
not_memory (Err fault.Value) more longer extends e = cc
not_memory (Err fault.NoMemory) more longer extends e = extends

-- a fault of the bytes is never want of memory
pub bytes_want_no_memory : (bytes : List ℕ) → record_at bytes ≡ Err fault.NoMemory → ⊥
bytes_want_no_memory bytes e = not_memory (record_at bytes) [] (record_at (bytes ++ [])) (record_stays bytes []) e
