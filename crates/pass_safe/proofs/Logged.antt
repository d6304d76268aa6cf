-- The parts that a book gives of a history are parts of records that a log can have.
use Rattle.std.proofs.Common.{◌≡◌, ℕ, ◌+◌, ◌<◌, ◌≤◌, ◌^◌, List, [], ◌∷◌, ◌++◌, length, refl, subst, arith, Vec, take, length-append}
use Rattle.std.specs.List.{All}
use Rattle.std.specs.declared.alloc.Global.{Global}
use Rattle.std.proofs.lemmas.List.Elements.{All-nil, All-cons, All-head, All-tail}
use Rattle.std.proofs.lemmas.List.Sums.{sum_by-cons}
use Rattle.pass_entry.specs.Lengths.{record_length}
use Rattle.pass_entry.specs.Ranges.{IsInRange}
use Rattle.pass_entry.specs.declared.entry.Entry.{Entry}
use Rattle.pass_entry.specs.declared.record.Record.{Record}
use Rattle.pass_record.specs.Spelling.{spelling}
use Rattle.pass_record.proofs.Spellings.{spelling-length}
use Rattle.pass_plain.specs.Legal.{IsLegal}
use Rattle.pass_plain.specs.Records.{records_of}
use Rattle.pass_plain.specs.Sessions.{Session, opening_version}
use Rattle.pass_plain.specs.Sound.{IsSound}
use Rattle.pass_log.specs.Records.{spellings}
use Rattle.pass_book.specs.Parting.{lists_of}
use Rattle.pass_book.specs.Records.{joined, byte_length, IsPart, AreParts}
use Rattle.pass_bounds.specs.Lawful.{InRangeLaw}
use Rattle.pass_vault.specs.Rooms.{most_entries}

-- records have the bytes that their lengths say
spelled : (rs : List Record) → All IsInRange rs → length (spellings rs) ≡ byte_length rs
spelled [] all = refl
spelled (r ∷ rs) all =
    let one = spelling-length r (All-head IsInRange r rs all) in
    let more = spelled rs (All-tail IsInRange r rs all) in
    let both : length (spellings (r ∷ rs)) ≡ length (spelling r) + length (spellings rs) = length-append (spelling r) (spellings rs) in
    let sum = sum_by-cons record_length r rs in
    omega (arith, one, more, both, sum)

all_behind : {X : Type 0} (P : X → Type 0) (xs ys : List X) → All P (xs ++ ys) → All P ys
all_behind P [] ys all = all
all_behind P (x ∷ xs) ys all = all_behind P xs ys (All-tail P x (xs ++ ys) all)

all_before : {X : Type 0} (P : X → Type 0) (xs ys : List X) → All P (xs ++ ys) → All P xs
all_before P [] ys all = All-nil P
all_before P (x ∷ xs) ys all = All-cons P x xs (All-head P x (xs ++ ys) all) (all_before P xs ys (All-tail P x (xs ++ ys) all))

in_parts : (parts : List (Vec Record Global)) → All IsInRange (joined (lists_of parts)) → All (λ part. All IsInRange part.items) parts
in_parts [] all = All-nil (λ (part : Vec Record Global). All IsInRange part.items)
in_parts (p ∷ ps) all =
    All-cons (λ (part : Vec Record Global). All IsInRange part.items) p ps (all_before IsInRange p.items (joined (lists_of ps)) all) (in_parts ps (all_behind IsInRange p.items (joined (lists_of ps)) all))

in_sizes : (parts : List (Vec Record Global)) → All (λ part. All IsInRange part.items) parts → All IsPart (lists_of parts) → All (λ part. length (spellings part.items) < 2 ^ 32) parts
in_sizes [] all are = All-nil (λ (part : Vec Record Global). length (spellings part.items) < 2 ^ 32)
in_sizes (p ∷ ps) all are =
    let size = spelled p.items (All-head (λ (part : Vec Record Global). All IsInRange part.items) p ps all) in
    let few = (All-head IsPart p.items (lists_of ps) are).1 in
    All-cons (λ (part : Vec Record Global). length (spellings part.items) < 2 ^ 32) p ps (omega (arith, size, few))
    (in_sizes ps (All-tail (λ (part : Vec Record Global). All IsInRange part.items) p ps all) (All-tail IsPart p.items (lists_of ps) are))

-- each part has a record
pub parts_some : (parts : List (Vec Record Global)) → All IsPart (lists_of parts) → All (λ part. 0 < length part.items) parts
parts_some [] are = All-nil (λ (part : Vec Record Global). 0 < length part.items)
parts_some (p ∷ ps) are =
    All-cons (λ (part : Vec Record Global). 0 < length part.items) p ps (All-head IsPart p.items (lists_of ps) are).0 (parts_some ps (All-tail IsPart p.items (lists_of ps) are))

module _ (law : InRangeLaw) (session : Session) (sound : IsSound session) (low : (object : ℕ) → opening_version session.start object ≤ 2 ^ 35) (seen : List Entry) (legal : IsLegal session seen) (few : length seen ≤ most_entries)
    (from : ℕ) (parts : List (Vec Record Global)) (are : AreParts session seen from (lists_of parts)) where
  versions : (object : ℕ) → opening_version session.start object + length seen < 2 ^ 48
  versions object = let l = low object in omega (arith, l, few)

  -- its records are within their ranges
  pub parts_in_range : All (λ part. All IsInRange part.items) parts
  parts_in_range = in_parts parts
      (all_behind IsInRange (records_of session (take from seen)) (joined (lists_of parts)) (subst (All IsInRange) are.all (law session sound seen legal versions)))

  -- and a frame has room for it
  pub parts_sized : All (λ part. length (spellings part.items) < 2 ^ 32) parts
  parts_sized = in_sizes parts parts_in_range are.each
