-- The frames of a session's parts have room in the log.
use Rattle.std.proofs.Common.{◌≡◌, ◌+◌, ◌*◌, ◌<◌, ◌≤◌, ℕ, zero, suc, List, [], ◌∷◌, length, take, ⊎_elim, refl, ◌∙◌, ap, arith, Vec, length-append, length-take}
use Rattle.std.specs.List.{All}
use Rattle.std.specs.declared.alloc.Global.{Global}
use Rattle.std.proofs.lemmas.List.Sums.{sum_by-cons}
use Rattle.pass_entry.specs.declared.record.Record.{Record}
use Rattle.pass_entry.specs.declared.record.Record.TheVariants as log
use Rattle.pass_entry.specs.Lengths.{record_length}
use Rattle.pass_entry.specs.Ranges.{IsInRange}
use Rattle.pass_outside.specs.Moments.{Moment, IsAtEnd}
use Rattle.pass_record.specs.Spelling.{spelling}
use Rattle.pass_record.proofs.Spellings.{spelling-length}
use Rattle.pass_log.specs.Records.{spellings}
use Rattle.pass_log.proofs.Append.{at_end_or}
use Rattle.pass_bounds.specs.Lawful.{LengthLaw}
use Rattle.pass_bounds.proofs.Images.{spellings-append}
use Rattle.pass_bounds.proofs.Lengths.{size as spelled}
use Rattle.pass_keep.specs.Kept.{Story, IsStory, records_to, AreParts}
use Rattle.pass_keep.specs.Parts.{lists_of, bytes_length, AreFrames}
use Rattle.pass_keep.proofs.Appending.{staged_length}
use Rattle.pass_vault.specs.Rooms.{most_entries, first_place, last_place}
use Rattle.pass_plain.proofs.Calling.{legal_take}

-- the head and the gate of a frame have no more bytes than one record
record_long : (r : Record) → 5 ≤ record_length r
record_long (log.Object pnode kind) = omega arith
record_long (log.Name pnode name) = omega arith
record_long (log.Attr node attr value) = omega arith
record_long (log.Input target source) = omega arith
record_long (log.Version node) = omega arith
record_long (log.Size pnode size) = omega arith
record_long (log.Digest pnode block md5) = omega arith
record_long (log.Ceiling pnode) = omega arith

batch_long : (batch : List Record) → All IsInRange batch → 0 < length batch → 5 ≤ spelled batch
batch_long [] ranges some = absurd (omega (arith, some))
batch_long (r ∷ rs) ranges some =
    let one = spelling-length r (ranges zero r (omega arith)) in
    omega (arith, one, record_long r, length-append (spelling r) (spellings rs))

-- frames of parts with records have at most twice the bytes of their records
pub frames_fit : (s : Story) (from upto : ℕ) (parts : List (List Record)) (frames : List (Vec ℕ Global)) → AreParts s from upto parts → AreFrames parts frames → All (λ part. 0 < length part) parts
    → bytes_length frames + 2 * spelled (records_to s from) ≤ 2 * spelled (records_to s upto)
frames_fit s from upto [] [] are framed some =
    let none : bytes_length [] ≡ 0 = refl in
    let same = ap spelled are.1 in omega (arith, same, none)
frames_fit s from upto (part ∷ parts) (frame ∷ frames) are framed some =
    let rest = frames_fit s are.0 upto parts frames are.4 framed.1 (λ i d less. some (suc i) d (omega (arith, less))) in
    let size : length frame.items ≡ 5 + spelled part = ap length framed.0.is ∙ staged_length (spellings part) in
    let long : 5 ≤ spelled part = batch_long part framed.0.in_range (some zero part (omega arith)) in
    let more : spelled (records_to s are.0) ≡ spelled (records_to s from) + spelled part = ap spelled are.3 ∙ spellings-append (records_to s from) part in
    let both : bytes_length (frame ∷ frames) ≡ length frame.items + bytes_length frames = sum_by-cons (λ (f : Vec ℕ Global). length f.items) frame frames in
    omega (arith, rest, size, long, more, both)
frames_fit s from upto [] (frame ∷ frames) are framed some = absurd framed
frames_fit s from upto (part ∷ parts) [] are framed some = absurd framed

-- an entry has few bytes of records
pub entries_fit : LengthLaw → (s : Story) → IsStory s → (n : ℕ) → n ≤ length s.history → spelled (records_to s n) ≤ 1376 * n
entries_fit law s is n within =
    let few = law s.session is.sound (take n s.history) (legal_take s.session s.history n is.legal) in
    let count : length (take n s.history) ≡ n = omega (arith, within, length-take n s.history) in
    omega (arith, few, count)

-- parts with records, as lists
pub lists_some : (parts : List (Vec Record Global)) → All (λ part. 0 < length part.items) parts → All (λ part. 0 < length part) (lists_of parts)
lists_some [] some = λ i d less. absurd (omega (arith, less))
lists_some (p ∷ parts) some = each (lists_some parts (λ j e low. some (suc j) e (omega (arith, low))))
  where
    each : All (λ part. 0 < length part) (lists_of parts) → All (λ part. 0 < length part) (lists_of (p ∷ parts))
    each rest zero d less = some zero p (omega arith)
    each rest (suc i) d less = rest i d (omega (arith, less))

-- An append: the log's place before and after, the bytes of its frames, and those of the records that were durable before and
-- are behind it
module _ (m : Moment) (place next bytes before upto entries : ℕ) (frames : bytes + 2 * before ≤ 2 * upto) (few : entries ≤ most_entries) (records : upto ≤ 1376 * entries)
    (bounded : place ≤ last_place) where
  pub append_fits : place + bytes < 549755813888
  append_fits = omega (arith, frames, few, records, bounded)

  module _ (room : (IsAtEnd m → ⊥) → place ≤ first_place + 2 * before) (moved : next ≤ place + bytes) where
    pub append_room : (IsAtEnd m → ⊥) → next ≤ first_place + 2 * upto
    append_room going = let low = room going in omega (arith, low, moved, frames)

    pub append_bounded : (IsAtEnd m → next ≡ place) → next ≤ last_place
    append_bounded stands = ⊎_elim
        (λ (ended : IsAtEnd m). let same = stands ended in omega (arith, same, bounded))
        (λ (going : IsAtEnd m → ⊥). let low = append_room going in omega (arith, low, few, records))
        (at_end_or m)
