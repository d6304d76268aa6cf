-- The laws, each as it is stated.
use Rattle.std.proofs.Common.{◌≡◌, ◌∙◌, ◌==◌, ℕ, List, [], ◌++◌, length, map, sym, ap, refl, arith, inl, inr, ⊎_elim}
use Rattle.std.specs.Prelude.{None, is_some, find}
use Rattle.std.specs.Option.{option_map_or}
use Rattle.std.specs.List.{list_any}
use Rattle.std.proofs.lemmas.List.{append-nil}
use Rattle.pass_entry.specs.declared.record.Record.{Record}
use Rattle.pass_entry.specs.declared.record.Record.TheVariants as log
use Rattle.pass_plain.specs.declared.start.Start.{Start}
use Rattle.pass_plain.specs.declared.start.StartFile.{StartFile}
use Rattle.pass_plain.specs.Sessions.{opening_bytes}
use Rattle.pass_plain.specs.Files.{file_after}
use Rattle.pass_plain.specs.Records.{range_len, records_of, list_of}
use Rattle.pass_plain.specs.WellLogged.{size_of}
use Rattle.pass_plain.specs.Ceilings.{raised}
use Rattle.pass_plain.proofs.Raising.{over_ceilings}
use Rattle.pass_plain.proofs.Lists.{some_is}
use Rattle.pass_range.specs.Places.{place, found_there}
use Rattle.pass_range.specs.Rows.{range, row_of, files_of}
use Rattle.pass_range.specs.Lawful.{Tells, FirstTellsLaw, RowLaw, StepLaw, EarlierLaw, QuietLaw, OlderLaw, HasRowLaw, BeforeLaw, SizeLaw, FilesLaw, NumberLaw, NumbersLaw, WellLoggedRowLaw, PlacesLaw, WriteLaw, StandsLaw, HeldLaw, MatchedLaw, ZeroLaw, OpenedLaw}
use Rattle.pass_range.proofs.Apart.{held_found, places_apart, holds_written, torn_apart, held_matched, length-range}
use Rattle.pass_range.proofs.Changing.{source-step}
use Rattle.pass_range.proofs.Older.{older_law, stands_found}
use Rattle.pass_range.proofs.Following.{row_law, earlier_law, quiet_law}
use Rattle.pass_range.proofs.Filed.{size_law}
use Rattle.pass_range.proofs.Numbered.{files_law, number_law}
use Rattle.pass_range.proofs.Rowed.{has_row_law, begins_law, before_law}
use Rattle.pass_range.proofs.Zeros.{zero_law}
use Rattle.pass_range.proofs.LastRows.{row-next}
use Rattle.pass_range.proofs.RowFiles.{number-stays, number-one, number-below, row_files}
use Rattle.pass_range.proofs.Numbers.{few_files, size-next, files-next}

-- the records that raise the ceiling say nothing of files
raised_tells : (before : List Record) (ceiling : ℕ) (start : Start) → Tells before start → Tells (raised before ceiling) start
raised_tells before ceiling start tells =
    over_ceilings (λ list. Tells list start) (λ list c told. record {
      files = files-next list (log.Ceiling c) ∙ append-nil (files_of list) ∙ told.files;
      sizes = λ p. size-next list (log.Ceiling c) p ∙ told.sizes p;
      rows = λ p b. ap is_some (row-next list (log.Ceiling c) p b) ∙ told.rows p b;
    }) before ceiling tells

raised_row : (before : List Record) (ceiling p b : ℕ) → row_of (raised before ceiling) p b ≡ row_of before p b
raised_row before ceiling p b = over_ceilings (λ list. row_of list p b ≡ row_of before p b) (λ list c same. row-next list (log.Ceiling c) p b ∙ same) before ceiling refl

pub first_tells : FirstTellsLaw
first_tells = λ start none. record {
  files = ap (map (λ (f : StartFile). f.node.pnode)) (sym none);
  sizes = λ p. ap (λ (l : List StartFile). option_map_or (λ (f : StartFile). f.size) (find (λ f. f.node.pnode == p) l) 0) (sym none);
  rows = λ p b. ap (λ (l : List StartFile). list_any (λ x. x == b) (option_map_or (λ (f : StartFile). f.rows.items) (find (λ f. f.node.pnode == p) l) [])) (sym none);
}

pub row_proved : RowLaw
row_proved = λ before ceiling session history p b k is.
    row_law (raised before ceiling) session history p b k is

pub step_proved : StepLaw
step_proved = λ session history e p b. source-step session history e p b

pub earlier_proved : EarlierLaw
earlier_proved = λ session history p b k is q low high. earlier_law session p b k history is q low high

pub quiet_proved : QuietLaw
quiet_proved = λ session history q high same p b. quiet_law session p b history q high same

pub older_proved : OlderLaw
older_proved = λ before ceiling session history p b digest row none q.
    older_law (raised before ceiling) session p b digest history row none q

pub has_row_proved : HasRowLaw
has_row_proved = λ before ceiling session sound tells history legal p b.
    let more = raised_tells before ceiling session.start tells in (
      has_row_law (raised before ceiling) session sound more history legal p b,
      begins_law session sound (raised before ceiling) more history legal p b,
    )

pub before_proved : BeforeLaw
before_proved = λ before ceiling session sound tells history legal p b none.
    ⊎_elim
    (λ (gone : row_of (raised before ceiling ++ records_of session history) p b ≡ None). inl gone)
    (λ (kept : (row_of (raised before ceiling ++ records_of session history) p b ≡ row_of (raised before ceiling) p b) × (range b (file_after session history p) ≡ range b (opening_bytes session.start p))).
    inr (kept.0 ∙ raised_row before ceiling p b, kept.1))
    (before_law (raised before ceiling) session sound (raised_tells before ceiling session.start tells) p b history legal none)

pub size_proved : SizeLaw
size_proved = λ before ceiling session sound tells history p.
    size_law (raised before ceiling) session sound (raised_tells before ceiling session.start tells) history p

pub files_proved : FilesLaw
files_proved = λ before ceiling session sound tells history legal.
    files_law (raised before ceiling) session sound (raised_tells before ceiling session.start tells) history legal

pub number_proved : NumberLaw
number_proved = λ before ceiling session sound tells history legal p b has.
    number_law (raised before ceiling) session sound (raised_tells before ceiling session.start tells) history legal p b has

pub numbers_proved : NumbersLaw
numbers_proved = λ list p n is. (
  λ more. number-stays list more p n is,
  λ q so. number-one list p q n is so,
  λ logged. let few = few_files list logged in let low = number-below list p n is in omega (arith, few, low),
)

pub logged_row_proved : WellLoggedRowLaw
logged_row_proved = row_files

pub places_proved : PlacesLaw
places_proved = places_apart

pub write_proved : WriteLaw
write_proved = λ old at bytes. (holds_written old at bytes, λ new torn other kept apart holds. torn_apart at (length bytes) old new torn other kept apart holds)

pub stands_proved : StandsLaw
stands_proved = λ at len old new holds few within. stands_found at len old new holds few within

pub held_proved : HeldLaw
held_proved = held_matched

pub matched_proved : MatchedLaw
matched_proved = λ before ceiling session sound tells history p b k number is numbered store holds.
    held_matched (list_of before ceiling session history) store (range b (file_after session history p)) p b number numbered (row_proved before ceiling session history p b k is).row
    (length-range b (file_after session history p) ∙ ap (λ (n : ℕ). range_len n b) (sym (size_proved before ceiling session sound tells history p))) holds

pub zero_proved : ZeroLaw
zero_proved = zero_law

pub opened_proved : OpenedLaw
opened_proved = λ before ceiling session sound tells history legal p number numbered store holds.
    let list = list_of before ceiling session history in
    let sized = size_proved before ceiling session sound tells history p in
    record {
      sized = sym sized;
      ranges = λ n b is some.
          let same : number ≡ n = some_is number n (sym numbered ∙ is) in
          let has = sym (has_row_proved before ceiling session sound tells history legal p b).0 ∙ some in
          sym (ap (λ (i : ℕ). found_there (place i b) (range_len (size_of list p) b) store) (sym same)
          ∙ held_found (place number b) (range_len (size_of list p) b) (range b (file_after session history p)) store (holds b has)
          (length-range b (file_after session history p) ∙ ap (λ (k : ℕ). range_len k b) (sym sized)));
      zero = λ b none. zero_law session sound history p b (sym (has_row_proved before ceiling session sound tells history legal p b).0 ∙ ap is_some none);
    }
