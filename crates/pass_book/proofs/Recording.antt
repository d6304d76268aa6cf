-- The records of entries, as they are added and as they are parted.
use Rattle.std.proofs.Common.{◌≡◌, ℕ, zero, suc, ◌+◌, ◌<◌, ◌≤◌, All, take, drop, get_or, List, [], ◌∷◌, ◌++◌, length, refl, ap, sym, ◌∙◌, arith, append_assoc}
use Rattle.std.proofs.lemmas.List.{append-nil, take-append-drop, take_more, drop-append-le, length-take, length-drop}
use Rattle.std.proofs.Math.Seq.{take-add}
use Rattle.std.proofs.lemmas.Grind.{flat_map-append}
use Rattle.pass_entry.specs.declared.entry.Entry.{Entry}
use Rattle.pass_entry.specs.declared.record.Record.{Record}
use Rattle.pass_plain.specs.Histories.{replay}
use Rattle.pass_plain.specs.Sessions.{Session}
use Rattle.pass_plain.specs.Records.{entry_records, records_of}
use Rattle.pass_book.specs.Records.{lists_after, entry_lists, joined, AreParts, IsCrowded, IsPart}
use Rattle.pass_book.specs.Parting.{IsParted}

more_after : (session : Session) (past h : List Entry) (e : Entry) → lists_after session past (h ++ e ∷ []) ≡ lists_after session past h ++ entry_records session (past ++ h) e ∷ []
more_after session past [] e = ap (λ p. entry_records session p e ∷ []) (sym (append-nil past))
more_after session past (f ∷ h) e =
    let r = entry_records session past f in
    let rest = lists_after session (past ++ f ∷ []) h in
    ap (λ ls. r ∷ ls) (more_after session (past ++ f ∷ []) h e) ∙ ap (λ p. r ∷ (rest ++ entry_records session p e ∷ [])) (append_assoc past (f ∷ []) h)

-- one more entry, with its records
pub lists_more : (session : Session) (h : List Entry) (e : Entry) → entry_lists session (h ++ e ∷ []) ≡ entry_lists session h ++ entry_records session h e ∷ []
lists_more session h e = more_after session [] h e

length_after : (session : Session) (past h : List Entry) → length (lists_after session past h) ≡ length h
length_after session past [] = refl
length_after session past (e ∷ h) = (let rest = length_after session (past ++ e ∷ []) h in omega (arith, rest))

-- one list for each entry
pub lists-length : (session : Session) (h : List Entry) → length (entry_lists session h) ≡ length h
lists-length session h = length_after session [] h

records_after : (session : Session) (past : List Entry) (records : List Record) (h : List Entry)
    → replay (λ past rs e. rs ++ entry_records session past e) past records h ≡ records ++ joined (lists_after session past h)
records_after session past records [] = sym (append-nil records)
records_after session past records (e ∷ h) =
    let r = entry_records session past e in
    records_after session (past ++ e ∷ []) (records ++ r) h ∙ append_assoc records r (joined (lists_after session (past ++ e ∷ []) h))

-- a history's records are those of its entries, one after another
pub records_lists : (session : Session) (h : List Entry) → records_of session h ≡ joined (entry_lists session h)
records_lists session h = records_after session [] [] h

take_after : (session : Session) (past h : List Entry) (n : ℕ) → lists_after session past (take n h) ≡ take n (lists_after session past h)
take_after session past [] zero = refl
take_after session past [] (suc n) = refl
take_after session past (e ∷ h) zero = refl
take_after session past (e ∷ h) (suc n) = ap (λ ls. entry_records session past e ∷ ls) (take_after session (past ++ e ∷ []) h n)

-- the records of the history's beginning
pub records_take : (session : Session) (h : List Entry) (n : ℕ) → records_of session (take n h) ≡ joined (take n (entry_lists session h))
records_take session h n = records_lists session (take n h) ∙ ap joined (take_after session [] h n)

-- lists of records that are in parts make parts of the history
pub are_parts : (session : Session) (h : List Entry) (from : ℕ) (parts : List (List Record)) → IsParted (drop from (entry_lists session h)) (record { full = parts; part = [] })
    → All IsPart parts → IsCrowded parts → AreParts session h from parts
are_parts session h from parts is each crowded =
    let lists = entry_lists session h in
    let front = records_take session h from in
    record {
      all = records_lists session h ∙ ap joined (sym (take-append-drop from lists)) ∙ flat_map-append (λ p. p) (take from lists) (drop from lists) ∙ ap (λ rs. joined (take from lists) ++ rs) (is.all ∙ append-nil (joined parts)) ∙ ap (λ rs. rs ++ joined parts) (sym front);
      whole = λ k lt.
          let at = is.whole k lt in
          let here = records_take session h (from + at.0) ∙ ap joined (take-add from at.0 lists) ∙ flat_map-append (λ p. p) (take from lists) (take at.0 (drop from lists)) in
          let lists_left = length-drop from lists in
          let left = length-drop from h in
          let all = lists-length session h in
          let le = at.1 in
          (at.0, omega (arith, lists_left, left, all, le), here ∙ ap (λ rs. joined (take from lists) ++ rs) at.2 ∙ ap (λ rs. rs ++ joined (take k parts)) (sym front));
      each = each;
      crowded = crowded;
    }

-- one more of the lists from a place on
pub drop_more : (lists : List (List Record)) (from i : ℕ) (d : List Record) → i < length lists → from ≤ i → drop from (take (i + 1) lists) ≡ drop from (take i lists) ++ get_or lists i d ∷ []
drop_more lists from i d lt le =
    ap (drop from) (take_more lists i d lt) ∙ drop-append-le from (take i lists) (get_or lists i d ∷ []) (let long = length-take i lists in omega (arith, long, lt, le))
