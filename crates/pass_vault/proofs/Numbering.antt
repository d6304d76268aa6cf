-- The number that the registry gives a file is the one that the session's list gives it.
use Rattle.std.proofs.Common.{◌≡◌, ◌∙◌, ◌==◌, ◌+◌, ◌≤◌, ℕ, List, length, sym, ap, arith}
use Rattle.std.specs.Prelude.{Some, slice_get}
use Rattle.std.specs.List.{position_from}
use Rattle.std.proofs.lemmas.List.{take_all}
use Rattle.pass_entry.specs.declared.entry.Entry.{Entry}
use Rattle.pass_entry.proofs.Places.{position_at}
use Rattle.pass_plain.specs.Registries.{registry_after}
use Rattle.pass_plain.proofs.Lists.{some_is}
use Rattle.pass_plain.proofs.Making.{stocked}
use Rattle.pass_plain.specs.Records.{list_of}
use Rattle.pass_book.specs.Numbers.{files_of, IsFileNumber}
use Rattle.pass_book.proofs.Numbered.{first_at}
use Rattle.pass_range.specs.Rows.{number_of}
use Rattle.pass_range.proofs.Proved.{files_proved}
use Rattle.pass_keep.specs.Kept.{Story, IsStory, list_to}
use Rattle.pass_keep.proofs.Stories.{number_later}

-- by the whole history
number_whole : (s : Story) → IsStory s → (p number : ℕ) → IsFileNumber s.session s.history p number → number_of (list_of s.before s.ceiling s.session s.history) p ≡ Some number
number_whole s is p number at =
    let objects = (registry_after s.session s.history).objects in
    ap (position_from (λ file. file == p) 0) (files_proved s.before s.ceiling s.session is.sound is.tells s.history is.legal)
    ∙ first_at objects (stocked s.session is.sound s.history is.legal).single 0 number p at ∙ ap Some (let z : 0 + number ≡ number = omega arith in z)

-- and so by each part of it that has the file
pub number_same : (s : Story) → IsStory s → (n p number m : ℕ) → n ≤ length s.history → IsFileNumber s.session s.history p number → number_of (list_to s n) p ≡ Some m → m ≡ number
number_same s is n p number m within at known =
    let later = number_later s n (length s.history) p m within known in
    let whole : number_of (list_to s (length s.history)) p ≡ Some number =
    ap (λ (h : List Entry). number_of (list_of s.before s.ceiling s.session h) p) (take_all (length s.history) s.history (omega arith)) ∙ number_whole s is p number at in
    some_is m number (sym later ∙ whole)

-- two files have two numbers, and each its own
pub number_to : (s : Story) → IsStory s → (p number : ℕ) → IsFileNumber s.session s.history p number → number_of (list_to s (length s.history)) p ≡ Some number
number_to s is p number at = ap (λ (h : List Entry). number_of (list_of s.before s.ceiling s.session h) p) (take_all (length s.history) s.history (omega arith)) ∙ number_whole s is p number at

-- and a file with a number by the whole history has it in the registry
pub number_from : (s : Story) → IsStory s → (p number : ℕ) → number_of (list_to s (length s.history)) p ≡ Some number → IsFileNumber s.session s.history p number
number_from s is p number at =
    let whole : number_of (list_of s.before s.ceiling s.session s.history) p ≡ Some number =
    ap (λ (h : List Entry). number_of (list_of s.before s.ceiling s.session h) p) (sym (take_all (length s.history) s.history (omega arith))) ∙ at in
    let files = files_proved s.before s.ceiling s.session is.sound is.tells s.history is.legal in
    let r = position_at 0 (files_of (registry_after s.session s.history).objects) p number (ap (position_from (λ file. file == p) 0) (sym files) ∙ whole) in
    ap (slice_get (files_of (registry_after s.session s.history).objects)) (let z = r.1 in omega (arith, z)) ∙ r.2
