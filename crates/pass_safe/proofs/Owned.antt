-- Only a file with a number has dirty blocks.
use Rattle.std.proofs.Common.{◌≡◌, ◌∙◌, ℕ, zero, suc, Bool, true, false, not, cond, ◌==◌, ◌&&◌, List, [], ◌∷◌, ◌++◌, length, refl, sym, ap, subst, arith, if◌then◌else◌, inl, inr}
use Rattle.std.specs.Prelude.{Option, Some, None, filter, map, slice_get}
use Rattle.std.specs.Option.{option_map_or}
use Rattle.std.proofs.lemmas.Bool.Decides.{nat_tests}
use mathlib.Core.List.{IsPrefix}
use Rattle.pass_entry.specs.declared.entry.Act.{Act}
use Rattle.pass_entry.specs.declared.entry.Act.TheVariants as act
use Rattle.pass_entry.specs.declared.entry.Entry.{Entry}
use Rattle.pass_entry.specs.declared.objects.Kind.{Kind}
use Rattle.pass_entry.specs.declared.objects.Kind.TheVariants as kind
use Rattle.pass_plain.specs.Histories.{is_fault}
use Rattle.pass_plain.specs.Lawful.{suits}
use Rattle.pass_plain.specs.Legal.{IsLegal, MayFollow}
use Rattle.pass_plain.specs.Records.{is_digested}
use Rattle.pass_plain.specs.Recording.{is_change}
use Rattle.pass_plain.specs.Registries.{registry_after, same_kind}
use Rattle.pass_plain.specs.Sessions.{Session}
use Rattle.pass_plain.specs.Sound.{IsSound}
use Rattle.pass_plain.proofs.Calling.{legal_induction}
use Rattle.pass_plain.proofs.Lists.{some_is}
use Rattle.pass_plain.proofs.Objects.{object_law}
use Rattle.pass_range.specs.Dirtied.{dirtied_at, ends_before}
use Rattle.pass_range.proofs.Dirtying.{dirtied_law, quiet}
use Rattle.pass_range.proofs.Numbered.{no_registry}
use Rattle.pass_book.specs.Numbers.{IsFileNumber, files_of}
use Rattle.pass_book.proofs.Backed.{number_stays}
use Rattle.pass_clean.specs.Cleaned.{cleaned, is_dirty_from}
use Rattle.pass_safe.specs.Settled.{HasNumber, OwnerLaw}

suits_file : (a : Act) (k : Kind) → is_change a ≡ true → suits a k ≡ true → same_kind k kind.File ≡ true
suits_file (act.Put out at bytes) k change fits = fits
suits_file (act.Cut out size) k change fits = fits
suits_file _ k change fits = absurd (cc)

-- an object that is a file has a place among the files
file_listed : (objects : List (ℕ × Kind)) (i n : ℕ) (k : Kind) → slice_get objects i ≡ Some (n, k) → same_kind k kind.File ≡ true → (j : ℕ) × (slice_get (files_of objects) j ≡ Some n)
file_listed [] i n k at file = absurd (cc)
file_listed (o ∷ objects) zero n k at file =
    let same : o ≡ (n, k) = some_is o (n, k) at in
    (zero, (λ i. slice_get (map (λ (o : ℕ × Kind). o.0) (cond (own i) (o ∷ filter (λ (o : ℕ × Kind). same_kind o.1 kind.File) objects) (filter (λ (o : ℕ × Kind). same_kind o.1 kind.File) objects))) zero) ∙ ap (λ (o : ℕ × Kind). Some o.0) same)
  where
    own : same_kind o.1 kind.File ≡ true
    own = ap (λ (o : ℕ × Kind). same_kind o.1 kind.File) (some_is o (n, k) at) ∙ file
file_listed (o ∷ objects) (suc i) n k at file = by_kind (same_kind o.1 kind.File) (file_listed objects i n k at file)
  where
    by_kind : (t : Bool) → (j : ℕ) × (slice_get (files_of objects) j ≡ Some n)
        → (j : ℕ) × (slice_get (map (λ (o : ℕ × Kind). o.0) (cond t (o ∷ filter (λ (o : ℕ × Kind). same_kind o.1 kind.File) objects) (filter (λ (o : ℕ × Kind). same_kind o.1 kind.File) objects))) j ≡ Some n)
    by_kind true (j, there) = (suc j, there)
    by_kind false (j, there) = (j, there)

module _ (session : Session) (sound : IsSound session) (file block : ℕ) where
  module _ (history : List Entry) (e : Entry) (legal : IsLegal session history) (next : MayFollow session history e) where
    longer : IsPrefix history (history ++ e ∷ [])
    longer = (e ∷ [], refl)

    stays : HasNumber session history file → HasNumber session (history ++ e ∷ []) file
    stays (number, is) = (number, number_stays session history (history ++ e ∷ []) file number longer is)

    -- the entry changes the file's content
    own : e.what ≡ file → is_change e.act ≡ true → HasNumber session (history ++ e ∷ []) file
    own same change = elim (object_law session sound history e legal next) [
      | inl r ↦ absurd (no_registry e.act change r.0)
      | inr o ↦
          let (k, (i, at), fits) = o in
          let (j, there) = file_listed (registry_after session history).objects i e.what k at (suits_file e.act k change fits) in
          stays (j, subst (λ o. IsFileNumber session history o j) same there)
    ]

    step : ((at : ℕ) → dirtied_at session history file block ≡ Some at → HasNumber session history file) → (at : ℕ) → dirtied_at session (history ++ e ∷ []) file block ≡ Some at
        → HasNumber session (history ++ e ∷ []) file
    step all at is = by_tests (e.what == file) refl (is_fault e.reply) (is_digested session history e block) refl (ends_before session history e block) (sym (dirtied_law session history e file block) ∙ is)
      where
        changes : is_digested session history e block ≡ true → is_change e.act ≡ true
        changes digested = at_change (is_change e.act) refl
          where
            at_change : (t : Bool) → is_change e.act ≡ t → t ≡ true
            at_change true is = refl
            at_change false is = absurd (let z : true ≡ false = sym digested ∙ quiet session history e block is in cc)

        by_tests : (mine : Bool) → (e.what == file) ≡ mine → (fault : Bool) → (digested : Bool) → is_digested session history e block ≡ digested → (over : Bool)
            → (if mine && not fault then (if digested then Some (length history) else if over then None else dirtied_at session history file block) else dirtied_at session history file block) ≡ Some at
            → HasNumber session (history ++ e ∷ []) file
        by_tests true same false true digested over is = own (grind (arith, nat_tests)) (changes digested)
        by_tests true same false false quiet true is = absurd (cc)
        by_tests true same false false quiet false is = stays (all at is)
        by_tests true same true digested d over is = stays (all at is)
        by_tests false same fault digested d over is = stays (all at is)

  dirtied_owned : (history : List Entry) → IsLegal session history → (at : ℕ) → dirtied_at session history file block ≡ Some at → HasNumber session history file
  dirtied_owned history legal =
      legal_induction session (λ h. (at : ℕ) → dirtied_at session h file block ≡ Some at → HasNumber session h file) (λ at is. absurd (cc)) (λ h e legal all next. step h e legal next all) history legal

pub owner_law : OwnerLaw
owner_law session sound history legal syncs file block dirty = by_place (dirtied_at session history file block) refl dirty
  where
    by_place : (o : Option ℕ) → dirtied_at session history file block ≡ o → option_map_or (is_dirty_from (cleaned file block syncs)) o false ≡ true → HasNumber session history file
    by_place None is d = absurd (cc)
    by_place (Some at) is d = dirtied_owned session sound file block history legal at is
