-- An object that isn't a file has no size and no rows.
use Rattle.std.proofs.Common.{◌≡◌, ◌∙◌, ◌==◌, ◌&&◌, ℕ, Bool, true, false, not, List, [], ◌∷◌, ◌++◌, refl, sym, ap}
use Rattle.std.specs.Prelude.{Option, Some, None, is_some, nat_le, nat_lt, count_by, if◌then◌else◌}
use Rattle.std.specs.Option.{option_map_or}
use Rattle.std.proofs.lemmas.Bool.{true≢false}
use Rattle.pass_entry.specs.declared.objects.Kind.{Kind}
use Rattle.pass_entry.specs.declared.objects.Kind.TheVariants as kind
use Rattle.pass_entry.specs.declared.record.Record.{Record}
use Rattle.pass_entry.specs.declared.record.Record.TheVariants as log
use Rattle.pass_entry.specs.declared.record.FlawReason.TheVariants as flaw
use Rattle.pass_plain.specs.Registries.{same_kind, is_limited}
use Rattle.pass_plain.specs.WellLogged.{kind_of, size_of, has_kind, ceiling_of, is_known, is_file_of, flaw_if, flaw_of, IsWellLogged}
use Rattle.pass_plain.proofs.Lists.{not_false, same_numbers}
use Rattle.pass_plain.proofs.Flaws.{unflawed}
use Rattle.pass_range.proofs.Logged.{logged_induction}
use Rattle.pass_recover.proofs.Listed.{kind-next, size-next}

abbrev IsEmptyElsewhere : List Record → Type 0
IsEmptyElsewhere list = (p : ℕ) → is_file_of list p ≡ false → size_of list p ≡ 0

empty_next : (list : List Record) (r : Record) → IsEmptyElsewhere list → flaw_of list r ≡ None → IsEmptyElsewhere (list ++ r ∷ [])
empty_next list (log.Object q kd) was passes = λ p none.
    size-next list (log.Object q kd) p ∙ by_test p (q == p) refl (sym (ap (λ (o : Option Kind). option_map_or (λ k. same_kind k kind.File) o false) (kind-next list (log.Object q kd) p)) ∙ none)
  where
    fresh : is_known list q ≡ false
    fresh = (unflawed (is_known list q) flaw.Known (flaw_if (nat_lt (ceiling_of list) q) flaw.Ceiling (flaw_if (is_limited kd && nat_le 1024 (count_by (has_kind kd) list)) flaw.Many None)) passes).0

    unknown_file : (o : Option Kind) → is_some o ≡ false → option_map_or (λ k. same_kind k kind.File) o false ≡ false
    unknown_file None h = refl
    unknown_file (Some k) h = absurd (cc)

    by_test : (p : ℕ) (t : Bool) → (q == p) ≡ t → option_map_or (λ k. same_kind k kind.File) (if t then Some kd else kind_of list p) false ≡ false → size_of list p ≡ 0
    by_test p true same none = was p (unknown_file (kind_of list p) (ap (is_known list) (sym (same_numbers q p same)) ∙ fresh))
    by_test p false apart none = was p none
empty_next list (log.Size q size) was passes = λ p none.
    size-next list (log.Size q size) p ∙ by_test p (q == p) refl (sym (ap (λ (o : Option Kind). option_map_or (λ k. same_kind k kind.File) o false) (kind-next list (log.Size q size) p)) ∙ none)
  where
    file : is_file_of list q ≡ true
    file =
        let one = unflawed (not (is_known list q)) flaw.Unknown (flaw_if (not (is_file_of list q)) flaw.Kind None) passes in
        not_false (is_file_of list q) (unflawed (not (is_file_of list q)) flaw.Kind None one.1).0

    by_test : (p : ℕ) (t : Bool) → (q == p) ≡ t → is_file_of list p ≡ false → (if t then size else size_of list p) ≡ 0
    by_test p true same none = absurd (true≢false (sym file ∙ ap (is_file_of list) (same_numbers q p same) ∙ none))
    by_test p false apart none = was p none
empty_next list r was passes = λ p none.
    size-next list r p ∙ was p (sym (ap (λ (o : Option Kind). option_map_or (λ k. same_kind k kind.File) o false) (kind-next list r p)) ∙ none)

pub empty_elsewhere : (list : List Record) → IsWellLogged list → (p : ℕ) → is_file_of list p ≡ false → size_of list p ≡ 0
empty_elsewhere list logged = logged_induction IsEmptyElsewhere (λ p none. refl) empty_next list logged
