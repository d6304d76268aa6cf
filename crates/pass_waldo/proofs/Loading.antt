-- Records that are indexed after they were judged.
use Rattle.std.proofs.Common.{ℕ, ◌≡◌, ◌≤◌, ◌<◌, ◌+◌, ◌==◌, ◌∙◌, Bool, true, false, not, refl, sym, ap, List, [], ◌∷◌, ◌++◌, take, drop, length, get_or, arith}
use Rattle.std.specs.Prelude.{Option, Some, None}
use Rattle.std.specs.Option.{option_map_or}
use Rattle.std.proofs.lemmas.List.{drop_more}
use Rattle.pass_entry.specs.declared.record.Record.{Record}
use Rattle.pass_entry.specs.declared.record.Record.TheVariants as log
use Rattle.pass_entry.specs.declared.record.FlawReason.{FlawReason}
use Rattle.pass_entry.specs.declared.record.FlawReason.TheVariants as flaw
use Rattle.pass_plain.specs.WellLogged.{flaw_if, flaw_of, first_flaw_after, is_known, current_of}
use Rattle.pass_entry.proofs.Lists.{same_numbers}
use Rattle.pass_waldo.specs.Index.{IsNumbered}

-- the first of records without a flaw has none, nor have the others behind it
pub fine_next : (list : List Record) (r : Record) (rs : List Record) → first_flaw_after list (r ∷ rs) ≡ None → (flaw_of list r ≡ None) × (first_flaw_after (list ++ r ∷ []) rs ≡ None)
fine_next list r rs = split (flaw_of list r) (first_flaw_after (list ++ r ∷ []) rs)
  where
    split : (o : Option FlawReason) (rest : Option (ℕ × FlawReason)) → option_map_or (λ reason. Some (length list, reason)) o rest ≡ None → (o ≡ None) × (rest ≡ None)
    split None rest h = (refl, h)
    split (Some reason) rest h = absurd (cc)

-- and so of the record at a place
pub fine_at : (xs : List Record) (k : ℕ) (r : Record) → k < length xs → r ≡ get_or xs k r → first_flaw_after (take k xs) (drop k xs) ≡ None
    → (flaw_of (take k xs) r ≡ None) × (first_flaw_after (take k xs ++ r ∷ []) (drop (k + 1) xs) ≡ None)
fine_at xs k r within at rest =
    let back : drop k xs ≡ r ∷ drop (k + 1) xs = drop_more xs k r within ∙ ap (λ x. x ∷ drop (k + 1) xs) (sym at) in
    fine_next (take k xs) r (drop (k + 1) xs) (sym (ap (first_flaw_after (take k xs)) back) ∙ rest)

-- a version without a flaw isn't version 0
pub fine_numbered : (list : List Record) (r : Record) → flaw_of list r ≡ None → IsNumbered r
fine_numbered list (log.Version node) fine = low (is_known list node.pnode) (node.version == current_of list node.pnode + 1) refl fine
  where
    low : (known next : Bool) → (node.version == current_of list node.pnode + 1) ≡ next → flaw_if (not known) flaw.Unknown (flaw_if (not next) flaw.Version None) ≡ None → 1 ≤ node.version
    low false next is none = absurd (cc)
    low true false is none = absurd (cc)
    low true true is none = let same = same_numbers node.version (current_of list node.pnode + 1) is in omega (arith, same)
fine_numbered list _ fine = tt
