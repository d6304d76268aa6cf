-- Lists, and tables of what records say, with one more item.
use Rattle.std.proofs.Common.{ℕ, ◌≡◌, ◌<◌, ◌+◌, ◌∙◌, refl, sym, ap, List, [], ◌∷◌, length, take, get_or}
use Rattle.std.specs.Prelude.{Option, fold}
use Rattle.std.proofs.lemmas.List.Sums.{fold-append}
use Rattle.pass_entry.specs.declared.objects.Kind.{Kind}
use Rattle.pass_entry.specs.declared.record.Record.{Record}
use Rattle.pass_entry.specs.declared.record.Record.TheVariants as log
use Rattle.pass_plain.proofs.Replays.{take-next}
use Rattle.pass_plain.specs.WellLogged.{kind_look}
use Rattle.pass_inputs.specs.Inputs.{given_look}

pub fold_more : {S : Type 0} (look : S → Record → S) (z : S) (xs : List Record) (k : ℕ) (x : Record) → k < length xs → x ≡ get_or xs k x → look (fold look z (take k xs)) x ≡ fold look z (take (k + 1) xs)
fold_more look z xs k x within at = sym (ap (fold look z) (take-next xs k x within at) ∙ fold-append look z (take k xs) (x ∷ []))

-- records that say nothing of a table
pub no_kind : (r : Record) (o : ℕ) (old : Option Kind) → ((pnode : ℕ) (k : Kind) → r ≡ log.Object pnode k → ⊥) → old ≡ kind_look o old r
no_kind (log.Object pnode k) o old other = absurd (other pnode k refl)
no_kind _ o old other = refl

pub no_name : (r : Record) (o : ℕ) (old : Option (List ℕ)) → ((pnode : ℕ) (name : List ℕ) → r ≡ log.Name pnode name → ⊥) → old ≡ given_look o old r
no_name (log.Name pnode name) o old other = absurd (other pnode name refl)
no_name _ o old other = refl
