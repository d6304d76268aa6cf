-- Lists without a flaw.
use Rattle.std.proofs.Common.{◌≡◌, List, [], ◌∷◌, ◌++◌, length, refl, sym, ap, ◌∙◌, subst, append_assoc, Bool, true, false}
use Rattle.std.specs.Prelude.{Option, Some, None}
use Rattle.std.specs.Option.{option_map_or}
use Rattle.std.proofs.lemmas.List.{append-nil}
use Rattle.pass_entry.specs.declared.record.Record.{Record}
use Rattle.pass_entry.specs.declared.record.FlawReason.{FlawReason}
use Rattle.pass_entry.proofs.Variants.{no_first}
use Rattle.pass_plain.specs.WellLogged.{flaw_if, flaw_of, first_flaw_after}

pub unflawed : (b : Bool) (reason : FlawReason) (next : Option FlawReason) → flaw_if b reason next ≡ None → (b ≡ false) × (next ≡ None)
unflawed true reason next h = absurd (cc)
unflawed false reason next h = (refl, h)

-- records that may stand behind a list
abbrev pub AreFine : List Record → List Record → Type 0
AreFine list rs = first_flaw_after list rs ≡ None

pub fine_cons : (list : List Record) (r : Record) (rs : List Record) → flaw_of list r ≡ None → AreFine (list ++ r ∷ []) rs → AreFine list (r ∷ rs)
fine_cons list r rs here later = ap (λ o. option_map_or (λ reason. Some (length list, reason)) o (first_flaw_after (list ++ r ∷ []) rs)) here ∙ later

pub fine_one : (list : List Record) (r : Record) → flaw_of list r ≡ None → AreFine list (r ∷ [])
fine_one list r here = fine_cons list r [] here refl

pub fine-append : (list xs ys : List Record) → AreFine list xs → AreFine (list ++ xs) ys → AreFine list (xs ++ ys)
fine-append list [] ys a b = subst (λ l. AreFine l ys) (append-nil list) b
fine-append list (x ∷ xs) ys a b =
    let (here, later) = no_first _ (flaw_of list x) (first_flaw_after (list ++ x ∷ []) xs) a in
    fine_cons list x (xs ++ ys) here (fine-append (list ++ x ∷ []) xs ys later (subst (λ l. AreFine l ys) (sym (append_assoc list (x ∷ []) xs)) b))

-- a prefix of a well logged list is well logged
pub logged_before : (before rest more : List Record) → first_flaw_after before (rest ++ more) ≡ None → first_flaw_after before rest ≡ None
logged_before before [] more none = refl
logged_before before (r ∷ rest) more none =
    let parts = no_first (λ reason. (length before, reason)) (flaw_of before r) (first_flaw_after (before ++ r ∷ []) (rest ++ more)) none in
    ap (λ (o : Option FlawReason). option_map_or (λ reason. Some (length before, reason)) o (first_flaw_after (before ++ r ∷ []) rest)) parts.0 ∙ logged_before (before ++ r ∷ []) rest more parts.1
