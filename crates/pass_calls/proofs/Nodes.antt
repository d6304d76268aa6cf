-- The nodes of a history as it grows.
use Rattle.std.proofs.Common.{◌≡◌, ℕ, List, [], ◌∷◌, ◌++◌, ap, sym, ◌∙◌, append_assoc}
use Rattle.std.specs.Prelude.{Some, slice_get}
use Rattle.std.proofs.lemmas.List.{append-nil}
use Rattle.pass_entry.specs.declared.entry.Entry.{Entry}
use Rattle.pass_entry.specs.declared.objects.Node.{Node}
use Rattle.pass_plain.specs.Sessions.{Session}
use Rattle.pass_plain.specs.Versions.{nodes_of, node_at_entry}
use Rattle.pass_plain.proofs.Appends.{slice_get-append}
use Rattle.pass_plain.proofs.Versioned.{nodes_of-append}
use Rattle.pass_hold.specs.Callings.{IsEntered}

stays : (session : Session) (seen later : List Entry) (place : ℕ) (n : Node) → slice_get (nodes_of session seen) place ≡ Some n
    → slice_get (nodes_of session (seen ++ later)) place ≡ Some n
stays session seen [] place n at = ap (λ h. slice_get (nodes_of session h) place) (append-nil seen) ∙ at
stays session seen (e ∷ later) place n at =
    ap (λ h. slice_get (nodes_of session h) place) (sym (append_assoc seen (e ∷ []) later))
    ∙ stays session (seen ++ e ∷ []) later place n
    (ap (λ ns. slice_get ns place) (nodes_of-append session seen e)
    ∙ slice_get-append (nodes_of session seen) (node_at_entry session seen (nodes_of session seen) e ∷ []) place n at)

-- the node of an earlier entry is the same after one more
pub node_there : (session : Session) (line desk after : List Entry) (e : Entry) → IsEntered session line desk after e → (place : ℕ) (n : Node)
    → slice_get (nodes_of session line) place ≡ Some n → slice_get (nodes_of session after) place ≡ Some n
node_there session line desk after e entered place n at =
    let more = entered.line_begins.0 in
    ap (λ h. slice_get (nodes_of session h) place) entered.whole
    ∙ stays session entered.past (e ∷ []) place n
    (ap (λ h. slice_get (nodes_of session h) place) (sym entered.line_begins.1) ∙ stays session line more place n at)
