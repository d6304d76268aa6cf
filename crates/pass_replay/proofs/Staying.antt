-- What is over stays over in every legal history that goes on, and who has begun has begun.
use Rattle.std.proofs.Common.{◌≡◌, ◌<◌, ℕ, List, [], ◌∷◌, ◌++◌, length, refl, ap, sym, ◌∙◌, subst, arith, inl, inr, Bool, true, false, append_assoc, length-append}
use Rattle.std.specs.Prelude.{Some}
use Rattle.std.proofs.lemmas.List.{append-nil}
use Rattle.pass_entry.specs.declared.entry.Entry.{Entry}
use Rattle.pass_plain.specs.Histories.{is_of_call}
use Rattle.pass_plain.specs.Sessions.{Session}
use Rattle.pass_plain.specs.Legal.{IsLegal, MayFollow, is_over, last_number, may_be_left}
use Rattle.pass_plain.specs.Traces.{Line}
use Rattle.pass_plain.specs.Runs.{pnode_of_process}
use Rattle.pass_plain.proofs.Appends.{legal-last}
use Rattle.pass_plain.proofs.Calling.{acts-cases, goes_on-cases, legal_begins}
use Rattle.pass_plain.proofs.OtherCalls.{other_over, other_entries}
use Rattle.pass_replay.specs.Lines.{AreLinesBehind}
use Rattle.pass_replay.proofs.Begun.{OverStays, grows}
use Rattle.pass_replay.proofs.Entries.{own_is}
use Rattle.pass_replay.proofs.NextCalls.{over_within}

-- a call that is over has no more entries
not_of_over : (session : Session) (history : List Entry) (e : Entry) (w n : ℕ) → IsLegal session history → MayFollow session history e → is_over history w n ≡ true → (b : Bool) → is_of_call w n e ≡ b → is_of_call w n e ≡ false
not_of_over session history e w n legal follows over false t = t
not_of_over session history e w n legal follows over true t =
    let (by, its) = own_is e w n t in
    let within = over_within session history w n legal over in
    elim (acts-cases history e follows.acts) [
      | inl start ↦ absurd (let z : false ≡ true = ap (λ h. is_over h w n) (sym start.1) ∙ over in cc)
      | inr acts ↦ elim (goes_on-cases e.number (last_number history e.who) (is_over history e.who (last_number history e.who)) (may_be_left history e.who (last_number history e.who)) acts.3) [
        | inl same ↦
            absurd (let z : true ≡ false = sym over ∙ ap (λ w. is_over history w n) (sym by) ∙ ap (λ n. is_over history e.who n) (sym its ∙ same.0) ∙ same.1 in cc)
        | inr more ↦ (let a = ap (λ w. last_number history w) by in let b = more.0 in absurd (omega (arith, within, its, a, b)))
      ]
    ]

one_stays : (session : Session) (history : List Entry) (e : Entry) → IsLegal session history → MayFollow session history e → OverStays history (history ++ e ∷ [])
one_stays session history e legal follows w n over =
    let other = not_of_over session history e w n legal follows over (is_of_call w n e) refl in
    (other_over history e w n other ∙ over, other_entries history e w n other)

-- a call that is over stays over
pub over_stays : (session : Session) (old later : List Entry) (w n : ℕ) → IsLegal session (old ++ later) → is_over old w n ≡ true → is_over (old ++ later) w n ≡ true
over_stays session old [] w n legal over = ap (λ h. is_over h w n) (append-nil old) ∙ over
over_stays session old (e ∷ later) w n legal over =
    let whole : (old ++ e ∷ []) ++ later ≡ old ++ e ∷ later = append_assoc old (e ∷ []) later in
    let moved = subst (λ h. IsLegal session h) (sym whole) legal in
    let follows = legal-last session old e (legal_begins session (old ++ e ∷ []) later moved) in
    ap (λ h. is_over h w n) (sym whole)
    ∙ over_stays session (old ++ e ∷ []) later w n moved (one_stays session old e (legal_begins session old (e ∷ later) legal) follows w n over).0

-- whoever has begun, as a process of the trace, is that process whatever comes later
pub pnode_stays : (session : Session) (trace : List Line) (old later : List Entry) (q w : ℕ) → AreLinesBehind [] trace → IsLegal session (old ++ later) → 0 < length old
    → pnode_of_process session trace old q ≡ Some w → pnode_of_process session trace (old ++ later) q ≡ Some w
pnode_stays session trace old [] q w behind legal some at = ap (λ h. pnode_of_process session trace h q) (append-nil old) ∙ at
pnode_stays session trace old (e ∷ later) q w behind legal some at =
    let whole : (old ++ e ∷ []) ++ later ≡ old ++ e ∷ later = append_assoc old (e ∷ []) later in
    let moved = subst (λ h. IsLegal session h) (sym whole) legal in
    let follows = legal-last session old e (legal_begins session (old ++ e ∷ []) later moved) in
    let size = length-append old (e ∷ []) in
    ap (λ h. pnode_of_process session trace h q) (sym whole)
    ∙ pnode_stays session trace (old ++ e ∷ []) later q w behind moved (omega (arith, size))
    (grows session trace old e some behind (one_stays session old e (legal_begins session old (e ∷ later) legal) follows) q w at)
