-- A process that has made no call has made no entry.
use Rattle.std.proofs.Common.{◌≡◌, ℕ, suc, List, [], ◌∷◌, refl, ap, ◌∙◌, arith, Bool, true, false, cond, ◌==◌}
use Rattle.std.specs.Prelude.{Some, slice_get}
use Rattle.pass_entry.specs.declared.entry.Entry.{Entry}
use Rattle.pass_plain.specs.Legal.{last_number}
use Rattle.pass_plain.specs.Processes.{Process}
use Rattle.pass_plain.specs.Sessions.{Session}
use Rattle.pass_plain.proofs.Calling.{numbered}
use Rattle.pass_plain.proofs.Lists.{same_numbers}
use Rattle.pass_hold.specs.Callings.{IsIdle, made_by}
use Rattle.pass_hold.proofs.Callings.{no_zero}

at_test : (who : ℕ) (e : Entry) (rest : List Entry) (b : Bool) → (e.who == who) ≡ b → (e.who ≡ who → ⊥) → rest ≡ [] → cond b (e ∷ rest) rest ≡ []
at_test who e rest true is away none = absurd (away (same_numbers e.who who is))
at_test who e rest false is away none = none

none_by : (who : ℕ) (h : List Entry) → ((i : ℕ) (f : Entry) → slice_get h i ≡ Some f → f.who ≡ who → ⊥) → made_by who h ≡ []
none_by who [] away = refl
none_by who (e ∷ h) away = at_test who e (made_by who h) (e.who == who) refl (away 0 e refl) (none_by who h (λ i f at. away (suc i) f at))

pub none_made : (session : Session) (seen : List Entry) (who : ℕ) (p : Process) → IsIdle session seen who 0 p → made_by who seen ≡ []
none_made session seen who p idle = none_by who seen (λ i f at is.
    let below = (numbered session seen idle.legal).below i f at in
    let last = ap (λ w. last_number seen w) is ∙ idle.last in
    no_zero session seen who i f idle.legal idle.begun at is (let z : f.number ≡ 0 = omega (arith, below, last) in z))
