use Rattle.std.proofs.Common.{◌≡◌, ◌∙◌, sym, true, false, refl, arith, [], ◌==◌}
use Rattle.std.proofs.lemmas.Bool.Decides.{nat_tests}
use Rattle.pass_reference.specs.States.{may_go, call_of}
use Rattle.pass_reference.proofs.Allowing.{may_go_is, in_last, at_new, decided, not_allowed}
use Rattle.pass_reference.proofs.callers.Caller.allows.Goals as goal

pub returns-then-not-may_go : goal.returns-then-not-may_go
returns-then-not-may_go c = λ history lawful is.
    let may = may_go_is history c.args.e.now c.args.self.now is c.requires in
    not_allowed history c.args.e.now false refl (sym may ∙ sym c.may_go.ensures ∙ c.if-not-may_go.true)

pub returns-in_ok-next : goal.returns-in_ok-next
returns-in_ok-next c = λ history lawful is.
    let k = c.args.self.now in
    let e = c.args.e.now in
    let t = c.if-e-self.true in
    let same : (e.number == k.call.number) ≡ true = grind (arith, nat_tests) in
    let may : may_go k.begun k.state (call_of k.call) e.number ≡ true = sym c.may_go.ensures ∙ c.if-not-may_go.false in
    let (before, made) = in_last history e k is same may in
    decided history e c.in_ok-next.next k.call.before c.deref.result.now (sym (may_go_is history e k is c.requires) ∙ may) before (c.deref.ensures.value ∙ made) c.in_ok-next.ensures

pub returns-in_ok-next-2 : goal.returns-in_ok-next-2
returns-in_ok-next-2 c = λ history lawful is.
    let k = c.args.self.now in
    let e = c.args.e.now in
    let t = c.if-e-self.false in
    let other : (e.number == k.call.number) ≡ false = grind (arith, nat_tests) in
    let may : may_go k.begun k.state (call_of k.call) e.number ≡ true = sym c.may_go.ensures ∙ c.if-not-may_go.false in
    let (state, made) = at_new history e k lawful is other may in
    decided history e c.in_ok-next-2.next k.state [] (sym (may_go_is history e k is c.requires) ∙ may) state made c.in_ok-next-2.ensures
