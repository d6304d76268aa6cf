use Rattle.std.proofs.Common.{ℕ, ◌≡◌, ◌≤◌, Bool, true, false, ◌&&◌, length, refl, sym, ap, ◌∙◌, arith}
use Rattle.std.specs.Prelude.{None, Some, nat_lt}
use Rattle.std.specs.List.{list_any}
use Rattle.std.proofs.lemmas.Bool.Decides.{nat_tests}
use Rattle.pass_plain.specs.WellLogged.{names_other}
use Rattle.pass_graph.proofs.Holding.{other_holder}
use Rattle.pass_graph.proofs.logged.Logged.is_other.Goals as goal

some_byte : (n : ℕ) → nat_lt 0 n ≡ true → 1 ≤ n
some_byte n is = grind (arith, nat_tests)

pub returns-in-Some : goal.returns-in-Some
returns-in-Some c = λ list s.
    let (some, named) = c.in-Some.ensures.named list s in
    let long : nat_lt 0 (length c.args.name.now) ≡ true = grind (arith, nat_tests) in
    c.ne.ensures ∙ other_holder list c.args.pnode c.args.name.now some (Some c.in-Some.holder) named (c.in-Some.ensures.alone list s some)
    ∙ sym (ap (λ b. b && list_any (names_other list c.args.pnode c.args.name.now) list) long)

pub returns-in-None : goal.returns-in-None
returns-in-None c = λ list s.
    let others : Bool = list_any (names_other list c.args.pnode c.args.name.now) list in
    let at_test : (b : Bool) → nat_lt 0 (length c.args.name.now) ≡ b → false ≡ nat_lt 0 (length c.args.name.now) && others = λ b is. (
    elim b as (λ b. nat_lt 0 (length c.args.name.now) ≡ b → false ≡ nat_lt 0 (length c.args.name.now) && others) [
      | true ↦ λ is.
          let some : 1 ≤ length c.args.name.now = some_byte (length c.args.name.now) is in
          other_holder list c.args.pnode c.args.name.now some None tt (c.in-None.ensures.alone list s some) ∙ sym (ap (λ b. b && others) is)
      | false ↦ λ is. sym (ap (λ b. b && others) is)
    ]) is in
    at_test (nat_lt 0 (length c.args.name.now)) refl
