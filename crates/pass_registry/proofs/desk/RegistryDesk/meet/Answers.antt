use Rattle.std.proofs.Common.{◌∙◌, ℕ, ap, subst}
use Rattle.pass_plain.specs.Lawful.{AgreeOn}
use Rattle.pass_book.specs.Tokens.{DeskState}
use Rattle.pass_registry.proofs.Entered.{registry_shown}
use Rattle.pass_registry.proofs.desk.RegistryDesk.meet.Goals as goal

pub invariant_of-self : goal.invariant_of-self
invariant_of-self g c =
    let S = g.J.Whose.book.session in
    let old = c.self.inside.desk in
    let after = c.meet.new.self in
    let d = c.meet.ensures.same in
    let met = c.meet.ensures.met in
    let agrees = subst (λ (o : ℕ). AgreeOn o old.seen after.seen) c.self.invariant.1 met.agrees in (
      ap (λ (d : DeskState). d.book) d ∙ c.self.invariant.0,
      ap (λ (d : DeskState). d.what) d ∙ c.self.invariant.1,
      c.self.invariant.2,
      registry_shown S old.seen after.seen met.begins agrees ∙ c.self.invariant.3,
    )
