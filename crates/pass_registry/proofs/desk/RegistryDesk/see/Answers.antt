use Rattle.std.proofs.Common.{◌∙◌, ℕ, List, ap, subst}
use Rattle.pass_entry.specs.declared.entry.Entry.{Entry}
use Rattle.pass_plain.specs.Lawful.{AgreeOn}
use Rattle.pass_plain.specs.Registries.{registry_after}
use Rattle.pass_book.specs.Tokens.{DeskState}
use Rattle.pass_registry.specs.Desks.{RegistryView}
use Rattle.pass_registry.proofs.Entered.{registry_shown}
use Rattle.pass_registry.proofs.desk.RegistryDesk.see.Goals as goal

pub invariant_of-self : goal.invariant_of-self
invariant_of-self g c =
    let S = g.J.Whose.book.session in
    let h = c.args.shelf.now.history in
    let old = c.self.inside.desk in
    let d = c.show.ensures.desk in
    let agrees = subst (λ (o : ℕ). AgreeOn o old.seen h) c.self.invariant.1 c.show.ensures.object.1 in (
      ap (λ (d : DeskState). d.book) d ∙ c.self.invariant.0,
      ap (λ (d : DeskState). d.what) d ∙ c.self.invariant.1,
      c.self.invariant.2,
      ap (λ (h : List Entry). registry_after S h) (ap (λ (d : DeskState). d.seen) d) ∙ registry_shown S old.seen h c.show.ensures.object.0 agrees ∙ c.self.invariant.3,
    )

pub returns-clause-state : goal.returns-clause-state
returns-clause-state g c =
    let S = g.J.Whose.book.session in
    let h = c.args.shelf.now.history in
    let old = c.self.inside.desk in
    let agrees = subst (λ (o : ℕ). AgreeOn o old.seen h) c.self.invariant.1 c.show.ensures.object.1 in
    registry_shown S old.seen h c.show.ensures.object.0 agrees ∙ ap (λ (v : RegistryView). registry_after S v.seen) c.self.view_is
