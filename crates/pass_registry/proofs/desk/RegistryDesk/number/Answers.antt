use Rattle.std.proofs.Common.{◌≡◌, ◌∙◌, ap, sym, subst}
use Rattle.std.specs.Prelude.{Some, IfSome, slice_get}
use Rattle.pass_plain.specs.Registries.{Registry, registry_after}
use Rattle.pass_registry.specs.Desks.{RegistryView}
use Rattle.pass_registry.specs.Files.{files_of}
use Rattle.pass_registry.proofs.Entered.{number_found}
use Rattle.pass_registry.proofs.desk.RegistryDesk.number.Goals as goal

pub returns-clause-number : goal.returns-clause-number
returns-clause-number g c =
    let S = g.J.Whose.book.session in
    subst (λ (r : Registry). IfSome c.number.result (λ n. slice_get (files_of r.objects) n ≡ Some c.args.file))
    (sym c.self.invariant.3 ∙ ap (λ (v : RegistryView). registry_after S v.seen) c.self.view_is)
    (number_found c.self.inside.registry.registry.objects c.args.file c.number.result c.number.ensures.number)
