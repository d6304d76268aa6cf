use Rattle.std.proofs.Common.{◌∙◌, ap, sym}
use Rattle.pass_entry.specs.declared.objects.Kind.TheVariants as kind
use Rattle.pass_registry.specs.Tables.{ObjectState}
use Rattle.pass_registry.proofs.TableLemmas.{app_found, is_app_at, is_found}
use Rattle.pass_registry.proofs.objects.Objects.is_app.Goals as goal

pub returns-in-Some : goal.returns-in-Some
returns-in-Some c =
    c.is_app.ensures ∙ ap is_app_at c.in-Some.ensures.value
    ∙ sym (app_found c.args.pnode c.self.inside.table.entries c.self.invariant.1)
    ∙ ap (λ (s : ObjectState). is_found c.args.pnode kind.App s.objects) c.self.view_is

pub returns-in-None : goal.returns-in-None
returns-in-None c =
    ap is_app_at c.in-None.ensures.value
    ∙ sym (app_found c.args.pnode c.self.inside.table.entries c.self.invariant.1)
    ∙ ap (λ (s : ObjectState). is_found c.args.pnode kind.App s.objects) c.self.view_is
