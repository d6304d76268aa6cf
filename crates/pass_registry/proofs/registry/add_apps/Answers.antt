use Rattle.std.proofs.Common.{◌∙◌, ◌==◌, ℕ, List, ap, arith}
use Rattle.std.specs.Prelude.{nat_le}
use Rattle.std.specs.List.{list_any}
use Rattle.pass_entry.specs.declared.objects.Kind.{Kind}
use Rattle.pass_entry.specs.declared.objects.Kind.TheVariants as kind
use Rattle.pass_entry.specs.Limits.{kind_limit}
use Rattle.pass_registry.specs.Openings.{app_object}
use Rattle.pass_registry.specs.Tables.{count_in}
use Rattle.pass_registry.proofs.Numbers.{single_next, few_next}
use Rattle.pass_registry.proofs.registry.add_apps.Goals as goal

pub add-requires-clause-single : goal.add-requires-clause-single
add-requires-clause-single c =
    ap (list_any (λ (o : ℕ × Kind). o.0 == c.app-item.result.pnode)) c.loop-app.invariant.objects
    ∙ single_next app_object c.args.table.now.objects c.args.apps.now c.loop-app.app-index c.app-item.result c.requires.single (omega arith) c.app-item.is

pub add-requires-clause-few : goal.add-requires-clause-few
add-requires-clause-few c =
    ap (λ (objects : List (ℕ × Kind)). nat_le kind_limit (count_in kind.App objects)) c.loop-app.invariant.objects
    ∙ few_next app_object c.args.table.now.objects c.args.apps.now c.loop-app.app-index kind.App c.requires.few (omega arith)
