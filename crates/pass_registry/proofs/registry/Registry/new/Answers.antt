use Rattle.std.proofs.Common.{◌≡◌, ◌++◌, ◌∙◌, map, length, ap, sym, subst, arith}
use Rattle.pass_entry.specs.declared.objects.Kind.TheVariants as kind
use Rattle.pass_registry.specs.Openings.{IsSingle, file_object, app_object}
use Rattle.pass_registry.specs.Tables.{ObjectState, count_in}
use Rattle.pass_registry.proofs.Numbers.{single_front, no_apps}
use Rattle.pass_registry.proofs.registry.Registry.new.Goals as goal

pub add_files-requires-clause-single : goal.add_files-requires-clause-single
add_files-requires-clause-single c =
    let files = c.args.start.now.files.items in
    let all : c.in_ok-table.table.objects ++ map file_object c.deref.result.now ≡ map file_object files =
    (λ i. (ap (λ (s : ObjectState). s.objects) c.in_ok-table.ensures i) ++ map file_object (c.deref.ensures.value i)) in
    subst IsSingle (sym all) (single_front (map file_object files) (map app_object c.args.start.now.apps.items) c.requires.single)

pub add_apps-requires-clause-few : goal.add_apps-requires-clause-few
add_apps-requires-clause-few c =
    let none : count_in kind.App c.add_files.new.table.objects ≡ 0 =
    ap (count_in kind.App) (c.add_files.ensures.objects ∙ ap (λ (s : ObjectState). s.objects ++ map file_object c.deref.result.now) c.in_ok-table.ensures) ∙ no_apps c.deref.result.now in
    let apps = ap (λ xs. length xs) c.deref-2.ensures.value in
    omega (arith, none, apps, c.requires.app_count)
