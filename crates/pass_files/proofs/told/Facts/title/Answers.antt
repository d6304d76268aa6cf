use Rattle.std.proofs.Common.{ap, sym, ◌∙◌, subst}
use Rattle.std.specs.Prelude.{◌≡◌, Option, Some, IfOk}
use Rattle.pass_entry.specs.declared.objects.Kind.{Kind}
use Rattle.pass_view.specs.Facts.{tags_in}
use Rattle.pass_files.specs.Told.{title_by, naming_of, ran_of}
use Rattle.pass_files.proofs.told.Facts.title.Goals as goal

pub returns-in-App : goal.returns-in-App
returns-in-App c = λ list are.
    subst (λ (k : Option Kind). IfOk c.tagged.result (λ t. t ≡ title_by k (naming_of list c.args.node.pnode) (ran_of list c.args.node) (tags_in list c.args.node)))
    (sym (c.in-Some.is ∙ ap (λ (k : Kind). Some k) c.in-App.is)) (c.tagged.ensures list are)
