use Rattle.std.proofs.Common.{ap, inl, inr}
use Rattle.pass_entry.specs.declared.objects.Kind.TheVariants as kind
use Rattle.pass_plain.specs.Registries.{same_kind}
use Rattle.pass_graph.proofs.Adding.{file_added, app_added, other_added}
use Rattle.pass_graph.proofs.logged.Logged.add_object.Goals as goal

pub returns-in-File-clause-ok : goal.returns-in-File-clause-ok
returns-in-File-clause-ok c = λ list s fine.
    file_added c.args.self.now list s c.args.pnode c.args.kind fine c.in-File.is c.insert.new.self c.saturating_add-self.result c.in_ok-insert.ensures.updates.0 c.saturating_add-self.ensures

pub returns-in-App-clause-ok : goal.returns-in-App-clause-ok
returns-in-App-clause-ok c = λ list s fine.
    app_added c.args.self.now list s c.args.pnode c.args.kind fine c.in-App.is c.insert.new.self c.saturating_add-self-in-App.result c.in_ok-insert.ensures.updates.0 c.saturating_add-self-in-App.ensures

pub returns-in-Process-clause-ok : goal.returns-in-Process-clause-ok
returns-in-Process-clause-ok c = λ list s fine.
    other_added c.args.self.now list s c.args.pnode c.args.kind fine
    (elim c.in-Process.is [ inl e ↦ ap (λ k. same_kind k kind.File) e | inr e ↦ ap (λ k. same_kind k kind.File) e ])
    (elim c.in-Process.is [ inl e ↦ ap (λ k. same_kind k kind.App) e | inr e ↦ ap (λ k. same_kind k kind.App) e ]) c.insert.new.self c.in_ok-insert.ensures.updates.0
