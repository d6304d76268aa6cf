use Rattle.std.proofs.Common.{◌∙◌, ap, sym, subst}
use Rattle.std.specs.Prelude.{IsSome}
use Rattle.pass_registry.specs.States.{RegistryState}
use Rattle.pass_registry.specs.Files.{number_of}
use Rattle.pass_registry.proofs.TableLemmas.{file_at, at_file}
use Rattle.pass_registry.proofs.registry.Registry.number.Goals as goal

pub returns-clause-some : goal.returns-clause-some
returns-clause-some c =
    let is = c.number.ensures ∙ ap (λ (s : RegistryState). number_of s.registry.objects c.args.file) c.self.view_is in (
      λ some. file_at c.args.self.now.registry.objects c.args.file (subst IsSome is some),
      λ exists. subst IsSome (sym is) (at_file c.args.self.now.registry.objects c.args.file exists.0 exists.1),
    )
