use Rattle.std.proofs.Common.{◌∙◌, ap, sym}
use Rattle.pass_registry.specs.Files.{number_of}
use Rattle.pass_registry.specs.Tables.{ObjectState}
use Rattle.pass_registry.proofs.TableLemmas.{numbered, number_at}
use Rattle.pass_registry.proofs.objects.Objects.number.Goals as goal

pub returns-in-Some : goal.returns-in-Some
returns-in-Some c =
    c.number.ensures ∙ ap number_at c.in-Some.ensures.value
    ∙ sym (numbered c.args.file c.self.inside.table.entries c.self.invariant.1 c.self.invariant.0.numbered)
    ∙ ap (λ (s : ObjectState). number_of s.objects c.args.file) c.self.view_is

pub returns-in-None : goal.returns-in-None
returns-in-None c =
    ap number_at c.in-None.ensures.value
    ∙ sym (numbered c.args.file c.self.inside.table.entries c.self.invariant.1 c.self.invariant.0.numbered)
    ∙ ap (λ (s : ObjectState). number_of s.objects c.args.file) c.self.view_is
