use Rattle.std.proofs.Common.{◌∙◌, ℕ, List, ap, sym}
use Rattle.std.specs.FinMap.{get, remove}
use Rattle.pass_plain.specs.Registries.{renamed}
use Rattle.pass_registry.specs.Places.{NameState}
use Rattle.pass_registry.proofs.NameMaps.{get_removed, renamed_same}
use Rattle.pass_registry.proofs.registry.Registry.rename.Goals as goal

pub returns-in-Some-clause-same : goal.returns-in-Some-clause-same
returns-in-Some-clause-same c = λ same.
    let m = c.self.inside.names.names in
    c.rename.ensures.answer ∙ ap (λ (t : List ℕ). get (remove m c.args.from.now) t) (sym same) ∙ get_removed m c.args.from.now

pub returns-in-Some-clause-unmoved : goal.returns-in-Some-clause-unmoved
returns-in-Some-clause-unmoved c = λ same.
    let m = c.self.inside.names.names in
    let from = c.args.from.now in
    let names = ap (λ (t : List ℕ). renamed m from t) (sym same) ∙ renamed_same m from c.in-Some.file (sym c.in-Some.ensures) in
    let room = c.self.inside.names.room in
    (λ i. record {
      registry = record { names = (ap (λ (s : NameState). s.names) c.rename.ensures.names ∙ names) i; objects = c.self.inside.table.objects; made = c.self.inside.made };
      ceiling = c.self.inside.ceiling;
      limit = c.self.inside.limit;
      room = ap (λ (s : NameState). s.room) c.rename.ensures.names i;
    }) ∙ c.self.view_is
