use Rattle.std.proofs.Common.{◌≡◌, ◌∙◌, List, ℕ, length, ap, sym}
use Rattle.std.proofs.lemmas.List.{length-map}
use Rattle.std.proofs.lemmas.List.Sums.{length-filter}
use Rattle.std.specs.Prelude.{filter}
use Rattle.pass_entry.specs.declared.objects.Kind.{Kind}
use Rattle.pass_entry.specs.declared.objects.Kind.TheVariants as kind
use Rattle.pass_plain.specs.Registries.{same_kind}
use Rattle.pass_registry.specs.Files.{files_of}
use Rattle.pass_registry.specs.Tables.{ObjectState, count_in, kinds_of}
use Rattle.pass_registry.proofs.objects.Objects.files.Goals as goal

counted : (objects : List (ℕ × Kind)) → length (files_of objects) ≡ count_in kind.File objects
counted objects = length-map {B = ℕ} (filter (λ (o : ℕ × Kind). same_kind o.1 kind.File) objects) (λ (o : ℕ × Kind). o.0) ∙ length-filter (λ (o : ℕ × Kind). same_kind o.1 kind.File) objects

pub returns : goal.returns
returns c = c.self.invariant.0.files_counted ∙ sym (counted (kinds_of c.self.inside.table.entries)) ∙ ap (λ (s : ObjectState). length (files_of s.objects)) c.self.view_is
