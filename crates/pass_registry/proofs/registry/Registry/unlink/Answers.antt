use Rattle.std.proofs.Common.{◌≡◌, ◌∙◌, ℕ, refl, ap, sym}
use Rattle.std.specs.Prelude.{Option, Some, None, OnErr}
use Rattle.std.specs.Option.{ok_or}
use Rattle.pass_entry.specs.declared.entry.CallFault.{CallFault}
use Rattle.pass_entry.specs.declared.entry.CallFault.TheVariants as fault
use Rattle.pass_registry.specs.Places.{NameState}
use Rattle.pass_registry.proofs.NameMaps.{remove_free}
use Rattle.pass_registry.proofs.registry.Registry.unlink.Goals as goal

err_where : (o : Option ℕ) (f : CallFault) (P : Type 0) → (o ≡ None → P) → OnErr (ok_or o f) P
err_where None f P free = free refl
err_where (Some n) f P free = tt

pub returns-clause-err : goal.returns-clause-err
returns-clause-err c =
    let m = c.self.inside.names.names in
    let name = c.args.name.now in
    rw c.ok_or.ensures.value (err_where c.remove.result fault.NoEntry _ (λ none.
    let names = ap (λ (s : NameState). s.names) c.remove.ensures.names ∙ remove_free m name (sym c.remove.ensures.answer ∙ none) in
    (λ i. record {
      registry = record { names = names i; objects = c.self.inside.table.objects; made = c.self.inside.made };
      ceiling = c.self.inside.ceiling;
      limit = c.self.inside.limit;
      room = ap (λ (s : NameState). s.room) c.remove.ensures.names i;
    }) ∙ c.self.view_is))
