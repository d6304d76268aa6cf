use Rattle.std.proofs.Common.{◌≡◌, ◌∙◌, ◌+◌, ap, sym, subst, arith}
use Rattle.std.specs.Prelude.{Some, slice_get, ◌==◌}
use Rattle.std.specs.List.{list_any}
use Rattle.pass_registry.specs.States.{RegistryState}
use Rattle.pass_registry.specs.Tables.{ObjectState}
use Rattle.pass_registry.proofs.Numbers.{none_above, most_push}
use Rattle.pass_registry.proofs.registry.Registry.mint.Goals as goal

pub add-requires-clause-single : goal.add-requires-clause-single
add-requires-clause-single c =
    let made = c.from.ensures in
    none_above c.self.inside.table.objects (c.self.inside.ceiling + c.self.inside.made) (c.self.inside.ceiling + c.from.result) c.self.invariant.below (omega (arith, made))

pub invariant_of-self : goal.invariant_of-self
invariant_of-self c =
    let before = c.self.inside in
    let made = c.from.ensures in
    let room = ap (λ (s : ObjectState). s.room) c.add.ensures in
    record {
      below = λ i o at. most_push before.table.objects (before.ceiling + c.from.result, c.args.kind) (before.ceiling + before.made) (before.ceiling + (before.made + 1))
          c.self.invariant.below (omega arith) (omega (arith, made)) i o (subst (λ (s : ObjectState). slice_get s.objects i ≡ Some o) c.add.ensures at);
      within = omega arith;
      reserved = (let r = c.self.invariant.reserved in omega (arith, room, r));
      numbers = c.self.invariant.numbers;
    }

pub returns-clause-new : goal.returns-clause-new
returns-clause-new c =
    let made = c.from.ensures in
    ap (λ (s : RegistryState). list_any (λ o. o.0 == c.self.inside.ceiling + c.from.result) s.registry.objects) (sym c.self.view_is)
    ∙ none_above c.self.inside.table.objects (c.self.inside.ceiling + c.self.inside.made) (c.self.inside.ceiling + c.from.result) c.self.invariant.below (omega (arith, made))
