use Rattle.std.proofs.Common.{◌≡◌, ◌+◌, ◌∙◌, ap, sym, subst, arith, length, ◌-◌}
use Rattle.std.specs.Prelude.{None}
use Rattle.std.specs.Ordering.{nat_cmp}
use Rattle.std.specs.Cmp.Lexicographic.{slice_cmp}
use Rattle.std.specs.FinMap.{get, find, insert}
use Rattle.pass_registry.specs.Places.{Entries, map_of, NameState, IsAscending}
use Rattle.pass_registry.proofs.NameMaps.{found_is, ascending_put, longer, map_put}
use Rattle.pass_registry.proofs.names.Names.insert.Goals as goal

pub put_in-requires-clause-free : goal.put_in-requires-clause-free
put_in-requires-clause-free c =
    found_is c.args.name c.self.inside.entries.items ∙ ap (λ (s : NameState). get s.names c.args.name) c.self.view_is ∙ c.requires.free

pub invariant_of-self : goal.invariant_of-self
invariant_of-self c =
    let es = c.self.inside.entries.items in
    let free : find (slice_cmp nat_cmp) c.args.name es ≡ None = found_is c.args.name es ∙ ap (λ (s : NameState). get s.names c.args.name) c.self.view_is ∙ c.requires.free in
    let len : length c.put_in.new.entries.items ≡ length es + 1 = ap (λ (x : Entries). length x) c.put_in.ensures.items ∙ longer c.args.name c.args.file es c.self.invariant.0 free in
    let room = ap (λ (s : NameState). s.room) c.self.view_is in (
      subst IsAscending (sym c.put_in.ensures.items) (ascending_put c.args.name c.args.file es c.self.invariant.0),
      omega (arith, len, room, c.self.invariant.1, c.requires.room, c.put_in.ensures.capacity),
    )

pub returns : goal.returns
returns c =
    let same : NameState → NameState = λ s. record { names = insert s.names c.args.name c.args.file; room = s.room - 1 } in
    (λ i. record { names = (ap map_of c.put_in.ensures.items ∙ map_put c.args.name c.args.file c.self.inside.entries.items) i; room = c.self.inside.room - 1 })
    ∙ ap same c.self.view_is
