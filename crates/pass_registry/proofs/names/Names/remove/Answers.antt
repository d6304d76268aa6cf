use Rattle.std.proofs.Common.{◌∙◌, ap, sym, subst, arith, length}
use Rattle.std.specs.FinMap.{get, remove}
use Rattle.pass_plain.proofs.NameMaps.{map_without}
use Rattle.pass_registry.specs.Places.{Entries, map_of, NameState, IsAscending}
use Rattle.pass_registry.proofs.NameMaps.{found_is, ascending_without, no_longer}
use Rattle.pass_registry.proofs.names.Names.remove.Goals as goal

pub invariant_of-self : goal.invariant_of-self
invariant_of-self c =
    let es = c.self.inside.entries.items in
    let name = c.args.name.now in
    let len = ap (λ (x : Entries). length x) c.take_out.ensures.items in
    let short = no_longer name es c.self.invariant.0 in (
      subst IsAscending (sym c.take_out.ensures.items) (ascending_without name es c.self.invariant.0),
      omega (arith, len, short, c.self.invariant.1, c.take_out.ensures.capacity),
    )

pub returns-clause-answer : goal.returns-clause-answer
returns-clause-answer c =
    c.take_out.ensures.answer ∙ found_is c.args.name.now c.self.inside.entries.items ∙ ap (λ (s : NameState). get s.names c.args.name.now) c.self.view_is

pub returns-clause-names : goal.returns-clause-names
returns-clause-names c =
    let name = c.args.name.now in
    let same : NameState → NameState = λ s. record { names = remove s.names name; room = s.room } in
    (λ i. record { names = (ap map_of c.take_out.ensures.items ∙ map_without name c.self.inside.entries.items) i; room = c.self.inside.room })
    ∙ ap same c.self.view_is
