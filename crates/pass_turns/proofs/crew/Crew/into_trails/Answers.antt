use Rattle.std.proofs.Common.{List, ap, arith, length, subst}
use Rattle.std.specs.List.{All}
use Rattle.std.proofs.lemmas.List.{length-append}
use Rattle.std.proofs.lemmas.List.Elements.{All-append}
use Rattle.pass_turns.specs.Turners.{IsKnown, TurnerState}
use Rattle.pass_turns.proofs.crew.Crew.into_trails.Goals as goal

pub add_trails-requires : goal.add_trails-requires
add_trails-requires g c =
    let whole = ap (λ (ts : List TurnerState). length ts) c.self.view_is in
    let both = length-append c.self.inside.turning.items c.self.inside.ended.items in
    let empty = ap length c.requires.room.0 in
    record { room = omega (arith, whole, both, empty, c.requires.room.1, c.args.room.ok.0, c.self.inside.turning.ok.0) }

pub returns-clause-known : goal.returns-clause-known
returns-clause-known g c =
    let knows = IsKnown g.J.Whose.book.session g.J.Whose.places in
    subst (λ (ts : List TurnerState). All knows ts) c.self.view_is (All-append knows c.self.inside.turning.items c.self.inside.ended.items c.add_trails.ensures.known c.add_trails-2.ensures.known)
