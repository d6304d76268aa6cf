use Rattle.std.proofs.Common.{ap, get_or, sym, arith, ◌∙◌}
use Rattle.std.proofs.lemmas.List.Elements.{Contains-get_or}
use Rattle.pass_turns.specs.Turners.{TurnerState}
use Rattle.pass_turns.proofs.crew.cause_of.Goals as goal

pub returns-in-Some : goal.returns-in-Some
returns-in-Some g c other = record {
  one = get_or c.args.tasks.now c.loop-place.place c.index-tasks-place.result;
  among = Contains-get_or c.args.tasks.now c.loop-place.place c.index-tasks-place.result (omega arith);
  is = ap (λ (t : TurnerState). t.cause) (sym c.index-tasks-place.is) ∙ sym c.cause.ensures ∙ c.in-Some.is;
}
