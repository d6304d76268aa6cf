use Rattle.std.proofs.Common.{◌≡◌, take, drop}
use Rattle.std.specs.Prelude.{None}
use Rattle.pass_plain.specs.WellLogged.{first_flaw_after}
use Rattle.pass_view.specs.Facts.{AreFacts}
use Rattle.pass_view.proofs.facts.Facts.of.Given as goal

abbrev pub invariant-loop-one : goal.invariant-loop-one
invariant-loop-one l = record {
  facts : AreFacts (take l.one-index l.records) l.facts;
  rest : first_flaw_after (take l.one-index l.records) (drop l.one-index l.records) ≡ None;
}
