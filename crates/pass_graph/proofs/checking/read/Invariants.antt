use Rattle.std.proofs.Common.{◌≡◌, take}
use Rattle.pass_plain.specs.WellLogged.{first_flaw, first_flaw_after}
use Rattle.std.specs.Prelude.{drop}
use Rattle.pass_graph.specs.Logged.{Summarizes}
use Rattle.pass_graph.proofs.checking.read.Given as goal

abbrev pub invariant-loop-place : goal.invariant-loop-place
invariant-loop-place l = record {
  logged : Summarizes l.logged (take l.place l.list);
  rest : first_flaw l.list ≡ first_flaw_after (take l.place l.list) (drop l.place l.list);
}
