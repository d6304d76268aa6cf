use Rattle.std.proofs.Common.{◌≡◌, take}
use Rattle.pass_plain.specs.Legal.{session_of}
use Rattle.pass_old.proofs.retracing.is_legal.Given as goal

abbrev pub invariant-loop-entry : goal.invariant-loop-entry
invariant-loop-entry l = record {
  session : l.plain.session ≡ session_of l.start l.objects;
  history : l.plain.history ≡ take l.entry-index l.history;
}
