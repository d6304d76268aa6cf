use Rattle.std.proofs.Common.{◌≤◌}
use Rattle.pass_safe.specs.Syncings.{IsSavedIn}
use Rattle.pass_kept.proofs.context.Context.settle_files.Given as goal

abbrev pub invariant-loop-lock : goal.invariant-loop-lock
invariant-loop-lock g l = IsSavedIn g.J.Whose.book l.last × (l.fn.saved.receipt.entries ≤ l.last.receipt.entries)
