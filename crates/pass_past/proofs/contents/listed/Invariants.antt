use Rattle.std.proofs.Common.{◌≡◌, ◌++◌}
use Rattle.pass_past.proofs.contents.listed.Given as goal

abbrev pub invariant-loop-file : goal.invariant-loop-file
invariant-loop-file l = l.list.items ++ l.file-iterator ≡ l.files.keys
