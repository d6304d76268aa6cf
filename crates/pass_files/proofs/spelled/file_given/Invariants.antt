use Rattle.std.proofs.Common.{◌≡◌, take}
use Rattle.pass_files.specs.Spelling.{file_given}
use Rattle.pass_files.proofs.spelled.file_given.Given as goal

abbrev pub invariant-loop-one : goal.invariant-loop-one
invariant-loop-one l = l.last ≡ file_given (take l.one-index l.records) l.name
