use Rattle.std.proofs.Common.{take}
use Rattle.pass_audit.specs.Courses.{AreFresh, own_steps}
use Rattle.pass_audit.proofs.auditing.courses_of.Given as goal

abbrev pub invariant-loop-one : goal.invariant-loop-one
invariant-loop-one l = AreFresh (λ file. own_steps file (take l.one-index l.records)) l.courses
