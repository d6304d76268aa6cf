use Rattle.std.proofs.Common.{◌≡◌, take}
use Rattle.std.specs.Prelude.{map}
use Rattle.pass_audit.specs.Audits.{judged_in}
use Rattle.pass_audit.specs.Courses.{AreCourses}
use Rattle.pass_audit.proofs.auditing.audit.Given as goal

abbrev pub invariant-loop-leaf : goal.invariant-loop-leaf
invariant-loop-leaf l = record {
  courses : AreCourses l.records (take l.leaf-index l.leaves) l.courses;
  all : l.all.items ≡ map (judged_in l.records l.leaves) (take l.leaf-index l.leaves);
}
