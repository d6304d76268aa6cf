use Rattle.std.proofs.Common.{◌≡◌, ◌-◌, vec_len}
use Rattle.pass_audit.specs.Courses.{HasCome}
use Rattle.pass_audit.proofs.course.Course.advance.Given as goal

abbrev pub invariant-further : goal.invariant-further
invariant-further l = record {
  come : HasCome l.version l.self;
  steps : l.self.steps.items ≡ l.fn.self.steps.items;
  content : l.self.content ≡ l.fn.self.content;
}

abbrev pub decreases-further : goal.decreases-further
decreases-further l = vec_len l.self.steps - l.self.next
