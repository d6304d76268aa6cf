use Rattle.std.proofs.Common.{ℕ, List, ap, subst}
use Rattle.pass_entry.specs.declared.objects.Node.{Node}
use Rattle.pass_audit.specs.Courses.{AreSure, HasCome}
use Rattle.pass_audit.proofs.course.Course.judge.Goals as goal

pub lay-requires : goal.lay-requires
lay-requires c =
    subst (λ (v : ℕ). HasCome v c.advance.new.self) (ap (λ (n : Node). n.version) c.node-version.ensures) c.in_ok-advance.ensures.come

pub returns-clause-come : goal.returns-clause-come
returns-clause-come c =
    let come : HasCome c.args.leaf.now.node.version c.lay.new.self = c.in_ok-lay.ensures.come in
    record { within = come.within; state = come.state; before = come.before; sure = subst (λ (l : List ℕ). AreSure c.lay.new.self.state.rows l c.verdict.new.doubts) c.deref.ensures.value c.verdict.ensures.sure }
