use Rattle.std.proofs.Common.{◌∙◌, ◌+◌, List, refl, sym, ap, subst, arith}
use Rattle.std.specs.List.{before_first}
use Rattle.std.proofs.lemmas.List.{get_or_default}
use Rattle.pass_audit.specs.Courses.{IsAfter, is_later}
use Rattle.pass_audit.specs.declared.course.Course.{Course}
use Rattle.pass_audit.specs.declared.steps.Step.{Step}
use Rattle.pass_audit.proofs.Coming.{come_further, come_to_end}
use Rattle.pass_audit.proofs.course.Course.advance.Goals as goal

pub further-preserved : goal.further-preserved
further-preserved c =
    let old : Course = c.further.self in
    let new : Course = record old { state = c.note.new.self; doubts = c.note.new.doubts; next = old.next + 1 } in
    record {
      come = come_further c.args.version old new c.index.result.now c.further.invariant.come (omega (arith, c.further-test.true, c.len.ensures)) c.index.ensures (sym c.is_later.ensures ∙ c.if-is_later.false) c.in_ok-note.ensures.next c.in_ok-note.ensures.doubted refl refl refl;
      steps = c.further.invariant.steps;
      content = c.further.invariant.content;
    }

pub returns-then-is_later-clause-state : goal.returns-then-is_later-clause-state
returns-then-is_later-clause-state c =
    let course : Course = c.further.self in
    subst (λ (l : List Step). IsAfter (before_first (is_later c.args.version) l) course.state) c.further.invariant.steps
    (come_to_end c.args.version course c.further.invariant.come (λ d less. ap (is_later c.args.version) (get_or_default course.steps.items course.next d c.index.result.now less ∙ sym c.index.ensures) ∙ sym c.is_later.ensures ∙ c.if-is_later.true))

pub returns-clause-state : goal.returns-clause-state
returns-clause-state c =
    let course : Course = c.further.self in
    subst (λ (l : List Step). IsAfter (before_first (is_later c.args.version) l) course.state) c.further.invariant.steps
    (come_to_end c.args.version course c.further.invariant.come (λ d less. absurd (omega (arith, less, c.further-test.false, c.len.ensures))))
