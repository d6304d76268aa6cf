use Rattle.std.proofs.Common.{◌≡◌, ◌∙◌, List, false, true, sym, ap}
use Rattle.std.specs.Prelude.{is_some, Some, None}
use Rattle.std.specs.Option.{option_copied_mut}
use Rattle.std.specs.Ordering.{nat_cmp}
use Rattle.std.specs.BTreeMap.{get}
use Rattle.std.proofs.lemmas.Result.{on_ok_weaker}
use Rattle.pass_entry.specs.declared.record.Record.{Record}
use Rattle.pass_audit.specs.Courses.{own_steps}
use Rattle.pass_audit.specs.declared.course.Course.{Course}
use Rattle.pass_audit.proofs.Coursing.{noted, pushed_fresh}
use Rattle.pass_audit.proofs.auditing.add.Goals as goal

pub returns-in-Some : goal.returns-in-Some
returns-in-Some c = on_ok_weaker c.push.result (λ grown (list : List Record) (one : Record) is was.
    let had : Course = c.in-Some.course.now in
    let new : Course = c.push.new.self in
    let there : Some had ≡ get nat_cmp c.meet.new.courses c.args.pnode = c.in-Some.ensures.value in
    noted list one c.args.pnode c.args.step (c.get_mut.follows.lender new) is
    (pushed_fresh (λ file. own_steps file list) c.meet.new.courses (c.get_mut.follows.lender new) c.args.pnode c.args.step had new ((c.get_mut.follows.holds new).3 (ap is_some (sym there))) (sym there)
    grown c.push.ensures.next c.push.ensures.state c.push.ensures.content (c.in_ok-meet.ensures.fresh (λ file. own_steps file list) was))) c.push.ensures.steps

pub returns-in-None : goal.returns-in-None
returns-in-None c = λ list one is was.
    let none : get nat_cmp c.meet.new.courses c.args.pnode ≡ None = sym c.get_mut.ensures.value ∙ ap option_copied_mut c.in-None.is in
    let z : false ≡ true = ap is_some (sym none) ∙ c.in_ok-meet.ensures.met in
    absurd (cc z)
