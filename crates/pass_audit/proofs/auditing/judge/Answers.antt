use Rattle.std.proofs.Common.{◌≡◌, rules, ◌∙◌, ◌++◌, ◌∷◌, [], sym, ap, subst}
use Rattle.std.specs.Prelude.{is_some, Some, None, Option, IfSome}
use Rattle.std.specs.Option.{option_copied_mut}
use Rattle.std.specs.Ordering.{nat_cmp}
use Rattle.std.specs.BTreeMap.{get, Updates}
use Rattle.pass_entry.specs.declared.objects.Node.{Node}
use Rattle.pass_audit.specs.Courses.{AreCourses, HasCome}
use Rattle.pass_audit.specs.declared.course.Course.{Course}
use Rattle.pass_audit.proofs.Coursing.{judged_so, unknown_so}
use Rattle.pass_audit.proofs.auditing.judge.Goals as goal

pub judge-requires : goal.judge-requires
judge-requires c =
    let had : Course = c.in-Some.course.now in
    let leaf = c.args.leaf.now in
    let there : Some had ≡ get nat_cmp c.args.courses.now leaf.node.pnode = c.in-Some.ensures.value ∙ ap (λ (n : Node). get nat_cmp c.args.courses.now n.pnode) c.node-node.ensures in
    subst (λ (o : Option Course). IfSome o (HasCome leaf.node.version)) (sym there) c.requires

pub returns-in_ok-verdict-in-Some : goal.returns-in_ok-verdict-in-Some
returns-in_ok-verdict-in-Some c = λ list past are above.
    let had : Course = c.in-Some.course.now in
    let new : Course = c.judge.new.self in
    let leaf = c.args.leaf.now in
    let courses = c.args.courses.now in
    let node : c.node-node.result ≡ leaf.node = c.node-node.ensures in
    let there : Some had ≡ get nat_cmp courses leaf.node.pnode = c.in-Some.ensures.value ∙ ap (λ (n : Node). get nat_cmp courses n.pnode) node in
    let updates : Updates nat_cmp courses (c.get_mut.follows.lender new) leaf.node.pnode (Some new) =
    subst (λ (n : Node). Updates nat_cmp courses (c.get_mut.follows.lender new) n.pnode (Some new)) node ((c.get_mut.follows.holds new).3 (ap is_some (sym c.in-Some.ensures.value))) in
    let so = judged_so list past leaf courses (c.get_mut.follows.lender new) had new c.in_ok-verdict-in-Some.verdict updates there
    c.judge.ensures.steps c.in_ok-verdict-in-Some.ensures.come c.in_ok-verdict-in-Some.ensures.content c.in_ok-verdict-in-Some.ensures.state c.in_ok-verdict-in-Some.ensures.verdict are in
    ((λ i. record { node = node i; verdict = so.0 i }), so.1)

pub returns-in-None : goal.returns-in-None
returns-in-None c = λ list past are above.
    let leaf = c.args.leaf.now in
    let courses = c.args.courses.now in
    let node : c.node-node.result ≡ leaf.node = c.node-node.ensures in
    let none : get nat_cmp courses leaf.node.pnode ≡ None = ap (λ (n : Node). get nat_cmp courses n.pnode) (sym node) ∙ sym c.get_mut.ensures.value ∙ ap option_copied_mut c.in-None.is in
    let so = unknown_so list past leaf courses none are in
    let kept : c.get_mut.follows.lender-at-none ≡ courses = search (rules, c.get_mut.follows.holds-at-none) in
    ((λ i. record { node = node i; verdict = so.0 i }), subst (AreCourses list (past ++ leaf ∷ [])) (sym kept) so.1)
