use Rattle.std.proofs.Common.{ap, subst, arith}
use Rattle.pass_entry.specs.declared.objects.Node.{Node}
use Rattle.pass_plain.specs.Legal.{IsLegal}
use Rattle.pass_plain.specs.Sound.{IsSound}
use Rattle.pass_book.specs.Tokens.{BookId}
use Rattle.pass_proc.specs.Views.{process_of}
use Rattle.pass_proc.proofs.Own.{version_low}
use Rattle.pass_proc.proofs.desk.ProcessDesk.next_node.Goals as goal

pub overflow_add-result : goal.overflow_add-result
overflow_add-result g c =
    let i = c.self.inside in
    let v = c.self.invariant in
    let low = version_low g.J.Whose.book.session (process_of i.who i.desk.seen i.holdings i.versions) v.2 (subst (λ (b : BookId). IsSound b.session) v.0 c.seen.ensures.sound)
    (subst (λ (b : BookId). IsLegal b.session i.desk.seen) v.0 c.seen.ensures.legal) in
    let same = ap (λ (n : Node). n.version) c.current-node.ensures in
    omega (arith, low, same)
