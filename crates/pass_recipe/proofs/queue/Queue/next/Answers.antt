use Rattle.std.proofs.Common.{◌≡◌, inl, inr, sym, ap, ◌∙◌, subst, cond, true, false}
use Rattle.std.specs.Prelude.{None, Some, Contains}
use Rattle.std.specs.declared.vec.Vec.{Vec}
use Rattle.std.specs.declared.alloc.Global.{Global}
use Rattle.std.specs.HashSet.{contains}
use Rattle.std.specs.BTreeMap.{is_at, get as find_ready}
use Rattle.pass_entry.specs.declared.objects.Node.{Node}
use Rattle.pass_plain.specs.Versions.{same_node}
use Rattle.pass_waldo.specs.Orders.{node_cmp}
use Rattle.pass_recipe.specs.declared.waiters.Waiters.{Waiters}
use Rattle.pass_recipe.specs.declared.queue.Queue.{Queue}
use Rattle.pass_recipe.specs.Queues.{Nodes, Ready, IsHeld, waiting_for}
use Rattle.pass_recipe.proofs.Settling.{left_keeps, left_holds, woken_fit}
use Rattle.pass_recipe.proofs.queue.Queue.next.Goals as goal

pub returns-clause-made : goal.returns-clause-made
returns-clause-made c = λ m.
    ap (λ (d : Nodes). contains same_node d m) c.wake.ensures.made ∙ c.in_ok-insert.ensures.updates.0 m
    ∙ ap (λ (d : Nodes). cond (same_node c.in-Some.node m) true (contains same_node d m)) c.first_ready.ensures.made

pub returns-clause-keeps : goal.returns-clause-keeps
returns-clause-keeps c = λ list all k.
    let q : Queue = c.args.self.now in
    let n : Node = c.in-Some.node in
    let v : Vec Node Global = c.in-Some.sources in
    let made : Nodes = c.insert.new.self in
    let ready : Ready = c.first_ready.new.self.ready in
    let waiters : Waiters = c.take-woken.new.self in
    let first : find_ready node_cmp q.ready n ≡ Some v = c.in-Some.ensures.first in
    let makes : (m : Node) → contains same_node made m ≡ cond (same_node n m) true (contains same_node q.made m) =
    λ m. c.in_ok-insert.ensures.updates.0 m ∙ ap (λ (d : Nodes). cond (same_node n m) true (contains same_node d m)) c.first_ready.ensures.made in
    let leaves : (m : Node) → find_ready node_cmp ready m ≡ cond (is_at (node_cmp n) m) None (find_ready node_cmp q.ready m) = c.in-Some.ensures.leaves in
    let others : (s : Node) → same_node n s ≡ false → waiting_for waiters s ≡ waiting_for q.waiters s =
    λ s apart. c.take-woken.ensures.others s apart ∙ ap (λ (w : Waiters). waiting_for w s) c.first_ready.ensures.waiters in
    let woken : c.take-woken.result.items ≡ waiting_for q.waiters n = c.take-woken.ensures.taken ∙ ap (λ (w : Waiters). waiting_for w n) c.first_ready.ensures.waiters in
    c.in_ok-wake.ensures.keeps list all (left_keeps q n v made ready waiters first makes leaves others list all k)
    (λ one there. woken_fit q n v made ready waiters first makes leaves others list all k one (subst (λ xs. Contains xs one) woken there))

pub returns-clause-holds : goal.returns-clause-holds
returns-clause-holds c = λ list all k m held.
    let q : Queue = c.args.self.now in
    let n : Node = c.in-Some.node in
    let v : Vec Node Global = c.in-Some.sources in
    let made : Nodes = c.insert.new.self in
    let ready : Ready = c.first_ready.new.self.ready in
    let waiters : Waiters = c.take-woken.new.self in
    let first : find_ready node_cmp q.ready n ≡ Some v = c.in-Some.ensures.first in
    let makes : (m : Node) → contains same_node made m ≡ cond (same_node n m) true (contains same_node q.made m) =
    λ m. c.in_ok-insert.ensures.updates.0 m ∙ ap (λ (d : Nodes). cond (same_node n m) true (contains same_node d m)) c.first_ready.ensures.made in
    let leaves : (m : Node) → find_ready node_cmp ready m ≡ cond (is_at (node_cmp n) m) None (find_ready node_cmp q.ready m) = c.in-Some.ensures.leaves in
    let others : (s : Node) → same_node n s ≡ false → waiting_for waiters s ≡ waiting_for q.waiters s =
    λ s apart. c.take-woken.ensures.others s apart ∙ ap (λ (w : Waiters). waiting_for w s) c.first_ready.ensures.waiters in
    let woken : c.take-woken.result.items ≡ waiting_for q.waiters n = c.take-woken.ensures.taken ∙ ap (λ (w : Waiters). waiting_for w n) c.first_ready.ensures.waiters in
    elim (left_holds q n v made ready waiters first makes leaves others m held) [
      | inl is ↦ inl is
      | inr rest ↦ elim rest [
        | inl still ↦ inr (c.in_ok-wake.ensures.holds m still)
        | inr one ↦ inr (subst (IsHeld c.wake.new.self) one.is (c.in_ok-wake.ensures.held one.one (subst (λ xs. Contains xs one.one) (sym woken) one.there)))
      ]
    ]
