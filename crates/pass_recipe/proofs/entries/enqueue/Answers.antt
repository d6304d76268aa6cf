use Rattle.std.proofs.Common.{◌≡◌, ◌+◌, inl, inr, List, [], ◌∷◌, ◌++◌, take, sym, ap, ◌∙◌, subst, arith}
use Rattle.std.specs.Prelude.{Contains}
use Rattle.std.specs.HashSet.{contains}
use Rattle.std.specs.declared.vec.Vec.{Vec}
use Rattle.std.specs.declared.alloc.Global.{Global}
use Rattle.std.proofs.lemmas.List.{take_more, take_all}
use Rattle.std.proofs.lemmas.List.Elements.{Contains-push_cases}
use Rattle.pass_entry.specs.declared.objects.Node.{Node}
use Rattle.pass_entry.specs.declared.record.Record.{Record}
use Rattle.pass_entry.proofs.Places.{contains_none}
use Rattle.pass_plain.specs.Versions.{same_node}
use Rattle.pass_plain.specs.Graphs.{IsEdge}
use Rattle.pass_waldo.specs.Orders.{node_cmp}
use Rattle.pass_waldo.specs.Lookups.{AreAll}
use Rattle.pass_recipe.specs.declared.waiters.Waiting.{Waiting}
use Rattle.pass_recipe.specs.declared.queue.Queue.{Queue}
use Rattle.pass_recipe.specs.Queues.{Nodes, IsFit, IsHeld}
use Rattle.pass_recipe.proofs.Members.{there_take, new_at}
use Rattle.pass_recipe.proofs.Leaving.{AreCounted, counted_none, counted_more, steps_most, steps_least}
use Rattle.pass_recipe.proofs.entries.enqueue.Goals as goal

held_more : (front : List Node) (n m : Node) (old q : Queue) → Contains (front ++ n ∷ []) m → (Contains front m → IsHeld old m) → ((x : Node) → IsHeld old x → IsHeld q x) → IsHeld q n → IsHeld q m
held_more front n m old q there held holds here = elim (Contains-push_cases front n m there) [ inl before ↦ holds m (held before) | inr is ↦ subst (IsHeld q) is here ]

pub loop-node-init : goal.loop-node-init
loop-node-init g c = record {
  made = c.new-queue.ensures.made;
  queue = c.new-queue.ensures.queue c.args.index.now c.args.nodes.now;
  held = λ n there. absurd (contains_none n there);
  steps = counted_none c.args.index.now c.args.steps.now;
}

pub loop-node-preserved : goal.loop-node-preserved
loop-node-preserved g c =
    let list : List Record = c.args.index.now in
    let nodes : List Node = c.args.nodes.now in
    let i = c.loop-node.node-index in
    let n : Node = c.node-item.result in
    let row : List Node = c.sources-row.result.now in
    let old : Queue = c.loop-node.queue in
    let sources : Vec Node Global = c.in_ok-sources.sources in
    let more : take (i + 1) nodes ≡ take i nodes ++ n ∷ [] = take_more nodes i n c.loop-node-test.true ∙ ap (λ x. take i nodes ++ x ∷ []) (sym c.node-item.is) in
    let one : Waiting = record { node = n; sources = sources; next = 0 } in
    let are : AreAll node_cmp sources.items (λ s. IsEdge list n s) = subst (λ xs. AreAll node_cmp xs (λ s. IsEdge list n s)) (sym c.in_ok-sources.ensures.items) c.sources-row.ensures.row in
    let fit : IsFit list nodes old.made one = record {
      unmade = record { listed = (i, c.loop-node-test.true, sym c.node-item.is); new = c.loop-node.invariant.made n; edges = are };
      before = λ k s at from low. absurd (omega (arith, low));
    } in
    record {
      made = λ m. ap (λ (d : Nodes). contains same_node d m) c.settle.ensures.made ∙ c.loop-node.invariant.made m;
      queue = c.in_ok-settle.ensures.keeps list nodes c.loop-node.invariant.queue fit;
      held = λ m there. held_more (take i nodes) n m old c.settle.new.self (subst (λ xs. Contains xs m) more there) (c.loop-node.invariant.held m) c.in_ok-settle.ensures.holds c.in_ok-settle.ensures.held;
      steps = subst (λ xs. AreCounted list xs c.args.steps.now c.sources-row.new.steps) (sym more)
          (counted_more list (take i nodes) c.args.steps.now c.loop-node.steps c.sources-row.new.steps n row c.loop-node.invariant.steps (new_at nodes i n c.requires.once c.loop-node-test.true c.node-item.is)
          c.sources-row.ensures.row c.sources-row.ensures.steps);
    }

pub returns-in_err-sources-clause-steps : goal.returns-in_err-sources-clause-steps
returns-in_err-sources-clause-steps g c =
    let list : List Record = c.args.index.now in
    let nodes : List Node = c.args.nodes.now in
    let i = c.loop-node.node-index in
    let n : Node = c.node-item.result in
    let more : take (i + 1) nodes ≡ take i nodes ++ n ∷ [] = take_more nodes i n c.loop-node-test.true ∙ ap (λ x. take i nodes ++ x ∷ []) (sym c.node-item.is) in
    steps_most list nodes (take i nodes ++ n ∷ []) c.args.steps.now c.sources-row.new.steps
    (counted_more list (take i nodes) c.args.steps.now c.loop-node.steps c.sources-row.new.steps n c.sources-row.result.now c.loop-node.invariant.steps (new_at nodes i n c.requires.once c.loop-node-test.true c.node-item.is)
    c.sources-row.ensures.row c.sources-row.ensures.steps)
    (λ x there. there_take (i + 1) nodes x (subst (λ xs. Contains xs x) (sym more) there))

pub returns-in_err-settle-clause-steps : goal.returns-in_err-settle-clause-steps
returns-in_err-settle-clause-steps g c =
    let list : List Record = c.args.index.now in
    let nodes : List Node = c.args.nodes.now in
    let i = c.loop-node.node-index in
    let n : Node = c.node-item.result in
    let more : take (i + 1) nodes ≡ take i nodes ++ n ∷ [] = take_more nodes i n c.loop-node-test.true ∙ ap (λ x. take i nodes ++ x ∷ []) (sym c.node-item.is) in
    steps_most list nodes (take i nodes ++ n ∷ []) c.args.steps.now c.sources-row.new.steps
    (counted_more list (take i nodes) c.args.steps.now c.loop-node.steps c.sources-row.new.steps n c.sources-row.result.now c.loop-node.invariant.steps (new_at nodes i n c.requires.once c.loop-node-test.true c.node-item.is)
    c.sources-row.ensures.row c.sources-row.ensures.steps)
    (λ x there. there_take (i + 1) nodes x (subst (λ xs. Contains xs x) (sym more) there))

pub returns-clause-held : goal.returns-clause-held
returns-clause-held g c = λ n there.
    let nodes : List Node = c.args.nodes.now in
    let whole : take c.loop-node.node-index nodes ≡ nodes = take_all c.loop-node.node-index nodes (omega (arith, c.loop-node-test.false)) in
    c.loop-node.invariant.held n (subst (λ xs. Contains xs n) (sym whole) there)

pub returns-clause-steps : goal.returns-clause-steps
returns-clause-steps g c =
    let nodes : List Node = c.args.nodes.now in
    steps_most c.args.index.now nodes (take c.loop-node.node-index nodes) c.args.steps.now c.loop-node.steps c.loop-node.invariant.steps (λ x there. there_take c.loop-node.node-index nodes x there)

pub returns-clause-counted : goal.returns-clause-counted
returns-clause-counted g c =
    let nodes : List Node = c.args.nodes.now in
    let whole : take c.loop-node.node-index nodes ≡ nodes = take_all c.loop-node.node-index nodes (omega (arith, c.loop-node-test.false)) in
    steps_least c.args.index.now nodes c.args.steps.now c.loop-node.steps (subst (λ xs. AreCounted c.args.index.now xs c.args.steps.now c.loop-node.steps) whole c.loop-node.invariant.steps)
