use Rattle.std.proofs.Common.{◌≡◌, ◌<◌, ◌+◌, ◌-◌, ◌⊎◌, inl, inr, true, List, [], ◌∷◌, ◌++◌, length, sym, ap, ◌∙◌, subst, arith, length-append}
use Rattle.std.specs.Prelude.{Option, Some, IfSome, Contains, codes, if◌then◌else◌}
use Rattle.std.specs.List.{All, list_any}
use Rattle.std.specs.declared.vec.Vec.{Vec}
use Rattle.std.specs.declared.alloc.Global.{Global}
use Rattle.std.specs.HashSet.{contains}
use Rattle.std.specs.BTreeMap.{IsLowerBound, get as find_ready}
use Rattle.std.proofs.lemmas.List.{map-append}
use Rattle.std.proofs.lemmas.List.Elements.{All-push, Contains-append_left, Contains-push}
use Rattle.pass_entry.specs.declared.objects.Node.{Node}
use Rattle.pass_entry.specs.declared.record.Record.{Record}
use Rattle.pass_plain.specs.Versions.{same_node}
use Rattle.pass_plain.specs.Graphs.{IsEdge}
use Rattle.pass_waldo.specs.Orders.{node_cmp}
use Rattle.pass_waldo.specs.Lookups.{AreAll}
use Rattle.pass_recipe.specs.declared.entries.Made.{Made}
use Rattle.pass_recipe.specs.declared.queue.Queue.{Queue}
use Rattle.pass_recipe.specs.Orders.{IsGreedy, nodes_of}
use Rattle.pass_recipe.specs.Orders.IsGreedy.{done}
use Rattle.pass_recipe.specs.Programs.{HasProgram, first_value}
use Rattle.pass_recipe.specs.Queues.{IsQueue, IsHeld}
use Rattle.pass_recipe.proofs.Greedy.{no_more}
use Rattle.pass_recipe.proofs.Listing.{taken_greedy, all_taken, made_more}
use Rattle.pass_recipe.proofs.entries.entries.Goals as goal

all_none : {X : Type 0} (P : X → Type 0) → All P []
all_none P = λ k d low. absurd (omega (arith, low))

-- the nodes with one more entry
nodes_more : (new old : List Made) (m : Made) (n : Node) → new ≡ old ++ m ∷ [] → m.node ≡ n → nodes_of new ≡ nodes_of old ++ n ∷ []
nodes_more new old m n items is = ap nodes_of items ∙ map-append (λ (x : Made). x.node) old (m ∷ []) ∙ ap (λ x. nodes_of old ++ x ∷ []) is

held_more : (nodes new : List Node) (n x : Node) (old q : Queue) → new ≡ nodes ++ n ∷ [] → (IsHeld old x → (x ≡ n) ⊎ IsHeld q x) → Contains nodes x ⊎ IsHeld old x → Contains new x ⊎ IsHeld q x
held_more nodes new n x old q is holds (inl there) = inl (subst (λ xs. Contains xs x) (sym is) (Contains-append_left nodes (n ∷ []) x there))
held_more nodes new n x old q is holds (inr held) = elim (holds held) [
  | inl same ↦ inl (subst (λ xs. Contains xs x) (sym is) (subst (λ y. Contains (nodes ++ n ∷ []) y) (sym same) (Contains-push nodes n)))
  | inr still ↦ inr still
]

pub loop-list-init : goal.loop-list-init
loop-list-init c =
    let list : List Record = c.args.index.now in
    let all : List Node = c.args.nodes.now in
    let none : c.in_ok-list.list.items ≡ [] = c.in_ok-list.ensures.items in
    record {
      greedy = subst (λ (xs : List Made). IsGreedy list all [] (nodes_of xs)) (sym none) done;
      made = λ n. c.requires.made n ∙ ap (λ (xs : List Made). list_any (same_node n) (nodes_of xs)) (sym none);
      queue = c.requires.queue;
      held = λ n there. inr (c.requires.held n there);
      sources = subst (All (λ (m : Made). AreAll node_cmp m.sources.items (λ s. IsEdge list m.node s))) (sym none) (all_none (λ (m : Made). AreAll node_cmp m.sources.items (λ s. IsEdge list m.node s)));
      programs = subst (All (HasProgram list)) (sym none) (all_none (HasProgram list));
    }

pub loop-list-smaller : goal.loop-list-smaller
loop-list-smaller c =
    let list : List Record = c.args.index.now in
    let all : List Node = c.args.nodes.now in
    let old : Queue = c.loop-list.queue in
    let nodes : List Node = nodes_of c.loop-list.list.items in
    let first : (find_ready node_cmp old.ready c.in-Some.node ≡ Some c.in-Some.sources) × IsLowerBound node_cmp old.ready c.in-Some.node =
    subst (λ (o : Option (Node × Vec Node Global)). IfSome o (λ p. (find_ready node_cmp old.ready p.0 ≡ Some p.1) × IsLowerBound node_cmp old.ready p.0)) c.in-Some.is c.in_ok-node.ensures.first in
    let more = nodes_more c.push.new.self.items c.loop-list.list.items c.in_ok-entry.field-0 c.in-Some.node c.in_ok-push.ensures.items c.in_ok-entry.ensures.node in
    let most = no_more list all (nodes ++ c.in-Some.node ∷ [])
    (taken_greedy list all nodes old c.loop-list.invariant.queue c.loop-list.invariant.made c.loop-list.invariant.held c.in-Some.node c.in-Some.sources first.0 first.1 c.loop-list.invariant.greedy) in
    let grew : length (nodes_of c.push.new.self.items) ≡ length (nodes ++ c.in-Some.node ∷ []) = ap length more in
    let long : length (nodes ++ c.in-Some.node ∷ []) ≡ length nodes + 1 = length-append nodes (c.in-Some.node ∷ []) in
    let less : length all - length (nodes_of c.push.new.self.items) < length all - length nodes = omega (arith, most, grew, long) in
    less

pub loop-list-preserved : goal.loop-list-preserved
loop-list-preserved c =
    let list : List Record = c.args.index.now in
    let all : List Node = c.args.nodes.now in
    let old : Queue = c.loop-list.queue in
    let nodes : List Node = nodes_of c.loop-list.list.items in
    let n : Node = c.in-Some.node in
    let v : Vec Node Global = c.in-Some.sources in
    let m : Made = c.in_ok-entry.field-0 in
    let k = c.loop-list.invariant.queue in
    let first : (find_ready node_cmp old.ready n ≡ Some v) × IsLowerBound node_cmp old.ready n =
    subst (λ (o : Option (Node × Vec Node Global)). IfSome o (λ p. (find_ready node_cmp old.ready p.0 ≡ Some p.1) × IsLowerBound node_cmp old.ready p.0)) c.in-Some.is c.in_ok-node.ensures.first in
    let makes : (x : Node) → contains same_node c.next.new.self.made x ≡ (if same_node n x then true else contains same_node old.made x) =
    subst (λ (o : Option (Node × Vec Node Global)). IfSome o (λ p. (x : Node) → contains same_node c.next.new.self.made x ≡ (if same_node p.0 x then true else contains same_node old.made x))) c.in-Some.is c.in_ok-node.ensures.made in
    let keeps : (list : List Record) (all : List Node) → IsQueue list all old → IsQueue list all c.next.new.self =
    subst (λ (o : Option (Node × Vec Node Global)). IfSome o (λ p. (list : List Record) (all : List Node) → IsQueue list all old → IsQueue list all c.next.new.self)) c.in-Some.is c.in_ok-node.ensures.keeps in
    let holds : (list : List Record) (all : List Node) → IsQueue list all old → (x : Node) → IsHeld old x → (x ≡ n) ⊎ IsHeld c.next.new.self x =
    subst (λ (o : Option (Node × Vec Node Global)). IfSome o (λ p. (list : List Record) (all : List Node) → IsQueue list all old → (x : Node) → IsHeld old x → (x ≡ p.0) ⊎ IsHeld c.next.new.self x)) c.in-Some.is c.in_ok-node.ensures.holds in
    let items : c.push.new.self.items ≡ c.loop-list.list.items ++ m ∷ [] = c.in_ok-push.ensures.items in
    let more : nodes_of c.push.new.self.items ≡ nodes ++ n ∷ [] = nodes_more c.push.new.self.items c.loop-list.list.items m n items c.in_ok-entry.ensures.node in
    let edges : AreAll node_cmp v.items (λ s. IsEdge list n s) = (k.ready n v first.0).unmade.edges in
    record {
      greedy = subst (IsGreedy list all []) (sym more) (taken_greedy list all nodes old k c.loop-list.invariant.made c.loop-list.invariant.held n v first.0 first.1 c.loop-list.invariant.greedy);
      made = λ x. makes x ∙ made_more nodes n x (contains same_node old.made x) (c.loop-list.invariant.made x) ∙ ap (list_any (same_node x)) (sym more);
      queue = keeps list all k;
      held = λ x there. held_more nodes (nodes_of c.push.new.self.items) n x old c.next.new.self more (holds list all k x) (c.loop-list.invariant.held x there);
      sources = subst (All (λ (x : Made). AreAll node_cmp x.sources.items (λ s. IsEdge list x.node s))) (sym items)
          (All-push (λ (x : Made). AreAll node_cmp x.sources.items (λ s. IsEdge list x.node s)) c.loop-list.list.items m c.loop-list.invariant.sources
          (subst (λ (w : Vec Node Global). AreAll node_cmp w.items (λ s. IsEdge list m.node s)) (sym c.in_ok-entry.ensures.sources)
          (subst (λ (x : Node). AreAll node_cmp v.items (λ s. IsEdge list x s)) (sym c.in_ok-entry.ensures.node) edges)));
      programs = subst (All (HasProgram list)) (sym items)
          (All-push (HasProgram list) c.loop-list.list.items m c.loop-list.invariant.programs (
            c.in_ok-entry.ensures.exe ∙ c.in_ok-programs.ensures.exes n ∙ ap (first_value list (codes "EXE")) (sym c.in_ok-entry.ensures.node),
            c.in_ok-entry.ensures.args ∙ c.in_ok-programs.ensures.args n ∙ ap (first_value list (codes "ARGV")) (sym c.in_ok-entry.ensures.node),
          ));
    }

pub returns-clause-complete : goal.returns-clause-complete
returns-clause-complete c = λ n there.
    all_taken c.args.index.now c.args.nodes.now (nodes_of c.loop-list.list.items) c.loop-list.queue c.loop-list.invariant.queue c.loop-list.invariant.made c.loop-list.invariant.held c.requires.logged c.requires.closed
    (c.in_ok-node.ensures.none c.in_default.is) n there
