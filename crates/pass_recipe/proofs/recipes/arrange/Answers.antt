use Rattle.std.proofs.Common.{◌≡◌, ◌≤◌, ◌+◌, ◌*◌, List, [], ◌∷◌, ◌++◌, length, sym, ◌∙◌, subst}
use Rattle.std.specs.Prelude.{Contains}
use Rattle.std.specs.List.{IsDistinct}
use Rattle.std.specs.declared.vec.Vec.{Vec}
use Rattle.std.specs.declared.alloc.Global.{Global}
use Rattle.std.proofs.lemmas.Result.{IfOk-weaker}
use Rattle.pass_entry.specs.declared.objects.Node.{Node}
use Rattle.pass_entry.specs.declared.record.Record.{Record}
use Rattle.pass_plain.specs.Versions.{same_node}
use Rattle.pass_query.specs.Answers.{HasOnlyLeaving}
use Rattle.pass_recipe.specs.declared.entries.Made.{Made}
use Rattle.pass_recipe.specs.Orders.{HasOnlyListed, HasAllListed, HasAllFrom, HasOnlyFrom, ComesAfterSources, IsLeast, IsGreedy, nodes_of}
use Rattle.pass_recipe.proofs.Greedy.{taken_listed, once, after, least}
use Rattle.pass_recipe.proofs.Arranging.{listed_sound, listed_complete, listed_once, listed_closed, all_from, only_from}
use Rattle.pass_recipe.proofs.recipes.arrange.Goals as goal

same_list : (a b c : List Node) → a ≡ b → b ≡ c → a ≡ c
same_list a b c one two = one ∙ two

pub enqueue-requires : goal.enqueue-requires
enqueue-requires g c = record {
  once = subst (IsDistinct same_node) (sym (same_list c.as_slice-listed.result.now c.push.new.self.items (c.args.nodes.items ++ c.args.node ∷ []) c.as_slice-listed.ensures.value c.in_ok-push.ensures.items)) (listed_once c.args.index.now c.args.node c.args.nodes.items c.requires.ancestors c.requires.logged);
}

pub returns-in_err-queue-clause-steps : goal.returns-in_err-queue-clause-steps
returns-in_err-queue-clause-steps g c = λ edges all.
    c.enqueue.ensures.steps edges
    (subst (λ xs. HasAllFrom c.args.index.now xs edges) (sym (same_list c.as_slice-listed.result.now c.push.new.self.items (c.args.nodes.items ++ c.args.node ∷ []) c.as_slice-listed.ensures.value c.in_ok-push.ensures.items)) (all_from c.args.index.now c.args.node c.args.nodes.items c.requires.ancestors edges all))

pub entries-requires-clause-closed : goal.entries-requires-clause-closed
entries-requires-clause-closed g c = λ n s there e.
    let given : c.as_slice-listed.result.now ≡ c.args.nodes.items ++ c.args.node ∷ [] = same_list c.as_slice-listed.result.now c.push.new.self.items (c.args.nodes.items ++ c.args.node ∷ []) c.as_slice-listed.ensures.value c.in_ok-push.ensures.items in
    subst (λ xs. Contains xs s) (sym given) (listed_closed c.args.index.now c.args.node c.args.nodes.items c.requires.ancestors n s (subst (λ xs. Contains xs n) given there) e)

pub returns-clause-sound : goal.returns-clause-sound
returns-clause-sound g c =
    let list : List Record = c.args.index.now in
    let all : List Node = c.as_slice-listed.result.now in
    let given : all ≡ c.args.nodes.items ++ c.args.node ∷ [] = same_list c.as_slice-listed.result.now c.push.new.self.items (c.args.nodes.items ++ c.args.node ∷ []) c.as_slice-listed.ensures.value c.in_ok-push.ensures.items in
    IfOk-weaker c.entries.result (λ (v : Vec Made Global). IsGreedy list all [] (nodes_of v.items)) (λ (v : Vec Made Global). HasOnlyListed list c.args.node (nodes_of v.items))
    (λ v greedy n there. listed_sound list c.args.node c.args.nodes.items c.requires.ancestors n (subst (λ xs. Contains xs n) given (taken_listed list all [] (nodes_of v.items) n greedy there))) c.entries.ensures.greedy

pub returns-clause-complete : goal.returns-clause-complete
returns-clause-complete g c =
    let list : List Record = c.args.index.now in
    let all : List Node = c.as_slice-listed.result.now in
    let given : all ≡ c.args.nodes.items ++ c.args.node ∷ [] = same_list c.as_slice-listed.result.now c.push.new.self.items (c.args.nodes.items ++ c.args.node ∷ []) c.as_slice-listed.ensures.value c.in_ok-push.ensures.items in
    IfOk-weaker c.entries.result (λ (v : Vec Made Global). (n : Node) → Contains all n → Contains (nodes_of v.items) n) (λ (v : Vec Made Global). HasAllListed list c.args.node (nodes_of v.items))
    (λ v whole n is. whole n (subst (λ xs. Contains xs n) (sym given) (listed_complete list c.args.node c.args.nodes.items c.requires.ancestors n is))) c.entries.ensures.complete

pub returns-clause-once : goal.returns-clause-once
returns-clause-once g c =
    let list : List Record = c.args.index.now in
    let all : List Node = c.as_slice-listed.result.now in
    IfOk-weaker c.entries.result (λ (v : Vec Made Global). IsGreedy list all [] (nodes_of v.items)) (λ (v : Vec Made Global). IsDistinct same_node (nodes_of v.items))
    (λ v greedy. once list all (nodes_of v.items) greedy) c.entries.ensures.greedy

pub returns-clause-after : goal.returns-clause-after
returns-clause-after g c =
    let list : List Record = c.args.index.now in
    let all : List Node = c.as_slice-listed.result.now in
    IfOk-weaker c.entries.result (λ (v : Vec Made Global). IsGreedy list all [] (nodes_of v.items)) (λ (v : Vec Made Global). ComesAfterSources list (nodes_of v.items))
    (λ v greedy. after list all (nodes_of v.items) greedy) c.entries.ensures.greedy

pub returns-clause-least : goal.returns-clause-least
returns-clause-least g c =
    let list : List Record = c.args.index.now in
    let all : List Node = c.as_slice-listed.result.now in
    let given : all ≡ c.args.nodes.items ++ c.args.node ∷ [] = same_list c.as_slice-listed.result.now c.push.new.self.items (c.args.nodes.items ++ c.args.node ∷ []) c.as_slice-listed.ensures.value c.in_ok-push.ensures.items in
    IfOk-weaker c.entries.result (λ (v : Vec Made Global). IsGreedy list all [] (nodes_of v.items)) (λ (v : Vec Made Global). IsLeast list c.args.node (nodes_of v.items))
    (λ v greedy. least list all c.args.node
    (subst (HasOnlyListed list c.args.node) (sym given) (listed_sound list c.args.node c.args.nodes.items c.requires.ancestors))
    (subst (HasAllListed list c.args.node) (sym given) (listed_complete list c.args.node c.args.nodes.items c.requires.ancestors)) (nodes_of v.items) greedy) c.entries.ensures.greedy

pub returns-clause-steps : goal.returns-clause-steps
returns-clause-steps g c = λ edges all.
    c.in_ok-queue.ensures.steps edges
    (subst (λ xs. HasAllFrom c.args.index.now xs edges) (sym (same_list c.as_slice-listed.result.now c.push.new.self.items (c.args.nodes.items ++ c.args.node ∷ []) c.as_slice-listed.ensures.value c.in_ok-push.ensures.items)) (all_from c.args.index.now c.args.node c.args.nodes.items c.requires.ancestors edges all))

pub returns-clause-counted : goal.returns-clause-counted
returns-clause-counted g c =
    let counts : (edges : List (Node × Node)) → HasOnlyFrom c.args.index.now c.as_slice-listed.result.now edges → c.args.steps.now + 2 * length edges ≤ c.enqueue.new.steps = c.in_ok-queue.ensures.counted in
    IfOk-weaker c.entries.result (λ (v : Vec Made Global). (n : Node) → Contains c.as_slice-listed.result.now n → Contains (nodes_of v.items) n) (λ v. (edges : List (Node × Node)) → HasOnlyLeaving c.args.index.now c.args.node edges → c.args.steps.now + 2 * length edges ≤ c.enqueue.new.steps)
    (λ v whole edges only. counts edges
    (subst (λ xs. HasOnlyFrom c.args.index.now xs edges) (sym (same_list c.as_slice-listed.result.now c.push.new.self.items (c.args.nodes.items ++ c.args.node ∷ []) c.as_slice-listed.ensures.value c.in_ok-push.ensures.items)) (only_from c.args.index.now c.args.node c.args.nodes.items c.requires.ancestors edges only)))
    c.entries.ensures.complete
