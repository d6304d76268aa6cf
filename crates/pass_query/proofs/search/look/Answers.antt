use Rattle.std.proofs.Common.{◌≡◌, Bool, true, false, not, [], ◌∷◌, ◌++◌, take, refl, sym, ap, ◌∙◌}
use Rattle.std.specs.HashSet.{contains}
use Rattle.pass_plain.specs.Versions.{same_node}
use Rattle.pass_query.specs.Searches.{has_node, looked}
use Rattle.pass_query.proofs.Looking.{reached_at, looked_new, looked_known, seen_new, seen_known}
use Rattle.pass_query.proofs.search.look.Goals as goal
use Rattle.pass_query.proofs.search.look.Goals.{then-branch+in_ok-push, else-branch}

to_false : (b : Bool) → true ≡ not b → b ≡ false
to_false false is = refl
to_false true is = let z : true ≡ false = is in cc

to_true : (b : Bool) → false ≡ not b → b ≡ true
to_true true is = refl
to_true false is = let z : false ≡ true = is in cc

pub loop-node-preserved : goal.loop-node-preserved
loop-node-preserved c = let n = c.node-item.result in let j = c.loop-node.node-index in let row = c.args.row.now in let old = c.args.reached.now.items in let place = c.args.place in
    let had = ap (λ xs. has_node xs n) c.loop-node.invariant.looked in
    let before : contains same_node c.loop-node.seen n ≡ has_node (looked old place (take j row)) n = c.loop-node.invariant.seen n ∙ had in
    elim c.if-branch.branch [
      | then-branch+in_ok-push w ↦
          let new : contains same_node c.loop-node.seen n ≡ false = to_false (contains same_node c.loop-node.seen n) (sym w.if-branch.true ∙ c.in_ok-insert.ensures.added) in
          let items : c.if-branch.reached.items ≡ c.loop-node.reached.items ++ reached_at place n ∷ [] = ap (λ r. r.items) w.reached-is ∙ w.in_ok-push.ensures.items in
          record {
            seen = λ q. seen_new c.loop-node.reached.items c.loop-node.seen c.insert.new.self place n c.loop-node.invariant.seen c.in_ok-insert.ensures.updates.0 q ∙ ap (λ xs. has_node xs q) (sym items);
            looked = items ∙ ap (λ xs. xs ++ reached_at place n ∷ []) c.loop-node.invariant.looked ∙ sym (looked_new old place row c.requires.sorted j n c.loop-node-test.true c.node-item.is (sym before ∙ new));
          }
      | else-branch w ↦
          let known : contains same_node c.loop-node.seen n ≡ true = to_true (contains same_node c.loop-node.seen n) (sym w.if-branch.false ∙ c.in_ok-insert.ensures.added) in
          let items : c.if-branch.reached.items ≡ c.loop-node.reached.items = ap (λ r. r.items) w.reached-is in
          record {
            seen = λ q. seen_known c.loop-node.reached.items c.loop-node.seen c.insert.new.self n c.loop-node.invariant.seen (sym (c.loop-node.invariant.seen n) ∙ known) c.in_ok-insert.ensures.updates.0 q ∙ ap (λ xs. has_node xs q) (sym items);
            looked = items ∙ c.loop-node.invariant.looked ∙ sym (looked_known old place row c.requires.sorted j n c.loop-node-test.true c.node-item.is (sym before ∙ known));
          }
    ]
