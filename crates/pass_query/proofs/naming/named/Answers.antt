use Rattle.std.proofs.Common.{◌≡◌, List, [], ◌∷◌, ◌++◌, take, sym, ap, ◌∙◌, subst, arith}
use Rattle.std.specs.Prelude.{Some, option_map, Contains}
use Rattle.std.specs.List.{cons_option, filter_map}
use Rattle.std.proofs.lemmas.List.{take_all, append-nil}
use Rattle.pass_entry.specs.declared.objects.Node.{Node}
use Rattle.pass_entry.specs.declared.record.Record.TheVariants as log
use Rattle.pass_waldo.specs.Lookups.{AreAll, current_in}
use Rattle.pass_waldo.specs.Orders.{node_cmp}
use Rattle.pass_query.proofs.Holders.{node_now, one_more, all_named}
use Rattle.pass_query.proofs.naming.named.Goals as goal
use Rattle.pass_query.proofs.naming.named.Goals.{in-Some+in_ok-push, in_default}

pub loop-pnode-preserved : goal.loop-pnode-preserved
loop-pnode-preserved c =
    let list = c.args.index.now in
    let row = c.by_name-pnode-items.result.now in
    let p = c.pnode-item.result in
    let i = c.loop-pnode.pnode-index in
    let more = one_more list row i p c.loop-pnode-test.true c.pnode-item.is in
    elim c.match-current.branch [
      | in-Some+in_ok-push w ↦
          ap (λ v. v.items) w.nodes-is ∙ w.in_ok-push.ensures.items ∙ ap (λ (xs : List Node). xs ++ record { pnode = p; version = w.in-Some.version } ∷ []) c.loop-pnode.invariant
          ∙ sym (more ∙ ap (λ o. filter_map (node_now list) (take i row) ++ cons_option (option_map (λ v. record { pnode = p; version = v }) o) []) (sym c.current.ensures ∙ w.in-Some.is))
      | in_default w ↦
          ap (λ v. v.items) w.nodes-is ∙ c.loop-pnode.invariant
          ∙ sym (more ∙ ap (λ o. filter_map (node_now list) (take i row) ++ cons_option (option_map (λ v. record { pnode = p; version = v }) o) []) (sym c.current.ensures ∙ w.in_default.is) ∙ append-nil (filter_map (node_now list) (take i row)))
    ]

pub returns : goal.returns
returns c =
    let list = c.args.index.now in
    let row = c.by_name-pnode-items.result.now in
    let whole = take_all c.loop-pnode.pnode-index row (omega (arith, c.loop-pnode-test.false)) in
    subst (λ v. AreAll node_cmp v (λ n. Contains list (log.Name n.pnode c.args.name.now) × (current_in list n.pnode ≡ Some n.version)))
    (sym (c.loop-pnode.invariant ∙ ap (filter_map (node_now list)) whole))
    (all_named list (λ p. Contains list (log.Name p c.args.name.now)) row c.by_name-pnode-items.ensures)
