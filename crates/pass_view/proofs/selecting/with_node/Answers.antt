use Rattle.std.proofs.Common.{sym, subst}
use Rattle.std.specs.Prelude.{Contains, Some}
use Rattle.std.specs.List.{IsDistinct}
use Rattle.pass_plain.specs.Versions.{same_node}
use Rattle.pass_view.specs.Views.{IsShown}
use Rattle.pass_waldo.specs.Lookups.{AreAll}
use Rattle.pass_waldo.specs.Orders.{node_cmp}
use Rattle.pass_view.proofs.Ends.{shown_known}
use Rattle.pass_view.proofs.Ordering.{once_with, shown_with}
use Rattle.pass_view.proofs.selecting.with_node.Goals as goal

pub in_order-requires : goal.in_order-requires
in_order-requires c =
    subst (IsDistinct same_node) (sym c.in_ok-push.ensures.items) (once_with c.args.index.now c.args.node c.args.nodes.items c.requires.ancestors c.records-records.ensures.logged)

pub returns : goal.returns
returns c =
    let all : AreAll node_cmp c.in_order.result.items (IsShown c.args.index.now (Some c.args.node)) =
    shown_with c.args.index.now c.args.node c.args.nodes.items c.requires.ancestors c.in_order.result.items
    (subst (λ xs. AreAll node_cmp c.in_order.result.items (λ n. Contains xs n)) c.in_ok-push.ensures.items c.in_order.ensures) in
    record { all = all; known = λ n h. shown_known c.args.index.now c.records-records.ensures.logged c.args.node c.requires.there.known n ((all.all n).0 h) }
