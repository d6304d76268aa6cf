use Rattle.std.proofs.Common.{◌≡◌, ◌∙◌, sym, ap, subst, List}
use Rattle.std.specs.Prelude.{filter}
use Rattle.pass_entry.specs.declared.objects.Node.{Node}
use Rattle.pass_graph.specs.ListRanks.{HasNode}
use Rattle.pass_waldo.specs.Lookups.{AreAll}
use Rattle.pass_waldo.specs.Orders.{node_cmp}
use Rattle.pass_files.specs.Inquiries.{IsInput, is_shown}
use Rattle.pass_files.specs.Tables.{is_kept}
use Rattle.pass_files.proofs.Choosing.{inputs_kept}
use Rattle.pass_view.proofs.Lacking.{lacking_both, lacking_none, ok_lacks, starved_lacks}
use Rattle.pass_files.proofs.files.inputs.Goals as goal

pub returns-clause-all : goal.returns-clause-all
returns-clause-all g c =
    subst (λ (ns : List Node). AreAll node_cmp ns (IsInput c.args.index.now c.args.choice c.args.node))
    (sym (c.in_ok-chosen.ensures ∙ ap (λ (ns : List Node). filter (is_kept c.args.index.now c.args.choice c.in_ok-found.found) ns) c.deref.ensures.value))
    (inputs_kept (λ n. is_shown c.args.index.now c.args.choice n.pnode) c.args.index.now c.args.node c.in_ok-nodes.nodes.items c.args.choice.flows c.in_ok-found.found c.in_ok-found.ensures c.in_ok-nodes.ensures.all)

pub returns-in_err-nodes-clause-absent : goal.returns-in_err-nodes-clause-absent
returns-in_err-nodes-clause-absent g c =
    lacking_both c.ancestors.result c.from_residual.result c.in_err-nodes.field-0.0 (λ n. (n ≡ c.args.node) × ¬ (HasNode c.args.index.now c.args.node)) c.in_err-nodes.was c.from_residual.ensures.1 c.ancestors.ensures.absent

pub returns-in_err-found-clause-absent : goal.returns-in_err-found-clause-absent
returns-in_err-found-clause-absent g c =
    lacking_none c.ancestors.result c.from_residual-in_err-found.result c.in_ok-nodes.nodes (λ n. (n ≡ c.args.node) × ¬ (HasNode c.args.index.now c.args.node)) c.in_ok-nodes.was
    (starved_lacks c.from_residual-in_err-found.result c.from_residual-in_err-found.ensures.1) c.ancestors.ensures.absent

pub returns-in_err-chosen-clause-absent : goal.returns-in_err-chosen-clause-absent
returns-in_err-chosen-clause-absent g c =
    lacking_none c.ancestors.result c.from_residual-in_err-chosen.result c.in_ok-nodes.nodes (λ n. (n ≡ c.args.node) × ¬ (HasNode c.args.index.now c.args.node)) c.in_ok-nodes.was
    (starved_lacks c.from_residual-in_err-chosen.result c.from_residual-in_err-chosen.ensures.1) c.ancestors.ensures.absent

pub returns-clause-absent : goal.returns-clause-absent
returns-clause-absent g c =
    lacking_none c.ancestors.result _ c.in_ok-nodes.nodes (λ n. (n ≡ c.args.node) × ¬ (HasNode c.args.index.now c.args.node)) c.in_ok-nodes.was (ok_lacks c.in_ok-chosen.field-0) c.ancestors.ensures.absent
