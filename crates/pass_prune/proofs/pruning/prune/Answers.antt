use Rattle.std.proofs.Common.{◌≡◌, ◌⊎◌, List, inr, refl, sym, subst}
use Rattle.std.specs.Prelude.{IfOk, Err}
use Rattle.pass_leaf.specs.declared.fault.OldFault.{OldFault}
use Rattle.pass_leaf.specs.Leaves.{Leaf}
use Rattle.pass_leaf.specs.Contents.{AreLeaves}
use Rattle.pass_prune.specs.declared.fault.PruneFault.TheVariants.{NoObject, NotFresh, Fresh, NoMemory}
use Rattle.pass_prune.specs.Openings.{IsUnopenedArchive}
use Rattle.pass_prune.specs.Results.{HasPruned, IsPartlyPruned}
use Rattle.pass_prune.specs.Tables.{is_chosen_by}
use Rattle.pass_prune.proofs.Ends.{ended_pruned, ended_fresh, ended_stopped, ended_alone, refused_if, refused_not, refused_work, refused_node, absent_none}
use Rattle.pass_prune.proofs.pruning.prune.Goals as goal

pub returns-in-Some-clause-pruned : goal.returns-in-Some-clause-pruned
returns-in-Some-clause-pruned g c = refused_if c.unpruned.result.result (NoObject c.in-Some.node) c.unpruned.ensures.result _

pub returns-in-Some-clause-absent : goal.returns-in-Some-clause-absent
returns-in-Some-clause-absent g c =
    refused_node c.unpruned.result.result (NoObject c.in-Some.node) c.unpruned.ensures.result c.args.index.now c.args.named.now c.in-Some.node refl c.in-Some.ensures.lacking

pub returns-in-Some-clause-not_fresh : goal.returns-in-Some-clause-not_fresh
returns-in-Some-clause-not_fresh g c = λ e. absurd (refused_not c.unpruned.result.result (NoObject c.in-Some.node) c.unpruned.ensures.result NotFresh (λ z. cc z) e)

pub returns-in-Some-clause-stopped : goal.returns-in-Some-clause-stopped
returns-in-Some-clause-stopped g c = λ fault e. absurd (refused_not c.unpruned.result.result (NoObject c.in-Some.node) c.unpruned.ensures.result (Fresh fault) (λ z. cc z) e)

pub returns-in-Some-clause-work : goal.returns-in-Some-clause-work
returns-in-Some-clause-work g c =
    refused_work c.unpruned.result.result (NoObject c.in-Some.node) c.unpruned.ensures.result g.F.Disk.view c.args.fresh c.unpruned.result.fresh c.unpruned.ensures.fresh (λ fault z. cc z)

pub returns-in-Err-clause-pruned : goal.returns-in-Err-clause-pruned
returns-in-Err-clause-pruned g c = refused_if c.unpruned-in-Err.result.result NoMemory c.unpruned-in-Err.ensures.result _

pub returns-in-Err-clause-absent : goal.returns-in-Err-clause-absent
returns-in-Err-clause-absent g c =
    absent_none c.unpruned-in-Err.result.result c.args.index.now c.args.named.now c.in_default.ensures.all
    (λ n e. refused_not c.unpruned-in-Err.result.result NoMemory c.unpruned-in-Err.ensures.result (NoObject n) (λ z. cc z) e)

pub returns-in-Err-clause-not_fresh : goal.returns-in-Err-clause-not_fresh
returns-in-Err-clause-not_fresh g c = λ e. absurd (refused_not c.unpruned-in-Err.result.result NoMemory c.unpruned-in-Err.ensures.result NotFresh (λ z. cc z) e)

pub returns-in-Err-clause-stopped : goal.returns-in-Err-clause-stopped
returns-in-Err-clause-stopped g c = λ fault e. absurd (refused_not c.unpruned-in-Err.result.result NoMemory c.unpruned-in-Err.ensures.result (Fresh fault) (λ z. cc z) e)

pub returns-in-Err-clause-work : goal.returns-in-Err-clause-work
returns-in-Err-clause-work g c =
    refused_work c.unpruned-in-Err.result.result NoMemory c.unpruned-in-Err.ensures.result g.F.Disk.view c.args.fresh c.unpruned-in-Err.result.fresh c.unpruned-in-Err.ensures.fresh (λ fault z. cc z)

pub returns-in-Ok-clause-pruned : goal.returns-in-Ok-clause-pruned
returns-in-Ok-clause-pruned g c =
    let view = g.F.Disk.view in
    let list = c.args.index.now in
    let named = c.args.named.now in
    let slice = c.in-Ok.choice.leaves.now in
    let r = c.keep_onto.result in
    subst (λ (l : List Leaf). IfOk r.result (HasPruned view list named l c.args.fresh r.fresh)) c.in-Ok.ensures.leaves
    (ended_pruned view list named slice (is_chosen_by c.in-Ok.choice) c.in-Ok.ensures.choice c.args.fresh r.fresh c.pruned.ensures c.goes_on.ensures (subst AreLeaves (sym c.in-Ok.ensures.leaves) c.list-list.ensures.are) r.result
    c.keep_onto.ensures.onto)

pub returns-in-Ok-clause-absent : goal.returns-in-Ok-clause-absent
returns-in-Ok-clause-absent g c =
    let r = c.keep_onto.result in
    absent_none r.result c.args.index.now c.args.named.now c.in_default.ensures.all
    (λ n e. ended_alone g.F.Disk.view c.args.index.now c.args.named.now c.in-Ok.choice.leaves.now (is_chosen_by c.in-Ok.choice) c.in-Ok.ensures.choice c.args.fresh r.fresh r.result c.keep_onto.ensures.onto (inr (n, e)))

pub returns-in-Ok-clause-not_fresh : goal.returns-in-Ok-clause-not_fresh
returns-in-Ok-clause-not_fresh g c =
    let r = c.keep_onto.result in
    ended_fresh g.F.Disk.view c.args.index.now c.args.named.now c.in-Ok.choice.leaves.now (is_chosen_by c.in-Ok.choice) c.in-Ok.ensures.choice c.args.fresh r.fresh r.result c.keep_onto.ensures.onto

pub returns-in-Ok-clause-stopped : goal.returns-in-Ok-clause-stopped
returns-in-Ok-clause-stopped g c =
    let r = c.keep_onto.result in
    let view = g.F.Disk.view in
    let list = c.args.index.now in
    let named = c.args.named.now in
    subst (λ (l : List Leaf). (fault : OldFault) → r.result ≡ Err (Fresh fault) → IsUnopenedArchive (view c.args.fresh) (view r.fresh) fault ⊎ IsPartlyPruned view list named l c.args.fresh r.fresh fault) c.in-Ok.ensures.leaves
    (ended_stopped view list named c.in-Ok.choice.leaves.now (is_chosen_by c.in-Ok.choice) c.in-Ok.ensures.choice c.args.fresh r.fresh r.result c.keep_onto.ensures.onto)

pub returns-in-Ok-clause-untouched : goal.returns-in-Ok-clause-untouched
returns-in-Ok-clause-untouched g c = λ e.
    let r = c.keep_onto.result in
    absurd (ended_alone g.F.Disk.view c.args.index.now c.args.named.now c.in-Ok.choice.leaves.now (is_chosen_by c.in-Ok.choice) c.in-Ok.ensures.choice c.args.fresh r.fresh r.result c.keep_onto.ensures.onto e)
