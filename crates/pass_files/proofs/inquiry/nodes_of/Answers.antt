use Rattle.std.proofs.Common.{◌≡◌, ◌∙◌, sym, ap, subst}
use Rattle.std.specs.Prelude.{◌↔◌, Option, Some, Result, Ok, Err}
use Rattle.std.specs.declared.alloc.Global.{Global}
use Rattle.std.specs.declared.vec.Vec.{Vec}
use Rattle.pass_entry.specs.declared.objects.Node.{Node}
use Rattle.pass_query.specs.Questions.{IsFound}
use Rattle.pass_query.specs.declared.fault.QueryFault.{QueryFault}
use Rattle.pass_query.specs.declared.fault.QueryFault.TheVariants.{NoObject}
use Rattle.pass_files.specs.Inquiries.{IsUnmet}
use Rattle.pass_files.specs.declared.inquiry.Wanted.{Wanted}
use Rattle.pass_files.specs.declared.inquiry.Wanted.TheVariants.{Ancestors, Descendants, Inputs, Outputs}
use Rattle.pass_files.proofs.inquiry.nodes_of.Goals as goal

abbrev Nodes : Type 0
Nodes = Vec Node Global

-- the fault of what was found is that of the search
same_absent : (nodes : Result Nodes QueryFault) (found : Result (Option Nodes) QueryFault) (P : Node → Type 0) → IsFound nodes found
    → ((n : Node) → (nodes ≡ Err (NoObject n)) ↔ P n) → (n : Node) → (found ≡ Err (NoObject n)) ↔ P n
same_absent (Ok v) found P is each n = (
  λ same. absurd (let z : ◌≡◌ {A = Result (Option Nodes) QueryFault} (Ok (Some v)) (Err (NoObject n)) = sym is ∙ same in cc),
  λ holds. absurd (let z : ◌≡◌ {A = Result Nodes QueryFault} (Ok v) (Err (NoObject n)) = (each n).1 holds in cc),
)
same_absent (Err fault) found P is each n = (
  λ same. (each n).0 (ap Err (of_found (sym is ∙ same))),
  λ holds. is ∙ ap Err (of_nodes ((each n).1 holds)),
)
  where
    of_found : ◌≡◌ {A = Result (Option Nodes) QueryFault} (Err fault) (Err (NoObject n)) → fault ≡ NoObject n
    of_found same = cc

    of_nodes : ◌≡◌ {A = Result Nodes QueryFault} (Err fault) (Err (NoObject n)) → fault ≡ NoObject n
    of_nodes same = cc

pub returns-in-Ancestors-clause-absent : goal.returns-in-Ancestors-clause-absent
returns-in-Ancestors-clause-absent g c = λ n.
    subst (λ (q : Wanted). (c.found.result ≡ Err (NoObject n)) ↔ IsUnmet c.args.index.now q n) (sym c.in-Ancestors.is)
    (same_absent c.ancestors.result c.found.result (IsUnmet c.args.index.now (Ancestors c.in-Ancestors.node)) c.found.ensures c.ancestors.ensures.absent n)

pub returns-in-Descendants-clause-absent : goal.returns-in-Descendants-clause-absent
returns-in-Descendants-clause-absent g c = λ n.
    subst (λ (q : Wanted). (c.found-in-Descendants.result ≡ Err (NoObject n)) ↔ IsUnmet c.args.index.now q n) (sym c.in-Descendants.is)
    (same_absent c.descendants.result c.found-in-Descendants.result (IsUnmet c.args.index.now (Descendants c.in-Descendants.node)) c.found-in-Descendants.ensures c.descendants.ensures.absent n)

pub returns-in-Inputs-clause-absent : goal.returns-in-Inputs-clause-absent
returns-in-Inputs-clause-absent g c = λ n.
    subst (λ (q : Wanted). (c.found-in-Inputs.result ≡ Err (NoObject n)) ↔ IsUnmet c.args.index.now q n) (sym c.in-Inputs.is)
    (same_absent c.inputs.result c.found-in-Inputs.result (IsUnmet c.args.index.now (Inputs c.in-Inputs.node c.in-Inputs.choice)) c.found-in-Inputs.ensures c.inputs.ensures.absent n)

pub returns-clause-absent : goal.returns-clause-absent
returns-clause-absent g c = λ n.
    subst (λ (q : Wanted). (c.found-in-Outputs.result ≡ Err (NoObject n)) ↔ IsUnmet c.args.index.now q n) (sym c.in-Outputs.is)
    (same_absent c.outputs.result c.found-in-Outputs.result (IsUnmet c.args.index.now (Outputs c.in-Outputs.node c.in-Outputs.choice)) c.found-in-Outputs.ensures c.outputs.ensures.absent n)

pub returns-in-Path-clause-absent : goal.returns-in-Path-clause-absent
returns-in-Path-clause-absent g c = λ n.
    subst (λ (q : Wanted). (c.path.result ≡ Err (NoObject n)) ↔ IsUnmet c.args.index.now q n) (sym c.in-Path.is) (c.path.ensures.absent n)
