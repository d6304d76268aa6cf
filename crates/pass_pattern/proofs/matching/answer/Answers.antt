use Rattle.std.proofs.Common.{◌≡◌, ℕ, sym, ap, ◌∙◌}
use Rattle.std.specs.Prelude.{◌↔◌, Result, Ok, Err}
use Rattle.std.specs.Result.{IsErrAnd}
use Rattle.std.specs.declared.alloc.Global.{Global}
use Rattle.std.specs.declared.vec.Vec.{Vec}
use Rattle.std.proofs.lemmas.Result.{err_from_is_err_and}
use Rattle.pass_entry.specs.declared.objects.Node.{Node}
use Rattle.pass_entry.proofs.Variants.{err_inside, ok_not_err}
use Rattle.pass_graph.specs.ListRanks.{HasNode}
use Rattle.pass_query.specs.declared.fault.QueryFault.{QueryFault}
use Rattle.pass_query.specs.declared.fault.QueryFault.TheVariants.{NoObject, NoMemory}
use Rattle.pass_pattern.proofs.matching.answer.Goals as goal

abbrev Nodes : Type 0
Nodes = Result (Vec Node Global) QueryFault

abbrev Text : Type 0
Text = Result (Vec ℕ Global) QueryFault

other_fault : (n : Node) → NoMemory ≡ NoObject n → ⊥
other_fault n is = cc

-- the fault of what was found is handed on
handed_on : (fault : QueryFault) (r : Text) (P : Node → Type 0) → IsErrAnd r (λ e. e ≡ fault) → ((n : Node) → (◌≡◌ {A = Nodes} (Err fault) (Err (NoObject n))) ↔ P n) → (n : Node) → (r ≡ Err (NoObject n)) ↔ P n
handed_on fault r P is each n =
    let p = err_from_is_err_and r is in (
      λ same. (each n).0 (ap Err (sym p.2 ∙ err_inside p.0 (NoObject n) (sym p.1 ∙ same))),
      λ holds. p.1 ∙ ap Err (p.2 ∙ err_inside fault (NoObject n) ((each n).1 holds)),
    )

-- nodes were found, and memory was refused
refused : (v : Vec Node Global) (r : Text) (P : Node → Type 0) → IsErrAnd r (λ e. e ≡ NoMemory) → ((n : Node) → (◌≡◌ {A = Nodes} (Ok v) (Err (NoObject n))) ↔ P n) → (n : Node) → (r ≡ Err (NoObject n)) ↔ P n
refused v r P is each n =
    let p = err_from_is_err_and r is in (
      λ same. absurd (other_fault n (sym p.2 ∙ err_inside p.0 (NoObject n) (sym p.1 ∙ same))),
      λ holds. absurd (ok_not_err v (NoObject n) ((each n).1 holds)),
    )

-- they were written
written : (v : Vec Node Global) (text : Vec ℕ Global) (P : Node → Type 0) → ((n : Node) → (◌≡◌ {A = Nodes} (Ok v) (Err (NoObject n))) ↔ P n) → (n : Node) → (◌≡◌ {A = Text} (Ok text) (Err (NoObject n))) ↔ P n
written v text P each n = (λ same. absurd (ok_not_err text (NoObject n) same), λ holds. absurd (ok_not_err v (NoObject n) ((each n).1 holds)))

pub returns-in_err-nodes-clause-absent : goal.returns-in_err-nodes-clause-absent
returns-in_err-nodes-clause-absent c =
    handed_on c.in_err-nodes.field-0.0 c.from_residual.result (λ n. (n ≡ c.args.from) × ¬ (HasNode c.args.index.now c.args.from)) c.from_residual.ensures.1 c.in_err-nodes.ensures.absent

pub returns-in_err-write_nodes-clause-absent : goal.returns-in_err-write_nodes-clause-absent
returns-in_err-write_nodes-clause-absent c =
    refused c.in_ok-nodes.nodes c.from_residual-in_err-write_nodes.result (λ n. (n ≡ c.args.from) × ¬ (HasNode c.args.index.now c.args.from)) c.from_residual-in_err-write_nodes.ensures.1 c.in_ok-nodes.ensures.absent

pub returns-clause-absent : goal.returns-clause-absent
returns-clause-absent c = written c.in_ok-nodes.nodes c.in_ok-write_nodes.field-0 (λ n. (n ≡ c.args.from) × ¬ (HasNode c.args.index.now c.args.from)) c.in_ok-nodes.ensures.absent
