use Rattle.std.proofs.Common.{◌≡◌, ◌∙◌, ℕ, List, inl, inr, refl, ap, subst}
use Rattle.pass_entry.proofs.Variants.{err_inside}
use Rattle.pass_entry.specs.declared.objects.Node.{Node}
use Rattle.pass_recover.specs.declared.fault.OpenFault.TheVariants.{DiskFault}
use Rattle.pass_status.specs.declared.status.Status.{Status}
use Rattle.pass_status.specs.Statuses.{status_of_opening}
use Rattle.pass_ask.specs.Answers.{SinkSeen}
use Rattle.pass_old.specs.declared.status.OldStatus.{OldStatus}
use Rattle.pass_old.specs.declared.status.OldStatus.TheVariants as old_status
use Rattle.pass_old.specs.Consults.{IsJudgedByLog}
use Rattle.pass_old.specs.Tars.{IsTarOfNode, IsTarTold}
use Rattle.pass_old.proofs.Laden.{judged_as, refusal}
use Rattle.pass_old.proofs.Steps.{opening_writes}
use Rattle.pass_old.proofs.tarring.write_by_log.Goals as goal

pub returns-in-Ok-clause-answer : goal.returns-in-Ok-clause-answer
returns-in-Ok-clause-answer g c = λ known.
    let taken = g.K.Sink.taken in
    let view = g.D.Disk.view in
    let w = c.write_versions in
    let sink : SinkSeen = record { tells = g.K.Sink.tells; before = taken c.args.sink.now; after = taken w.new.sink } in
    judged_as (λ (t : List ℕ) (l : List Node) (j : OldStatus). IsTarOfNode c.node_meant.result t l j c.in-Ok.index c.args.leaves.now)
    (λ (t : List ℕ) (l : List Node) (j : OldStatus). IsJudgedByLog (view c.args.disk.now) (view c.open_index.new.disk) c.args.leaves.now (IsTarTold c.args.node.now t l j) j)
    sink w.result.status w.result.lacking.items
    (λ t l j told. inr (record {
      list = c.in-Ok.index;
      logged = c.in-Ok.ensures.read;
      told = subst (λ (n : Node). IsTarOfNode n t l j c.in-Ok.index c.args.leaves.now) c.node_meant.ensures told;
      still = record { faults = c.in-Ok.ensures.no_fault (λ err. absurd (cc)); seen = c.in-Ok.ensures.stays (λ err. absurd (cc)) };
    })) (w.ensures.answer known)

pub refuse-requires : goal.refuse-requires
refuse-requires g c = opening_writes c.faults-opened.result c.faults.result c.in-Err.fault c.opening_status-status.result c.opening_status-status.ensures

pub returns-in-Err-clause-answer : goal.returns-in-Err-clause-answer
returns-in-Err-clause-answer g c = λ known.
    let taken = g.K.Sink.taken in
    let view = g.D.Disk.view in
    let r = c.refuse in
    let judged = old_status.Same c.opening_status-status.result in
    let sink : SinkSeen = record { tells = g.K.Sink.tells; before = taken c.args.sink.now; after = taken r.new.sink } in
    refusal (λ (t : List ℕ) (l : List Node) (j : OldStatus). IsJudgedByLog (view c.args.disk.now) (view c.open_index.new.disk) c.args.leaves.now (IsTarTold c.args.node.now t l j) j)
    judged sink r.result.status r.result.lacking.items
    (inl (record {
      fault = c.in-Err.fault;
      is = ap (λ (s : Status). old_status.Same s) (c.opening_status-status.ensures ∙ ap (λ (opened : ℕ). status_of_opening opened c.faults.result c.in-Err.fault) c.faults-opened.ensures
          ∙ ap (λ (now : ℕ). status_of_opening (view c.args.disk.now).faults now c.in-Err.fault) c.faults.ensures);
      cause = c.in-Err.ensures.fault;
      still = λ other. record {
        faults = c.in-Err.ensures.no_fault (λ err. other (err_inside c.in-Err.fault DiskFault err));
        seen = c.in-Err.ensures.stays (λ err. other (err_inside c.in-Err.fault DiskFault err));
      };
    })) refl (r.ensures.written known) r.ensures.lacking

pub returns-in-Err-clause-like : goal.returns-in-Err-clause-like
returns-in-Err-clause-like g c = λ is. let z : old_status.Same c.opening_status-status.result ≡ old_status.Unlike = c.refuse.ensures.unlike is in cc
