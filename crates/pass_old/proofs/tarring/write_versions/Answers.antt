use Rattle.std.proofs.Common.{◌≡◌, ◌∙◌, ℕ, List, [], inr, refl, sym, ap, subst}
use Rattle.std.specs.Prelude.{Err}
use Rattle.pass_entry.specs.declared.objects.Node.{Node}
use Rattle.pass_outside.specs.Faults.{HasRisen}
use Rattle.pass_status.specs.declared.status.Status.TheVariants as status
use Rattle.pass_ask.specs.Answers.{SinkSeen}
use Rattle.pass_old.specs.declared.status.OldStatus.{OldStatus}
use Rattle.pass_old.specs.declared.status.OldStatus.TheVariants as old_status
use Rattle.pass_inputs.specs.declared.fault.TarFault.TheVariants as tar_faults
use Rattle.pass_old.specs.Answers.{IsWritten}
use Rattle.pass_old.specs.Tars.{IsTarOfNode, tar_status}
use Rattle.pass_old.proofs.Laden.{broken, err_stays, made, made_done, made_not, not_risen, refusal}
use Rattle.pass_old.proofs.tarring.write_versions.Given.{Over}
use Rattle.pass_old.proofs.tarring.write_versions.Goals as goal

told_status : (g : Over) (c : goal.After-status_of-status g) → c.status_of-status.result ≡ tar_status c.in-Ok.lacking.items
told_status g c = c.status_of-status.ensures ∙ ap tar_status c.deref.ensures.value

pub returns-in-Ok-clause-answer : goal.returns-in-Ok-clause-answer
returns-in-Ok-clause-answer g c = λ _.
    let taken = g.K.Sink.taken in
    let (tar, of, whole) = c.in-Ok.ensures.whole in
    let sink : SinkSeen = record { tells = g.K.Sink.tells; before = taken c.args.sink.now; after = taken c.write_tar.new.sink } in
    made c.args.index.now c.args.leaves.now c.args.node tar c.in-Ok.lacking.items sink c.status_of-status.result (told_status g c) (λ none. let z = (c.in-Ok.ensures.absent c.args.node).1 (refl, none) in absurd (cc)) of whole

pub returns-in-Ok-clause-fault : goal.returns-in-Ok-clause-fault
returns-in-Ok-clause-fault g c = λ _. (
  λ is. absurd (made_not c.in-Ok.lacking.items c.status_of-status.result (old_status.Same status.WriteFault) (told_status g c) refl is),
  λ rose. absurd (not_risen (g.K.Sink.fault_count c.args.sink.now) (g.K.Sink.fault_count c.write_tar.new.sink) (c.in-Ok.ensures.ok refl) rose),
)

pub returns-in-Ok-clause-unwritten : goal.returns-in-Ok-clause-unwritten
returns-in-Ok-clause-unwritten g c = λ is. absurd (made_not c.in-Ok.lacking.items c.status_of-status.result (old_status.Same status.NoMemory) (told_status g c) refl is)

pub returns-in-Ok-clause-like : goal.returns-in-Ok-clause-like
returns-in-Ok-clause-like g c = made_not c.in-Ok.lacking.items c.status_of-status.result old_status.Unlike (told_status g c) refl

pub returns-in-Ok-clause-lacking : goal.returns-in-Ok-clause-lacking
returns-in-Ok-clause-lacking g c = made_done c.in-Ok.lacking.items c.status_of-status.result (told_status g c)

refused : (g : Over) (c : goal.After-refuse g) → c.write_tar.result ≡ Err (tar_faults.NoObject c.in-Err-NoObject.absent)
refused g c = c.in-Err-NoObject.is ∙ ap Err c.in-Err-NoObject.field-0-is

untouched : (g : Over) (c : goal.After-refuse g) → c.write_tar.new.sink ≡ c.args.sink.now
untouched g c = err_stays c.write_tar.result (tar_faults.NoObject c.in-Err-NoObject.absent) c.write_tar.new.sink c.args.sink.now (refused g c) (λ w. cc w) c.write_tar.ensures.unwritten

pub returns-in-Err-NoObject-clause-answer : goal.returns-in-Err-NoObject-clause-answer
returns-in-Err-NoObject-clause-answer g c = λ known.
    let taken = g.K.Sink.taken in
    let r = c.refuse in
    let judged = old_status.Same (status.NoObject c.in-Err-NoObject.absent) in
    let absent = (c.write_tar.ensures.absent c.in-Err-NoObject.absent).0 (refused g c) in
    let sink : SinkSeen = record { tells = g.K.Sink.tells; before = taken c.args.sink.now; after = taken r.new.sink } in
    refusal (λ (t : List ℕ) (l : List Node) (j : OldStatus). IsTarOfNode c.args.node t l j c.args.index.now c.args.leaves.now) judged sink r.result.status r.result.lacking.items
    (inr (record { none = absent.1; lacks_none = refl; is = ap (λ (n : Node). old_status.Same (status.NoObject n)) absent.0 })) refl
    (subst (λ (before : List ℕ). IsWritten (record { tells = g.K.Sink.tells; before = before; after = taken r.new.sink }) judged r.result.status []) (ap taken (untouched g c)) (r.ensures.written known))
    r.ensures.lacking

pub returns-in-Err-NoObject-clause-fault : goal.returns-in-Err-NoObject-clause-fault
returns-in-Err-NoObject-clause-fault g c = λ known.
    let count = g.K.Sink.fault_count in
    let after = count c.refuse.new.sink in
    let failed = c.refuse.result.status ≡ old_status.Same status.WriteFault in
    subst (λ (before : ℕ). (failed → HasRisen before after) × (HasRisen before after → failed)) (ap count (untouched g c)) (c.refuse.ensures.fault known)

pub returns-in-Err-NoObject-clause-unwritten : goal.returns-in-Err-NoObject-clause-unwritten
returns-in-Err-NoObject-clause-unwritten g c = λ is. c.refuse.ensures.unwritten is ∙ untouched g c

pub returns-in-Err-NoObject-clause-like : goal.returns-in-Err-NoObject-clause-like
returns-in-Err-NoObject-clause-like g c = λ is. let z : old_status.Same (status.NoObject c.in-Err-NoObject.absent) ≡ old_status.Unlike = c.refuse.ensures.unlike is in cc

pub returns-in-Err-WriteFault-clause-answer : goal.returns-in-Err-WriteFault-clause-answer
returns-in-Err-WriteFault-clause-answer g c = λ _.
    let failed : c.write_tar.result ≡ Err tar_faults.WriteFault = c.in-Err-WriteFault.is ∙ ap Err c.in-Err-WriteFault.field-0-is in
    let (tar, lacks, of, taken) = c.write_tar.ensures.part failed in
    let sink : SinkSeen = record { tells = g.K.Sink.tells; before = g.K.Sink.taken c.args.sink.now; after = g.K.Sink.taken c.write_tar.new.sink } in
    broken c.args.index.now c.args.leaves.now c.args.node tar lacks c.ended.result.lacking.items sink c.ended.result.status c.ended.ensures.status
    (λ none. let z : Err tar_faults.WriteFault ≡ c.write_tar.result = sym failed in let w = (c.write_tar.ensures.absent c.args.node).1 (refl, none) in absurd (cc (z, w))) of taken
