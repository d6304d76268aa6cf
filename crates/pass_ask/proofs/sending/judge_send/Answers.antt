use Rattle.std.proofs.Common.{◌≡◌, ℕ, ap, ◌∙◌, subst}
use Rattle.std.specs.Prelude.{Result, Err}
use Rattle.pass_recover.specs.declared.fault.OpenFault.{OpenFault}
use Rattle.pass_recover.specs.declared.fault.OpenFault.TheVariants.{DiskFault}
use Rattle.pass_status.specs.Statuses.{status_of_opening}
use Rattle.pass_standby.specs.declared.sending.SendFault.{SendFault}
use Rattle.pass_standby.specs.declared.sending.SendFault.TheVariants.{Unopened, NoFrame}
use Rattle.pass_standby.specs.Sending.{IsUnsent}
use Rattle.pass_ask.specs.declared.words.Question.TheVariants.{Send}
use Rattle.pass_ask.proofs.Answering.{fault_judges, sent_judges, unplaced_judges}
use Rattle.pass_ask.proofs.sending.judge_send.Goals as goal

-- whether a device call failed
no_device : {A : Type 0} (e : SendFault) → e ≡ NoFrame → ◌≡◌ {A = Result A SendFault} (Err e) (Err (Unopened DiskFault)) → ⊥
no_device {A} e is same = cc

of_device : {A : Type 0} (e : SendFault) (f : OpenFault) → e ≡ Unopened f → ◌≡◌ {A = Result A SendFault} (Err e) (Err (Unopened DiskFault)) → f ≡ DiskFault
of_device {A} e f is same = cc

pub returns-in-Ok-clause-judged : goal.returns-in-Ok-clause-judged
returns-in-Ok-clause-judged g c = λ known.
    sent_judges c.args.from (g.D.Disk.view c.args.disk.now) (g.D.Disk.view c.send.new.disk) c.in-Ok.text.items c.in-Ok.ensures.sent (c.in-Ok.ensures.no_fault (λ err. absurd (cc))) (c.in-Ok.ensures.stays (λ err. absurd (cc)))

pub returns-in-Err-NoFrame-clause-judged : goal.returns-in-Err-NoFrame-clause-judged
returns-in-Err-NoFrame-clause-judged g c = λ known.
    unplaced_judges c.args.from (g.D.Disk.view c.args.disk.now) (g.D.Disk.view c.send.new.disk) c.refused.result.status c.refused.result.text.items c.refused.ensures
    (subst (IsUnsent (g.D.Disk.view c.args.disk.now) (g.D.Disk.view c.send.new.disk) c.args.from) c.in-Err-NoFrame.field-0-is c.in-Err-NoFrame.ensures.fault)
    (c.in-Err-NoFrame.ensures.no_fault (λ is. no_device c.in-Err-NoFrame.field-0 c.in-Err-NoFrame.field-0-is is))
    (c.in-Err-NoFrame.ensures.stays (λ is. no_device c.in-Err-NoFrame.field-0 c.in-Err-NoFrame.field-0-is is))

pub returns-in-Err-Unopened-clause-judged : goal.returns-in-Err-Unopened-clause-judged
returns-in-Err-Unopened-clause-judged g c = λ known.
    fault_judges (Send c.args.from) (λ why is. is) (g.D.Disk.view c.args.disk.now) (g.D.Disk.view c.send.new.disk) c.in-Err-Unopened.fault c.refused-in-Err-Unopened.result.status c.refused-in-Err-Unopened.result.text.items
    (c.refused-in-Err-Unopened.ensures ∙ c.opening_status.ensures ∙ ap (λ (opened : ℕ). status_of_opening opened c.faults.result c.in-Err-Unopened.fault) c.faults-opened.ensures
    ∙ ap (λ (now : ℕ). status_of_opening (g.D.Disk.view c.args.disk.now).faults now c.in-Err-Unopened.fault) c.faults.ensures)
    known (subst (IsUnsent (g.D.Disk.view c.args.disk.now) (g.D.Disk.view c.send.new.disk) c.args.from) c.in-Err-Unopened.field-0-is c.in-Err-Unopened.ensures.fault)
    (λ other. c.in-Err-Unopened.ensures.no_fault (λ is. other (of_device c.in-Err-Unopened.field-0 c.in-Err-Unopened.fault c.in-Err-Unopened.field-0-is is)))
    (λ other. c.in-Err-Unopened.ensures.stays (λ is. other (of_device c.in-Err-Unopened.field-0 c.in-Err-Unopened.fault c.in-Err-Unopened.field-0-is is)))
