use Rattle.std.proofs.Common.{refl, ap, ◌∙◌}
use Rattle.std.specs.Prelude.{Err}
use Rattle.pass_outside.specs.Runs.{adds_both}
use Rattle.pass_standby.proofs.Withheld.{sent_told, unsent_told, unread_causes, unread_other}
use Rattle.pass_standby.proofs.sending.send.Goals as goal

pub returns-in-Ok-clause-sent : goal.returns-in-Ok-clause-sent
returns-in-Ok-clause-sent g c =
    sent_told (g.D.Disk.view c.args.disk.now) (g.D.Disk.view c.sync_both.new.disk) (g.D.Disk.view c.read_bytes.new.disk) c.in-Ok.bytes.items c.args.from (λ v. v.items) c.sent.result
    c.sync_both.ensures.run.tells c.in_ok-sync_both.ensures.content c.in-Ok.ensures.bytes c.sent.ensures.logged c.sent.ensures.sent

pub returns-in-Ok-clause-fault : goal.returns-in-Ok-clause-fault
returns-in-Ok-clause-fault g c =
    unsent_told (g.D.Disk.view c.args.disk.now) (g.D.Disk.view c.sync_both.new.disk) (g.D.Disk.view c.read_bytes.new.disk) c.in-Ok.bytes.items c.args.from (λ v. v.items) c.sent.result
    c.sync_both.ensures.run.tells c.in_ok-sync_both.ensures.content c.in-Ok.ensures.bytes c.sent.ensures.fault

pub returns-in-Err-clause-fault : goal.returns-in-Err-clause-fault
returns-in-Err-clause-fault g c =
    unread_causes (g.D.Disk.view c.args.disk.now) (g.D.Disk.view c.sync_both.new.disk) (g.D.Disk.view c.read_bytes.new.disk) c.sync_both.ensures.run.tells c.in_ok-sync_both.ensures.content
    (c.in_ok-sync_both.ensures.run.ok refl).0 c.in-Err.fault c.unread.result c.in-Err.ensures.work (λ is. ap Err is) c.unread.ensures.disk c.unread.ensures.long c.unread.ensures.memory c.in-Err.ensures.fault

pub returns-in-Ok-clause-no_fault : goal.returns-in-Ok-clause-no_fault
returns-in-Ok-clause-no_fault g c = λ other. c.in-Ok.ensures.work.no_fault (λ err. absurd (cc)) ∙ (c.in_ok-sync_both.ensures.run.ok refl).0

pub returns-in-Err-clause-no_fault : goal.returns-in-Err-clause-no_fault
returns-in-Err-clause-no_fault g c = λ other.
    c.in-Err.ensures.work.no_fault (λ is. other (unread_other c.in-Err.fault c.unread.result c.unread.ensures.disk is)) ∙ (c.in_ok-sync_both.ensures.run.ok refl).0

pub returns-in-Ok-clause-crash : goal.returns-in-Ok-clause-crash
returns-in-Ok-clause-crash g c = λ i left. c.sync_both.ensures.crash i (c.read_bytes.ensures.crash i left)

pub returns-in-Err-clause-crash : goal.returns-in-Err-clause-crash
returns-in-Err-clause-crash g c = λ i left. c.sync_both.ensures.crash i (c.read_bytes.ensures.crash i left)

pub returns-in-Ok-clause-run : goal.returns-in-Ok-clause-run
returns-in-Ok-clause-run g c =
    let old = g.D.Disk.view c.args.disk.now in
    adds_both old.may_leave old (g.D.Disk.view c.sync_both.new.disk) (g.D.Disk.view c.read_bytes.new.disk) c.sync_both.ensures.run.adds c.read_bytes.ensures.run
    (λ i x. x) (λ i x. c.sync_both.ensures.crash i x)

pub returns-in-Err-clause-run : goal.returns-in-Err-clause-run
returns-in-Err-clause-run g c =
    let old = g.D.Disk.view c.args.disk.now in
    adds_both old.may_leave old (g.D.Disk.view c.sync_both.new.disk) (g.D.Disk.view c.read_bytes.new.disk) c.sync_both.ensures.run.adds c.read_bytes.ensures.run
    (λ i x. x) (λ i x. c.sync_both.ensures.crash i x)
