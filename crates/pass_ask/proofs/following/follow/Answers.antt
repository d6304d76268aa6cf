use Rattle.std.proofs.Common.{ℕ, refl, ◌∙◌, ap}
use Rattle.pass_ask.specs.Follows.{status_of_standby}
use Rattle.pass_ask.proofs.Streams.{stream_judged, stream_on_disk, unopened_judged, unopened_on_disk}
use Rattle.pass_ask.proofs.following.follow.Goals as goal

pub returns-in-Ok-clause-judged : goal.returns-in-Ok-clause-judged
returns-in-Ok-clause-judged g c =
    stream_judged g.D.Disk.view g.S.Source.tells (g.S.Source.left c.args.source.now) (g.S.Source.left c.follow_on.new.source) c.args.disk c.follow_on.result.disk c.in-Ok.standby
    (g.S.Source.fault_count c.args.source.now) (g.S.Source.fault_count c.follow_on.new.source) c.faults-opened.result c.follow_on.result.judged.status c.follow_on.result.judged.text.items
    c.in-Ok.ensures.good c.in-Ok.ensures.begun c.in-Ok.ensures.work c.in-Ok.ensures.any_moment c.in-Ok.ensures.store c.in-Ok.ensures.bytes c.faults-opened.ensures c.follow_on.ensures

pub returns-in-Ok-clause-on_disk : goal.returns-in-Ok-clause-on_disk
returns-in-Ok-clause-on_disk g c =
    stream_on_disk g.D.Disk.view g.S.Source.tells (g.S.Source.left c.args.source.now) (g.S.Source.left c.follow_on.new.source) c.args.disk c.follow_on.result.disk c.in-Ok.standby
    (g.S.Source.fault_count c.args.source.now) (g.S.Source.fault_count c.follow_on.new.source) c.faults-opened.result c.follow_on.result.judged.status c.follow_on.result.judged.text.items
    c.in-Ok.ensures.good c.in-Ok.ensures.begun c.in-Ok.ensures.work c.in-Ok.ensures.any_moment c.in-Ok.ensures.store c.in-Ok.ensures.bytes c.faults-opened.ensures c.follow_on.ensures

pub returns-in-Err-clause-judged : goal.returns-in-Err-clause-judged
returns-in-Err-clause-judged g c =
    let old = g.D.Disk.view c.args.disk in
    unopened_judged g.D.Disk.view g.S.Source.tells (g.S.Source.left c.args.source.now) (g.S.Source.left c.args.source.now) c.args.disk c.in-Err.disk
    (g.S.Source.fault_count c.args.source.now) (g.S.Source.fault_count c.args.source.now) 0 c.in-Err.fault c.refused.result.status c.refused.result.text.items
    c.in-Err.ensures.cause c.in-Err.ensures.failed_work c.in-Err.ensures.failed_moment c.in-Err.ensures.failed_store refl refl
    (c.refused.ensures ∙ c.standby_status-status.ensures ∙ ap (λ (n : ℕ). status_of_standby n c.faults.result c.in-Err.fault) c.faults-opened.ensures
    ∙ ap (λ (n : ℕ). status_of_standby old.faults n c.in-Err.fault) c.faults.ensures)

pub returns-in-Err-clause-on_disk : goal.returns-in-Err-clause-on_disk
returns-in-Err-clause-on_disk g c =
    let old = g.D.Disk.view c.args.disk in
    unopened_on_disk g.D.Disk.view g.S.Source.tells (g.S.Source.left c.args.source.now) (g.S.Source.left c.args.source.now) c.args.disk c.in-Err.disk
    (g.S.Source.fault_count c.args.source.now) (g.S.Source.fault_count c.args.source.now) 0 c.in-Err.fault c.refused.result.status c.refused.result.text.items
    c.in-Err.ensures.cause c.in-Err.ensures.failed_work c.in-Err.ensures.failed_moment c.in-Err.ensures.failed_store refl refl
    (c.refused.ensures ∙ c.standby_status-status.ensures ∙ ap (λ (n : ℕ). status_of_standby n c.faults.result c.in-Err.fault) c.faults-opened.ensures
    ∙ ap (λ (n : ℕ). status_of_standby old.faults n c.in-Err.fault) c.faults.ensures)
