use Rattle.std.proofs.Common.{◌++◌, [], List, refl, sym, subst, append_assoc}
use Rattle.std.proofs.lemmas.Result.{on_ok_weaker}
use Rattle.pass_plain.specs.Legal.{session_of}
use Rattle.pass_leaf.specs.Keeping.{FileVersion}
use Rattle.pass_past.specs.Pasts.{opened_versions, ended_versions, current_versions, versions_of}
use Rattle.pass_past.specs.Keepings.{IsKeeping, IsHalted}
use Rattle.pass_past.proofs.Goings.{stopped_on, err_weaker}
use Rattle.pass_past.proofs.keeping.keep_all.Goals as goal

pub returns-in-Err-clause-stopped : goal.returns-in-Err-clause-stopped
returns-in-Err-clause-stopped g c =
    let s = session_of c.args.start.now 0 in
    let history = c.args.history.now in
    stopped_on g.A.Disk.view c.args.old.now (opened_versions c.args.start.now) (versions_of s history) c.keep_opened.new.old c.in-Err.fault
    (c.in-Err.ensures.stopped c.args.old.now [] c.requires.begun) (ended_versions s history ++ current_versions s history, refl)

pub returns-in-Err-keep_ended-clause-stopped : goal.returns-in-Err-keep_ended-clause-stopped
returns-in-Err-keep_ended-clause-stopped g c =
    let s = session_of c.args.start.now 0 in
    let history = c.args.history.now in
    let opened = opened_versions c.args.start.now in
    let ended = ended_versions s history in
    stopped_on g.A.Disk.view c.args.old.now (opened ++ ended) (versions_of s history) c.keep_ended.new.old c.in-Err-keep_ended.fault
    (c.in-Err-keep_ended.ensures.stopped c.args.old.now opened (c.in_default.ensures.kept c.args.old.now [] c.requires.begun)) (current_versions s history, sym (append_assoc opened ended (current_versions s history)))

pub returns-clause-kept : goal.returns-clause-kept
returns-clause-kept g c =
    let s = session_of c.args.start.now 0 in
    let history = c.args.history.now in
    let opened = opened_versions c.args.start.now in
    let ended = ended_versions s history in
    on_ok_weaker c.keep_current.result (λ kept.
    subst (λ (l : List FileVersion). IsKeeping g.A.Disk.view c.args.old.now l c.keep_current.new.old) (append_assoc opened ended (current_versions s history))
    (kept c.args.old.now (opened ++ ended) history c.in-Ok.ensures.walked (c.in-Ok.ensures.kept c.args.old.now opened (c.in_default.ensures.kept c.args.old.now [] c.requires.begun)))) c.keep_current.ensures.kept

pub returns-clause-stopped : goal.returns-clause-stopped
returns-clause-stopped g c =
    let s = session_of c.args.start.now 0 in
    let history = c.args.history.now in
    let opened = opened_versions c.args.start.now in
    let ended = ended_versions s history in
    err_weaker c.keep_current.result _ _ (λ fault stopped.
    subst (λ (l : List FileVersion). IsHalted g.A.Disk.view c.args.old.now l c.keep_current.new.old fault) (append_assoc opened ended (current_versions s history))
    (stopped c.args.old.now (opened ++ ended) history c.in-Ok.ensures.walked (c.in-Ok.ensures.kept c.args.old.now opened (c.in_default.ensures.kept c.args.old.now [] c.requires.begun)))) c.keep_current.ensures.stopped
