use Rattle.std.proofs.Common.{◌≡◌, ◌++◌, List, [], ℕ, length, inl, inr, ⊎_elim, refl, sym, subst, ◌∙◌, ap, drop, arith}
use Rattle.std.specs.Prelude.{None}
use Rattle.pass_entry.specs.declared.record.Record.{Record}
use Rattle.pass_graph.specs.declared.logged.Logged.{Logged}
use Rattle.pass_outside.specs.Runs.{adds_nothing}
use Rattle.pass_standby.specs.declared.frame.Judgement.TheVariants.{Whole}
use Rattle.pass_standby.specs.Logs.{IsBatch}
use Rattle.pass_standby.specs.Streams.{head, batch_in, judged}
use Rattle.pass_log.specs.Log.{log_end}
use Rattle.pass_standby.specs.Standing.{told_so_far, log_to, IsKept}
use Rattle.pass_standby.proofs.Keeping.{IsNotRead, work_none, work_as, moments_with, stopped_with, kept_with, frame_kept, told_with, undone_with, undone_before, undone_unread, unread_no_fault}
use Rattle.pass_standby.proofs.following.Following.keep.Goals as goal
use Rattle.pass_log.proofs.Append.{leaves_none}

pub returns-in-Err-clause-err : goal.returns-in-Err-clause-err
returns-in-Err-clause-err g c =
    let old = c.args.self.now in
    let unread : IsNotRead old c.end-at.result c.in-Err.fault =
    ⊎_elim (λ memory. inl memory) (λ bad. inr (bad.0, subst (λ (l : List ℕ). batch_in old.index (drop head l) ≡ None) c.deref.ensures.value (bad.1 old.index c.requires.following.says))) c.in-Err.ensures.fault in
    undone_unread g.D.Disk.view old (record old { judge = c.read_whole.new.judge }) c.end-at.result c.in-Err.fault c.requires.following c.end-at.ensures unread refl refl refl

pub returns-in-Err-clause-any_moment : goal.returns-in-Err-clause-any_moment
returns-in-Err-clause-any_moment g c = λ told. adds_nothing _ _

pub returns-in-Err-clause-store : goal.returns-in-Err-clause-store
returns-in-Err-clause-store g c = leaves_none _

pub returns-in-Err-clause-work : goal.returns-in-Err-clause-work
returns-in-Err-clause-work g c =
    let old = c.args.self.now in
    let unread : IsNotRead old c.end-at.result c.in-Err.fault =
    ⊎_elim (λ memory. inl memory) (λ bad. inr (bad.0, subst (λ (l : List ℕ). batch_in old.index (drop head l) ≡ None) c.deref.ensures.value (bad.1 old.index c.requires.following.says))) c.in-Err.ensures.fault in
    work_none _ (unread_no_fault old c.end-at.result c.in-Err.fault unread _ refl)

pub returns-in-Err-append-clause-err : goal.returns-in-Err-append-clause-err
returns-in-Err-append-clause-err g c =
    let old = c.args.self.now in
    let b : IsBatch old.index (drop head old.begun.items) [] c.in-Ok.batch.items c.read_whole.new.judge =
    subst (λ (l : List ℕ). IsBatch old.index (drop head l) [] c.in-Ok.batch.items c.read_whole.new.judge) c.deref.ensures.value (c.in-Ok.ensures.batch old.index c.requires.following.says) in
    undone_before g.D.Disk.view (log_to (g.D.Disk.view old.disk) (log_end old.log)) (told_so_far old) old.begun.items (judged (told_so_far old) old.begun.items Whole) c.append.new.self c.in-Err-append.fault c.in-Err-append.ensures.fault
    c.append.ensures.index c.in-Err-append.ensures.same_end
    (λ disk. stopped_with g.D.Disk.view old c.requires.following c.requires.whole c.requires.spelled c.in-Ok.batch.items c.read_whole.new.judge b (g.D.Disk.view c.append.new.self.disk)
    c.append.ensures.work.tells c.calls-calls.ensures.now (λ i may later. g.met.D.Disk.counts_now c.append.new.self.disk (g.D.Disk.view old.disk).calls i later may) c.append.ensures.any_moment)

pub returns-in-Err-append-clause-any_moment : goal.returns-in-Err-append-clause-any_moment
returns-in-Err-append-clause-any_moment g c = λ told.
    let old = c.args.self.now in
    let b : IsBatch old.index (drop head old.begun.items) [] c.in-Ok.batch.items c.read_whole.new.judge =
    subst (λ (l : List ℕ). IsBatch old.index (drop head l) [] c.in-Ok.batch.items c.read_whole.new.judge) c.deref.ensures.value (c.in-Ok.ensures.batch old.index c.requires.following.says) in
    moments_with g.D.Disk.view old c.requires.following c.requires.whole c.requires.spelled c.in-Ok.batch.items c.read_whole.new.judge b (g.D.Disk.view c.append.new.self.disk) told c.append.ensures.any_moment

pub returns-in-Err-index_all-clause-err : goal.returns-in-Err-index_all-clause-err
returns-in-Err-index_all-clause-err g c =
    let old = c.args.self.now in
    let b : IsBatch old.index (drop head old.begun.items) [] c.in-Ok.batch.items c.read_whole.new.judge =
    subst (λ (l : List ℕ). IsBatch old.index (drop head l) [] c.in-Ok.batch.items c.read_whole.new.judge) c.deref.ensures.value (c.in-Ok.ensures.batch old.index c.requires.following.says) in
    let lacks = c.in-Err-index_all.ensures.err in
    let put : c.index_all.new.index ++ lacks.0 ≡ old.index ++ c.in-Ok.batch.items =
    lacks.1 ∙ ap (λ (l : List Record). l ++ c.deref-2.result.now) c.append.ensures.index ∙ ap (λ (l : List Record). old.index ++ l) c.deref-2.ensures.value in
    undone_with g.D.Disk.view old c.requires.following c.requires.whole c.requires.spelled c.in-Ok.batch.items c.read_whole.new.judge b c.append.new.self.disk c.append.new.self.log c.in_default.ensures.end
    c.index_all.new.index lacks.0 put (omega (arith, c.index_all.ensures.least, ap length c.append.ensures.index))

pub returns-in-Err-index_all-clause-any_moment : goal.returns-in-Err-index_all-clause-any_moment
returns-in-Err-index_all-clause-any_moment g c = λ told.
    let old = c.args.self.now in
    let b : IsBatch old.index (drop head old.begun.items) [] c.in-Ok.batch.items c.read_whole.new.judge =
    subst (λ (l : List ℕ). IsBatch old.index (drop head l) [] c.in-Ok.batch.items c.read_whole.new.judge) c.deref.ensures.value (c.in-Ok.ensures.batch old.index c.requires.following.says) in
    moments_with g.D.Disk.view old c.requires.following c.requires.whole c.requires.spelled c.in-Ok.batch.items c.read_whole.new.judge b (g.D.Disk.view c.append.new.self.disk) told c.append.ensures.any_moment

pub returns-in-Err-index_all-clause-work : goal.returns-in-Err-index_all-clause-work
returns-in-Err-index_all-clause-work g c = work_as _ _ c.in_default.ensures.work (λ err. absurd (cc)) (λ err. absurd (cc))

pub returns-clause-told : goal.returns-clause-told
returns-clause-told g c =
    let old = c.args.self.now in
    let b : IsBatch old.index (drop head old.begun.items) [] c.in-Ok.batch.items c.read_whole.new.judge =
    subst (λ (l : List ℕ). IsBatch old.index (drop head l) [] c.in-Ok.batch.items c.read_whole.new.judge) c.deref.ensures.value (c.in-Ok.ensures.batch old.index c.requires.following.says) in
    let put : c.index_all.new.index ≡ old.index ++ c.in-Ok.batch.items =
    c.in_default-index_all.ensures.ok ∙ ap (λ (l : List Record). l ++ c.deref-2.result.now) c.append.ensures.index ∙ ap (λ (l : List Record). old.index ++ l) c.deref-2.ensures.value in
    told_with g.D.Disk.view old c.requires.following c.requires.whole c.requires.spelled c.in-Ok.batch.items c.read_whole.new.judge b c.append.new.self.disk c.append.new.self.log c.in_default.ensures.end
    c.index_all.new.index put c.append.new.self.begun.items c.in_default.ensures.begun

pub returns-clause-following : goal.returns-clause-following
returns-clause-following g c =
    let old = c.args.self.now in
    let b : IsBatch old.index (drop head old.begun.items) [] c.in-Ok.batch.items c.read_whole.new.judge =
    subst (λ (l : List ℕ). IsBatch old.index (drop head l) [] c.in-Ok.batch.items c.read_whole.new.judge) c.deref.ensures.value (c.in-Ok.ensures.batch old.index c.requires.following.says) in
    let put : c.index_all.new.index ≡ old.index ++ c.in-Ok.batch.items =
    c.in_default-index_all.ensures.ok ∙ ap (λ (l : List Record). l ++ c.deref-2.result.now) c.append.ensures.index ∙ ap (λ (l : List Record). old.index ++ l) c.deref-2.ensures.value in
    subst (λ (j : Logged). IsKept (g.D.Disk.view c.append.new.self.disk) c.append.new.self.log c.index_all.new.index j) (sym c.append.ensures.judge)
    (kept_with g.D.Disk.view old c.requires.following c.requires.whole c.requires.spelled c.in-Ok.batch.items c.read_whole.new.judge b c.append.new.self.disk c.append.new.self.log c.in_default.ensures.end
    c.index_all.new.index put c.append.ensures.settled c.in_default.ensures.healthy c.append.ensures.work.tells c.in_default.ensures.leaves c.in_default.ensures.reads c.in_default.ensures.durable)

pub returns-clause-bytes : goal.returns-clause-bytes
returns-clause-bytes g c =
    let old = c.args.self.now in
    let b : IsBatch old.index (drop head old.begun.items) [] c.in-Ok.batch.items c.read_whole.new.judge =
    subst (λ (l : List ℕ). IsBatch old.index (drop head l) [] c.in-Ok.batch.items c.read_whole.new.judge) c.deref.ensures.value (c.in-Ok.ensures.batch old.index c.requires.following.says) in
    frame_kept g.D.Disk.view old c.requires.following c.requires.whole c.requires.spelled c.in-Ok.batch.items c.read_whole.new.judge b c.append.new.self.disk c.append.new.self.log c.in_default.ensures.end
    c.index_all.new.index c.append.ensures.work.tells c.in_default.ensures.bytes

pub returns-clause-any_moment : goal.returns-clause-any_moment
returns-clause-any_moment g c = λ told.
    let old = c.args.self.now in
    let b : IsBatch old.index (drop head old.begun.items) [] c.in-Ok.batch.items c.read_whole.new.judge =
    subst (λ (l : List ℕ). IsBatch old.index (drop head l) [] c.in-Ok.batch.items c.read_whole.new.judge) c.deref.ensures.value (c.in-Ok.ensures.batch old.index c.requires.following.says) in
    moments_with g.D.Disk.view old c.requires.following c.requires.whole c.requires.spelled c.in-Ok.batch.items c.read_whole.new.judge b (g.D.Disk.view c.append.new.self.disk) told c.append.ensures.any_moment

pub returns-clause-work : goal.returns-clause-work
returns-clause-work g c = work_as _ _ c.in_default.ensures.work (λ err. absurd (cc)) (λ err. absurd (cc))
