use Rattle.std.proofs.Common.{rules, ◌≡◌, ◌⊎◌, refl, sym, subst, ap}
use Rattle.std.specs.Prelude.{OnOk, IfErr, IsTrue}
use Rattle.std.proofs.lemmas.Result.{on_ok_weaker}
use Rattle.pass_outside.specs.Moments.{Adds}
use Rattle.pass_outside.specs.Runs.{adds_nothing}
use Rattle.pass_log.specs.Log.{log_end}
use Rattle.pass_log.proofs.Append.{leaves_none}
use Rattle.pass_standby.specs.declared.fault.StandbyFault.TheVariants as faults
use Rattle.pass_standby.specs.declared.frame.Judgement.{Judgement}
use Rattle.pass_standby.specs.declared.frame.Judgement.TheVariants.{Begun, Bad, Whole}
use Rattle.pass_standby.specs.Streams.{Told, judgement, judged, bytes_as, IsBegun, HasFrames}
use Rattle.pass_standby.specs.Standing.{told_so_far, log_to, Reads, Undone}
use Rattle.pass_standby.proofs.Carried.{bytes_none}
use Rattle.pass_standby.proofs.Coming.{begun_is}
use Rattle.pass_standby.proofs.Feeding.{begun_none}
use Rattle.pass_standby.proofs.following.Following.settle.Goals as goal

pub returns-in-Begun-clause-told : goal.returns-in-Begun-clause-told
returns-in-Begun-clause-told g c =
    let f = c.args.self.now in
    let j : judgement (log_end f.log) f.begun.items ≡ Begun = search rules in
    sym (ap (judged (told_so_far f) f.begun.items) j)

pub returns-in-Begun-clause-begun : goal.returns-in-Begun-clause-begun
returns-in-Begun-clause-begun g c =
    let f = c.args.self.now in
    let j : judgement (log_end f.log) f.begun.items ≡ Begun = search rules in
    begun_is (log_end f.log) f.begun.items j

pub returns-in-Begun-clause-any_moment : goal.returns-in-Begun-clause-any_moment
returns-in-Begun-clause-any_moment g c = λ told. adds_nothing _ _

pub returns-in-Begun-clause-store : goal.returns-in-Begun-clause-store
returns-in-Begun-clause-store g c = leaves_none _

pub returns-in-Bad-clause-any_moment : goal.returns-in-Bad-clause-any_moment
returns-in-Bad-clause-any_moment g c = λ told. adds_nothing _ _

pub returns-in-Bad-clause-store : goal.returns-in-Bad-clause-store
returns-in-Bad-clause-store g c = leaves_none _

pub returns-in-Bad-clause-err : goal.returns-in-Bad-clause-err
returns-in-Bad-clause-err g c =
    let f = c.args.self.now in
    let j : judgement (log_end f.log) f.begun.items ≡ Bad = search rules in
    let place : c.end-at.result ≡ log_end f.log = search rules in
    let kept = c.requires.following in
    subst (λ (k : Judgement). Undone g.D.Disk.view (log_to (g.D.Disk.view f.disk) (log_end f.log)) (told_so_far f) f.begun.items (judged (told_so_far f) f.begun.items k) f (faults.BadStream c.end-at.result))
    (sym j) (place, refl, refl, refl, kept.leaves, refl, λ tells. refl)

pub returns-in-Begun-clause-bytes : goal.returns-in-Begun-clause-bytes
returns-in-Begun-clause-bytes g c = λ tells.
    let f = c.args.self.now in
    let j : judgement (log_end f.log) f.begun.items ≡ Begun = search rules in
    sym (bytes_none (log_to (g.D.Disk.view f.disk) (log_end f.log)) (told_so_far f) f.begun.items (judged (told_so_far f) f.begun.items (judgement (log_end f.log) f.begun.items))
    (ap (λ (k : Judgement). (judged (told_so_far f) f.begun.items k).at) j))

pub keep-requires-clause-whole : goal.keep-requires-clause-whole
keep-requires-clause-whole g c =
    let f = c.args.self.now in
    let j : judgement (log_end f.log) f.begun.items ≡ Whole = search rules in
    c.requires.whole j

pub returns-in-Whole-clause-told : goal.returns-in-Whole-clause-told
returns-in-Whole-clause-told g c =
    let f = c.args.self.now in
    let j : judgement (log_end f.log) f.begun.items ≡ Whole = search rules in
    subst (λ (k : Judgement). OnOk c.keep.result (told_so_far c.keep.new.self ≡ judged (told_so_far f) f.begun.items k)) (sym j) c.keep.ensures.told

pub returns-in-Whole-clause-bytes : goal.returns-in-Whole-clause-bytes
returns-in-Whole-clause-bytes g c =
    let f = c.args.self.now in
    let j : judgement (log_end f.log) f.begun.items ≡ Whole = search rules in
    subst (λ (k : Judgement). OnOk c.keep.result (Reads (g.D.Disk.view c.keep.new.self.disk) (log_end c.keep.new.self.log)
    (bytes_as (log_to (g.D.Disk.view f.disk) (log_end f.log)) (told_so_far f) f.begun.items (judged (told_so_far f) f.begun.items k)))) (sym j) c.keep.ensures.bytes

pub returns-in-Whole-clause-begun : goal.returns-in-Whole-clause-begun
returns-in-Whole-clause-begun g c =
    on_ok_weaker c.keep.result (λ none. subst (IsBegun (log_end c.keep.new.self.log)) (sym none) (begun_none (log_end c.keep.new.self.log))) c.keep.ensures.begun

pub returns-in-Whole-clause-err : goal.returns-in-Whole-clause-err
returns-in-Whole-clause-err g c =
    let f = c.args.self.now in
    let j : judgement (log_end f.log) f.begun.items ≡ Whole = search rules in
    subst (λ (k : Judgement). IfErr c.keep.result (Undone g.D.Disk.view (log_to (g.D.Disk.view f.disk) (log_end f.log)) (told_so_far f) f.begun.items (judged (told_so_far f) f.begun.items k) c.keep.new.self))
    (sym j) c.keep.ensures.err

pub returns-in-Whole-clause-any_moment : goal.returns-in-Whole-clause-any_moment
returns-in-Whole-clause-any_moment g c =
    let f = c.args.self.now in
    let j : judgement (log_end f.log) f.begun.items ≡ Whole = search rules in
    subst (λ (k : Judgement). IsTrue (g.D.Disk.view f.disk).tells → Adds (g.D.Disk.view f.disk) (g.D.Disk.view c.keep.new.self.disk)
    (λ i. HasFrames (told_so_far f) (log_to (g.D.Disk.view f.disk) (log_end f.log)) i.log
    ⊎ HasFrames (judged (told_so_far f) f.begun.items k) (bytes_as (log_to (g.D.Disk.view f.disk) (log_end f.log)) (told_so_far f) f.begun.items (judged (told_so_far f) f.begun.items k)) i.log)) (sym j)
    c.keep.ensures.any_moment
