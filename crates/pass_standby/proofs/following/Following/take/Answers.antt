use Rattle.std.proofs.Common.{refl, sym, ◌∙◌, subst, ◌⊎◌, List, ℕ, take, ◌++◌, arith}
use Rattle.pass_outside.specs.Runs.{adds_nothing, adds_weaker}
use Rattle.pass_log.specs.Log.{log_end}
use Rattle.pass_log.proofs.Append.{leaves_none}
use Rattle.pass_standby.specs.declared.fault.StandbyFault.TheVariants as faults
use Rattle.pass_standby.specs.Streams.{Told, judged, judgement, HasFrames, HasSomeFrames, bytes_as}
use Rattle.pass_standby.specs.Standing.{told_so_far, log_to}
use Rattle.pass_standby.proofs.Feeding.{taken_so, bytes_so, undone_so, before_so, whole_so, some_so, used_within, used_some, undone_ends, starves_none, some_of_both}
use Rattle.pass_standby.proofs.Keeping.{work_none, work_as, work_err}
use Rattle.pass_standby.proofs.following.Following.take.Goals as goal

pub returns-in_default-clause-err : goal.returns-in_default-clause-err
returns-in_default-clause-err g c =
    let f = c.args.self.now in
    let t = told_so_far f in
    starves_none g.D.Disk.view (log_to (g.D.Disk.view f.disk) (log_end f.log)) t t c.args.piece.now 0 refl (omega arith) refl f.index (log_end f.log) refl refl

pub returns-in_default-clause-any_moment : goal.returns-in_default-clause-any_moment
returns-in_default-clause-any_moment g c = λ told. adds_nothing _ _

pub returns-in_default-clause-store : goal.returns-in_default-clause-store
returns-in_default-clause-store g c = leaves_none _

pub settle-requires-clause-some : goal.settle-requires-clause-some
settle-requires-clause-some g c =
    let f = c.args.self.now in
    some_so (log_end f.log) f.begun.items c.gather.new.frame.items c.args.piece.now c.in-Ok.used c.requires.begun c.in-Ok.ensures.count c.requires.some c.in-Ok.ensures.bytes

pub settle-requires-clause-whole : goal.settle-requires-clause-whole
settle-requires-clause-whole g c = λ whole.
    let f = c.args.self.now in
    whole_so (log_end f.log) f.begun.items c.gather.new.frame.items c.args.piece.now c.in-Ok.used c.requires.begun c.in-Ok.ensures.count c.requires.some c.in-Ok.ensures.bytes whole

pub returns-in-Err-clause-err : goal.returns-in-Err-clause-err
returns-in-Err-clause-err g c =
    let f = c.args.self.now in
    let t = told_so_far f in
    let begun = c.gather.new.frame.items in
    let piece = c.args.piece.now in
    let within = used_within f.begun.items piece (log_end f.log) c.in-Ok.used c.requires.begun c.in-Ok.ensures.count c.requires.some in
    let is = taken_so t begun piece c.in-Ok.used refl c.requires.begun c.in-Ok.ensures.count c.requires.some c.in-Ok.ensures.bytes in
    let some = used_some f.begun.items piece (log_end f.log) c.in-Ok.used c.requires.begun c.in-Ok.ensures.count c.requires.some in
    let before = before_so t piece c.in-Ok.used refl c.requires.begun c.in-Ok.ensures.count c.requires.some in
    let kept = log_to (g.D.Disk.view f.disk) (log_end f.log) in
    let u : Told = judged (record t { begun = begun }) begun (judgement (log_end f.log) begun) in
    undone_ends g.D.Disk.view kept t u piece c.in-Ok.used refl within is c.settle.new.self c.in-Err.fault some _ before
    (undone_so g.D.Disk.view kept t begun (f.begun.items ++ take c.in-Ok.used piece) u c.settle.new.self c.in-Err.fault c.in-Ok.ensures.bytes c.in-Err.ensures.err)

pub returns-in-Err-clause-any_moment : goal.returns-in-Err-clause-any_moment
returns-in-Err-clause-any_moment g c = λ told.
    let f = c.args.self.now in
    let t = told_so_far f in
    let begun = c.gather.new.frame.items in
    let piece = c.args.piece.now in
    let within = used_within f.begun.items piece (log_end f.log) c.in-Ok.used c.requires.begun c.in-Ok.ensures.count c.requires.some in
    let is = taken_so t begun piece c.in-Ok.used refl c.requires.begun c.in-Ok.ensures.count c.requires.some c.in-Ok.ensures.bytes in
    let kept = log_to (g.D.Disk.view f.disk) (log_end f.log) in
    let u : Told = judged (record t { begun = begun }) begun (judgement (log_end f.log) begun) in
    adds_weaker (λ i. HasSomeFrames kept t piece i.log) (g.D.Disk.view f.disk) (g.D.Disk.view c.settle.new.self.disk) (c.settle.ensures.any_moment told)
    (λ i x. some_of_both g.D.Disk.view kept t u piece c.in-Ok.used refl within is i.log
    (subst (λ (l : List ℕ). HasFrames t kept i.log ⊎ HasFrames u (bytes_as kept t l u) i.log) c.in-Ok.ensures.bytes x))

pub returns-clause-within : goal.returns-clause-within
returns-clause-within g c =
    let f = c.args.self.now in (
      used_some f.begun.items c.args.piece.now (log_end f.log) c.in-Ok.used c.requires.begun c.in-Ok.ensures.count c.requires.some,
      used_within f.begun.items c.args.piece.now (log_end f.log) c.in-Ok.used c.requires.begun c.in-Ok.ensures.count c.requires.some,
    )

pub returns-clause-told : goal.returns-clause-told
returns-clause-told g c =
    let t = told_so_far c.args.self.now in
    c.in_default-settle.ensures.told
    ∙ sym (taken_so t c.gather.new.frame.items c.args.piece.now c.in-Ok.used refl c.requires.begun c.in-Ok.ensures.count c.requires.some c.in-Ok.ensures.bytes)

pub returns-clause-bytes : goal.returns-clause-bytes
returns-clause-bytes g c = λ tells.
    let f = c.args.self.now in
    let t = told_so_far f in
    let begun = c.gather.new.frame.items in
    let piece = c.args.piece.now in
    c.in_default-settle.ensures.bytes tells
    ∙ bytes_so (log_to (g.D.Disk.view f.disk) (log_end f.log)) t begun piece c.in-Ok.used _ c.in-Ok.ensures.bytes
    (taken_so t begun piece c.in-Ok.used refl c.requires.begun c.in-Ok.ensures.count c.requires.some c.in-Ok.ensures.bytes)

pub returns-clause-any_moment : goal.returns-clause-any_moment
returns-clause-any_moment g c = λ told.
    let f = c.args.self.now in
    let t = told_so_far f in
    let begun = c.gather.new.frame.items in
    let piece = c.args.piece.now in
    let within = used_within f.begun.items piece (log_end f.log) c.in-Ok.used c.requires.begun c.in-Ok.ensures.count c.requires.some in
    let is = taken_so t begun piece c.in-Ok.used refl c.requires.begun c.in-Ok.ensures.count c.requires.some c.in-Ok.ensures.bytes in
    let kept = log_to (g.D.Disk.view f.disk) (log_end f.log) in
    let u : Told = judged (record t { begun = begun }) begun (judgement (log_end f.log) begun) in
    adds_weaker (λ i. HasSomeFrames kept t piece i.log) (g.D.Disk.view f.disk) (g.D.Disk.view c.settle.new.self.disk) (c.settle.ensures.any_moment told)
    (λ i x. some_of_both g.D.Disk.view kept t u piece c.in-Ok.used refl within is i.log
    (subst (λ (l : List ℕ). HasFrames t kept i.log ⊎ HasFrames u (bytes_as kept t l u) i.log) c.in-Ok.ensures.bytes x))

pub returns-in_default-clause-work : goal.returns-in_default-clause-work
returns-in_default-clause-work g c = work_none _ (λ err. absurd (cc))

pub returns-in-Err-clause-work : goal.returns-in-Err-clause-work
returns-in-Err-clause-work g c = work_err _ _ c.in-Err.fault faults.DiskFault _ _ refl refl c.in-Err.ensures.work

pub returns-clause-work : goal.returns-clause-work
returns-clause-work g c = work_as _ _ c.in_default-settle.ensures.work (λ err. absurd (cc)) (λ err. absurd (cc))
