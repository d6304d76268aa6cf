use Rattle.std.proofs.Common.{rules, ◌≡◌, length, refl}
use Rattle.std.proofs.lemmas.List.{take_rest}
use Rattle.pass_standby.proofs.Feeding.{feeding_none, feeding_more, feeding_done, bytes_done, moments_on, store_on, work_on, ends_on}
use Rattle.pass_standby.specs.declared.fault.StandbyFault.TheVariants as faults
use Rattle.pass_standby.proofs.Keeping.{work_as, work_err}
use Rattle.pass_standby.proofs.following.Following.feed.Goals as goal

pub loop-rest-init : goal.loop-rest-init
loop-rest-init g c = feeding_none g.D.Disk.view c.args.piece.now c.args.self.now c.requires.following c.requires.begun

pub returns-in-Err-clause-err : goal.returns-in-Err-clause-err
returns-in-Err-clause-err g c =
    ends_on g.D.Disk.view c.args.piece.now c.loop-rest.rest.now c.args.self.now c.loop-rest.self c.loop-rest.invariant c.take.new.self c.in-Err.fault c.take.ensures.work.tells
    c.in-Err.ensures.err

pub returns-in-Err-clause-any_moment : goal.returns-in-Err-clause-any_moment
returns-in-Err-clause-any_moment g c = λ told.
    moments_on g.D.Disk.view c.args.piece.now c.loop-rest.rest.now c.args.self.now c.loop-rest.self c.loop-rest.invariant c.take.new.self told c.take.ensures.any_moment

pub returns-in-Err-clause-store : goal.returns-in-Err-clause-store
returns-in-Err-clause-store g c =
    store_on g.D.Disk.view c.args.piece.now c.loop-rest.rest.now c.args.self.now c.loop-rest.self c.loop-rest.invariant c.take.new.self c.take.ensures.store

pub returns-in-Err-clause-work : goal.returns-in-Err-clause-work
returns-in-Err-clause-work g c =
    work_on g.D.Disk.view c.args.piece.now c.loop-rest.rest.now c.args.self.now c.loop-rest.self c.loop-rest.invariant c.take.new.self
    (work_err _ _ c.in-Err.fault faults.DiskFault _ _ refl refl c.in-Err.ensures.work)

pub loop-rest-preserved : goal.loop-rest-preserved
loop-rest-preserved g c =
    let e = c.in-Ok.ensures in
    feeding_more g.D.Disk.view c.args.piece.now c.loop-rest.rest.now c.args.self.now c.loop-rest.self c.loop-rest.invariant c.take.new.self c.in-Ok.used _
    (take_rest c.loop-rest.rest.now c.in-Ok.used) e.told e.following e.begun e.bytes e.any_moment e.store e.work (λ err. absurd (cc))

pub returns-clause-told : goal.returns-clause-told
returns-clause-told g c =
    let none : length c.loop-rest.rest.now ≡ 0 = search rules in
    feeding_done g.D.Disk.view c.args.piece.now c.loop-rest.rest.now c.args.self.now c.loop-rest.self c.loop-rest.invariant none

pub returns-clause-bytes : goal.returns-clause-bytes
returns-clause-bytes g c =
    let none : length c.loop-rest.rest.now ≡ 0 = search rules in
    bytes_done g.D.Disk.view c.args.piece.now c.loop-rest.rest.now c.args.self.now c.loop-rest.self c.loop-rest.invariant none

pub returns-clause-work : goal.returns-clause-work
returns-clause-work g c = work_as _ _ c.loop-rest.invariant.work (λ never. never) (λ err. absurd (cc))
