use Rattle.std.proofs.Common.{arith, subst, sym}
use Rattle.pass_trace.specs.TraceLines.{plain_trace}
use Rattle.pass_walk.specs.declared.walker.Walker.{Walker}
use Rattle.pass_walk.specs.Walkers.{WalkerWent}
use Rattle.pass_turns.proofs.task.walk_out.Goals as goal
use Rattle.pass_turns.proofs.TaskTurns.{kid_fits}

pub bear-requires-clause-room : goal.bear-requires-clause-room
bear-requires-clause-room g c =
    let session = g.J.Whose.book.session in
    let places = g.J.Whose.places in
    let lines = c.args.ground.now.plan.now in
    let fits = kid_fits session places lines c.args.walker.now c.go-after.result (subst (λ v. WalkerWent session places (plain_trace lines) v c.go-after.result) c.replace-taken.ensures.value c.go-after.ensures) in
    let room = c.requires.room in
    omega (arith, fits, room)

pub returns-clause-went : goal.returns-clause-went
returns-clause-went g c =
    let session = g.J.Whose.book.session in
    let places = g.J.Whose.places in
    let trace = plain_trace c.args.ground.now.plan.now in
    let Went_as : Walker g.row.J.Denot → Type 0 = λ v. WalkerWent session places trace c.args.walker.now (record { walker = v; answer = c.go-after.result.answer; kid = c.go-after.result.kid }) in (
      c.go-after.result.kid,
      subst Went_as (sym c.replace.ensures.after) (subst (λ v. WalkerWent session places trace v c.go-after.result) c.replace-taken.ensures.value c.go-after.ensures),
      c.bear.ensures.born,
    )
