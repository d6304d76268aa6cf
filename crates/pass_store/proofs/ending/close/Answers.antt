use Rattle.std.proofs.Common.{sym, subst}
use Rattle.pass_store.proofs.Closing.{closes, settles}
use Rattle.pass_store.specs.Closings.{IsClosed, IsSettled, story_at}
use Rattle.pass_store.proofs.ending.close.Goals as goal

pub returns-clause-closed : goal.returns-clause-closed
returns-clause-closed g c =
    let J = g.J.Whose in
    let v = c.args.vault in
    let e = c.images.ensures in
    let syncs = c.into_disk-disk.result.1.items in
    subst (λ d. IsClosed (story_at J.book g.J.Opening.ground c.args.history.items) g.J.Opening.ground.ready (g.D.Disk.view d) syncs) (sym c.into_disk-disk.ensures.disk)
    (closes v J.book g.J.Opening.ground c.args.history.items c.requires.book c.requires.ground c.requires.whole (g.D.Disk.view v.disk) e.begun e.ready e.late e.opened e.since e.matched e.timed c.requires.backed
    c.durable.ensures.numbered syncs c.into_disk-disk.ensures.syncs)

pub returns-clause-settled : goal.returns-clause-settled
returns-clause-settled g c = λ r ends all written clean.
    let J = g.J.Whose in
    let v = c.args.vault in
    let e = c.images.ensures in
    let syncs = c.into_disk-disk.result.1.items in
    subst (λ d. IsSettled (story_at J.book g.J.Opening.ground c.args.history.items) (g.D.Disk.view d) syncs r) (sym c.into_disk-disk.ensures.disk)
    (settles v J.book g.J.Opening.ground c.args.history.items c.requires.book c.requires.ground c.requires.whole (g.D.Disk.view v.disk) (λ t u i le left. g.met.D.Disk.counts_more v.disk t u i le left)
    e.timed c.durable.ensures.counted (λ tells written. e.landed tells written) e.since e.settled syncs c.into_disk-disk.ensures.syncs r ends all written clean)
