use Rattle.std.proofs.Common.{refl, []}
use Rattle.pass_ask.proofs.Streams.{does_none, fed_err, fed_on, fed_then, goes_none}
use Rattle.pass_ask.proofs.following.feed_all.Goals as goal

pub pieces-init : goal.pieces-init
pieces-init g c = (
  [],
  λ told. refl,
  goes_none g.D.Disk.view c.args.standby.now c.requires.going c.requires.leaves,
  does_none g.D.Disk.view c.args.standby.now (λ never. never),
  refl,
)

pub pieces-preserved : goal.pieces-preserved
pieces-preserved g c =
    let fed = fed_on g.D.Disk.view g.S.Source.tells (g.S.Source.left c.args.source.now) (g.S.Source.left c.pieces.source) (g.S.Source.left c.feed_piece.new.source)
    c.args.standby.now c.pieces.standby c.feed_piece.new.standby (g.S.Source.fault_count c.args.source.now) (g.S.Source.fault_count c.pieces.source) (g.S.Source.fault_count c.feed_piece.new.source)
    c.pieces.invariant c.in_ok-feed_piece.ensures.fed in
    (fed.0, fed.1, fed.2.0, fed.3, fed.2.1.0)

pub returns-then-not-branch-clause-fed : goal.returns-then-not-branch-clause-fed
returns-then-not-branch-clause-fed g c =
    fed_on g.D.Disk.view g.S.Source.tells (g.S.Source.left c.args.source.now) (g.S.Source.left c.pieces.source) (g.S.Source.left c.feed_piece.new.source)
    c.args.standby.now c.pieces.standby c.feed_piece.new.standby (g.S.Source.fault_count c.args.source.now) (g.S.Source.fault_count c.pieces.source) (g.S.Source.fault_count c.feed_piece.new.source)
    c.pieces.invariant c.in_ok-feed_piece.ensures.fed

pub returns-in_err-feed_piece-clause-fed : goal.returns-in_err-feed_piece-clause-fed
returns-in_err-feed_piece-clause-fed g c =
    fed_err g.D.Disk.view g.S.Source.tells (g.S.Source.left c.args.source.now) (g.S.Source.left c.feed_piece.new.source) c.args.standby.now c.feed_piece.new.standby
    (g.S.Source.fault_count c.args.source.now) (g.S.Source.fault_count c.feed_piece.new.source) c.feed_piece.result c.from_residual.result c.in_err-feed_piece.field-0.0 c.in_err-feed_piece.was c.from_residual.ensures.1
    (fed_then g.D.Disk.view g.S.Source.tells (g.S.Source.left c.args.source.now) (g.S.Source.left c.pieces.source) (g.S.Source.left c.feed_piece.new.source)
    c.args.standby.now c.pieces.standby c.feed_piece.new.standby (g.S.Source.fault_count c.args.source.now) (g.S.Source.fault_count c.pieces.source) (g.S.Source.fault_count c.feed_piece.new.source)
    c.feed_piece.result c.pieces.invariant c.feed_piece.ensures.fed)
