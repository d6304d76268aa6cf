use Rattle.std.proofs.Common.{Bool, refl}
use Rattle.pass_ask.proofs.Streams.{given_parts, piece_refused}
use Rattle.pass_ask.proofs.following.feed_piece.Goals as goal

pub returns-in-Err-clause-fed : goal.returns-in-Err-clause-fed
returns-in-Err-clause-fed g c =
    piece_refused Bool g.D.Disk.view g.S.Source.tells (g.S.Source.left c.args.source.now) (g.S.Source.left c.read.new.self) c.args.standby.now c.feed.new.self
    (g.S.Source.fault_count c.args.source.now) (g.S.Source.fault_count c.read.new.self) _ c.feed.result
    (λ told. given_parts _ _ _ c.read.new.into c.in_ok-count.count (c.in_ok-count.ensures.available told) (c.in_ok-count.ensures.moved told) (c.in_ok-count.ensures.rest told))
    (c.in_ok-count.ensures.faults.ok refl) c.feed.ensures.any_moment c.feed.ensures.store c.feed.ensures.work c.in-Err.fault c.in-Err.is (c.in-Err.ensures.ended c.requires.going)
