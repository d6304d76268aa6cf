use Rattle.pass_log.proofs.Batches.{acknowledges, reads_both, old_or_both, old_or_more}
use Rattle.pass_log.proofs.log.Log.append_frame.Goals as goal

pub returns-clause-acknowledged : goal.returns-clause-acknowledged
returns-clause-acknowledged g c =
    acknowledges c.written_is_read.ensures c.spelling_length.ensures (g.D.Disk.view c.args.disk.now) (g.D.Disk.view c.write_frame.new.disk) c.args.frame.now c.write_frame.result c.write_frame.ensures.acknowledged

pub returns-clause-reads : goal.returns-clause-reads
returns-clause-reads g c =
    reads_both c.written_is_read.ensures c.spelling_length.ensures (g.D.Disk.view c.args.disk.now) (g.D.Disk.view c.write_frame.new.disk) c.args.frame.now c.write_frame.result c.write_frame.ensures.reads

pub returns-clause-any_moment : goal.returns-clause-any_moment
returns-clause-any_moment g c = λ batch is tells.
    old_or_both c.written_is_read.ensures c.spelling_length.ensures (g.D.Disk.view c.args.disk.now) (g.D.Disk.view c.write_frame.new.disk) c.args.frame.now c.args.self.now.end batch is (c.write_frame.ensures.any_moment tells)

pub returns-clause-frame_moment : goal.returns-clause-frame_moment
returns-clause-frame_moment g c = λ batch is tells.
    old_or_more c.written_is_read.ensures c.spelling_length.ensures (g.D.Disk.view c.args.disk.now) (g.D.Disk.view c.write_frame.new.disk) c.args.frame.now c.args.self.now.end batch is (c.write_frame.ensures.any_moment tells)
