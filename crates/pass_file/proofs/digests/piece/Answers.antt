use Rattle.std.proofs.Common.{◌∙◌}
use Rattle.pass_file.proofs.Pieces.{piece_is}
use Rattle.pass_file.proofs.digests.piece.Goals as goal

pub returns : goal.returns
returns c = c.cut_out.ensures ∙ piece_is c.args.bytes.now c.args.skip c.args.most c.min-first.result c.min-count.result c.min-first.ensures c.min-count.ensures
