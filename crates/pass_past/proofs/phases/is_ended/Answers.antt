use Rattle.std.proofs.Common.{Bool, ◌&&◌, ap}
use Rattle.pass_past.proofs.phases.is_ended.Goals as goal

pub returns : goal.returns
returns c = λ start history are. ap (λ (b : Bool). b && c.args.freezes) (c.is_file-file.ensures start history are)
