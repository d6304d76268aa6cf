use Rattle.std.proofs.Common.{arith}
use Rattle.pass_flow.proofs.Flowing.{flow_fits, flow_replies}
use Rattle.pass_file.proofs.Quiet.{flow_end}
use Rattle.pass_file.proofs.desk.FileDeskVersioned.enter_flow.Goals as goal

pub enter-requires-clause-act : goal.enter-requires-clause-act
enter-requires-clause-act g c = flow_fits c.args.entry.act c.requires.act

pub enter-requires-clause-replies : goal.enter-requires-clause-replies
enter-requires-clause-replies g c = flow_replies g.J.Whose.book.session c.args.self.now.seen c.args.entry c.requires.act c.requires.done

pub enter-requires-clause-room : goal.enter-requires-clause-room
enter-requires-clause-room g c = let z = flow_end c.args.entry.act c.requires.act in omega (arith, z)
