use Rattle.pass_cli.proofs.Completed.{ends, writes}
use Rattle.pass_cli.proofs.laws.complete.Goals as goal

pub returns : goal.returns
returns g c = λ scale source sink old new out answered a traced same more clean taken. (
  ends g.D.Disk.view scale source sink old new out answered a traced same more clean taken,
  writes g.D.Disk.view scale source sink old new out answered a traced same more clean taken,
)
