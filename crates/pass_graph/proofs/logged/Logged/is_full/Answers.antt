use Rattle.std.proofs.Common.{ap}
use Rattle.std.specs.Prelude.{nat_le}
use Rattle.pass_graph.proofs.logged.Logged.is_full.Goals as goal

pub returns-in-App : goal.returns-in-App
returns-in-App c = λ list s. rw c.in-App.is (ap (nat_le 1024) s.apps)
