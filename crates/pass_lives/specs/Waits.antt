-- Which of the two waits for a child: the call, and the acts by which child and process make it.
use Rattle.std.specs.Prelude.{ℕ}
use Rattle.pass_entry.specs.declared.entry.Act.{Act}
use Rattle.pass_entry.specs.declared.entry.Act.TheVariants as act
use Rattle.pass_plain.specs.declared.request.Request.{Request}
use Rattle.pass_plain.specs.declared.request.Request.TheVariants as requests
use Rattle.pass_lives.specs.declared.waiting.ChildWait.{ChildWait}
use Rattle.pass_lives.specs.declared.waiting.ChildWait.TheVariants as kinds

abbrev pub request_of : ChildWait → ℕ → Request
request_of kinds.Taking child = requests.WaitChild child
request_of kinds.Quiet child = requests.Await child

abbrev pub shown_by : ChildWait → Act
shown_by kinds.Taking = act.Reap
shown_by kinds.Quiet = act.Ended

-- the act of the process, by the place of the child's
abbrev pub let_go_by : ChildWait → ℕ → ℕ → Act
let_go_by kinds.Taking out child = act.Gather out child
let_go_by kinds.Quiet out child = act.Release child
