use Rattle.std.proofs.lemmas.List.Sorted.{sum_by-IsPermutation}
use Rattle.pass_turns.specs.Tasks.{task_room}
use Rattle.pass_turns.proofs.Passing.{perm_tasks}
use Rattle.pass_turns.proofs.passes.go_on.Goals as goal

pub returns-then-is_err-clause-tasks : goal.returns-then-is_err-clause-tasks
returns-then-is_err-clause-tasks g c lines first are = perm_tasks lines first c.args.crew.now c.put_aside.new.self c.put_aside.ensures are

pub returns-clause-tasks : goal.returns-clause-tasks
returns-clause-tasks g c lines first are = perm_tasks lines first c.args.crew.now c.put_aside.new.self c.put_aside.ensures are

pub returns-then-is_err-clause-room : goal.returns-then-is_err-clause-room
returns-then-is_err-clause-room g c = sum_by-IsPermutation task_room c.args.crew.now c.put_aside.new.self c.put_aside.ensures

pub returns-clause-room : goal.returns-clause-room
returns-clause-room g c = sum_by-IsPermutation task_room c.args.crew.now c.put_aside.new.self c.put_aside.ensures
