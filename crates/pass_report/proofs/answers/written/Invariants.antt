use Rattle.std.proofs.Common.{◌≡◌, ◌++◌, string_bytes}
use Rattle.pass_report.specs.Answered.{lines_to}
use Rattle.pass_report.proofs.answers.written.Given as goal

abbrev pub invariant-loop-place : goal.invariant-loop-place
invariant-loop-place l = lines_to l.history l.nodes l.answered l.first ++ string_bytes l.text ≡ lines_to l.history l.nodes l.answered l.place
