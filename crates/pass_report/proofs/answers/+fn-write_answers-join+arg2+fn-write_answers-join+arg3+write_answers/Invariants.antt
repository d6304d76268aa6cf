use Rattle.pass_report.proofs.answers.+fn-write_answers-join+arg2+fn-write_answers-join+arg3+write_answers.Given as goal

abbrev pub decreases-join+arg2 : goal.decreases-join+arg2
decreases-join+arg2 g l = l.fewer

abbrev pub decreases-join+arg3 : goal.decreases-join+arg3
decreases-join+arg3 g l = l.fewer

abbrev pub decreases-write_answers : goal.decreases-write_answers
decreases-write_answers g l = l.workers
