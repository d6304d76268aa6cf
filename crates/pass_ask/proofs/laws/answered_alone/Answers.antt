use Rattle.pass_ask.proofs.Answering.{at_once}
use Rattle.pass_ask.proofs.laws.answered_alone.Goals as goal

pub returns : goal.returns
returns g c = λ asked old new sink answered a quiet. record {
  judged = a.judged;
  by = at_once asked (g.D.Disk.view old) (g.D.Disk.view new) a.bytes a.judged quiet a.by;
  quiet = quiet;
  answer = a.answer;
  refusal = a.refusal;
}
