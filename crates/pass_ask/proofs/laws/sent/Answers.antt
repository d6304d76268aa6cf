use Rattle.pass_ask.proofs.Sent.{sent_log}
use Rattle.pass_ask.proofs.laws.sent.Goals as goal

pub returns : goal.returns
returns c = sent_log
