use Rattle.pass_entry.proofs.CallWords.{call_of-exact}
use Rattle.pass_entry.proofs.entry.CallName.of_word.Goals as goal

pub returns-clause-exact : goal.returns-clause-exact
returns-clause-exact c = call_of-exact c.args.word.now c.find_word.result c.find_word.ensures
