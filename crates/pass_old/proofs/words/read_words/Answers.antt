use Rattle.std.specs.Prelude.{map, string_bytes}
use Rattle.pass_old.proofs.Worded.{workers_read}
use Rattle.pass_old.proofs.words.read_words.Goals as goal

pub returns-clause-workers : goal.returns-clause-workers
returns-clause-workers c = workers_read c.command_in.result (map string_bytes c.args.words.now) c.command_in.ensures.command
