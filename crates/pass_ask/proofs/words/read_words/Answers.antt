use Rattle.std.proofs.Common.{sym, subst}
use Rattle.std.specs.Prelude.{Option, map, string_bytes}
use Rattle.pass_ask.specs.Words.{Reads}
use Rattle.pass_ask.specs.declared.words.Command.{Command}
use Rattle.pass_ask.proofs.TakenWords.{taken_words, refused_words}
use Rattle.pass_ask.proofs.words.read_words.Goals as goal

pub returns-in-Ok-try_get_matches_from-clause-command : goal.returns-in-Ok-try_get_matches_from-clause-command
returns-in-Ok-try_get_matches_from-clause-command c =
    subst (λ (o : Option Command). Reads c.taken.result o)
    (sym (taken_words _ (map string_bytes c.args.words.now) c.try_get_matches_from.result c.in-Ok-try_get_matches_from.matches c.in-Ok.ensures c.in-Ok-try_get_matches_from.is c.try_get_matches_from.ensures.kinds c.in-Ok-try_get_matches_from.ensures.matches))
    c.taken.ensures.command

pub returns-in-Err-clause-command : goal.returns-in-Err-clause-command
returns-in-Err-clause-command c =
    refused_words _ (map string_bytes c.args.words.now) c.try_get_matches_from.result c.in-Err.error c.status_of.result c.in-Ok.ensures c.in-Err.is c.try_get_matches_from.ensures.kinds
    c.status_of.ensures.only c.status_of.ensures.memory
