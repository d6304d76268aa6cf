use Rattle.std.proofs.Common.{ap, ◌∙◌, subst}
use Rattle.std.specs.Prelude.{List, String, map, string_bytes}
use Rattle.std.specs.declared.alloc.Global.{Global}
use Rattle.pass_ask.specs.Words.{Reads, Text, question_of}
use Rattle.pass_ask.proofs.questions.asked_by.Goals as goal

pub returns-in-Ok : goal.returns-in-Ok
returns-in-Ok c =
    subst (λ (words : List Text). Reads c.question_in.result (question_of words)) (ap (λ (words : List (String Global)). map string_bytes words) c.deref.ensures.value ∙ c.in-Ok.ensures)
    (c.question_in.ensures.question (map string_bytes c.deref.result.now) c.read_words.ensures.command)
