use Rattle.std.proofs.Common.{◌≡◌, map, take}
use Rattle.std.specs.Prelude.{string_bytes}
use Rattle.pass_ask.specs.Questions.{words_with}
use Rattle.pass_ask.proofs.questions.given_words.Given as goal

abbrev pub invariant-loop-word : goal.invariant-loop-word
invariant-loop-word l = map string_bytes l.given.items ≡ words_with l.fn.json (map (λ w. w.now) (take l.word-index l.words))
