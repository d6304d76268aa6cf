use Rattle.std.proofs.Common.{◌≡◌, ◌∙◌, ◌∷◌, ℕ, List, [], arith, sym, subst}
use Rattle.std.specs.Prelude.{IfOk, map, string_bytes}
use Rattle.std.proofs.lemmas.List.{length-map}
use Rattle.pass_old.specs.Words.{IsNamed, command_of}
use Rattle.pass_old.proofs.Worded.{no_command, two_words}
use Rattle.pass_old.proofs.words.command_in.Goals as goal

pub returns-in-len4-up-clause-command : goal.returns-in-len4-up-clause-command
returns-in-len4-up-clause-command c = sym (no_command (map string_bytes c.args.words.now) (omega (arith, c.in-len4-up.len_at_least, length-map c.args.words.now string_bytes)))

read_two : (c : goal.After-with_word) → c.as_bytes-in-len2.result.now ∷ c.as_bytes-in-len2-2.result.now ∷ [] ≡ map string_bytes c.args.words.now
read_two c =
    let name = c.name-item-then-words-lt3.result in
    let word = c.word-item.result in
    (λ i. c.as_bytes-in-len2.ensures.value i ∷ c.as_bytes-in-len2-2.ensures.value i ∷ [])
    ∙ sym (two_words c.args.words.now name word (omega (arith, c.in-len2.len_at_least)) (omega (arith, c.in-len2.len_below)) c.name-item-then-words-lt3.is c.word-item.is)

pub returns-in-len2-clause-command : goal.returns-in-len2-clause-command
returns-in-len2-clause-command c = subst (λ (l : List (List ℕ)). IfOk c.with_word.result (λ command. command ≡ command_of l)) (read_two c) c.with_word.ensures.command

pub returns-in-len2-clause-refused : goal.returns-in-len2-clause-refused
returns-in-len2-clause-refused c = λ refused. subst (λ (l : List (List ℕ)). IsNamed (command_of l)) (read_two c) (c.with_word.ensures.refused refused)
