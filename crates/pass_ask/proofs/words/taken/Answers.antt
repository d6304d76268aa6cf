use Rattle.std.proofs.Common.{◌≡◌, ◌∙◌, true, sym, ap, subst, List}
use Rattle.std.specs.Prelude.{Option, Some, codes}
use Rattle.clap.proofs.WalkLemmas.{first_value-rows}
use Rattle.clap.specs.Matches.{found_of}
use Rattle.clap.specs.Walk.{Row, first_of, rows_of}
use Rattle.pass_ask.specs.Telling.{tells}
use Rattle.pass_ask.specs.Words.{Reads, Text, flags_in, told_found}
use Rattle.pass_ask.specs.declared.words.Command.{Command}
use Rattle.pass_ask.proofs.TakenWords.{taken_none, taken_other, taken_told, text_in}
use Rattle.pass_ask.proofs.words.taken.Goals as goal

pub returns-in_default-clause-command : goal.returns-in_default-clause-command
returns-in_default-clause-command c =
    let found = found_of c.args.matches.now in
    taken_none (rows_of found) (sym (first_value-rows found (codes "command")) ∙ sym c.get_str.ensures ∙ ap text_in c.in_default.is)

pub returns-then-tells-clause-command : goal.returns-then-tells-clause-command
returns-then-tells-clause-command c =
    let found = found_of c.args.matches.now in
    let rows : List Row = rows_of found in
    let name : Text = c.in-Some.name.now in
    let command : first_of (codes "command") rows ≡ Some name = sym (first_value-rows found (codes "command")) ∙ sym c.get_str.ensures ∙ ap text_in c.in-Some.is in
    let asks : tells (flags_in rows) name ≡ true = sym (c.tells.ensures ∙ (λ i. tells (c.flags_in.ensures i) (c.as_bytes.ensures.value i))) ∙ c.if-tells.true in
    subst (λ (o : Option Command). Reads c.told_found.result o) (sym (taken_told rows name command asks))
    (subst (λ (n : Text). Reads c.told_found.result (told_found rows n)) c.as_bytes-then-tells.ensures.value c.told_found.ensures.command)

pub returns-clause-command : goal.returns-clause-command
returns-clause-command c =
    let found = found_of c.args.matches.now in
    let rows : List Row = rows_of found in
    let name : Text = c.in-Some.name.now in
    let command : first_of (codes "command") rows ≡ Some name = sym (first_value-rows found (codes "command")) ∙ sym c.get_str.ensures ∙ ap text_in c.in-Some.is in
    let asks = sym (c.tells.ensures ∙ (λ i. tells (c.flags_in.ensures i) (c.as_bytes.ensures.value i))) ∙ c.if-tells.false in
    subst (λ (o : Option Command). Reads c.command_found.result o) (sym (taken_other rows name command asks)) c.command_found.ensures.command
