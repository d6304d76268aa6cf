use Rattle.std.proofs.Common.{◌∙◌, Bool, refl, sym, ap, subst, List, []}
use Rattle.std.specs.Prelude.{Option, Some, None, codes, map, unwrap_or}
use Rattle.clap.proofs.WalkLemmas.{first_value-rows, raw_values-rows}
use Rattle.clap.specs.Matches.{found_of}
use Rattle.clap.specs.Walk.{rows_of}
use Rattle.pass_ask.specs.Words.{Reads, Text, command_by, is_set}
use Rattle.pass_ask.specs.declared.words.Command.{Command}
use Rattle.pass_ask.proofs.TakenWords.{found_as, text_in, texts_in}
use Rattle.pass_ask.proofs.words.command_found.Goals as goal

pub returns-in_default-clause-command : goal.returns-in_default-clause-command
returns-in_default-clause-command c =
    let found = found_of c.args.matches.now in
    found_as (rows_of found) _ _ _ _ None _ refl refl refl refl (sym (first_value-rows found (codes "command")) ∙ sym c.get_str.ensures ∙ ap text_in c.in_default.is) refl

pub returns-in-Some-get_strs-clause-command : goal.returns-in-Some-get_strs-clause-command
returns-in-Some-get_strs-clause-command c =
    let found = found_of c.args.matches.now in
    let replay = text_in c.get_str-2.result in
    let long = text_in c.get_str-3.result in
    let json = text_in c.get_str-4.result in
    let workers = text_in c.get_str-workers.result in
    let name : Text = c.in-Some.name.now in
    let words : List Text = map (λ v. v.now) c.in-Some-get_strs.words.now in
    subst (λ (o : Option Command). Reads c.command_by.result o)
    (sym (found_as (rows_of found) replay long json workers (Some name) words
    (sym (first_value-rows found (codes "replay")) ∙ sym c.get_str-2.ensures)
    (sym (first_value-rows found (codes "long")) ∙ sym c.get_str-3.ensures)
    (sym (first_value-rows found (codes "json")) ∙ sym c.get_str-4.ensures)
    (sym (first_value-rows found (codes "workers")) ∙ sym c.get_str-workers.ensures)
    (sym (first_value-rows found (codes "command")) ∙ sym c.get_str.ensures ∙ ap text_in c.in-Some.is)
    (ap (λ (o : Option (List Text)). unwrap_or o []) (sym (raw_values-rows found (codes "word")) ∙ sym c.get_strs.ensures ∙ ap texts_in c.in-Some-get_strs.is))))
    (subst (λ (b : Bool). Reads c.command_by.result (command_by b (is_set long) (is_set json) workers name words)) c.is_set-replay.ensures
    (subst (λ (l : Bool). Reads c.command_by.result (command_by c.is_set-replay.result l (is_set json) workers name words)) c.is_set-long.ensures
    (subst (λ (j : Bool). Reads c.command_by.result (command_by c.is_set-replay.result c.is_set-long.result j workers name words)) c.is_set-json.ensures
    (subst (λ (n : Text). Reads c.command_by.result (command_by c.is_set-replay.result c.is_set-long.result c.is_set-json.result workers n words)) c.as_bytes.ensures.value c.command_by.ensures.command))))

pub returns-in-None-clause-command : goal.returns-in-None-clause-command
returns-in-None-clause-command c =
    let found = found_of c.args.matches.now in
    let replay = text_in c.get_str-2.result in
    let long = text_in c.get_str-3.result in
    let json = text_in c.get_str-4.result in
    let workers = text_in c.get_str-workers.result in
    let name : Text = c.in-Some.name.now in
    subst (λ (o : Option Command). Reads c.command_by-in-None.result o)
    (sym (found_as (rows_of found) replay long json workers (Some name) []
    (sym (first_value-rows found (codes "replay")) ∙ sym c.get_str-2.ensures)
    (sym (first_value-rows found (codes "long")) ∙ sym c.get_str-3.ensures)
    (sym (first_value-rows found (codes "json")) ∙ sym c.get_str-4.ensures)
    (sym (first_value-rows found (codes "workers")) ∙ sym c.get_str-workers.ensures)
    (sym (first_value-rows found (codes "command")) ∙ sym c.get_str.ensures ∙ ap text_in c.in-Some.is)
    (ap (λ (o : Option (List Text)). unwrap_or o []) (sym (raw_values-rows found (codes "word")) ∙ sym c.get_strs.ensures ∙ ap texts_in c.in-None.is))))
    (subst (λ (b : Bool). Reads c.command_by-in-None.result (command_by b (is_set long) (is_set json) workers name [])) c.is_set-replay.ensures
    (subst (λ (l : Bool). Reads c.command_by-in-None.result (command_by c.is_set-replay.result l (is_set json) workers name [])) c.is_set-long.ensures
    (subst (λ (j : Bool). Reads c.command_by-in-None.result (command_by c.is_set-replay.result c.is_set-long.result j workers name [])) c.is_set-json.ensures
    (subst (λ (n : Text). Reads c.command_by-in-None.result (command_by c.is_set-replay.result c.is_set-long.result c.is_set-json.result workers n [])) c.as_bytes-in-None.ensures.value c.command_by-in-None.ensures.command))))
