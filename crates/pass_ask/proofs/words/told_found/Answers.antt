use Rattle.std.proofs.Common.{◌∙◌, Bool, sym, ap, subst, List, []}
use Rattle.std.specs.Prelude.{Option, codes, map, unwrap_or}
use Rattle.clap.proofs.WalkLemmas.{first_value-rows, raw_values-rows}
use Rattle.clap.specs.Matches.{found_of}
use Rattle.clap.specs.Walk.{rows_of}
use Rattle.pass_ask.specs.Words.{Reads, Text, is_set, told_in}
use Rattle.pass_ask.specs.declared.words.Command.{Command}
use Rattle.pass_ask.proofs.TakenWords.{text_in, texts_in, told_as}
use Rattle.pass_ask.proofs.words.told_found.Goals as goal

pub returns-in-Some-clause-command : goal.returns-in-Some-clause-command
returns-in-Some-clause-command c =
    let found = found_of c.args.matches.now in
    let replay = text_in c.get_str.result in
    let long = text_in c.get_str-2.result in
    let json = text_in c.get_str-3.result in
    let workers = text_in c.get_str-workers.result in
    let words : List Text = map (λ v. v.now) c.in-Some.words.now in
    subst (λ (o : Option Command). Reads c.told_in.result o)
    (sym (told_as (rows_of found) replay long json workers c.flags_in-flags.result c.args.name.now words
    (sym (first_value-rows found (codes "replay")) ∙ sym c.get_str.ensures)
    (sym (first_value-rows found (codes "long")) ∙ sym c.get_str-2.ensures)
    (sym (first_value-rows found (codes "json")) ∙ sym c.get_str-3.ensures)
    (sym (first_value-rows found (codes "workers")) ∙ sym c.get_str-workers.ensures)
    (sym c.flags_in-flags.ensures)
    (ap (λ (o : Option (List Text)). unwrap_or o []) (sym (raw_values-rows found (codes "word")) ∙ sym c.get_strs.ensures ∙ ap texts_in c.in-Some.is))))
    (subst (λ (b : Bool). Reads c.told_in.result (told_in b (is_set long) (is_set json) workers c.flags_in-flags.result c.args.name.now words)) c.is_set-replay.ensures
    (subst (λ (l : Bool). Reads c.told_in.result (told_in c.is_set-replay.result l (is_set json) workers c.flags_in-flags.result c.args.name.now words)) c.is_set-long.ensures
    (subst (λ (j : Bool). Reads c.told_in.result (told_in c.is_set-replay.result c.is_set-long.result j workers c.flags_in-flags.result c.args.name.now words)) c.is_set-json.ensures c.told_in.ensures.command)))

pub returns-in-None-clause-command : goal.returns-in-None-clause-command
returns-in-None-clause-command c =
    let found = found_of c.args.matches.now in
    let replay = text_in c.get_str.result in
    let long = text_in c.get_str-2.result in
    let json = text_in c.get_str-3.result in
    let workers = text_in c.get_str-workers.result in
    subst (λ (o : Option Command). Reads c.told_in-in-None.result o)
    (sym (told_as (rows_of found) replay long json workers c.flags_in-flags.result c.args.name.now []
    (sym (first_value-rows found (codes "replay")) ∙ sym c.get_str.ensures)
    (sym (first_value-rows found (codes "long")) ∙ sym c.get_str-2.ensures)
    (sym (first_value-rows found (codes "json")) ∙ sym c.get_str-3.ensures)
    (sym (first_value-rows found (codes "workers")) ∙ sym c.get_str-workers.ensures)
    (sym c.flags_in-flags.ensures)
    (ap (λ (o : Option (List Text)). unwrap_or o []) (sym (raw_values-rows found (codes "word")) ∙ sym c.get_strs.ensures ∙ ap texts_in c.in-None.is))))
    (subst (λ (b : Bool). Reads c.told_in-in-None.result (told_in b (is_set long) (is_set json) workers c.flags_in-flags.result c.args.name.now [])) c.is_set-replay.ensures
    (subst (λ (l : Bool). Reads c.told_in-in-None.result (told_in c.is_set-replay.result l (is_set json) workers c.flags_in-flags.result c.args.name.now [])) c.is_set-long.ensures
    (subst (λ (j : Bool). Reads c.told_in-in-None.result (told_in c.is_set-replay.result c.is_set-long.result j workers c.flags_in-flags.result c.args.name.now [])) c.is_set-json.ensures c.told_in-in-None.ensures.command)))
