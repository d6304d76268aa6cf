use Rattle.std.proofs.Common.{◌∙◌, Bool, sym}
use Rattle.std.specs.Prelude.{codes}
use Rattle.clap.proofs.WalkLemmas.{first_value-rows}
use Rattle.clap.specs.Matches.{found_of}
use Rattle.clap.specs.Walk.{rows_of}
use Rattle.pass_ask.specs.Words.{is_set}
use Rattle.pass_ask.specs.declared.telling.Flags.{Flags}
use Rattle.pass_ask.proofs.TakenWords.{flags_as, text_in}
use Rattle.pass_ask.proofs.words.flags_in.Goals as goal

abbrev flags_of : Bool → Bool → Bool → Flags
flags_of names flows plain = record { names = names; flows = flows; plain = plain }

pub returns : goal.returns
returns c =
    let found = found_of c.args.matches.now in
    (λ i. flags_of (c.is_set.ensures i) (c.is_set-2.ensures i) (c.is_set-3.ensures i))
    ∙ sym (flags_as (rows_of found) (text_in c.get_str.result) (text_in c.get_str-2.result) (text_in c.get_str-3.result)
    (sym (first_value-rows found (codes "names")) ∙ sym c.get_str.ensures)
    (sym (first_value-rows found (codes "data")) ∙ sym c.get_str-2.ensures)
    (sym (first_value-rows found (codes "plain")) ∙ sym c.get_str-3.ensures))
