use Rattle.std.proofs.Common.{ap, ◌∙◌, [], ◌∷◌, ◌++◌}
use Rattle.csv.specs.Records.{fields_of}
use Rattle.pass_entry.proofs.Variants.{on_both}
use Rattle.pass_view.proofs.csvs.push.Goals as goal

pub returns : goal.returns
returns c = on_both c.push_field.result (λ fields partial fresh. (fields ∙ ap (λ front. fields_of c.args.row.now ++ ((front ++ c.args.field.now) ∷ [])) fresh, partial)) c.push_field.ensures.fields
    c.push_field.ensures.partial
