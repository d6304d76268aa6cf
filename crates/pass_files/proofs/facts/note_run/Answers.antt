use Rattle.std.proofs.Common.{ℕ, ◌∙◌, ap, sym, List}
use Rattle.std.specs.Prelude.{Option, if◌then◌else◌}
use Rattle.std.specs.HashMap.{get}
use Rattle.std.proofs.lemmas.Result.{on_ok_weaker}
use Rattle.pass_entry.specs.declared.record.Record.{Record}
use Rattle.pass_plain.specs.Versions.{same_node}
use Rattle.pass_files.specs.Told.{ran_look, ran_with}
use Rattle.pass_files.specs.declared.facts.Ran.{Ran}
use Rattle.pass_files.proofs.Rows.{node_row_made}
use Rattle.pass_files.proofs.facts.note_run.Goals as goal

pub returns-in_ok-ran-in-Attr : goal.returns-in_ok-ran-in-Attr
returns-in_ok-ran-in-Attr c = on_ok_weaker c.put-in-Attr.result (λ wrote n.
    let old = get same_node c.args.runs.now in
    let ran = c.in_ok-ran-in-Attr.ensures ∙ ap (λ (o : Option Ran). ran_with o c.as_bytes.result.now c.in-Attr.value) c.in_ok-ran_at-in-Attr.ensures
    ∙ ap (λ (attr : List ℕ). ran_with (old c.in-Attr.node) attr c.in-Attr.value) c.as_bytes.ensures.bytes in
    wrote n ∙ ap (λ (o : Option Ran). if same_node c.in-Attr.node n then o else old n) ran
    ∙ node_row_made old (λ (o : Option Ran). ran_with o c.in-Attr.attr c.in-Attr.value) c.in-Attr.node n
    ∙ ap (λ (r : Record). ran_look old r n) (sym c.in-Attr.is)) c.put-in-Attr.ensures
