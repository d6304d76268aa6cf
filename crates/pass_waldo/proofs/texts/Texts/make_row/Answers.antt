use Rattle.std.proofs.Common.{sym, subst}
use Rattle.std.specs.Prelude.{Some}
use Rattle.std.specs.HashMap.{UpdatesBy}
use Rattle.pass_waldo.specs.declared.texts.Texts.{Texts}
use Rattle.pass_waldo.specs.declared.texts.Row.{Row}
use Rattle.pass_waldo.specs.Texts.{is_text}
use Rattle.pass_waldo.proofs.Texting.{row_made}
use Rattle.pass_waldo.proofs.texts.Texts.make_row.Goals as goal
use Rattle.pass_graph.proofs.Adding.{same_key}

pub returns-in_ok-insert-clause-same : goal.returns-in_ok-insert-clause-same
returns-in_ok-insert-clause-same c =
    let old : Texts = c.args.self.now in
    let new : Texts = record old { rows = c.insert.new.self } in
    let row : Row = record { files = c.new.result; values = c.new-then-not-contains_key.result } in
    let updates : UpdatesBy same_key (is_text c.args.name.now) old.rows new.rows (Some row) =
    subst (λ n. UpdatesBy same_key (is_text n) old.rows new.rows (Some row)) c.in_ok-key.ensures.items c.in_ok-insert.ensures.updates in
    row_made old new c.args.name.now row (sym c.if-not-contains_key.ensures) updates c.new.ensures.items c.new-then-not-contains_key.ensures.items
