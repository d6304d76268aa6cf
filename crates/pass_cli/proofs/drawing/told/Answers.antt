use Rattle.std.proofs.Common.{List, subst}
use Rattle.pass_entry.specs.declared.entry.Entry.{Entry}
use Rattle.pass_cli.specs.Drawn.{IsTold}
use Rattle.pass_cli.proofs.drawing.told.Goals as goal

pub returns-in-Ok-clause-text : goal.returns-in-Ok-clause-text
returns-in-Ok-clause-text g c = λ done.
    subst (λ (h : List Entry). IsTold c.args.number c.args.lines h c.in-Ok.text.items) c.deref.ensures.value (record { counted = c.in-Ok.ensures.text; fresh = c.in-Ok.ensures.fresh })
