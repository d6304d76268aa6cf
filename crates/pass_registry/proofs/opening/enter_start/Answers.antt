use Rattle.std.proofs.Common.{◌≡◌, ◌∙◌, ap, sym, subst}
use Rattle.pass_entry.specs.declared.entry.Entry.{Entry}
use Rattle.pass_plain.specs.Legal.{CallerAllows}
use Rattle.pass_plain.proofs.Lists.{some_is}
use Rattle.pass_book.specs.Openings.{fresh_line}
use Rattle.pass_book.specs.Tokens.{ClaimState, DeskState, LineState}
use Rattle.pass_registry.specs.Desks.{first_entry}
use Rattle.pass_registry.proofs.Starting.{start_allows}
use Rattle.pass_registry.proofs.opening.enter_start.Goals as goal

pub add-requires-clause-caller : goal.add-requires-clause-caller
add-requires-clause-caller c = λ x is.
    let fresh : x ≡ fresh_line c.args.book.now.book 0 =
    some_is x (fresh_line c.args.book.now.book 0) (sym is ∙ ap (λ (k : ClaimState). k.line) c.fill.ensures ∙ c.line_of-line.ensures.line ∙ ap (λ (d : DeskState). d.line) c.requires.desk) in
    subst (λ (e : Entry). CallerAllows x.seen e) (sym c.start_entry.ensures)
    (subst (λ (l : LineState). CallerAllows l.seen (first_entry c.args.pnode)) (sym fresh) (start_allows c.args.pnode))
