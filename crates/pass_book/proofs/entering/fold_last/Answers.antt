use Rattle.std.proofs.Common.{◌≡◌, List, MatchOption, sym, ap, ◌∙◌, subst}
use Rattle.pass_entry.specs.declared.entry.Act.TheVariants as act
use Rattle.pass_book.specs.declared.view.Role.TheVariants as role
use Rattle.pass_book.specs.declared.view.Name.{Name}
use Rattle.pass_book.specs.Names.{name, Among, without}
use Rattle.pass_book.specs.Tokens.{LastState, Sighted}
use Rattle.pass_book.proofs.Lookups.{gone}
use Rattle.pass_book.proofs.entering.fold_last.Goals as goal

pub returns-in-Some-clause-home : goal.returns-in-Some-clause-home
returns-in-Some-clause-home c ends =
    let l = name role.Last c.args.entry.now.what in
    let away = c.args.book.now.me.0.away in
    let fact = subst (λ o. MatchOption o (¬ (c.args.entry.now.act ≡ act.Finish)) (λ l. (l.book.table ≡ c.args.table.now.table_id) × (l.what ≡ c.args.entry.now.what))) c.in-Some.is c.requires.last in
    let what = ap (λ (s : LastState). s.what) c.last.view_is ∙ fact.1 in
    let named = ap (λ m. m.0.name) c.seated.ensures.1 ∙ ap (λ (s : Sighted). s.name) c.sight.view_is ∙ c.last.invariant.0 ∙ ap (name role.Last) what in
    subst (λ (ns : List Name). ¬ Among l ns) (sym (ap (λ m. m.0.away) c.fold.ensures.1 ∙ ap (λ (n : Name). without n away) named)) (gone l away)
