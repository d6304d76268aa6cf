use Rattle.std.proofs.Common.{List, sym, ap, ◌∙◌, subst}
use Rattle.pass_book.specs.declared.view.Role.TheVariants.{Line}
use Rattle.pass_book.specs.declared.view.Name.{Name}
use Rattle.pass_book.specs.Names.{name, Among, without}
use Rattle.pass_book.proofs.Lookups.{gone}
use Rattle.pass_book.proofs.steps.look.Goals as goal

pub again-requires-clause-free : goal.again-requires-clause-free
again-requires-clause-free c =
    let n = c.args.line.me.0.name.number in
    let away = c.args.book.now.me.0.away in
    let all = ap (λ m. m.0.away) c.learn.ensures.same.1 ∙ ap (λ m. m.0.away) c.fold.ensures.1 ∙ ap (λ (a : Name). without a away) c.requires.line.0 in
    let none = subst (λ (ns : List Name). ¬ Among (name Line n) ns) (sym all) (gone (name Line n) away) in
    subst (λ k. ¬ Among (name Line k) c.learn.new.book.me.0.away) (sym (ap (λ v. v.me.0.name.number) c.of-old.ensures)) none
