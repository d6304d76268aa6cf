use Rattle.atomic_table.specs.Table.{Me}
use Rattle.std.proofs.Common.{◌≡◌, ℕ, List, sym, ap, ◌∙◌, subst}
use Rattle.pass_book.specs.declared.view.Role.TheVariants.{Desk}
use Rattle.pass_book.specs.declared.view.Name.{Name}
use Rattle.pass_book.specs.Names.{name, Among, without, Listed}
use Rattle.pass_book.specs.Views.{folding, all_listed}
use Rattle.pass_book.specs.declared.view.View.{View}
use Rattle.pass_book.proofs.Lookups.{gone}
use Rattle.pass_book.proofs.steps.show.Goals as goal

pub desk_again-requires-clause-free : goal.desk_again-requires-clause-free
desk_again-requires-clause-free c =
    let n = c.args.desk.me.0.name.number in
    let away = c.args.book.now.me.0.away in
    let all = ap (λ m. m.0.away) c.learn.ensures.same.1 ∙ ap (λ m. m.0.away) c.fold.ensures.1 ∙ ap (λ (a : Name). without a away) c.requires.desk.0 in
    let none = subst (λ (ns : List Name). ¬ Among (name Desk n) ns) (sym all) (gone (name Desk n) away) in
    subst (λ k. ¬ Among (name Desk k) c.learn.new.book.me.0.away) (sym (ap (λ v. v.me.0.name.number) c.of-old.ensures)) none

pub returns-clause-listed : goal.returns-clause-listed
returns-clause-listed c =
    let d = c.args.desk.me.0 in
    let w = folding c.args.book.now.me.0 d in
    let desks : all_listed w.syncs w.away w.folded = subst (λ (m : Me ℕ View). all_listed m.0.syncs m.0.away m.0.folded) c.fold.ensures.1 c.learn.ensures.desks in
    let mine : Listed (name Desk d.name.number) d.syncs w.syncs = (desks.0 d.name.number c.requires.desk.0).1 in
    let same : c.desk_again.new.book.me.0.syncs ≡ w.syncs = ap (λ (m : Me ℕ View). m.0.syncs) c.desk_again.ensures.book.1 ∙ ap (λ (m : Me ℕ View). m.0.syncs) c.learn.ensures.same.1 ∙ ap (λ (m : Me ℕ View). m.0.syncs) c.fold.ensures.1 in
    subst (λ ss. Listed d.name d.syncs ss) (sym same) (subst (λ (a : Name). Listed a d.syncs w.syncs) (sym c.requires.desk.0) mine)
