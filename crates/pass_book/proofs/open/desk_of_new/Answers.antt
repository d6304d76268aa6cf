use Rattle.std.proofs.Common.{◌+◌, ◌<◌, ◌≤◌, List, ◌∷◌, sym, ap, ◌∙◌, subst, arith}
use Rattle.pass_book.specs.declared.view.Role.TheVariants as role
use Rattle.pass_book.specs.declared.view.Name.{Name}
use Rattle.pass_book.specs.Names.{name, Among}
use Rattle.pass_book.specs.Openings.{AwayBelow}
use Rattle.pass_book.proofs.Opened.{free_behind, below_free, below_more}
use Rattle.pass_book.proofs.open.desk_of_new.Goals as goal

pub first_sight-requires-clause-free : goal.first_sight-requires-clause-free
first_sight-requires-clause-free c =
    subst (λ n. ¬ Among (name role.Desk n) c.args.book.now.me.0.away) (sym c.number.view_is) (below_free role.Desk _ c.args.number (λ e. absurd cc) (λ e. absurd cc) c.requires.below)

pub line_alone-requires-clause-free : goal.line_alone-requires-clause-free
line_alone-requires-clause-free c =
    let away = ap (λ m. m.0.away) c.in_ok-sight.ensures.book.1 in
    subst (λ (ns : List Name). ¬ Among (name role.Line c.args.number) ns) (sym away)
    (free_behind _ _ _ (λ e. absurd (cc (ap (λ (a : Name). a.role) e))) (below_free role.Line _ c.args.number (λ e. absurd cc) (λ e. absurd cc) c.requires.below))

pub last_alone-requires-clause-free : goal.last_alone-requires-clause-free
last_alone-requires-clause-free c =
    let n = c.args.number in
    let old = c.args.book.now.me.0.away in
    let desk = name role.Desk c.number.inside.0 in
    let first = ap (λ m. m.0.away) c.in_ok-sight.ensures.book.1 in
    let away = ap (λ m. m.0.away) c.in_ok-line.ensures.book.1 ∙ ap (λ (ns : List Name). name role.Line n ∷ ns) first in
    let none = below_free role.Last old n (λ e. absurd cc) (λ e. absurd cc) c.requires.below in
    let behind = free_behind (name role.Last n) desk old (λ e. absurd (cc (ap (λ (a : Name). a.role) e))) none in
    subst (λ (ns : List Name). ¬ Among (name role.Last n) ns) (sym away) (free_behind (name role.Last n) (name role.Line n) (desk ∷ old) (λ e. absurd (cc (ap (λ (a : Name). a.role) e))) behind)

pub returns-clause-below : goal.returns-clause-below
returns-clause-below c =
    let n = c.args.number in
    let old = c.args.book.now.me.0.away in
    let desk = name role.Desk n in
    let line = name role.Line n in
    let last = name role.Last n in
    let m = n + 1 in
    let above : n < m = omega arith in
    let up : n ≤ m = omega arith in
    let same : m ≤ m = omega arith in
    let first = ap (λ m. m.0.away) c.in_ok-sight.ensures.book.1 ∙ ap (λ k. name role.Desk k ∷ old) c.number.view_is in
    let away = ap (λ m. m.0.away) c.in_ok-last.ensures.book.1 ∙ ap (λ (ns : List Name). last ∷ ns) (ap (λ m. m.0.away) c.in_ok-line.ensures.book.1 ∙ ap (λ (ns : List Name). line ∷ ns) first) in
    let one = below_more desk old n m c.requires.below above up in
    let two = below_more line (desk ∷ old) m m one above same in
    let three = below_more last (line ∷ desk ∷ old) m m two above same in
    subst (λ (ns : List Name). AwayBelow ns m) (sym away) three
