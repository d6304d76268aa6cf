use Rattle.std.proofs.Common.{◌≡◌, length, sym, ap, ◌∙◌, subst}
use Rattle.pass_plain.specs.Legal.{IsLegal}
use Rattle.pass_book.specs.declared.view.View.{View}
use Rattle.pass_book.specs.Syncs.{Backs}
use Rattle.pass_book.specs.Views.{session_in, folding, all_folded, all_listed}
use Rattle.pass_book.specs.Names.{name, Listed}
use Rattle.pass_book.specs.declared.view.Role.TheVariants.{Desk}
use Rattle.pass_book.proofs.Adding.{may_write, kept_write}
use Rattle.pass_book.proofs.steps.gather.Goals as goal

-- the book's view once all three are back
whole : goal.After-learn → View
whole c = folding (folding (folding c.args.book.now.me.0 c.args.claimed.me.0) c.args.desk.me.0) c.args.line.me.0

came : (c : goal.After-learn) → c.fold-3.new.book.me.0 ≡ whole c
unfolding whole
came c =
    ap (λ m. m.0) c.fold-3.ensures.1 ∙ ap (λ m. folding m.0 c.args.line.me.0) c.fold-2.ensures.1
    ∙ ap (λ m. folding (folding m.0 c.args.desk.me.0) c.args.line.me.0) c.fold.ensures.1

pub returns-clause-follows : goal.returns-clause-follows
unfolding whole
returns-clause-follows c =
    let b = c.args.book.now.me.0 in
    let parts : all_folded b.seen (whole c).syncs (whole c).folded = subst (λ (v : View). all_folded v.seen v.syncs v.folded) (came c) c.learn.ensures.folded in
    let legal : IsLegal (session_in b.opened) b.seen = subst (λ (v : View). IsLegal (session_in v.opened) v.seen) (came c) c.learn.ensures.legal in
    may_write (session_in b.opened) b.seen (whole c).syncs c.args.desk.me.0 c.args.line.me.0 c.args.entry.now legal parts.1.1.0 parts.0 c.requires.desk.0 c.requires.line.0 c.requires.object c.requires.caller

pub returns-clause-legal : goal.returns-clause-legal
unfolding whole
returns-clause-legal c = subst (λ (v : View). IsLegal (session_in v.opened) v.seen) (came c) c.learn.ensures.legal

pub returns-clause-kept : goal.returns-clause-kept
unfolding whole
returns-clause-kept c =
    let b = c.args.book.now.me.0 in
    let parts : all_folded b.seen (whole c).syncs (whole c).folded = subst (λ (v : View). all_folded v.seen v.syncs v.folded) (came c) c.learn.ensures.folded in
    subst (λ (v : View). Backs (session_in b.opened) b.seen (length b.seen) v.syncs c.args.entry.now) (sym (ap (λ m. m.0) c.learn.ensures.same.1 ∙ came c))
    (kept_write (session_in b.opened) b.seen (whole c).syncs c.args.line.me.0 c.args.entry.now parts.0 c.requires.line.0 c.requires.kept)

pub returns-clause-listed : goal.returns-clause-listed
unfolding whole
returns-clause-listed c =
    let desks : all_listed (whole c).syncs (whole c).away (whole c).folded = subst (λ (v : View). all_listed v.syncs v.away v.folded) (came c) c.learn.ensures.desks in
    subst (λ (v : View). Listed (name Desk c.args.entry.now.what) c.args.desk.me.0.syncs v.syncs) (sym (ap (λ m. m.0) c.learn.ensures.same.1 ∙ came c)) (desks.1.1.0 c.args.entry.now.what c.requires.desk.0).1
