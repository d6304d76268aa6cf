use Rattle.std.proofs.Common.{ap, ◌∙◌}
use Rattle.pass_book.specs.Views.{longer, freeing}
use Rattle.pass_book.proofs.Rules.{longer_nothing}
use Rattle.pass_book.proofs.steps.refund.Goals as goal

pub returns-clause-seen : goal.returns-clause-seen
returns-clause-seen c =
    let b = c.args.book.now.me.0 in
    let is = ap (λ m. m.0) c.free.ensures.book.1 ∙ ap (λ m. freeing m.0) c.fold.ensures.1 in
    let list = ap (λ v. v.syncs) is ∙ ap (longer b.syncs) c.requires.claim.1 ∙ longer_nothing b.syncs in
    (ap (λ v. v.seen) is, ap (λ v. v.opened) is, list, ap (λ m. m.1) c.free.ensures.book.1 ∙ ap (λ m. m.1) c.fold.ensures.1)
