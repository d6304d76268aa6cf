use Rattle.std.proofs.Common.{subst, sym}
use Rattle.std.specs.Prelude.{IfSome, Option}
use Rattle.std.specs.List.{All}
use Rattle.std.proofs.lemmas.List.Elements.{All-push}
use Rattle.pass_view.specs.Facts.{IsTold}
use Rattle.pass_view.specs.declared.picture.Shown.{Shown}
use Rattle.pass_view.proofs.selecting.Source.push_shown.Goals as goal

pub returns-in_ok-push-clause-told : goal.returns-in_ok-push-clause-told
returns-in_ok-push-clause-told c = λ all.
    let list = c.args.self.now.index.now in
    subst (All (IsTold list)) (sym c.in_ok-push.ensures.items)
    (All-push (IsTold list) c.args.list.now.items c.in-Some.shown all
    (subst (λ (o : Option Shown). IfSome o (IsTold list)) c.in-Some.is (c.in_ok-shown.ensures.told list c.args.self.now.told)))
