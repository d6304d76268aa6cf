use Rattle.std.proofs.Common.{sym, subst}
use Rattle.std.specs.Prelude.{Option}
use Rattle.std.specs.Ordering.{nat_cmp}
use Rattle.std.specs.BTreeMap.{get}
use Rattle.std.specs.Option.{MatchOption}
use Rattle.pass_plain.specs.Recording.{IsUntouched, IsContent}
use Rattle.pass_plain.specs.declared.contents.Content.{Content}
use Rattle.pass_plain.proofs.KeptFiles.{untouched_content}
use Rattle.pass_plain.proofs.contents.take_content.Goals as goal

pub returns-in-None-clause-content : goal.returns-in-None-clause-content
returns-in-None-clause-content c =
    let start = c.args.start.now in
    let history = c.args.history.now in
    let untouched : IsUntouched start history c.args.object =
    subst (λ (o : Option Content). MatchOption o (IsUntouched start history c.args.object) (IsContent start history c.args.object)) (sym c.in-None.ensures.value)
    (subst (λ k. MatchOption (get nat_cmp c.args.kept.now k) (IsUntouched start history c.args.object) (IsContent start history c.args.object)) (sym c.object.view_is) (c.requires c.args.object)) in
    untouched_content start history c.args.object c.opened.result untouched c.opened.ensures.bytes c.opened.ensures.rows
