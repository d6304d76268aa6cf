use Rattle.std.proofs.Common.{◌≡◌, ◌≤◌, ◌∙◌, List, sym, ap, subst, arith}
use Rattle.std.specs.List.{All}
use Rattle.std.proofs.lemmas.Result.{IfOk-weaker}
use Rattle.pass_entry.specs.Ranges.{IsInRange}
use Rattle.pass_entry.specs.declared.record.Record.{Record}
use Rattle.pass_log.specs.Records.{frame_length}
use Rattle.pass_keep.specs.Kept.{ceilings_length}
use Rattle.pass_plain.specs.Ceilings.{ceilings_between}
use Rattle.pass_plain.specs.WellLogged.{ceiling_of}
use Rattle.pass_session.proofs.RaisedSizes.{raised_size}
use Rattle.pass_session.proofs.opening.raises.Goals as goal

pub returns-clause-records : goal.returns-clause-records
returns-clause-records c =
    let old = c.args.start.now.ceiling in
    let new = c.args.ceiling in
    IfOk-weaker c.ceilings_between.result (λ v. v.items ≡ ceilings_between old new) (λ v. v.items ≡ ceilings_between (ceiling_of c.args.image.now.list.items) new)
    (λ v is. is ∙ ap (λ n. ceilings_between n new) c.requires.start) c.ceilings_between.ensures

pub returns-clause-in_range : goal.returns-clause-in_range
returns-clause-in_range c =
    let old = c.args.start.now.ceiling in
    let new = c.args.ceiling in
    IfOk-weaker c.ceilings_between.result (λ v. v.items ≡ ceilings_between old new) (λ v. All IsInRange v.items)
    (λ v is. subst (λ (l : List Record). All IsInRange l) (sym is) (c.ceilings.ensures.in_range old new (omega (arith, c.requires.ceiling, c.requires.objects)) (omega (arith, c.requires.ceiling, c.requires.small)))) c.ceilings_between.ensures

pub returns-clause-size : goal.returns-clause-size
returns-clause-size c =
    let old = c.args.start.now.ceiling in
    let new = c.args.ceiling in
    IfOk-weaker c.ceilings_between.result (λ v. v.items ≡ ceilings_between old new) (λ v. frame_length v.items ≤ ceilings_length)
    (λ v is. subst (λ (l : List Record). frame_length l ≤ ceilings_length) (sym is) (raised_size old new (omega (arith, c.requires.ceiling, c.requires.objects)))) c.ceilings_between.ensures
