use Rattle.std.proofs.Common.{◌∙◌, List, Some, ap, length, refl, subst, sym}
use Rattle.pass_entry.specs.declared.entry.Entry.{Entry}
use Rattle.pass_plain.specs.Legal.{IsLegal}
use Rattle.pass_trace.specs.TraceLines.{plain_trace}
use Rattle.pass_walk.proofs.walker.Living.join.Goals as goal
use Rattle.pass_walk.proofs.Meetings.{come_on}

pub returns-clause-living : goal.returns-clause-living
returns-clause-living g c =
    come_on g.J.Whose.book.session (plain_trace c.args.ground.now.plan.now) c.calls.ensures.still c.calls.ensures.look c.answers.ensures.unmade c.standing.ensures.under_way c.standing.ensures.looked c.ordered.ensures c.args.self.now c.requires
    c.between.ensures c.meet_ended.new.proc c.meet_ended.ensures.proc

pub returns-clause-ended : goal.returns-clause-ended
returns-clause-ended g c = record {
  process = refl;
  who = c.meet_ended.ensures.trail.0;
  begins = c.meet_ended.ensures.trail.1;
  agrees = c.meet_ended.ensures.trail.2;
  legal = subst (λ (h : List Entry). IsLegal g.J.Whose.book.session h) (sym c.meet_ended.ensures.one) c.meet_ended.ensures.proc.looked.legal;
  met = ap (λ n. Some n) (c.seen.ensures ∙ ap length (sym c.meet_ended.ensures.one));
}
