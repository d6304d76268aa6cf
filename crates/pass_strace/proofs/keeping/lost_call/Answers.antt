use Rattle.std.proofs.Common.{rules, arith, below_more}
use Rattle.std.proofs.lemmas.List.{length-map}
use Rattle.pass_strace.proofs.Walking.{none_open}
use Rattle.pass_strace.proofs.keeping.lost_call.Goals as goal

pub loop-i-init : goal.loop-i-init
loop-i-init c = record {
  whole = λ k less. absurd (omega (arith, less));
  rest = λ k less. absurd (omega (arith, less));
  noted = none_open _ c.new-table.result c.new-table.ensures.empty;
}

pub loop-i-preserved : goal.loop-i-preserved
loop-i-preserved c = record {
  whole = below_more _ _ c.loop-i.invariant.whole (search rules);
  rest = below_more _ _ c.loop-i.invariant.rest (c.keeps_rest.ensures c.if-not-keeps_rest.false);
  noted = search rules;
}

pub returns : goal.returns
returns c told =
    let size = length-map c.args.lines.now (λ x. x.now) in
    let end = c.loop-i-test.false in
    record {
      whole = λ k less. c.loop-i.invariant.whole k (omega (arith, less, size, end));
      rest = λ k less. c.loop-i.invariant.rest k (omega (arith, less, size, end));
    }
