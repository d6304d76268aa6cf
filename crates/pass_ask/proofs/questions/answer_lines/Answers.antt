use Rattle.std.proofs.Common.{subst, List, ℕ}
use Rattle.pass_trace.specs.Lines.{lines_of}
use Rattle.pass_ask.proofs.Turns.{Going, counts_on, counts_stayed, counts_stop, goes_first, goes_on, stops, stops_first}
use Rattle.pass_ask.proofs.questions.answer_lines.Goals as goal

pub loop-rest-init : goal.loop-rest-init
loop-rest-init g c = record {
  going = goes_first c.args.json c.args.index.now (lines_of c.args.text.now) g.K.Sink.tells (g.K.Sink.taken c.args.sink.now) (g.K.Sink.taken c.write_told.new.sink) c.write_told.result _ c.in_default.is
      c.write_told.ensures.takes;
  stays = counts_stayed (g.K.Sink.fault_count c.args.sink.now) (g.K.Sink.fault_count c.write_told.new.sink) c.write_told.result _ c.in_default.is c.write_told.ensures.faults;
}

pub loop-rest-preserved : goal.loop-rest-preserved
loop-rest-preserved g c =
    let list = c.args.index.now in
    let lines = lines_of c.args.text.now in
    let before = g.K.Sink.taken c.args.sink.now in
    let after = g.K.Sink.taken c.loop-rest.sink in
    let line = c.first_line.result.0.now in
    let rest = lines_of c.first_line.result.1.now in
    record {
      going = goes_on c.args.json list lines g.K.Sink.tells before line rest after
          (subst (λ (ls : List (List ℕ)). Going c.args.json list lines ls g.K.Sink.tells before after) c.first_line.ensures.lines c.loop-rest.invariant.going)
          (g.K.Sink.taken c.answer_line.new.sink) c.answer_line.result _ c.in_default-answer_line.is c.answer_line.ensures.told;
      stays = counts_stayed (g.K.Sink.fault_count c.args.sink.now) (g.K.Sink.fault_count c.answer_line.new.sink) c.answer_line.result _ c.in_default-answer_line.is
          (counts_on (g.K.Sink.fault_count c.args.sink.now) (g.K.Sink.fault_count c.loop-rest.sink) (g.K.Sink.fault_count c.answer_line.new.sink) c.answer_line.result c.loop-rest.invariant.stays c.answer_line.ensures.faults);
    }

pub returns-in-Err-clause-come : goal.returns-in-Err-clause-come
returns-in-Err-clause-come g c =
    stops_first c.args.json c.args.index.now (lines_of c.args.text.now) g.K.Sink.tells (g.K.Sink.taken c.args.sink.now) (g.K.Sink.taken c.write_told.new.sink) c.write_told.result c.in-Err.stop c.in-Err.is
    c.write_told.ensures.takes

pub returns-in-Err-answer_line-clause-come : goal.returns-in-Err-answer_line-clause-come
returns-in-Err-answer_line-clause-come g c =
    let list = c.args.index.now in
    let lines = lines_of c.args.text.now in
    let before = g.K.Sink.taken c.args.sink.now in
    let after = g.K.Sink.taken c.loop-rest.sink in
    stops c.args.json list lines g.K.Sink.tells before c.first_line.result.0.now (lines_of c.first_line.result.1.now) after
    (subst (λ (ls : List (List ℕ)). Going c.args.json list lines ls g.K.Sink.tells before after) c.first_line.ensures.lines c.loop-rest.invariant.going)
    (g.K.Sink.taken c.answer_line.new.sink) c.answer_line.result c.in-Err-answer_line.stop c.in-Err-answer_line.is c.answer_line.ensures.told

pub returns-in-Err-answer_line-clause-faults : goal.returns-in-Err-answer_line-clause-faults
returns-in-Err-answer_line-clause-faults g c =
    counts_stop (g.K.Sink.fault_count c.args.sink.now) (g.K.Sink.fault_count c.answer_line.new.sink) c.answer_line.result c.in-Err-answer_line.stop c.in-Err-answer_line.is
    (counts_on (g.K.Sink.fault_count c.args.sink.now) (g.K.Sink.fault_count c.loop-rest.sink) (g.K.Sink.fault_count c.answer_line.new.sink) c.answer_line.result c.loop-rest.invariant.stays c.answer_line.ensures.faults)
