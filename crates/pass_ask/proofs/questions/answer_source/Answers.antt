use Rattle.std.proofs.Common.{refl, ap, sym, ◌∙◌}
use Rattle.std.specs.Prelude.{Err}
use Rattle.pass_status.specs.declared.reading.ReadEnd.TheVariants as ends
use Rattle.pass_entry.proofs.Variants.{ok_not_err}
use Rattle.pass_ask.proofs.Turns.{none_cut, read_refused}
use Rattle.pass_ask.proofs.questions.answer_source.Goals as goal

pub returns-in-Ok-clause-answer : goal.returns-in-Ok-clause-answer
returns-in-Ok-clause-answer g c = λ known. record {
  lines = c.deref.result.now;
  read = λ told quiet. ((c.in-Ok.ensures.whole told).0 ∙ sym c.deref.ensures.value, (c.in-Ok.ensures.whole told).1);
  given = c.answer_text.ensures.answer known _ _ (λ rose. ok_not_err c.in-Ok.text ends.ReadFault (c.in-Ok.ensures.fault.1 rose));
}

pub returns-in-Ok-clause-starved : goal.returns-in-Ok-clause-starved
returns-in-Ok-clause-starved g c = λ starved. record {
  lines = c.deref.result.now;
  read = λ told. (c.in-Ok.ensures.whole told).0 ∙ sym c.deref.ensures.value;
  starved = c.answer_text.ensures.starved starved;
}

pub returns-in-Err-ReadFault-clause-answer : goal.returns-in-Err-ReadFault-clause-answer
returns-in-Err-ReadFault-clause-answer g c = λ known.
    let w = c.write_answer.ensures in
    read_refused c.args.json g.S.Source.tells (g.S.Source.left c.args.source.now) (g.S.Source.left c.read_all.new.source) (g.S.Source.fault_count c.args.source.now)
    (g.S.Source.fault_count c.read_all.new.source) (c.read_all.ensures.fault.0 (c.in-Err-ReadFault.is ∙ ap (λ e. Err e) c.in-Err-ReadFault.field-0-is)) (g.D.Disk.view c.args.disk.now) g.K.Sink.tells (g.K.Sink.taken c.args.sink.now)
    (g.K.Sink.taken c.write_answer.new.sink) c.write_answer.result known w.stands (λ other. w.whole other known) w.part

pub returns-in-Err-ReadFault-clause-starved : goal.returns-in-Err-ReadFault-clause-starved
returns-in-Err-ReadFault-clause-starved g c = λ starved.
    none_cut c.args.json g.S.Source.tells (g.S.Source.left c.args.source.now) (g.D.Disk.view c.args.disk.now) g.K.Sink.tells (g.K.Sink.taken c.args.sink.now) (g.K.Sink.taken c.write_answer.new.sink)
    (ap g.K.Sink.taken (c.write_answer.ensures.unwritten starved))

pub returns-in-Err-NoMemory-clause-starved : goal.returns-in-Err-NoMemory-clause-starved
returns-in-Err-NoMemory-clause-starved g c = λ starved.
    none_cut c.args.json g.S.Source.tells (g.S.Source.left c.args.source.now) (g.D.Disk.view c.args.disk.now) g.K.Sink.tells (g.K.Sink.taken c.args.sink.now) (g.K.Sink.taken c.args.sink.now) refl

pub returns-in-Err-ReadFault-clause-unfailed : goal.returns-in-Err-ReadFault-clause-unfailed
returns-in-Err-ReadFault-clause-unfailed g c = λ starved. ap g.K.Sink.fault_count (c.write_answer.ensures.unwritten starved)
