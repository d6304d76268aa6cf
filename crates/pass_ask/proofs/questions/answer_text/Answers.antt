use Rattle.std.proofs.Common.{ℕ, ap, ◌∙◌}
use Rattle.pass_recover.specs.declared.fault.OpenFault.TheVariants.{DiskFault}
use Rattle.pass_status.specs.Statuses.{status_of_opening}
use Rattle.pass_trace.specs.Lines.{lines_of}
use Rattle.pass_entry.proofs.Variants.{err_inside}
use Rattle.pass_ask.proofs.Turns.{come_given, come_starved, fault_given, none_starved, refusal_of, stop_counts, stop_unfailed}
use Rattle.pass_ask.proofs.questions.answer_text.Goals as goal

pub returns-in-Ok-clause-answer : goal.returns-in-Ok-clause-answer
returns-in-Ok-clause-answer g c = λ known before after quiet.
    come_given c.args.json (lines_of c.args.text.now) before after quiet (g.D.Disk.view c.args.disk.now) (g.D.Disk.view c.open_index.new.disk) c.in-Ok.index g.K.Sink.tells
    (g.K.Sink.taken c.args.sink.now) (g.K.Sink.taken c.answer_lines.new.sink) c.answer_lines.result c.stop_status.result c.stop_status.ensures c.in-Ok.ensures.read
    (c.in-Ok.ensures.no_fault (λ err. absurd (cc))) (c.in-Ok.ensures.stays (λ err. absurd (cc))) c.answer_lines.ensures.come known

pub returns-in-Ok-clause-starved : goal.returns-in-Ok-clause-starved
returns-in-Ok-clause-starved g c = λ starved.
    come_starved c.args.json (lines_of c.args.text.now) (g.D.Disk.view c.args.disk.now) c.in-Ok.index g.K.Sink.tells (g.K.Sink.taken c.args.sink.now) (g.K.Sink.taken c.answer_lines.new.sink)
    c.answer_lines.result c.stop_status.result c.stop_status.ensures c.in-Ok.ensures.read c.answer_lines.ensures.come starved

pub returns-in-Ok-clause-fault : goal.returns-in-Ok-clause-fault
returns-in-Ok-clause-fault g c = λ known.
    stop_counts (g.K.Sink.fault_count c.args.sink.now) (g.K.Sink.fault_count c.answer_lines.new.sink) c.answer_lines.result c.stop_status.result c.stop_status.ensures c.answer_lines.ensures.faults known

pub returns-in-Err-clause-answer : goal.returns-in-Err-clause-answer
returns-in-Err-clause-answer g c = λ known before after quiet.
    let judged = c.opening_status.result in
    let w = c.write_answer.ensures in
    fault_given c.args.json (lines_of c.args.text.now) before after quiet (g.D.Disk.view c.args.disk.now) (g.D.Disk.view c.open_index.new.disk) c.in-Err.fault judged c.write_answer.result
    (record { tells = g.K.Sink.tells; before = g.K.Sink.taken c.args.sink.now; after = g.K.Sink.taken c.write_answer.new.sink })
    (c.opening_status.ensures ∙ ap (λ (opened : ℕ). status_of_opening opened c.faults.result c.in-Err.fault) c.faults-opened.ensures
    ∙ ap (λ (now : ℕ). status_of_opening (g.D.Disk.view c.args.disk.now).faults now c.in-Err.fault) c.faults.ensures)
    (λ starved. known (w.starved starved)) c.in-Err.ensures.fault (λ other. c.in-Err.ensures.no_fault (λ is. other (err_inside c.in-Err.fault DiskFault is)))
    (λ other. c.in-Err.ensures.stays (λ is. other (err_inside c.in-Err.fault DiskFault is)))
    (refusal_of judged c.write_answer.result g.K.Sink.tells (g.K.Sink.taken c.args.sink.now) (g.K.Sink.taken c.write_answer.new.sink) _ _ c.in-Err.fault known c.opening_status.ensures w.stands (λ other. w.whole other known) w.part)

pub returns-in-Err-clause-starved : goal.returns-in-Err-clause-starved
returns-in-Err-clause-starved g c = λ starved.
    none_starved c.args.json (lines_of c.args.text.now) (g.D.Disk.view c.args.disk.now) g.K.Sink.tells (g.K.Sink.taken c.args.sink.now) (g.K.Sink.taken c.write_answer.new.sink)
    (ap g.K.Sink.taken (c.write_answer.ensures.unwritten starved))

pub returns-in-Ok-clause-unfailed : goal.returns-in-Ok-clause-unfailed
returns-in-Ok-clause-unfailed g c = λ starved.
    stop_unfailed (g.K.Sink.fault_count c.args.sink.now) (g.K.Sink.fault_count c.answer_lines.new.sink) c.answer_lines.result c.stop_status.result c.stop_status.ensures c.answer_lines.ensures.faults starved

pub returns-in-Err-clause-unfailed : goal.returns-in-Err-clause-unfailed
returns-in-Err-clause-unfailed g c = λ starved. ap g.K.Sink.fault_count (c.write_answer.ensures.unwritten starved)
