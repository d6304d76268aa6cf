use Rattle.std.proofs.Common.{◌≡◌, ap, refl, sym, ◌∙◌}
use Rattle.pass_status.specs.declared.status.Status.TheVariants as status
use Rattle.pass_ask.specs.Answers.{text_with}
use Rattle.pass_ask.proofs.questions.write_told.Goals as goal

pub returns-in-WriteFault-clause-takes : goal.returns-in-WriteFault-clause-takes
returns-in-WriteFault-clause-takes g c =
    (text_with c.args.judged c.args.answer.now, ((λ starved. let z : status.WriteFault ≡ status.NoMemory = sym c.in-WriteFault.is ∙ c.write_answer.ensures.starved starved in absurd (cc)), refl), c.write_answer.ensures.part c.in-WriteFault.is)

pub returns-in-NoMemory-clause-faults : goal.returns-in-NoMemory-clause-faults
returns-in-NoMemory-clause-faults g c = ap g.K.Sink.fault_count (c.write_answer.ensures.unwritten c.in-NoMemory.is)
