use Rattle.std.proofs.Common.{◌∙◌, List, sym}
use Rattle.pass_entry.specs.declared.record.Record.{Record}
use Rattle.pass_audit.proofs.Coursing.{unnoted}
use Rattle.pass_audit.proofs.auditing.note.Goals as goal

pub returns-in-None : goal.returns-in-None
returns-in-None c = λ (list : List Record) was. unnoted list c.args.one.now c.args.courses.now (sym c.step_in.ensures ∙ c.in-None.is) was
