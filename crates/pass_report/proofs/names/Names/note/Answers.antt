use Rattle.pass_report.proofs.Answering.{on_then}
use Rattle.pass_report.proofs.Naming.{bound_names, moved_names, unbound_names, other_names}
use Rattle.pass_report.proofs.names.Names.note.Goals as goal

pub returns-in-Bind : goal.returns-in-Bind
returns-in-Bind c = on_then c.add.result _ _ c.add.ensures (λ moved. λ session past legal next names.
    bound_names session past c.args.entry.now legal next c.requires c.in-Bind.name c.args.self.now c.add.new.self c.in-Bind.is names moved)

pub returns-in-Move : goal.returns-in-Move
returns-in-Move c = on_then c.rename.result _ _ c.rename.ensures (λ moved. λ session past legal next names.
    moved_names session past c.args.entry.now legal next c.requires c.in-Move.from c.in-Move.to c.args.self.now c.rename.new.self c.in-Move.is names moved)

pub returns-in-Unbind : goal.returns-in-Unbind
returns-in-Unbind c = λ session past legal next names.
    unbound_names session past c.args.entry.now legal next c.requires c.in-Unbind.name c.args.self.now c.remove.new.self c.in-Unbind.is names c.remove.ensures

pub returns-in_default : goal.returns-in_default
returns-in_default c = λ session past legal next names.
    other_names session past c.args.entry.now legal next c.requires c.args.self.now (λ name. c.in_default.not-Bind name) (λ from to. c.in_default.not-Move from to) (λ name. c.in_default.not-Unbind name) names
