use Rattle.std.proofs.Common.{sym, ◌∙◌}
use Rattle.pass_report.proofs.Tabling.{kept_at, other_at}
use Rattle.pass_report.proofs.calls.Calls.note_child.Goals as goal

pub returns-in_ok-insert-clause-kept : goal.returns-in_ok-insert-clause-kept
returns-in_ok-insert-clause-kept c = λ who number child at.
    kept_at c.args.self.now.children c.insert.new.self (c.args.entry.now.who, c.args.entry.now.number) c.pnode_of.result c.in_ok-insert.ensures.updates
    (sym c.contains_key.ensures ∙ c.if-not-contains_key.true) (who, number) child at

pub returns-in_ok-insert-clause-others : goal.returns-in_ok-insert-clause-others
returns-in_ok-insert-clause-others c = λ who number other.
    other_at c.args.self.now.children c.insert.new.self (c.args.entry.now.who, c.args.entry.now.number) c.pnode_of.result c.in_ok-insert.ensures.updates
    (who, number) other
