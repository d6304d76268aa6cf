use Rattle.std.proofs.Common.{ap, sym, subst, ◌∙◌, Some}
use Rattle.std.specs.BTreeMap.{Updates}
use Rattle.std.specs.Ordering.{nat_cmp}
use Rattle.pass_strace.specs.Calls.{is_left_open, process_of, said_of}
use Rattle.pass_strace.specs.Openings.{key_of}
use Rattle.pass_strace.proofs.Walking.{closed_line, open_line}
use Rattle.pass_strace.proofs.keeping.note_open.Goals as goal

pub returns-in_ok-insert : goal.returns-in_ok-insert
returns-in_ok-insert c =
    open_line _ c.args.table.now _ c.requires c.insert.new.self
    (ap is_left_open (sym (c.said_of.ensures ∙ ap said_of c.line_at-line.ensures)) ∙ sym c.is_left_open.ensures ∙ c.if-is_left_open.true)
    (subst (λ q. Updates nat_cmp c.args.table.now c.insert.new.self q (Some c.args.place)) (c.key_of.ensures ∙ ap key_of (c.process_of.ensures ∙ ap process_of c.line_at-line.ensures)) c.in_ok-insert.ensures.updates)

pub returns-else-is_left_open : goal.returns-else-is_left_open
returns-else-is_left_open c =
    closed_line _ c.args.table.now _ c.requires
    (ap is_left_open (sym (c.said_of.ensures ∙ ap said_of c.line_at-line.ensures)) ∙ sym c.is_left_open.ensures ∙ c.if-is_left_open.false)
