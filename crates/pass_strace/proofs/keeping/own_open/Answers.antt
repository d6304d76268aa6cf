use Rattle.std.proofs.Common.{ap, sym, ◌∙◌}
use Rattle.pass_strace.specs.Calls.{process_of}
use Rattle.pass_strace.proofs.Walking.{own_is}
use Rattle.pass_strace.proofs.keeping.own_open.Goals as goal

pub returns-then-is_of-clause-last : goal.returns-then-is_of-clause-last
returns-then-is_of-clause-last c =
    own_is _ c.args.table.now _ c.requires _ c.in_ok-last.last (sym c.in_ok-last.ensures) (ap process_of (sym c.line_at.ensures) ∙ c.is_of.ensures c.if-is_of.true)

pub returns-then-is_of-clause-earlier : goal.returns-then-is_of-clause-earlier
returns-then-is_of-clause-earlier c = (c.requires _ c.in_ok-last.last (sym c.in_ok-last.ensures)).earlier
