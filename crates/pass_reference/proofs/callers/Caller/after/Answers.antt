use Rattle.std.proofs.Common.{sym, subst, List, []}
use Rattle.pass_entry.specs.declared.entry.Entry.{Entry}
use Rattle.pass_reference.specs.States.{IsCaller}
use Rattle.pass_plain.proofs.Replays.{take-next}
use Rattle.pass_reference.proofs.States.{blank, lawful_next}
use Rattle.pass_reference.proofs.callers.Caller.after.Goals as goal

pub loop-i-init : goal.loop-i-init
loop-i-init c = c.new-caller.ensures [] c.args.who (blank c.args.who)

pub follow-requires-clause-lawful : goal.follow-requires-clause-lawful
follow-requires-clause-lawful c = lawful_next c.args.history.now c.loop-i.i c.index-history-i.result c.requires c.loop-i-test.true c.index-history-i.is

pub loop-i-preserved : goal.loop-i-preserved
loop-i-preserved c =
    subst (λ (h : List Entry). IsCaller h c.args.who c.follow.new.self)
    (sym (take-next c.args.history.now c.loop-i.i c.index-history-i.result c.loop-i-test.true c.index-history-i.is)) c.in_ok-follow.ensures
