use Rattle.std.proofs.Common.{sym, subst, take, List}
use Rattle.pass_entry.specs.declared.entry.Entry.{Entry}
use Rattle.pass_reference.specs.States.{IsRegistry}
use Rattle.pass_plain.proofs.Replays.{take-next}
use Rattle.pass_reference.proofs.States.{registry_next}
use Rattle.pass_reference.proofs.registry.after.Goals as goal

pub loop-i-preserved : goal.loop-i-preserved
loop-i-preserved c =
    let h = c.args.history.now in
    subst (λ (h : List Entry). IsRegistry c.args.start.now h c.follow.new.self) (sym (take-next h c.loop-i.i c.index-history-i.result c.loop-i-test.true c.index-history-i.is))
    (registry_next c.args.start.now (take c.loop-i.i h) c.index-history-i.result c.loop-i.state c.follow.new.self c.loop-i.invariant c.in_ok-follow.ensures.ok c.in_ok-follow.ensures.made)
