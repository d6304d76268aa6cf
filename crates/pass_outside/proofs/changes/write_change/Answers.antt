use Rattle.std.proofs.Common.{◌≡◌, rules}
use Rattle.pass_outside.proofs.changes.write_change.Goals as goal
use Rattle.pass_entry.proofs.Variants.{ok_always}

pub returns-else-is_err-clause-event : goal.returns-else-is_err-clause-event
returns-else-is_err-clause-event c =
    let same : c.in_ok-copy.copy.items ≡ c.args.bytes.now = search rules in
    ok_always c.write-done.result _ (c.in_ok-copy.copy, same, c.in_ok-push_event.ensures.ok)
