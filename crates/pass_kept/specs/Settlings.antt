-- What a store has come to that was settled while its calls go on. This project's own rule.
use Rattle.std.specs.Prelude.{◌≤◌, length}
use Rattle.pass_vault.specs.declared.vault.Receipt.{Receipt}
use Rattle.pass_proc.specs.Procs.{ProcView}
use Rattle.pass_answer.specs.Syncs.{HasSynced}

-- A process asked for it. By the list that it sees there is the sync of the receipt, which is no staging and has every entry that the
-- process had seen before.
pub record HasSettled (old new : ProcView) (r : Receipt) : Type 0 where
  pub since : length old.seen ≤ r.entries
  pub synced : HasSynced r.calls r.entries new.syncs
