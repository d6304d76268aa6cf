use Rattle.pass_vault.proofs.Holding.{vault_still}
use Rattle.pass_vault.proofs.vault.Vault.stage.Goals as goal
use Rattle.std.proofs.lemmas.Result.{on_ok_weaker}

pub stage_file-requires-clause-kept : goal.stage_file-requires-clause-kept
stage_file-requires-clause-kept g c =
    let i = c.self.inside in
    let e = c.check.ensures in
    vault_still g.D.Disk.view i.keeper c.check.new.keeper i.seat i.opening i.unwritten c.self.invariant e.kept e.disk e.log e.durable

pub returns-clause-wrote : goal.returns-clause-wrote
returns-clause-wrote g c = rw (← c.self.view_is) (on_ok_weaker c.stage_file.result (λ u. u.2) c.stage_file.ensures.unsynced)
