use Rattle.std.proofs.Common.{inr}
use Rattle.pass_vault.specs.Vaults.{valued}
use Rattle.pass_vault.proofs.Pooling.{is_waiting}
use Rattle.pass_vault.proofs.Told.{pooled_told}
use Rattle.pass_vault.proofs.vault.Vault.waits.Goals as goal

pub has_file-requires : goal.has_file-requires
has_file-requires g c =
    let i = c.self.inside in
    record { within = λ n p at. (pooled_told g.D.Disk.view (valued g.D.Disk.view i.keeper i.seat i.opening i.unwritten) i.keeper c.self.invariant n p at).0 }

pub returns : goal.returns
returns g c = rw (← c.self.view_is)
    (let i = c.self.inside in
    (λ is. inr (c.has_file.ensures.some is), λ waiting. is_waiting i.unwritten.unsynced c.has_file.result c.args.number i.unwritten.pool c.if-self.false c.has_file.ensures.none waiting))
