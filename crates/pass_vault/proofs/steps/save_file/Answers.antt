use Rattle.pass_clean.specs.Blocks.{AreDirty}
use Rattle.pass_vault.specs.Vaults.{valued}
use Rattle.pass_vault.proofs.Told.{pooled_told}
use Rattle.pass_vault.proofs.steps.save_file.Goals as goal

pub clear_file-requires : goal.clear_file-requires
clear_file-requires g c =
    let k = c.args.keeper.now in
    let v = valued g.D.Disk.view k c.args.seat.now c.args.opening.now c.args.unwritten.now in
    record { within = λ i p at. (pooled_told g.D.Disk.view v k c.requires.kept i p at).0 }

pub blocks_to_write-requires : goal.blocks_to_write-requires
unfolding AreDirty
blocks_to_write-requires g c = record { rising = c.requires.dirty.rising }
