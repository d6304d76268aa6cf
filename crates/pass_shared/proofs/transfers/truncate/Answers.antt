use Rattle.std.proofs.Common.{◌∙◌, sym}
use Rattle.pass_shared.proofs.Refusals.{cut_asks, file_held}
use Rattle.pass_shared.proofs.transfers.truncate.Goals as goal

pub refused-requires-clause-some : goal.refused-requires-clause-some
refused-requires-clause-some g c = cut_asks c.args.fd c.args.size c.requires.fd

pub truncate-requires-clause-object : goal.truncate-requires-clause-object
truncate-requires-clause-object g c d at =
    (file_held (sym c.deref_mut-2.ensures.value ∙ c.in-File.is) c.in-Ok.d c.object-slot.ensures c.in-Ok.ensures.held c.in_ok-list-in-File.ensures.same d at).1
