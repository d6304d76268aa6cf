use Rattle.std.specs.Prelude.{Some}
use Rattle.pass_book.specs.Syncs.{staged_as}
use Rattle.pass_book.proofs.vault_steps.note_file.Given as goal

abbrev pub ghosts-note_data : goal.ghosts-note_data
ghosts-note_data a = record { sync = record { calls = a.calls; entries = a.entries; file = Some (record { pnode = a.desk.now.value.me.0.name.number; number = a.number }); staged = staged_as a.waits a.blocks.now } }
