use Rattle.std.specs.Prelude.{None}
use Rattle.pass_book.proofs.vault_steps.note_flush.Given as goal

abbrev pub ghosts-note_calls : goal.ghosts-note_calls
ghosts-note_calls a = record { sync = record { calls = a.calls; entries = a.entries; file = None; staged = None } }
