-- The records that the book still has.
use Rattle.std.specs.Prelude.{◌≡◌, ℕ, zero, suc, ◌≤◌, List, [], ◌∷◌, length}
use Rattle.pass_entry.specs.declared.entry.Entry.{Entry}
use Rattle.pass_entry.specs.declared.record.Record.{Record}
use Rattle.pass_plain.specs.Sessions.{Session}
use Rattle.pass_book.specs.declared.view.VaultSync.{VaultSync}
use Rattle.pass_book.specs.Records.{entry_lists}
use Rattle.pass_book.specs.Syncs.{durable}

-- the lists with so many of the first ones emptied
abbrev pub shed : ℕ → List (List Record) → List (List Record)
shed zero lists = lists
shed (suc n) [] = []
shed (suc n) (l ∷ lists) = [] ∷ shed n lists

-- the records of each entry but for those before a place, which are durable
pub record AreKept (session : Session) (history : List Entry) (syncs : List VaultSync) (kept : ℕ) (slips : List (List Record)) : Type 0 where
  pub lists : slips ≡ shed kept (entry_lists session history)
  pub within : kept ≤ length history
  pub durable : kept ≤ durable syncs
