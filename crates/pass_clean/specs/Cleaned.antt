-- Which blocks of a file its syncs leave dirty.
use Rattle.std.specs.Prelude.{◌≡◌, ℕ, ◌≤◌, ◌==◌, ◌&&◌, Bool, true, false, max, nat_le, not, if◌then◌else◌, List, [], ◌∷◌, ◌++◌, Some, None, length}
use Rattle.std.specs.Option.{option_map_or}
use Rattle.std.specs.List.{list_any}
use Rattle.pass_entry.specs.declared.entry.Entry.{Entry}
use Rattle.pass_plain.specs.Sessions.{Session}
use Rattle.pass_book.specs.declared.view.Role.TheVariants as role
use Rattle.pass_book.specs.declared.view.FileMark.{FileMark}
use Rattle.pass_book.specs.declared.view.VaultSync.{VaultSync}
use Rattle.pass_book.specs.Names.{name, concerns, Listed}
use Rattle.pass_book.specs.Syncs.{durable, IsRising}
use Rattle.pass_range.specs.Dirtied.{dirtied_at}

-- the sync cleans the block of its file: a staging its own blocks, any other all
abbrev pub covers : ℕ → VaultSync → Bool
covers block s = option_map_or (λ blocks. list_any (λ b. b == block) blocks) s.staged true

-- below this entry the block is clean by the syncs and stagings of its file: each cleans at its entries
abbrev pub cleaned : ℕ → ℕ → List VaultSync → ℕ
cleaned file block [] = 0
cleaned file block (s ∷ ss) = max (if concerns (name role.Desk file) s && covers block s then s.entries else 0) (cleaned file block ss)

-- whether a block that was dirtied there is so still, where it is clean below an entry
abbrev pub is_dirty_from : ℕ → ℕ → Bool
is_dirty_from clean at = nat_le clean at

-- the block of the file is dirty after the history, by these syncs
abbrev pub is_dirty : Session → List Entry → List VaultSync → ℕ → ℕ → Bool
is_dirty session history syncs file block = option_map_or (is_dirty_from (cleaned file block syncs)) (dirtied_at session history file block) false

-- who has seen all syncs of a file knows what is clean of it
abbrev pub ListedLaw : Type 0
ListedLaw = (file block : ℕ) (mine all : List VaultSync) → Listed (name role.Desk file) mine all → cleaned file block mine ≡ cleaned file block all

-- no more is clean than is durable
abbrev pub DurableLaw : Type 0
DurableLaw = (file block : ℕ) (ss : List VaultSync) → IsRising ss → cleaned file block ss ≤ durable ss

-- after a sync of a file with all entries of a history no block of it is dirty
abbrev pub SyncedLaw : Type 0
SyncedLaw = (session : Session) (history : List Entry) (ss : List VaultSync) (s : VaultSync) (number file block : ℕ) → s.file ≡ Some (record { pnode = file; number = number }) → s.staged ≡ None
    → length history ≤ s.entries → is_dirty session history (ss ++ s ∷ []) file block ≡ false

-- a staging of blocks with all entries of a history leaves dirty what was so but for these
abbrev pub StagedLaw : Type 0
StagedLaw = (session : Session) (history : List Entry) (ss : List VaultSync) (s : VaultSync) (number file block : ℕ) (blocks : List ℕ) → s.file ≡ Some (record { pnode = file; number = number }) → s.staged ≡ Some blocks
    → length history ≤ s.entries → is_dirty session history (ss ++ s ∷ []) file block ≡ (is_dirty session history ss file block && not (list_any (λ b. b == block) blocks))
