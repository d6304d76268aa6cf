-- A sync: how far it is, and how it ends.
use Rattle.std.specs.Prelude.{◌≡◌, ℕ, ◌<◌, ◌≤◌, false, List, [], ◌∷◌, Some, None, length, slice_get}
use mathlib.Core.List.{IsPrefix}
use Rattle.pass_entry.specs.declared.entry.Ask.TheVariants as ask
use Rattle.pass_entry.specs.declared.entry.CallName.TheVariants as calls
use Rattle.pass_entry.specs.declared.entry.Act.TheVariants as act
use Rattle.pass_entry.specs.declared.entry.Entry.{Entry}
use Rattle.pass_entry.specs.declared.entry.Reply.TheVariants as answer
use Rattle.pass_plain.specs.declared.request.Request.TheVariants as requests
use Rattle.pass_plain.specs.Calls.{descriptor_at}
use Rattle.pass_plain.specs.Legal.{IsLegal}
use Rattle.pass_plain.specs.Processes.{Process, process_after, refusal}
use Rattle.pass_plain.specs.Sessions.{Session}
use Rattle.pass_plain.specs.Sound.{IsSound}
use Rattle.pass_book.specs.declared.view.VaultSync.{VaultSync}
use Rattle.pass_hold.specs.Callings.{HasGone}
use Rattle.pass_flow.specs.Flows.{keep_entry}
use Rattle.pass_proc.specs.Acts.{own_entry}
use Rattle.pass_proc.specs.Procs.{ProcView}
use Rattle.pass_book.specs.Parting.{lists_of}
use Rattle.pass_book.specs.Records.{AreParts}
use Rattle.pass_book.specs.Syncs.{durable}
use Rattle.pass_book.specs.Tokens.{BookId}
use Rattle.pass_vault.specs.Rooms.{most_entries}
use Rattle.pass_vault.specs.Vaulted.{Vaulted}
use Rattle.pass_vault.specs.declared.vault.Receipt.{Receipt}
use Rattle.pass_safe.specs.declared.fault.SafeFault.{SafeFault}
use Rattle.pass_safe.specs.declared.fault.SafeFault.TheVariants.{DiskFault, NoMemory}
use Rattle.pass_safe.specs.declared.saving.Copied.{Copied}
use Rattle.pass_safe.specs.declared.saving.Saved.{Saved}
use Rattle.pass_answer.specs.Syncs.{BacksFile, HasSynced}
use Rattle.pass_answer.specs.declared.answer.CallEnd.{CallEnd}
use Rattle.pass_answer.specs.declared.answer.CallEnd.TheVariants as ends

-- the last entry of a sync, by the caller, the number of its call and the descriptor
abbrev pub kept_entry : ℕ → ℕ → ℕ → Entry
kept_entry who number fd = own_entry who number calls.Sync (act.Kept fd) answer.Done

-- a sync whose first entry stands: the process as it was before, the descriptor of the object, and the entry's place
pub record KeepingView : Type 0 where
  pub before : ProcView
  pub fd : ℕ
  pub place : ℕ

-- The first entry of a sync of the object `what` stands at this place. Its process had seen `before`, its state was p and is p, and it may make
-- the last entry, or leave the call.
pub record IsKeeping (session : Session) (who number : ℕ) (before seen : List Entry) (fd what : ℕ) (p : Process) (place : ℕ) : Type 0 where
  pub gone : HasGone session before seen who number (requests.Sync fd) p ((place, keep_entry who number what) ∷ []) p
  pub lives : p.ended ≡ false
  pub low : fd < 64
  pub free : refusal p (ask.Held fd) ≡ None
  pub object : (descriptor_at p fd).pnode ≡ what

-- the process has come to that, and to nothing else
pub record HasKept (session : Session) (k : KeepingView) (now : ProcView) (what : ℕ) : Type 0 where
  pub keeping : IsKeeping session now.who now.number k.before.seen now.seen k.fd what now.state k.place
  pub who : now.who ≡ k.before.who
  pub state : now.state ≡ k.before.state
  pub way : now.way ≡ None

-- a call ended otherwise than by a fault of the device
abbrev pub IsNoDiskFault : CallEnd → Type 0
IsNoDiskFault (ends.DiskFault opened now) = ⊥
IsNoDiskFault _ = Unit {0}

-- a fault of the vault, as a call answers it
abbrev pub end_of : SafeFault → CallEnd
end_of (DiskFault opened now) = ends.DiskFault opened now
end_of NoMemory = ends.NoMemory

-- the counts of a fault of the device
abbrev pub HasRisen : SafeFault → Type 0
HasRisen (DiskFault opened now) = opened ≤ now
HasRisen NoMemory = Unit {0}

-- Parts and note are of one moment of a book, of whose history the vault had seen a beginning: the records of the entries that are not durable.
pub record IsCopy {D : Type 0} (book : BookId) (v : Vaulted D) (c : Copied) (seen : List Entry) : Type 0 where
  pub of_book : c.note.book ≡ book
  pub whole : c.note.seen ≡ seen
  pub begins : IsPrefix v.seen seen
  pub legal : IsLegal book.session seen
  pub few : length seen ≤ most_entries
  pub parts : AreParts book.session seen (durable v.syncs) (lists_of c.parts.items)

-- what was told of the vault has the sync of the receipt, of no more entries than were told
pub record IsSaved (book : BookId) (seen : List Entry) (s : Saved) : Type 0 where
  pub sound : IsSound book.session
  pub of_book : s.told.book ≡ book
  pub begins : IsPrefix seen s.told.seen
  pub within : s.receipt.entries ≤ length s.told.seen
  pub synced : HasSynced s.receipt.calls s.receipt.entries s.told.syncs

-- a sync of the vault of this book, and what the vault had seen with it
abbrev pub IsSavedIn : BookId → Saved → Type 0
IsSavedIn book s = (seen : List Entry) × IsSaved book seen s

-- the vault's list has the sync of a receipt, of no more entries than it has seen
pub record HasReceipt {D : Type 0} (v : Vaulted D) (r : Receipt) : Type 0 where
  pub within : r.entries ≤ length v.seen
  pub synced : HasSynced r.calls r.entries v.syncs

-- which is one of the data of this file
pub record IsFileSaved (what number : ℕ) (s : Saved) : Type 0 where
  pub i : ℕ
  pub sync : VaultSync
  pub is : slice_get s.told.syncs i ≡ Some sync
  pub mark : sync.file ≡ Some (record { pnode = what; number = number })
  pub whole : sync.staged ≡ None
  pub called : sync.calls ≡ s.receipt.calls
  pub has : sync.entries ≡ s.receipt.entries

-- so it is whatever more the process sees
abbrev pub IsBacking : Session → ℕ → Process → ℕ → Saved → Type 0
IsBacking session who p what s = (seen : List Entry) → IsPrefix s.told.seen seen → IsLegal session seen → process_after seen who ≡ p → BacksFile session seen what s.receipt.calls s.receipt.entries s.told.syncs
