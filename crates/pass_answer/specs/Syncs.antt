-- What a sync of a process comes to.
use Rattle.std.specs.Prelude.{◌≡◌, ℕ, ◌+◌, ◌≤◌, true, List, ◌++◌, Some, None, Result, Ok, Err, slice_get}
use mathlib.Core.List.{IsPrefix}
use Rattle.pass_entry.specs.declared.entry.Reply.TheVariants as answer
use Rattle.pass_plain.specs.declared.request.Request.{Request}
use Rattle.pass_plain.specs.declared.request.Request.TheVariants as requests
use Rattle.pass_plain.specs.CallLaws.{IsBegun}
use Rattle.pass_plain.specs.Calls.{Made, descriptor_at}
use Rattle.pass_plain.specs.Histories.{call_entries}
use Rattle.pass_plain.specs.Legal.{IsLegal, before_call, last_number, may_be_left}
use Rattle.pass_plain.specs.Processes.{process_after}
use Rattle.pass_plain.specs.Sessions.{Session}
use Rattle.pass_entry.specs.declared.entry.Entry.{Entry}
use Rattle.pass_book.specs.Numbers.{IsFileNumber}
use Rattle.pass_book.specs.declared.view.FileMark.{FileMark}
use Rattle.pass_book.specs.declared.view.VaultSync.{VaultSync}
use Rattle.pass_hold.specs.Callings.{made_by, entries_in}
use Rattle.pass_proc.specs.CallEnds.{HasReplied}
use Rattle.pass_proc.specs.Procs.{ProcView}
use Rattle.pass_answer.specs.Answers.{HasMoved, HasEnded, IsFull}
use Rattle.pass_answer.specs.declared.answer.CallEnd.{CallEnd}
use Rattle.pass_answer.specs.declared.answer.CallEnd.TheVariants as ends
use Rattle.pass_answer.specs.declared.answer.Moved.{Moved}
use Rattle.pass_answer.specs.declared.answer.Moved.TheVariants as moved

-- the call has made entries, and may be left with them
pub record HasLeft (session : Session) (old new : ProcView) (r : Request) : Type 0 where
  pub who : new.who ≡ old.who
  pub made : Made
  pub legal : IsLegal session new.seen
  pub begins : IsPrefix old.seen new.seen
  pub own : made_by new.who new.seen ≡ made_by new.who old.seen ++ entries_in made
  pub made_is : call_entries new.seen new.who (last_number old.seen new.who + 1) ≡ made
  pub before_is : before_call new.seen new.who (last_number old.seen new.who + 1) ≡ process_after old.seen new.who
  pub steps : IsBegun new.who (process_after old.seen new.who) made r
  pub left : may_be_left new.seen new.who (last_number old.seen new.who + 1) ≡ true
  pub way : new.way ≡ None

-- the list has a sync with these numbers, which is no staging
pub record HasSynced (calls entries : ℕ) (ss : List VaultSync) : Type 0 where
  pub i : ℕ
  pub s : VaultSync
  pub is : slice_get ss i ≡ Some s
  pub whole : s.staged ≡ None
  pub called : s.calls ≡ calls
  pub has : s.entries ≡ entries

-- where the object is a file, the list has a sync of its data with these numbers, which is no staging
abbrev pub BacksFile : Session → List Entry → ℕ → ℕ → ℕ → List VaultSync → Type 0
BacksFile session seen what calls entries ss = (number : ℕ) → IsFileNumber session seen what number
    → (i : ℕ) × (s : VaultSync) × (f : FileMark) × (slice_get ss i ≡ Some s) × (s.file ≡ Some f) × (f.number ≡ number) × (s.staged ≡ None) × (s.calls ≡ calls) × (s.entries ≡ entries)

-- the list has the sync that a call answers, and for a file one of its data; `seen` is what stands before the call
abbrev pub HasAnswered : Session → List Entry → ℕ → Moved → List VaultSync → Type 0
HasAnswered session seen what (moved.Synced calls entries) ss = HasSynced calls entries ss × BacksFile session seen what calls entries ss
HasAnswered session seen what _ ss = ⊥

-- One call that is a sync of what the process holds under this number. Where a device call failed, or memory was refused, its first entry stands.
abbrev pub SyncAnswers : Session → ℕ → ProcView → ProcView → ℕ → Result Moved CallEnd → Type 0
SyncAnswers session places old new fd (Ok m) = HasMoved session old.who old.seen new.seen new.state (requests.Sync fd) m × HasEnded session old new × HasAnswered session old.seen (descriptor_at old.state fd).pnode m new.syncs
SyncAnswers session places old new fd (Err (ends.Fault f)) = HasReplied session old.who old.seen new.seen (requests.Sync fd) (answer.Fault f) × HasEnded session old new
SyncAnswers session places old new fd (Err ends.Again) = ⊥
SyncAnswers session places old new fd (Err (ends.DiskFault opened now)) = HasLeft session old new (requests.Sync fd) × (opened ≤ now)
SyncAnswers session places old new fd (Err (ends.Full left need)) = IsFull session places old new (requests.Sync fd) left need
SyncAnswers session places old new fd (Err ends.NoMemory) = HasLeft session old new (requests.Sync fd)
