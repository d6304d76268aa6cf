-- What a call of a process comes to: its answer, by what the process was before it and after it.
use Rattle.std.specs.Prelude.{◌≡◌, ℕ, ◌+◌, ◌<◌, Bool, true, false, List, Option, Some, None, Result, Ok, Err, length, option_map, slice_get, take, if◌then◌else◌}
use Rattle.std.specs.Option.{option_map_or}
use mathlib.Core.List.{IsPrefix}
use Rattle.pass_entry.specs.declared.entry.CallFault.{CallFault}
use Rattle.pass_entry.specs.declared.entry.Entry.{Entry}
use Rattle.pass_entry.specs.declared.entry.Reply.{Reply}
use Rattle.pass_entry.specs.declared.entry.Reply.TheVariants as answer
use Rattle.pass_plain.specs.declared.request.Request.{Request}
use Rattle.pass_plain.specs.declared.request.Request.TheVariants as requests
use Rattle.pass_plain.specs.Calls.{Made, Step, name_of, call_steps, place_at, pnode_at}
use Rattle.pass_plain.specs.Histories.{is_fault}
use Rattle.pass_plain.specs.Legal.{last_number}
use Rattle.pass_plain.specs.Places.{left_for, need_of}
use Rattle.pass_plain.specs.Processes.{Process, process_after}
use Rattle.pass_plain.specs.Replies.{reply_to}
use Rattle.pass_plain.specs.Sessions.{Session}
use Rattle.pass_plain.specs.Versions.{nodes_of}
use Rattle.pass_hold.specs.Callings.{IsCallMade, IsInCall, HasLooked}
use Rattle.pass_proc.specs.CallEnds.{HasReplied, last_reply}
use Rattle.pass_proc.specs.Procs.{ProcView, is_way}
use Rattle.pass_proc.specs.declared.way.Way.{Way}
use Rattle.pass_answer.specs.declared.answer.Moved.{Moved}
use Rattle.pass_answer.specs.declared.answer.Moved.TheVariants as moved
use Rattle.pass_answer.specs.declared.answer.CallEnd.{CallEnd}
use Rattle.pass_answer.specs.declared.answer.CallEnd.TheVariants as ends

-- the call goes on with the process's write that is under way
abbrev pub resumes : Option Way → Request → Bool
resumes way (requests.Write fd bytes) = is_way way fd bytes
resumes way _ = false

-- what the process had seen as its call began: where it goes on with a write, what stands before the first entry of that
abbrev pub begins_at : ProcView → Request → List Entry
begins_at p r = if resumes p.way r then option_map_or (λ (w : Way). take w.out p.seen) p.way p.seen else p.seen

abbrev pub reply_at : Made → ℕ → Option Reply
reply_at made k = option_map (λ s. s.1.reply) (slice_get made k)

-- the answer is the one that the entries of the call carry; `now` is the process's state after it
abbrev pub Tells : Session → List Entry → Process → Request → Made → Moved → Type 0
Tells session after now (requests.Creat fd name) made (moved.Made pnode) = pnode_at made 0 ≡ pnode
Tells session after now (requests.OpenName fd name m) made (moved.Made pnode) = pnode_at made 0 ≡ pnode
Tells session after now (requests.MakePipe reader writer) made (moved.Made pnode) = pnode_at made 0 ≡ pnode
Tells session after now (requests.MakeObj fd) made (moved.Made pnode) = pnode_at made 0 ≡ pnode
Tells session after now (requests.Revive fd object) made (moved.Made pnode) = object ≡ pnode
Tells session after now (requests.Read fd len) made (moved.Read n from) =
    (reply_at made 0 ≡ Some (answer.Took now.last_read)) × (n ≡ length now.last_read) × (slice_get (nodes_of session after) (place_at made 0) ≡ Some from)
Tells session after now (requests.Write fd bytes) made (moved.Wrote n to) =
    (n ≡ length bytes) × (slice_get (nodes_of session after) (place_at made 1) ≡ Some to)
Tells session after now (requests.FreezeObj fd) made (moved.Frozen node) = slice_get (nodes_of session after) (place_at made 0) ≡ Some node
Tells session after now (requests.Sync fd) made (moved.Synced calls entries) = place_at made 0 < entries
Tells session after now (requests.CloseFd fd) made moved.Done = Unit {0}
Tells session after now (requests.Seek fd at) made moved.Done = Unit {0}
Tells session after now (requests.Truncate fd size) made moved.Done = Unit {0}
Tells session after now requests.Fork made moved.Done = Unit {0}
Tells session after now (requests.Exec name args) made moved.Done = Unit {0}
Tells session after now (requests.WaitChild child) made moved.Done = Unit {0}
Tells session after now (requests.Await child) made moved.Done = Unit {0}
Tells session after now (requests.Rename from to) made moved.Done = Unit {0}
Tells session after now (requests.Unlink name) made moved.Done = Unit {0}
Tells session after now (requests.Disclose target source) made moved.Done = Unit {0}
Tells session after now (requests.TagObj fd attr value) made moved.Done = Unit {0}
Tells session after now _ made _ = ⊥

-- the call was made, none of its entries is a fault, and they tell the answer
pub record HasMoved (session : Session) (who : ℕ) (before after : List Entry) (now : Process) (r : Request) (m : Moved) : Type 0 where
  pub made : Made
  pub call : IsCallMade session who before after r made
  pub reply : Reply
  pub last : last_reply made ≡ Some reply
  pub fine : is_fault reply ≡ false
  pub tells : Tells session after now r made m

-- the steps of a call that is not refused and does not wait: they went through, or the last one is this fault
abbrev pub Stepped : Session → ℕ → List Entry → List Entry → Process → Request → Result Moved CallFault → Type 0
Stepped session who before after now r (Ok m) = HasMoved session who before after now r m
Stepped session who before after now r (Err f) = HasReplied session who before after r (answer.Fault f)

-- the process has looked and has made no entry
pub record HasOnlyLooked (session : Session) (old new : ProcView) : Type 0 where
  pub looked : HasLooked session old.who old.seen new.seen
  pub rose : old.looks < new.looks
  pub stays : new ≡ record old { seen = new.seen; syncs = new.syncs; looks = new.looks; looked = length new.seen }

-- the call was made to its end
pub record HasEnded (session : Session) (old new : ProcView) : Type 0 where
  pub who : new.who ≡ old.who
  pub grows : IsPrefix old.seen new.seen
  pub way : new.way ≡ None

-- where a call waits that makes an entry first, a write to a pipe, it is under way; any other leaves the process as it was
abbrev pub Stays : ProcView → ProcView → Request → Type 0
Stays old new (requests.Write fd bytes) = is_way new.way fd bytes ≡ true
Stays old new _ = new ≡ record old { seen = new.seen; syncs = new.syncs; looks = new.looks; looked = length new.seen }

-- The call waits: of its steps those are made, and as the process looked the next one was not ready.
pub record HasWaited (session : Session) (old new : ProcView) (r : Request) : Type 0 where
  pub made : Made
  pub call : IsInCall session (begins_at old r) new.seen old.who (last_number (begins_at old r) old.who + 1) r (process_after (begins_at old r) old.who) made new.state
  pub step : Step
  pub next : slice_get (call_steps old.who (process_after (begins_at old r) old.who) made r) (length made) ≡ Some step
  pub unready : reply_to session new.seen step.0 step.1 ≡ None
  pub grows : IsPrefix old.seen new.seen
  pub rose : old.looks < new.looks
  pub looked : new.looked ≡ length new.seen
  pub who : new.who ≡ old.who
  pub stays : Stays old new r

-- fewer places are left than the call needs, as its process looked. A write that goes on needs none
pub record IsFull (session : Session) (places : ℕ) (old new : ProcView) (r : Request) (left need : ℕ) : Type 0 where
  pub only : HasOnlyLooked session old new
  pub anew : resumes old.way r ≡ false
  pub needs : need ≡ need_of (name_of r)
  pub fewer : left < need
  pub leaves : left ≡ left_for places new.seen old.who

-- One call. A sync has a relation of its own.
abbrev pub Answers : Session → ℕ → ProcView → ProcView → Request → Result Moved CallEnd → Type 0
Answers session places old new r (Ok m) = HasMoved session old.who (begins_at old r) new.seen new.state r m × HasEnded session old new
Answers session places old new r (Err (ends.Fault f)) = HasReplied session old.who (begins_at old r) new.seen r (answer.Fault f) × HasEnded session old new
Answers session places old new r (Err ends.Again) = HasWaited session old new r
Answers session places old new r (Err (ends.DiskFault opened now)) = ⊥
Answers session places old new r (Err (ends.Full left need)) = IsFull session places old new r left need
Answers session places old new r (Err ends.NoMemory) = new ≡ old
