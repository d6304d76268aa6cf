-- What holds in every legal history.
use Rattle.std.specs.Prelude.{ℕ, ◌≡◌, ◌==◌, ◌<◌, Bool, true, List, Some, slice_get, filter}
use Rattle.std.specs.Prelude.{suc, length, ◌+◌, ◌||◌}
use Rattle.pass_plain.specs.Histories.{is_fault, call_entries}
use Rattle.pass_plain.specs.declared.request.Request.{Request}
use Rattle.pass_plain.specs.Calls.{Step, Made, name_of, call_steps, is_last, is_last_act}
use Rattle.pass_plain.specs.Legal.{before_call, last_number}
use Rattle.std.specs.Prelude.{not, ◌⊎◌}
use Rattle.pass_entry.specs.declared.objects.Kind.{Kind}
use Rattle.pass_entry.specs.declared.entry.Act.{Act}
use Rattle.pass_entry.specs.declared.entry.Act.TheVariants as act
use Rattle.pass_plain.specs.Histories.{made_object, made_kind}
use Rattle.pass_plain.specs.Sound.{IsSound}
use Rattle.pass_plain.specs.Registries.{registry_after, opening_registry}
use Rattle.pass_plain.specs.Processes.{has_ended, has_begun, process_after, refusal}
use Rattle.pass_plain.specs.Files.{file_after}
use Rattle.std.specs.Ordering.{nat_cmp}
use Rattle.std.specs.Prelude.{[], ◌∷◌}
use Rattle.pass_plain.specs.Histories.{bytes_of}
use Rattle.pass_plain.specs.Pipes.{pipe_after}
use Rattle.pass_entry.specs.declared.entry.CallName.{CallName}
use Rattle.pass_entry.specs.declared.entry.CallFault.{CallFault}
use Rattle.pass_entry.specs.declared.entry.Ask.{Ask}
use Rattle.pass_entry.specs.declared.entry.CallName.TheVariants as call
use Rattle.pass_entry.specs.declared.entry.Reply.TheVariants as answer
use mathlib.Core.List.{IsPrefix}
use Rattle.pass_entry.specs.declared.entry.Entry.{Entry}
use Rattle.pass_plain.specs.Histories.{is_out, source_place}
use Rattle.std.specs.Prelude.{◌≤◌, false}
use Rattle.std.specs.FinMap as finite_map
use Rattle.std.specs.FinSet as finite_set
use Rattle.pass_entry.specs.declared.objects.Kind.TheVariants as kind
use Rattle.pass_entry.specs.declared.objects.Descriptor.{Descriptor}
use Rattle.pass_plain.specs.Registries.{Registry, Exists, same_kind}
use Rattle.pass_plain.specs.Processes.{Process, is_file, is_pipe}
use Rattle.pass_plain.specs.Calls.{end_of}
use Rattle.pass_entry.specs.declared.objects.End.{End}
use Rattle.pass_entry.specs.Limits.{file_limit, pipe_capacity, transfer_limit}
use Rattle.pass_plain.specs.Sessions.{Session}
use Rattle.pass_plain.specs.Legal.{IsLegal, MayFollow, ObjectAllows, CallerAllows}

-- the place holds an entry on a source, no fault, of the call of the entry
pub record IsGiven (history : List Entry) (e : Entry) (out : ℕ) : Type 0 where
  pub source : Entry
  pub stands : slice_get history out ≡ Some source
  pub gives : is_out source ≡ true
  pub by : source.who ≡ e.who
  pub number : source.number ≡ e.number
  pub call : source.call ≡ e.call

-- in a legal history an IN entry names the OUT entry of its call, which stands before it
abbrev pub SourceLaw : Type 0
SourceLaw = (session : Session) (history : List Entry) → IsLegal session history → (i : ℕ) (e : Entry) (out : ℕ)
    → slice_get history i ≡ Some e → source_place e ≡ Some out → (out < i) × IsGiven history e out

-- the two lists have the same entries on the object, and the same by the caller
abbrev pub AgreeOn : ℕ → List Entry → List Entry → Type 0
AgreeOn object seen history = filter (λ (e : Entry). e.what == object) seen ≡ filter (λ (e : Entry). e.what == object) history

abbrev pub AgreeBy : ℕ → List Entry → List Entry → Type 0
AgreeBy who seen history = filter (λ (e : Entry). e.who == who) seen ≡ filter (λ (e : Entry). e.who == who) history

-- an entry may come next after each legal history that begins with what its object and its caller have seen, and has no more entries on that object and by that caller
abbrev pub TwoPrefixLaw : Type 0
TwoPrefixLaw = (session : Session) (history desk line : List Entry) (e : Entry) → IsLegal session history
    → IsPrefix desk history → AgreeOn e.what desk history → IsPrefix line history → AgreeBy e.who line history
    → ObjectAllows session desk e → CallerAllows line e → MayFollow session history e

-- a descriptor of a process: its number, its object, which exists and has its kind, and its offset
pub record IsGoodDescriptor (r : Registry) (fd : ℕ) (d : Descriptor) : Type 0 where
  pub below : fd < 64
  pub known : Exists r d.pnode d.kind
  pub no_process : same_kind d.kind kind.Process ≡ false
  pub in_file : is_file d ≡ true → d.offset ≤ file_limit
  pub elsewhere : is_file d ≡ false → d.offset ≡ 0

-- each descriptor of the process is good, and each of its children is a process that was made
pub record IsGoodProcess (r : Registry) (p : Process) : Type 0 where
  pub held : (fd : ℕ) (d : Descriptor) → finite_map.get p.descriptors fd ≡ Some d → IsGoodDescriptor r fd d
  pub children : (child : ℕ) → finite_set.contains p.children child ≡ true → Exists r child kind.Process

-- of the steps of each call an act counts as the last one exactly at the end
abbrev pub StepEndLaw : Type 0
StepEndLaw = (who : ℕ) (p : Process) (made : Made) (r : Request) (k : ℕ) (s : Step) → slice_get (call_steps who p made r) k ≡ Some s
    → is_last_act p (name_of r) s.1 ≡ (suc k == length (call_steps who p made r))

-- an entry that may come next is its call's last one exactly where it is a fault or the last of the call's steps
abbrev pub EndLaw : Type 0
EndLaw = (session : Session) (history : List Entry) (e : Entry) (next : MayFollow session history e)
    → is_last (before_call history e.who e.number) e
    ≡ (is_fault e.reply || (length (call_entries history e.who e.number) + 1 == length (call_steps e.who (before_call history e.who e.number) (call_entries history e.who e.number) next.step.request)))

-- the act is one on the registry
abbrev pub is_registry_act : Act → Bool
is_registry_act (act.Bind name) = true
is_registry_act (act.Find name) = true
is_registry_act (act.Move from to) = true
is_registry_act (act.Unbind name) = true
is_registry_act (act.Mint k) = true
is_registry_act (act.Known pnode) = true
is_registry_act _ = false

-- the act is one on an object of this kind
abbrev pub suits : Act → Kind → Bool
suits (act.Deny a) k = same_kind k kind.Process
suits (act.Attach fd d) k = same_kind k kind.Process
suits (act.AttachPipe reader writer pnode) k = same_kind k kind.Process
suits (act.Detach fd) k = same_kind k kind.Process
suits (act.Seek fd at) k = same_kind k kind.Process
suits (act.Show fd len) k = same_kind k kind.Process
suits (act.Spawn child) k = same_kind k kind.Process
suits (act.Born out descriptors) k = same_kind k kind.Process
suits (act.Gain out fd) k = same_kind k kind.Process
suits (act.Exec out name args) k = same_kind k kind.Process
suits act.Reap k = same_kind k kind.Process
suits (act.Gather out child) k = same_kind k kind.Process
suits act.Ended k = same_kind k kind.Process
suits (act.Release child) k = same_kind k kind.Process
suits act.Finish k = same_kind k kind.Process
suits (act.Kept fd) k = same_kind k kind.Process
suits (act.Give at len) k = same_kind k kind.File
suits (act.Put out at bytes) k = same_kind k kind.File
suits (act.Cut out size) k = same_kind k kind.File
suits act.Load k = same_kind k kind.File
suits (act.Take len) k = same_kind k kind.Pipe
suits (act.Push out bytes) k = same_kind k kind.Pipe
suits (act.Join end) k = same_kind k kind.Pipe
suits (act.Leave end) k = same_kind k kind.Pipe
suits act.Freeze k = not (same_kind k kind.Process)
suits act.Cite k = not (same_kind k kind.Process)
suits (act.Told out) k = not (same_kind k kind.Process)
suits (act.Tag attr value) k = not (same_kind k kind.Process)
suits act.Keep k = not (same_kind k kind.Process)
suits _ k = false

-- an entry is on the registry, or on an object that exists and has the kind that the act asks
abbrev pub ObjectLaw : Type 0
ObjectLaw = (session : Session) → IsSound session → (history : List Entry) (e : Entry) → IsLegal session history → MayFollow session history e
    → ((is_registry_act e.act ≡ true) × (e.what ≡ 0)) ⊎ ((k : Kind) × Exists (registry_after session history) e.what k × (suits e.act k ≡ true))

-- an object that exists is of the opening or was made by an entry, and has one kind
abbrev pub OriginLaw : Type 0
OriginLaw = (session : Session) (history : List Entry) (n : ℕ) (k : Kind) → IsLegal session history → Exists (registry_after session history) n k
    → Exists (opening_registry session.start) n k
    ⊎ ((i : ℕ) × (e : Entry) × (slice_get history i ≡ Some e) × (made_object e.act e.reply ≡ Some n) × (made_kind e.act ≡ Some k))

abbrev pub OneKindLaw : Type 0
OneKindLaw = (session : Session) → IsSound session → (history : List Entry) (n : ℕ) (j k : Kind) → IsLegal session history
    → Exists (registry_after session history) n j → Exists (registry_after session history) n k → j ≡ k

-- what an entry makes is not of the opening, and no other entry makes it
abbrev pub NewLaw : Type 0
NewLaw = (session : Session) → IsSound session → (history : List Entry) (i n : ℕ) (e : Entry) → IsLegal session history
    → slice_get history i ≡ Some e → made_object e.act e.reply ≡ Some n
    → ((k : Kind) → ¬ (Exists (opening_registry session.start) n k))
    × ((j : ℕ) (f : Entry) → slice_get history j ≡ Some f → made_object f.act f.reply ≡ Some n → i ≡ j)

-- the act is one of its parent on a process that has ended
abbrev pub sees_end : Act → Bool
sees_end act.Reap = true
sees_end act.Ended = true
sees_end _ = false

-- an entry on a process is its own, its `Born`, or one of its parent after its end
abbrev pub OnProcessLaw : Type 0
OnProcessLaw = (session : Session) → IsSound session → (history : List Entry) (e : Entry) → IsLegal session history → MayFollow session history e
    → Exists (registry_after session history) e.what kind.Process
    → (e.who ≡ e.what) ⊎ (((out : ℕ) × (descriptors : finite_map.FinMap nat_cmp Descriptor) × (e.act ≡ act.Born out descriptors))
    ⊎ ((sees_end e.act ≡ true) × (has_ended history e.what ≡ true)))

-- call numbers, file sizes and descriptors stay in their ranges
abbrev pub NumberLaw : Type 0
NumberLaw = (session : Session) (history : List Entry) → IsLegal session history
    → ((who : ℕ) → last_number history who ≤ length history)
    × ((i : ℕ) (e : Entry) → slice_get history i ≡ Some e → e.number ≤ last_number history e.who)

abbrev pub SizeLaw : Type 0
SizeLaw = (session : Session) → IsSound session → (history : List Entry) → IsLegal session history → (object : ℕ)
    → length (file_after session history object) ≤ file_limit

abbrev pub DescriptorLaw : Type 0
DescriptorLaw = (session : Session) → IsSound session → (history : List Entry) → IsLegal session history → (who : ℕ)
    → IsGoodProcess (registry_after session history) (process_after history who)

-- a process begins once
abbrev pub BeginLaw : Type 0
BeginLaw = (session : Session) (history : List Entry) (e : Entry) (out : ℕ) (descriptors : finite_map.FinMap nat_cmp Descriptor)
    → IsLegal session history → MayFollow session history e → e.act ≡ act.Born out descriptors → has_begun history e.what ≡ true → ⊥

-- a process that has begun is in the same state after a beginning that has all its entries as after the whole
abbrev pub CallerStateLaw : Type 0
CallerStateLaw = (session : Session) (history line : List Entry) (who : ℕ) → IsLegal session history → IsPrefix line history → AgreeBy who line history
    → has_begun line who ≡ true → process_after history who ≡ process_after line who

-- for a living process such a beginning has all entries on it too
abbrev pub LivingLaw : Type 0
LivingLaw = (session : Session) → IsSound session → (history line : List Entry) (who : ℕ) → IsLegal session history → IsPrefix line history → AgreeBy who line history
    → has_begun line who ≡ true → has_ended line who ≡ false → AgreeOn who line history

-- a pipe has no more bytes than it holds, and no more ends than entries
abbrev pub PipeLaw : Type 0
PipeLaw = (session : Session) (history : List Entry) → IsLegal session history → (object : ℕ)
    → (length (pipe_after history object).bytes ≤ pipe_capacity)
    × ((pipe_after history object).readers ≤ length history + 1)
    × ((pipe_after history object).writers ≤ length history + 1)

-- an entry gives at most as many bytes as one read, and a process's last read ones are no more
abbrev pub ReadLaw : Type 0
ReadLaw = (session : Session) (history : List Entry) → IsLegal session history
    → ((i : ℕ) (e : Entry) → slice_get history i ≡ Some e → length (bytes_of e.reply) ≤ transfer_limit)
    × ((who : ℕ) → length (process_after history who).last_read ≤ transfer_limit)

-- a call has at most 3 steps, or for a fork 67 and for an exit 65
abbrev pub most_steps : CallName → ℕ
most_steps call.Fork = 67
most_steps call.Exit = 65
most_steps _ = 3

abbrev pub StepCountLaw : Type 0
StepCountLaw = (who : ℕ) (p : Process) (made : Made) (r : Request) → length (call_steps who p made r) ≤ most_steps (name_of r)

-- the first entry of a session: there are legal histories that aren't empty
abbrev pub FirstLaw : Type 0
FirstLaw = (session : Session) → 1 ≤ session.objects
    → IsLegal session (record { who = 0; number = 0; call = call.Start; what = 0; act = act.Mint kind.Process; reply = answer.Made (session.start.ceiling + 1) } ∷ [])

-- the reply of a `Deny` is the fault for which the caller's own state refuses
abbrev pub DenyLaw : Type 0
DenyLaw = (session : Session) (history : List Entry) (e : Entry) (a : Ask) → IsLegal session history → MayFollow session history e → e.act ≡ act.Deny a
    → (f : CallFault) × (refusal (process_after history e.who) a ≡ Some f) × (e.reply ≡ answer.Fault f)

-- a `Join` or a `Leave` is one for a descriptor that the caller held just before its call
abbrev pub PipeEndLaw : Type 0
PipeEndLaw = (session : Session) (history : List Entry) (e : Entry) (x : End) → IsLegal session history → MayFollow session history e
    → (e.act ≡ act.Join x) ⊎ (e.act ≡ act.Leave x)
    → (fd : ℕ) × (d : Descriptor) × (finite_map.get (before_call history e.who e.number).descriptors fd ≡ Some d) × (is_pipe d ≡ true) × (e.what ≡ d.pnode) × (x ≡ end_of d.mode)
