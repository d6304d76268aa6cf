-- The calls that ask the registry for an object and attach a descriptor of it: what each asks, and what it attaches.
use Rattle.std.specs.Prelude.{ℕ, ◌≡◌, ◌<◌, ◌≤◌, List, [], vec_capacity, Result, Ok}
use Rattle.pass_entry.specs.declared.entry.Act.{Act}
use Rattle.pass_entry.specs.declared.entry.Act.TheVariants as act
use Rattle.pass_entry.specs.declared.entry.Ask.{Ask}
use Rattle.pass_entry.specs.declared.entry.Ask.TheVariants as ask
use Rattle.pass_entry.specs.declared.entry.CallName.{CallName}
use Rattle.pass_entry.specs.declared.entry.CallName.TheVariants as calls
use Rattle.pass_entry.specs.declared.entry.Entry.{Entry}
use Rattle.pass_entry.specs.declared.objects.Kind.TheVariants as kind
use Rattle.pass_entry.specs.declared.objects.Mode.TheVariants as mode
use Rattle.pass_plain.specs.declared.request.Request.{Request}
use Rattle.pass_plain.specs.declared.request.Request.TheVariants as requests
use Rattle.pass_plain.specs.Sessions.{Session}
use Rattle.pass_registry.specs.Desks.{IsMade}
use Rattle.pass_answer.specs.declared.answer.Moved.{Moved}
use Rattle.pass_answer.specs.declared.answer.Moved.TheVariants as moved
use Rattle.pass_calls.specs.declared.granting.Attach.{Attach}
use Rattle.pass_calls.specs.declared.granting.Attach.TheVariants as attach
use Rattle.pass_calls.specs.declared.granting.Grant.{Grant}
use Rattle.pass_calls.specs.declared.granting.Grant.TheVariants as grant

abbrev pub request_of : Grant → Request
request_of (grant.Bind fd name) = requests.Creat fd name
request_of (grant.Find fd name m) = requests.OpenName fd name m
request_of (grant.App fd list) = requests.MakeObj fd
request_of (grant.Known fd pnode) = requests.Revive fd pnode
request_of (grant.Pipe reader writer list) = requests.MakePipe reader writer

-- the numbers of its descriptors are to be free
abbrev pub ask_of_grant : Grant → Ask
ask_of_grant (grant.Bind fd name) = ask.Free fd
ask_of_grant (grant.Find fd name m) = ask.Free fd
ask_of_grant (grant.App fd list) = ask.Free fd
ask_of_grant (grant.Known fd pnode) = ask.Free fd
ask_of_grant (grant.Pipe reader writer list) = ask.FreeTwo reader writer

-- its act on the registry
abbrev pub first_of : Grant → Act
first_of (grant.Bind fd name) = act.Bind name
first_of (grant.Find fd name m) = act.Find name
first_of (grant.App fd list) = act.Mint kind.App
first_of (grant.Known fd pnode) = act.Known pnode
first_of (grant.Pipe reader writer list) = act.Mint kind.Pipe

abbrev pub attach_of : Grant → Attach
attach_of (grant.Bind fd name) = attach.One calls.Creat fd kind.File mode.Both
attach_of (grant.Find fd name m) = attach.One calls.OpenName fd kind.File m
attach_of (grant.App fd list) = attach.One calls.MakeObj fd kind.App mode.App
attach_of (grant.Known fd pnode) = attach.One calls.Revive fd kind.App mode.App
attach_of (grant.Pipe reader writer list) = attach.Ends reader writer

-- the act by which a process attaches descriptors of an object, and the call that it is of
abbrev pub attached_by : Attach → ℕ → Act
attached_by (attach.One call fd k m) pnode = act.Attach fd (record { pnode = pnode; kind = k; mode = m; offset = 0 })
attached_by (attach.Ends reader writer) pnode = act.AttachPipe reader writer pnode

abbrev pub call_of : Attach → CallName
call_of (attach.One call fd k m) = call
call_of (attach.Ends reader writer) = calls.MakePipe

abbrev pub IsLow : Attach → Type 0
IsLow (attach.One call fd k m) = fd < 64
IsLow (attach.Ends reader writer) = (reader < 64) × (writer < 64)

-- its memory is there
abbrev pub IsReady : Grant → Type 0
IsReady (grant.App fd list) = (list.items ≡ []) × (1 ≤ vec_capacity list)
IsReady (grant.Pipe reader writer list) = (list.items ≡ []) × (1 ≤ vec_capacity list)
IsReady _ = Unit {0}

-- how many more names there are after it
abbrev pub name_room : Grant → ℕ
name_room (grant.Bind fd name) = 1
name_room _ = 0

-- the object that it gets is the one that it names, or a new one of its kind
abbrev pub IsGranted : Session → List Entry → List Entry → Grant → ℕ → Type 0
IsGranted session before after (grant.Bind fd name) pnode = IsMade session before after pnode kind.File
IsGranted session before after (grant.Find fd name m) pnode = Unit {0}
IsGranted session before after (grant.App fd list) pnode = IsMade session before after pnode kind.App
IsGranted session before after (grant.Known fd object) pnode = object ≡ pnode
IsGranted session before after (grant.Pipe reader writer list) pnode = IsMade session before after pnode kind.Pipe

-- where a call made or opened an object, it is one of these
abbrev pub IfMade : {E : Type 0} → Result Moved E → (ℕ → Type 0) → Type 0
IfMade (Ok (moved.Made pnode)) is = is pnode
IfMade _ is = Unit {0}
