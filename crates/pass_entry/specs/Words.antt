-- The words by which reports and faults name calls, faults, kinds and flaws (this project's own).
use Rattle.std.specs.Prelude.{ℕ, List, [], ◌∷◌, ◌++◌, ◌≡◌, ◌==◌, ◌↔◌, Option, Some, codes, decimal, find}
use Rattle.std.specs.Cmp.Lexicographic.{pointwise}
use Rattle.pass_entry.specs.declared.entry.CallFault.{CallFault}
use Rattle.pass_entry.specs.declared.entry.CallFault.TheVariants as fault
use Rattle.pass_entry.specs.declared.entry.CallName.{CallName}
use Rattle.pass_entry.specs.declared.entry.CallName.TheVariants as call
use Rattle.pass_entry.specs.declared.objects.Kind.{Kind}
use Rattle.pass_entry.specs.declared.objects.Kind.TheVariants as kind
use Rattle.pass_entry.specs.declared.objects.Node.{Node}
use Rattle.pass_entry.specs.declared.record.FlawReason.{FlawReason}
use Rattle.pass_entry.specs.declared.record.FlawReason.TheVariants as flaw

-- the name of a call in a trace and in a report
abbrev pub call_word : CallName → List ℕ
call_word call.Start = codes "start"
call_word call.Creat = codes "creat"
call_word call.OpenName = codes "open"
call_word call.CloseFd = codes "close"
call_word call.Read = codes "read"
call_word call.Write = codes "write"
call_word call.Seek = codes "seek"
call_word call.Truncate = codes "truncate"
call_word call.MakePipe = codes "pipe"
call_word call.Fork = codes "fork"
call_word call.Exec = codes "exec"
call_word call.WaitChild = codes "wait"
call_word call.Await = codes "await"
call_word call.Exit = codes "exit"
call_word call.Rename = codes "rename"
call_word call.Unlink = codes "unlink"
call_word call.MakeObj = codes "mkobj"
call_word call.Revive = codes "revive"
call_word call.FreezeObj = codes "freeze"
call_word call.Disclose = codes "disclose"
call_word call.TagObj = codes "tag"
call_word call.Sync = codes "sync"

-- all names of calls
abbrev pub call_names : List CallName
call_names =
    call.Start ∷ call.Creat ∷ call.OpenName ∷ call.CloseFd ∷ call.Read ∷ call.Write ∷ call.Seek ∷ call.Truncate ∷ call.MakePipe ∷ call.Fork
    ∷ call.Exec ∷ call.WaitChild ∷ call.Await ∷ call.Exit ∷ call.Rename ∷ call.Unlink ∷ call.MakeObj ∷ call.Revive ∷ call.FreezeObj ∷ call.Disclose
    ∷ call.TagObj ∷ call.Sync ∷ []

-- the call with this word
abbrev pub call_of : List ℕ → Option CallName
call_of word = find (λ call. pointwise ◌==◌ (call_word call) word) call_names

-- the answer is the call with this word, where there is one
abbrev pub IsCallOf : List ℕ → Option CallName → Type 0
IsCallOf word answer = (name : CallName) → (answer ≡ Some name) ↔ (call_word name ≡ word)

-- the name of a fault in a report
abbrev pub fault_word : CallFault → List ℕ
fault_word fault.NoEntry = codes "NoEntry"
fault_word fault.Exists = codes "Exists"
fault_word fault.BadFd = codes "BadFd"
fault_word fault.FdTaken = codes "FdTaken"
fault_word fault.BadMode = codes "BadMode"
fault_word fault.BrokenPipe = codes "BrokenPipe"
fault_word fault.TooBig = codes "TooBig"
fault_word fault.TooMany = codes "TooMany"
fault_word fault.NoChild = codes "NoChild"
fault_word fault.NoObject = codes "NoObject"

-- the number of a fault, from 1
abbrev pub fault_number : CallFault → ℕ
fault_number fault.NoEntry = 1
fault_number fault.Exists = 2
fault_number fault.BadFd = 3
fault_number fault.FdTaken = 4
fault_number fault.BadMode = 5
fault_number fault.BrokenPipe = 6
fault_number fault.TooBig = 7
fault_number fault.TooMany = 8
fault_number fault.NoChild = 9
fault_number fault.NoObject = 10

-- the name of a kind of object
abbrev pub kind_word : Kind → List ℕ
kind_word kind.Process = codes "process"
kind_word kind.File = codes "file"
kind_word kind.Pipe = codes "pipe"
kind_word kind.App = codes "app"

-- an object in a report
abbrev pub pnode_text : ℕ → List ℕ
pnode_text pnode = decimal pnode

-- a node in a report
abbrev pub node_text : Node → List ℕ
node_text node = decimal node.pnode ++ codes "." ++ decimal node.version

-- why a list of records isn't well logged
abbrev pub flaw_word : FlawReason → List ℕ
flaw_word flaw.Ceiling = codes "ceiling"
flaw_word flaw.Known = codes "known"
flaw_word flaw.Many = codes "many"
flaw_word flaw.Unknown = codes "unknown"
flaw_word flaw.Kind = codes "kind"
flaw_word flaw.Name = codes "name"
flaw_word flaw.Version = codes "version"
flaw_word flaw.Source = codes "source"
flaw_word flaw.Repeat = codes "repeat"
flaw_word flaw.Block = codes "block"
