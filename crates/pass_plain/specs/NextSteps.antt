-- The call that the steps of a call show: what its refusal asked, or its arguments as far as its steps tell them (this project's own rule).
use Rattle.std.specs.Prelude.{ℕ, ◌+◌, ◌<◌, ◌≡◌, ◌==◌, Bool, true, false, ◌&&◌, List, [], ◌∷◌, ◌++◌, Option, Some, None, is_some, length, map, take, nat_le, replicate, slice_get, if◌then◌else◌}
use Rattle.pass_entry.specs.declared.entry.Entry.{Entry}
use Rattle.pass_entry.specs.declared.entry.Act.{Act}
use Rattle.pass_entry.specs.declared.entry.Act.TheVariants as act
use Rattle.pass_entry.specs.declared.entry.Ask.{Ask}
use Rattle.pass_entry.specs.declared.entry.Ask.TheVariants as ask
use Rattle.pass_entry.specs.declared.entry.CallName.{CallName}
use Rattle.pass_entry.specs.declared.entry.CallName.TheVariants as call
use Rattle.pass_entry.specs.declared.objects.Mode.{Mode}
use Rattle.pass_entry.specs.declared.objects.Mode.TheVariants as mode
use Rattle.pass_entry.specs.Limits.{transfer_limit}
use Rattle.pass_plain.specs.declared.request.Request.{Request}
use Rattle.pass_plain.specs.declared.request.Request.TheVariants as requests
use Rattle.pass_plain.specs.Processes.{Process, refusal}
use Rattle.pass_plain.specs.Calls.{is_fd, is_within, Made, Step, call_steps}
use Rattle.pass_plain.specs.Legal.{step_of}

-- some call of this name, with arguments within their limits, asks this of its process
abbrev pub asks : CallName → Ask → Bool
asks call.Creat (ask.Free fd) = is_fd fd
asks call.OpenName (ask.Free fd) = is_fd fd
asks call.CloseFd (ask.Held fd) = is_fd fd
asks call.Read (ask.ToRead fd) = is_fd fd
asks call.Write (ask.ToWrite fd len) = is_fd fd && nat_le len transfer_limit
asks call.Seek (ask.ToSeek fd at) = is_fd fd
asks call.Truncate (ask.ToCut fd size) = is_fd fd
asks call.MakePipe (ask.FreeTwo first second) = is_fd first && is_fd second
asks call.WaitChild (ask.Child pnode) = true
asks call.Await (ask.Child pnode) = true
asks call.MakeObj (ask.Free fd) = is_fd fd
asks call.Revive (ask.Free fd) = is_fd fd
asks call.FreezeObj (ask.Held fd) = is_fd fd
asks call.Disclose (ask.HeldTwo first second) = is_fd first && is_fd second
asks call.TagObj (ask.Held fd) = is_fd fd
asks call.Sync (ask.Held fd) = is_fd fd
asks _ _ = false

-- the act is the refusal of a call of this name
abbrev pub denies : ℕ → Process → CallName → ℕ → Act → Bool
denies who p name what (act.Deny a) = what == who && asks name a && is_some (refusal p a)
denies who p name what _ = false

-- the object and the act of the first step of a call that has made these entries and makes this step next
abbrev pub first_object : Made → ℕ → ℕ
first_object [] what = what
first_object (s ∷ made) what = s.1.what

abbrev pub first_act : Made → Act → Act
first_act [] a = a
first_act (s ∷ made) a = s.1.act

-- what a later step tells of an argument, or else some argument that the steps before it leave open
abbrev pub mode_shown : Act → Mode
mode_shown (act.Attach fd d) = d.mode
mode_shown _ = mode.Read

abbrev pub bytes_shown : ℕ → Act → List ℕ
bytes_shown len (act.Put out at bytes) = bytes
bytes_shown len (act.Push out bytes) = bytes
bytes_shown len _ = if nat_le len transfer_limit then replicate len 0 else []

abbrev pub size_shown : Act → ℕ
size_shown (act.Cut out size) = size
size_shown _ = 0

abbrev pub args_shown : List ℕ → Act → List ℕ
args_shown name (act.Exec out found args) = args
args_shown name _ = name

-- the call that the act of its first step, an act on `what`, and its latest act show, with the descriptors `a` and `b`
abbrev pub shown_creat : Act → ℕ → Option Request
shown_creat (act.Bind name) a = Some (requests.Creat a name)
shown_creat _ a = None

abbrev pub shown_open : Act → Act → ℕ → Option Request
shown_open (act.Find name) last a = Some (requests.OpenName a name (mode_shown last))
shown_open _ last a = None

abbrev pub shown_read : Act → ℕ → Option Request
shown_read (act.Give at len) a = Some (requests.Read a len)
shown_read (act.Take len) a = Some (requests.Read a len)
shown_read _ a = None

abbrev pub shown_write : Act → Act → ℕ → Option Request
shown_write (act.Show fd len) last a = Some (requests.Write a (bytes_shown len last))
shown_write _ last a = None

abbrev pub shown_seek : Act → ℕ → Option Request
shown_seek (act.Seek fd at) a = Some (requests.Seek a at)
shown_seek _ a = None

abbrev pub shown_exec : Act → Act → Option Request
shown_exec (act.Find name) last = Some (requests.Exec name (args_shown name last))
shown_exec _ last = None

abbrev pub shown_rename : Act → Option Request
shown_rename (act.Move from to) = Some (requests.Rename from to)
shown_rename _ = None

abbrev pub shown_unlink : Act → Option Request
shown_unlink (act.Unbind name) = Some (requests.Unlink name)
shown_unlink _ = None

abbrev pub shown_revive : Act → ℕ → Option Request
shown_revive (act.Known pnode) a = Some (requests.Revive a pnode)
shown_revive _ a = None

abbrev pub shown_tag : Act → ℕ → Option Request
shown_tag (act.Tag attr value) a = Some (requests.TagObj a attr value)
shown_tag _ a = None

abbrev pub shown : CallName → ℕ → Act → Act → ℕ → ℕ → Option Request
shown call.Start what first last a b = Some requests.Start
shown call.Creat what first last a b = shown_creat first a
shown call.OpenName what first last a b = shown_open first last a
shown call.CloseFd what first last a b = Some (requests.CloseFd a)
shown call.Read what first last a b = shown_read first a
shown call.Write what first last a b = shown_write first last a
shown call.Seek what first last a b = shown_seek first a
shown call.Truncate what first last a b = Some (requests.Truncate a (size_shown last))
shown call.MakePipe what first last a b = Some (requests.MakePipe a b)
shown call.Fork what first last a b = Some requests.Fork
shown call.Exec what first last a b = shown_exec first last
shown call.WaitChild what first last a b = Some (requests.WaitChild what)
shown call.Await what first last a b = Some (requests.Await what)
shown call.Exit what first last a b = Some requests.Exit
shown call.Rename what first last a b = shown_rename first
shown call.Unlink what first last a b = shown_unlink first
shown call.MakeObj what first last a b = Some (requests.MakeObj a)
shown call.Revive what first last a b = shown_revive first a
shown call.FreezeObj what first last a b = Some (requests.FreezeObj a)
shown call.Disclose what first last a b = Some (requests.Disclose a b)
shown call.TagObj what first last a b = shown_tag first a
shown call.Sync what first last a b = Some (requests.Sync a)

-- how many numbers the second descriptor of a call may have
abbrev pub seconds : CallName → ℕ
seconds call.MakePipe = 64
seconds call.Disclose = 64
seconds _ = 1

-- the steps made and the next one are the first steps of the call, whose arguments are within their limits
pub record Begins (who : ℕ) (p : Process) (made : Made) (next : Step) (request : Request) : Type 0 where
  pub within : is_within request ≡ true
  pub steps : take (length made + 1) (call_steps who p made request) ≡ map step_of made ++ next ∷ []

-- they are those of the call that they show, with these descriptors
pub record Fits (who : ℕ) (p : Process) (made : Made) (name : CallName) (next : Step) (a b : ℕ) : Type 0 where
  pub request : Request
  pub is_shown : shown name (first_object made next.0) (first_act made next.1) next.1 a b ≡ Some request
  pub begins : Begins who p made next request

-- .. with some second descriptor
abbrev pub FitsFirst : ℕ → Process → Made → CallName → Step → ℕ → Type 0
FitsFirst who p made name next a = (b : ℕ) × (b < seconds name) × Fits who p made name next a b

-- .. with some descriptors
abbrev pub FitsSome : ℕ → Process → Made → CallName → Step → Type 0
FitsSome who p made name next = (a : ℕ) × (a < 64) × FitsFirst who p made name next a

-- all entries are of calls of this name
abbrev pub AreOfCall : Made → CallName → Type 0
AreOfCall made name = (j : ℕ) (s : ℕ × Entry) → slice_get made j ≡ Some s → s.1.call ≡ name
