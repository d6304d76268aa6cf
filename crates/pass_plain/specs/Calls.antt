-- The calls of processes, and the steps that each makes in order.
use Rattle.std.specs.Prelude.{ℕ, Bool, true, false, not, ◌&&◌, ◌||◌, List, [], ◌∷◌, ◌++◌, Option, Some, None, length, map, filter, filter_map, nat_le, nat_lt, if◌then◌else◌, slice_get}
use Rattle.std.specs.Option.{option_map_or}
use Rattle.std.specs.List.{range_with_len}
use Rattle.std.specs.FinMap as finite_map
use Rattle.pass_entry.specs.declared.entry.Entry.{Entry}
use Rattle.pass_entry.specs.declared.entry.Act.{Act}
use Rattle.pass_entry.specs.declared.entry.Act.TheVariants as act
use Rattle.pass_entry.specs.declared.entry.Ask.{Ask}
use Rattle.pass_entry.specs.declared.entry.Ask.TheVariants as ask
use Rattle.pass_entry.specs.declared.entry.CallName.{CallName}
use Rattle.pass_entry.specs.declared.entry.CallName.TheVariants as call
use Rattle.pass_entry.specs.declared.objects.Kind.TheVariants as kind
use Rattle.pass_entry.specs.declared.objects.Mode.{Mode}
use Rattle.pass_entry.specs.declared.objects.Mode.TheVariants as mode
use Rattle.pass_entry.specs.declared.objects.End.{End}
use Rattle.pass_entry.specs.declared.objects.End.TheVariants as end
use Rattle.pass_entry.specs.declared.objects.Descriptor.{Descriptor}
use Rattle.pass_entry.specs.Texts.{is_name, is_line}
use Rattle.pass_entry.specs.Limits.{transfer_limit}
use Rattle.pass_plain.specs.Histories.{pnode_of, is_fault}
use Rattle.pass_plain.specs.declared.request.Request.{Request}
use Rattle.pass_plain.specs.declared.request.Request.TheVariants as requests
use Rattle.pass_plain.specs.Processes.{Process, is_file, is_pipe, refusal, same_mode}

-- the name of a call
abbrev pub name_of : Request → CallName
name_of requests.Start = call.Start
name_of (requests.Creat fd name) = call.Creat
name_of (requests.OpenName fd name m) = call.OpenName
name_of (requests.CloseFd fd) = call.CloseFd
name_of (requests.Read fd len) = call.Read
name_of (requests.Write fd bytes) = call.Write
name_of (requests.Seek fd at) = call.Seek
name_of (requests.Truncate fd size) = call.Truncate
name_of (requests.MakePipe reader writer) = call.MakePipe
name_of requests.Fork = call.Fork
name_of (requests.Exec name args) = call.Exec
name_of (requests.WaitChild child) = call.WaitChild
name_of (requests.Await child) = call.Await
name_of requests.Exit = call.Exit
name_of (requests.Rename from to) = call.Rename
name_of (requests.Unlink name) = call.Unlink
name_of (requests.MakeObj fd) = call.MakeObj
name_of (requests.Revive fd pnode) = call.Revive
name_of (requests.FreezeObj fd) = call.FreezeObj
name_of (requests.Disclose target source) = call.Disclose
name_of (requests.TagObj fd attr value) = call.TagObj
name_of (requests.Sync fd) = call.Sync

abbrev pub is_fd : ℕ → Bool
is_fd fd = nat_lt fd 64

-- the conditions on the arguments of a call
abbrev pub is_within : Request → Bool
is_within requests.Start = true
is_within (requests.Creat fd name) = is_fd fd && is_name name
is_within (requests.OpenName fd name m) = is_fd fd && is_name name && not (same_mode m mode.App)
is_within (requests.CloseFd fd) = is_fd fd
is_within (requests.Read fd len) = is_fd fd && nat_le 1 len && nat_le len transfer_limit
is_within (requests.Write fd bytes) = is_fd fd && nat_le (length bytes) transfer_limit
is_within (requests.Seek fd at) = is_fd fd
is_within (requests.Truncate fd size) = is_fd fd
is_within (requests.MakePipe reader writer) = is_fd reader && is_fd writer
is_within requests.Fork = true
is_within (requests.Exec name args) = is_name name && is_line args
is_within (requests.WaitChild child) = true
is_within (requests.Await child) = true
is_within requests.Exit = true
is_within (requests.Rename from to) = is_name from && is_name to
is_within (requests.Unlink name) = is_name name
is_within (requests.MakeObj fd) = is_fd fd
is_within (requests.Revive fd pnode) = is_fd fd
is_within (requests.FreezeObj fd) = is_fd fd
is_within (requests.Disclose target source) = is_fd target && is_fd source
is_within (requests.TagObj fd attr value) = is_fd fd && is_name attr && is_name value
is_within (requests.Sync fd) = is_fd fd

-- what a call asks of the state of its own process
abbrev pub ask_of : Request → Option Ask
ask_of (requests.Creat fd name) = Some (ask.Free fd)
ask_of (requests.OpenName fd name m) = Some (ask.Free fd)
ask_of (requests.CloseFd fd) = Some (ask.Held fd)
ask_of (requests.Read fd len) = Some (ask.ToRead fd)
ask_of (requests.Write fd bytes) = Some (ask.ToWrite fd (length bytes))
ask_of (requests.Seek fd at) = Some (ask.ToSeek fd at)
ask_of (requests.Truncate fd size) = Some (ask.ToCut fd size)
ask_of (requests.MakePipe reader writer) = Some (ask.FreeTwo reader writer)
ask_of (requests.WaitChild child) = Some (ask.Child child)
ask_of (requests.Await child) = Some (ask.Child child)
ask_of (requests.MakeObj fd) = Some (ask.Free fd)
ask_of (requests.Revive fd pnode) = Some (ask.Free fd)
ask_of (requests.FreezeObj fd) = Some (ask.Held fd)
ask_of (requests.Disclose target source) = Some (ask.HeldTwo target source)
ask_of (requests.TagObj fd attr value) = Some (ask.Held fd)
ask_of (requests.Sync fd) = Some (ask.Held fd)
ask_of _ = None

-- an act on an object
abbrev pub Step : Type 0
Step = ℕ × Act

abbrev pub act_on : ℕ → Act → Step
act_on object a = (object, a)

-- the entries that a call has made, each with its place
abbrev pub Made : Type 0
Made = List (ℕ × Entry)

-- the place of the k-th entry of a call, and the pnode that it was answered; 0 before it is made
abbrev pub place_at : Made → ℕ → ℕ
place_at made k = option_map_or (λ s. s.0) (slice_get made k) 0

abbrev pub pnode_at : Made → ℕ → ℕ
pnode_at made k = option_map_or (λ s. pnode_of s.1.reply) (slice_get made k) 0

abbrev pub end_of : Mode → End
end_of mode.Write = end.Writer
end_of _ = end.Reader

-- the pipe descriptors, in ascending order of their numbers
abbrev pub pipe_descriptors : Process → List Descriptor
pipe_descriptors p = filter is_pipe (filter_map (finite_map.get p.descriptors) (range_with_len 0 64))

abbrev pub no_descriptor : Descriptor
no_descriptor = record { pnode = 0; kind = kind.App; mode = mode.App; offset = 0 }

abbrev pub descriptor_at : Process → ℕ → Descriptor
descriptor_at p fd = option_map_or (λ d. d) (finite_map.get p.descriptors fd) no_descriptor

-- the steps of a call that its process does not refuse. `p` is the process's state before the call, and `made` gives
-- the numbers and places of the steps before
abbrev pub steps_of : ℕ → Process → Made → Request → List Step
steps_of who p made requests.Start = (0, act.Mint kind.Process) ∷ []
steps_of who p made (requests.Creat fd name) =
    (0, act.Bind name)
    ∷ (who, act.Attach fd (record { pnode = pnode_at made 0; kind = kind.File; mode = mode.Both; offset = 0 })) ∷ []
steps_of who p made (requests.OpenName fd name m) =
    (0, act.Find name)
    ∷ (who, act.Attach fd (record { pnode = pnode_at made 0; kind = kind.File; mode = m; offset = 0 })) ∷ []
steps_of who p made (requests.CloseFd fd) =
    let d = descriptor_at p fd in
    (who, act.Detach fd) ∷ (if is_pipe d then (d.pnode, act.Leave (end_of d.mode)) ∷ [] else [])
steps_of who p made (requests.Read fd len) =
    let d = descriptor_at p fd in
    (d.pnode, if is_file d then act.Give d.offset len else act.Take len)
    ∷ (who, act.Gain (place_at made 0) fd) ∷ []
steps_of who p made (requests.Write fd bytes) =
    let d = descriptor_at p fd in
    let out = place_at made 0 in
    (who, act.Show fd (length bytes))
    ∷ (d.pnode, if is_file d then act.Put out d.offset bytes else act.Push out bytes) ∷ []
steps_of who p made (requests.Seek fd at) = (who, act.Seek fd at) ∷ []
steps_of who p made (requests.Truncate fd size) =
    (who, act.Show fd 0) ∷ ((descriptor_at p fd).pnode, act.Cut (place_at made 0) size) ∷ []
steps_of who p made (requests.MakePipe reader writer) =
    (0, act.Mint kind.Pipe) ∷ (who, act.AttachPipe reader writer (pnode_at made 0)) ∷ []
steps_of who p made requests.Fork =
    let child = pnode_at made 0 in
    (0, act.Mint kind.Process) ∷ (who, act.Spawn child)
    ∷ (map (λ d. (d.pnode, act.Join (end_of d.mode))) (pipe_descriptors p)
    ++ (child, act.Born (place_at made 1) p.descriptors) ∷ [])
steps_of who p made (requests.Exec name args) =
    (0, act.Find name) ∷ (pnode_at made 0, act.Load) ∷ (who, act.Exec (place_at made 1) name args) ∷ []
steps_of who p made (requests.WaitChild child) = (child, act.Reap) ∷ (who, act.Gather (place_at made 0) child) ∷ []
steps_of who p made (requests.Await child) = (child, act.Ended) ∷ (who, act.Release child) ∷ []
steps_of who p made requests.Exit =
    map (λ d. (d.pnode, act.Leave (end_of d.mode))) (pipe_descriptors p) ++ (who, act.Finish) ∷ []
steps_of who p made (requests.Rename from to) = (0, act.Move from to) ∷ []
steps_of who p made (requests.Unlink name) = (0, act.Unbind name) ∷ []
steps_of who p made (requests.MakeObj fd) =
    (0, act.Mint kind.App)
    ∷ (who, act.Attach fd (record { pnode = pnode_at made 0; kind = kind.App; mode = mode.App; offset = 0 })) ∷ []
steps_of who p made (requests.Revive fd pnode) =
    (0, act.Known pnode)
    ∷ (who, act.Attach fd (record { pnode = pnode; kind = kind.App; mode = mode.App; offset = 0 })) ∷ []
steps_of who p made (requests.FreezeObj fd) = ((descriptor_at p fd).pnode, act.Freeze) ∷ []
steps_of who p made (requests.Disclose target source) =
    ((descriptor_at p source).pnode, act.Cite) ∷ ((descriptor_at p target).pnode, act.Told (place_at made 0)) ∷ []
steps_of who p made (requests.TagObj fd attr value) = ((descriptor_at p fd).pnode, act.Tag attr value) ∷ []
steps_of who p made (requests.Sync fd) = ((descriptor_at p fd).pnode, act.Keep) ∷ (who, act.Kept fd) ∷ []

-- the ask with which the process refuses the call, if it does
abbrev pub refused_ask : Process → Request → Option Ask
refused_ask p r = option_map_or (λ a. option_map_or (λ f. Some a) (refusal p a) None) (ask_of r) None

-- all steps of a call, in order: one refusal, or its own steps
abbrev pub call_steps : ℕ → Process → Made → Request → List Step
call_steps who p made r = option_map_or (λ a. (who, act.Deny a) ∷ []) (refused_ask p r) (steps_of who p made r)

-- the entry is the last of its call. `p` is the process's state before the call
abbrev pub is_last_act : Process → CallName → Act → Bool
is_last_act p call.Start _ = true
is_last_act p call.CloseFd (act.Detach fd) = not (is_pipe (descriptor_at p fd))
is_last_act p call.CloseFd _ = true
is_last_act p call.Exit act.Finish = true
is_last_act p call.Exit _ = false
is_last_act p _ (act.Bind name) = false
is_last_act p _ (act.Find name) = false
is_last_act p _ (act.Mint k) = false
is_last_act p _ (act.Known pnode) = false
is_last_act p _ (act.Show fd len) = false
is_last_act p _ (act.Spawn child) = false
is_last_act p _ act.Reap = false
is_last_act p _ act.Ended = false
is_last_act p _ (act.Give at len) = false
is_last_act p _ act.Load = false
is_last_act p _ (act.Take len) = false
is_last_act p _ (act.Join e) = false
is_last_act p _ act.Cite = false
is_last_act p _ act.Keep = false
is_last_act p _ _ = true

abbrev pub is_last : Process → Entry → Bool
is_last p e = is_fault e.reply || is_last_act p e.call e.act
