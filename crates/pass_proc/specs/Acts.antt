-- The acts on a living process, by what they do to it.
use Rattle.std.specs.Prelude.{ℕ, Bool, true, false, List, [], Option}
use Rattle.std.specs.Option.{option_map_or}
use Rattle.pass_entry.specs.declared.entry.Entry.{Entry}
use Rattle.pass_entry.specs.declared.entry.Act.{Act}
use Rattle.pass_entry.specs.declared.entry.Act.TheVariants as act
use Rattle.pass_entry.specs.declared.entry.CallName.{CallName}
use Rattle.pass_entry.specs.declared.entry.Reply.{Reply}

-- an entry by a process on itself
abbrev pub own_entry : ℕ → ℕ → CallName → Act → Reply → Entry
own_entry who number call a reply = record { who = who; number = number; call = call; what = who; act = a; reply = reply }

-- it changes at most the descriptors or lets a child go, and no version
abbrev pub is_quiet : Act → Bool
is_quiet (act.Attach fd d) = true
is_quiet (act.AttachPipe reader writer pnode) = true
is_quiet (act.Detach fd) = true
is_quiet (act.Seek fd at) = true
is_quiet (act.Release child) = true
is_quiet (act.Kept fd) = true
is_quiet _ = false

-- it uses the process as a source
abbrev pub is_use : Act → Bool
is_use (act.Show fd len) = true
is_use (act.Spawn child) = true
is_use _ = false

-- by it the process takes from a source
abbrev pub is_taking : Act → Bool
is_taking (act.Gain out fd) = true
is_taking (act.Gather out child) = true
is_taking _ = false

-- it leaves the process living
abbrev pub is_of_living : Act → Bool
is_of_living (act.Born out descriptors) = false
is_of_living act.Finish = false
is_of_living _ = true

abbrev pub bytes_in : Option (List ℕ) → List ℕ
bytes_in o = option_map_or (λ bytes. bytes) o []

-- a new child needs room
abbrev pub room_needed : Act → ℕ
room_needed (act.Spawn child) = 1
room_needed _ = 0
