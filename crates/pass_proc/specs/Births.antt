-- How a session's first process begins, and a child by a fork.
use Rattle.std.specs.Prelude.{◌≡◌, ℕ, ◌≤◌, false, []}
use Rattle.pass_entry.specs.declared.entry.Act.TheVariants as act
use Rattle.pass_entry.specs.declared.entry.CallName.TheVariants as calls
use Rattle.pass_entry.specs.declared.entry.Entry.{Entry}
use Rattle.pass_entry.specs.declared.entry.Reply.TheVariants as answer
use Rattle.pass_entry.specs.declared.objects.Kind.TheVariants as kind
use Rattle.pass_plain.specs.Lineages.{Lineage, IsAlike}
use Rattle.pass_plain.specs.Processes.{Held}
use Rattle.pass_version.specs.States.{VersionState}

-- the child's number, and the descriptors that it begins with
pub record ChildRoomView : Type 0 where
  pub child : ℕ
  pub descriptors : Held

-- the version with which a new object begins
abbrev pub first_lineage : ℕ → Lineage
first_lineage child = record { node = record { pnode = child; version = 1 }; marked = false; sources = [] }

-- the version is a first one with room for a source, and the two copies of the descriptors are the same
pub record IsChildRoom (v : VersionState) (given held : Held) : Type 0 where
  pub fresh : IsAlike v.lineage (first_lineage v.lineage.node.pnode)
  pub room : 1 ≤ v.spare
  pub same : given ≡ held

-- a process's fork ends: its child begins
abbrev pub birth_entry : ℕ → ℕ → ℕ → ℕ → Held → Entry
birth_entry who number child out descriptors = record { who = who; number = number; call = calls.Fork; what = child; act = act.Born out descriptors; reply = answer.Done }

-- the first entry of a session: the outside has its first process made
abbrev pub start_entry : ℕ → Entry
start_entry pnode = record { who = 0; number = 0; call = calls.Start; what = 0; act = act.Mint kind.Process; reply = answer.Made pnode }
