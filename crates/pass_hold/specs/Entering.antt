-- An entry that a process makes: what its caller owes before it, and how it stands after it.
use Rattle.std.specs.Prelude.{ℕ, ◌+◌, ◌≡◌, ◌≤◌, ◌^◌, false, List, Some, length, slice_get}
use Rattle.pass_entry.specs.declared.entry.Entry.{Entry}
use Rattle.pass_entry.specs.declared.objects.Node.{Node}
use Rattle.pass_plain.specs.Legal.{CallerAllows}
use Rattle.pass_plain.specs.Places.{is_exit, keeps}
use Rattle.pass_plain.specs.Sessions.{Session}
use Rattle.pass_plain.specs.Versions.{nodes_of}
use Rattle.pass_hold.specs.Callers.{CallerState, moved_on}
use Rattle.pass_hold.specs.Callings.{IsEntered}

-- whoever has seen so much may make the entry, which is none of an exit, and its call then still needs so many places
pub record MayEnter (seen : List Entry) (e : Entry) (held : ℕ) : Type 0 where
  pub exit : is_exit e.call ≡ false
  pub allows : CallerAllows seen e
  pub keep : held ≡ keeps seen e

-- a caller has made an entry on what a desk had seen: it has seen the history up to it, and holds so many places for its call
pub record Enters (session : Session) (old new : CallerState) (desk : List Entry) (e : Entry) (held : ℕ) : Type 0 where
  pub entered : IsEntered session old.seen desk new.seen e
  pub caller : new ≡ moved_on old new.seen new.syncs held
  pub few : length new.seen ≤ 2 ^ 32

-- the last entry of a history stands at this place, and its object is at this node there
pub record IsAt (session : Session) (history : List Entry) (at : ℕ × Node) : Type 0 where
  pub place : at.0 + 1 ≡ length history
  pub node : slice_get (nodes_of session history) at.0 ≡ Some at.1
