-- What contracts see of a process between two calls.
use Rattle.std.specs.Prelude.{◌≡◌, ℕ, ◌==◌, ◌≤◌, ◌^◌, ◌&&◌, Bool, false, List, Option, length, bytes_eq}
use Rattle.std.specs.Option.{option_map_or}
use Rattle.pass_entry.specs.declared.entry.Entry.{Entry}
use Rattle.pass_plain.specs.Processes.{Process}
use Rattle.pass_plain.specs.Sessions.{Session}
use Rattle.pass_book.specs.declared.view.VaultSync.{VaultSync}
use Rattle.pass_hold.specs.Callers.{CallerState}
use Rattle.pass_hold.specs.Callings.{IsIdle}
use Rattle.pass_proc.specs.declared.way.Way.{Way}
use Rattle.pass_proc.specs.Views.{ProcessView}

-- a process between two calls: the number of its calls, what it has seen, its looks, its state, and a write to a pipe that is
-- under way
pub record ProcView : Type 0 where
  pub who : ℕ
  pub number : ℕ
  pub seen : List Entry
  pub syncs : List VaultSync
  pub looks : ℕ
  pub looked : ℕ
  pub state : Process
  pub way : Option Way

abbrev pub proc_with : ProcessView → ℕ → CallerState → Option Way → ProcView
proc_with p number c way = record { who = p.who; number = number; seen = c.seen; syncs = c.syncs; looks = c.looks; looked = c.looked; state = p.state; way = way }

-- the caller of a process that has made so many calls, with all places for its exit
pub record IsCallerOf (session : Session) (p : ProcessView) (number : ℕ) (c : CallerState) : Type 0 where
  pub of_who : c.who ≡ p.who
  pub own : c.own ≡ 65
  pub idle : IsIdle session c.seen p.who number p.state
  pub few : length c.seen ≤ 2 ^ 32

-- a write under way of these bytes by this descriptor
abbrev pub is_way : Option Way → ℕ → List ℕ → Bool
is_way way fd bytes = option_map_or (λ (w : Way). w.fd == fd && bytes_eq w.bytes bytes) way false
