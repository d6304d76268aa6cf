-- An exit under way, and what comes of it.
use Rattle.std.specs.Prelude.{◌≡◌, ℕ, ◌+◌, ◌≤◌, ◌^◌, List, ◌++◌, length}
use Rattle.pass_entry.specs.declared.objects.Descriptor.{Descriptor}
use Rattle.pass_plain.specs.declared.request.Request.TheVariants as requests
use Rattle.pass_plain.specs.Calls.{Made, pipe_descriptors}
use Rattle.pass_plain.specs.Sessions.{Session}
use Rattle.pass_hold.specs.Callers.{CallerState}
use Rattle.pass_hold.specs.Callings.{IsGoing}
use Rattle.pass_proc.specs.Procs.{ProcView}
use Rattle.pass_proc.specs.Views.{ProcessView}

-- a process that exits: as it was before, and those of its pipes that it still has to leave
pub record ExitingView : Type 0 where
  pub before : ProcView
  pub rest : List Descriptor

-- The process is in its exit of this number, and has left its pipes but for the rest. It holds a place for each step that is to come.
pub record IsExiting (session : Session) (before : ProcView) (number : ℕ) (p : ProcessView) (c : CallerState) (rest : List Descriptor) : Type 0 where
  pub made : Made
  pub going : IsGoing session before.seen c.seen p.who number requests.Exit p.state made p.state
  pub left : List Descriptor
  pub pipes : pipe_descriptors p.state ≡ left ++ rest
  pub count : length made ≡ length left
  pub counted : number ≡ before.number + 1
  pub own : c.own + length made ≡ 65
  pub of_who : c.who ≡ p.who
  pub who : p.who ≡ before.who
  pub few : length c.seen ≤ 2 ^ 32
