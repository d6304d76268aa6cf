-- A write to a pipe that has made its first step.
use Rattle.std.specs.Prelude.{◌≡◌, ℕ, ◌<◌, true, false, List, Some}
use Rattle.std.specs.FinMap as finite_map
use mathlib.Core.List.{IsPrefix}
use Rattle.pass_entry.specs.declared.objects.Descriptor.{Descriptor}
use Rattle.pass_plain.specs.declared.request.Request.TheVariants as requests
use Rattle.pass_plain.specs.Sessions.{Session}
use Rattle.pass_hold.specs.Callings.{HasLooked, IsIdle}
use Rattle.pass_proc.specs.Procs.{ProcView, is_way}
use Rattle.pass_answer.specs.Answers.{begins_at}

-- The process was between two calls, and its write is under way: before that step it had seen no new entry of its own.
pub record HasBegun (session : Session) (old new : ProcView) (fd : ℕ) (bytes : List ℕ) : Type 0 where
  pub who : new.who ≡ old.who
  pub anew : is_way old.way fd bytes ≡ false
  pub way : is_way new.way fd bytes ≡ true
  pub idle : IsIdle session old.seen old.who old.number old.state
  pub looked : HasLooked session old.who old.seen (begins_at new (requests.Write fd bytes))
  pub grows : IsPrefix old.seen new.seen
  pub looks : old.looks < new.looks
  pub holds : (d : Descriptor) → finite_map.get new.state.descriptors fd ≡ Some d → finite_map.get old.state.descriptors fd ≡ Some d
