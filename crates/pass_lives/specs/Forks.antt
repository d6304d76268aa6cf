-- A fork under way, and what comes of it.
use Rattle.std.specs.Prelude.{◌≡◌, ℕ, ◌<◌, ◌≤◌, ◌^◌, false, List, ◌∷◌, ◌++◌, Option, Some, length, slice_get}
use Rattle.pass_entry.specs.declared.entry.Entry.{Entry}
use Rattle.pass_entry.specs.declared.objects.Descriptor.{Descriptor}
use Rattle.pass_entry.specs.declared.objects.Node.{Node}
use Rattle.pass_plain.specs.declared.request.Request.TheVariants as requests
use Rattle.pass_plain.specs.Calls.{Made, pipe_descriptors}
use Rattle.pass_plain.specs.Histories.{pnode_of}
use Rattle.pass_plain.specs.Legal.{ends_call}
use Rattle.pass_plain.specs.Processes.{Held, process_after}
use Rattle.pass_plain.specs.Sessions.{Session}
use Rattle.pass_plain.specs.Versions.{nodes_of}
use Rattle.pass_hold.specs.Callers.{CallerState}
use Rattle.pass_hold.specs.Callings.{HasGone}
use Rattle.pass_proc.specs.Procs.{IsCallerOf}
use Rattle.pass_proc.specs.UnderWay.{IsWay}
use Rattle.pass_proc.specs.Views.{ProcessView}
use Rattle.pass_proc.specs.declared.way.Way.{Way}

-- a process between two calls, by its parts
abbrev pub IsBetween : Session → ProcessView → ℕ → CallerState → Option Way → Type 0
IsBetween session p number c way = IsCallerOf session p number c × IsWay session p.who number c.seen p.state way

-- a fork whose first two entries stand: what its process had seen before them, the child with its descriptors, those of its pipes that it
-- still has to join, the place of the second entry, and the process's node there
pub record ForkingView : Type 0 where
  pub before : List Entry
  pub child : ℕ
  pub descriptors : Held
  pub rest : List Descriptor
  pub out : ℕ
  pub source : Node

-- A process is in its fork of this number: the child has its number, the process is marked as its source, and the pipes but for the rest are
-- joined.
pub record IsForking (session : Session) (number : ℕ) (p : ProcessView) (c : CallerState) (k : ForkingView) : Type 0 where
  pub first : ℕ × Entry
  pub second : ℕ × Entry
  pub joins : Made
  pub gone : HasGone session k.before c.seen p.who number requests.Fork (process_after k.before p.who) (first ∷ second ∷ joins) p.state
  pub goes : ends_call (process_after k.before p.who) (first ∷ second ∷ joins) ≡ false
  pub lives : p.state.ended ≡ false
  pub child : pnode_of first.1.reply ≡ k.child
  pub out : second.0 ≡ k.out
  pub source : slice_get (nodes_of session c.seen) k.out ≡ Some k.source
  pub within : k.out < length c.seen
  pub joined : List Descriptor
  pub pipes : pipe_descriptors (process_after k.before p.who) ≡ joined ++ k.rest
  pub count : length joins ≡ length joined
  pub held : (process_after k.before p.who).descriptors ≡ k.descriptors
  pub holds : p.state.descriptors ≡ k.descriptors
  pub of_who : c.who ≡ p.who
  pub own : c.own ≡ 65
  pub few : length c.seen ≤ 2 ^ 32
