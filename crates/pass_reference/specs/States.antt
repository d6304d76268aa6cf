-- What the states that the reference keeps stand for.
use Rattle.std.specs.Prelude.{ℕ, ◌+◌, Bool, not, ◌&&◌, ◌≡◌, ◌≤◌, List, Option, Some, None, length, take, drop, if◌then◌else◌}
use Rattle.std.specs.Option.{option_map_or}
use Rattle.pass_entry.specs.declared.entry.Act.{Act}
use Rattle.pass_entry.specs.declared.entry.Act.TheVariants as act
use Rattle.pass_entry.specs.declared.entry.Entry.{Entry}
use Rattle.pass_entry.specs.declared.entry.Reply.{Reply}
use Rattle.pass_entry.specs.declared.entry.Reply.TheVariants as answer
use Rattle.pass_entry.specs.Limits.{transfer_limit}
use Rattle.pass_plain.specs.declared.start.Start.{Start}
use Rattle.pass_plain.specs.declared.registry.RegistryState.{RegistryState}
use Rattle.pass_plain.specs.Histories.{is_own}
use Rattle.pass_plain.specs.Processes.{Process, process_after, has_begun, refusal}
use Rattle.pass_plain.specs.Legal.{session_of, goes_on, ends_call, leaves_call}
use Rattle.pass_plain.specs.Pipes.{Pipe, pipe_act, pipe_after}
use Rattle.pass_plain.specs.Registries.{registry_after}
use Rattle.pass_plain.specs.Replies.{taken, pushed}
use Rattle.pass_plain.specs.States.{registry_of, Call, IsLastCall}
use Rattle.pass_reference.specs.declared.replies.Holder.{Holder}
use Rattle.pass_reference.specs.declared.replies.Holder.TheVariants as holder
use Rattle.pass_reference.specs.declared.callers.LastCall.{LastCall}
use Rattle.pass_reference.specs.declared.callers.Caller.{Caller}
use Rattle.pass_reference.specs.declared.pipe.PipeState.{PipeState}

abbrev pub pipe_of : PipeState → Pipe
pipe_of p = record { bytes = p.bytes.items; readers = p.readers; writers = p.writers }

-- the pipe after one more entry
abbrev pub pipe_step : ℕ → Pipe → Entry → Pipe
pipe_step object p e = if is_own object e then pipe_act p e.act else p

-- the registry after a history, in which each entry makes at most one object
pub record IsRegistry (start : Start) (history : List Entry) (r : RegistryState) : Type 0 where
  pub after : registry_of r ≡ registry_after (session_of start 0) history
  pub made : r.made ≤ length history

-- a pipe after a history, in which each entry joins at most one end
pub record IsPipe (history : List Entry) (object : ℕ) (p : PipeState) : Type 0 where
  pub after : pipe_of p ≡ pipe_after history object
  pub readers : p.readers ≤ length history + 1
  pub writers : p.writers ≤ length history + 1

abbrev pub call_of : LastCall → Call
call_of c = record { number = c.number; before = c.before; made = c.made.items }

-- all that a process's next entry is judged by
pub record IsCaller (history : List Entry) (who : ℕ) (c : Caller) : Type 0 where
  pub begun : c.begun ≡ has_begun history who
  pub state : c.state ≡ process_after history who
  pub call : IsLastCall history who (call_of c.call)

-- the answer of an object that has this state to an act on it
abbrev pub file_reply : List ℕ → Act → Reply
file_reply content (act.Give at len) = answer.Took (take len (drop at content))
file_reply content _ = answer.Done

abbrev pub pipe_reply : Pipe → Act → Option Reply
pipe_reply pipe (act.Take len) = taken pipe len
pipe_reply pipe (act.Push out bytes) = pushed pipe (length bytes)
pipe_reply pipe _ = Some answer.Done

abbrev pub process_reply : Process → Act → Option Reply
process_reply p (act.Deny ask) = Some (option_map_or (λ f. answer.Fault f) (refusal p ask) answer.Done)
process_reply p act.Reap = if p.ended then Some answer.Done else None
process_reply p act.Ended = if p.ended then Some answer.Done else None
process_reply p _ = Some answer.Done

-- whose state the answer to an act is read from
abbrev pub holder_of : Act → Holder
holder_of (act.Bind name) = holder.Registry
holder_of (act.Find name) = holder.Registry
holder_of (act.Move from to) = holder.Registry
holder_of (act.Unbind name) = holder.Registry
holder_of (act.Mint k) = holder.Registry
holder_of (act.Known pnode) = holder.Registry
holder_of (act.Give at len) = holder.File
holder_of (act.Take len) = holder.Pipe
holder_of (act.Push out bytes) = holder.Pipe
holder_of (act.Deny ask) = holder.Process
holder_of act.Reap = holder.Process
holder_of act.Ended = holder.Process
holder_of _ = holder.Nothing

-- the act asks for as many bytes as one entry may give
abbrev pub AsksFew : Act → Type 0
AsksFew (act.Give at len) = len ≤ transfer_limit
AsksFew (act.Take len) = len ≤ transfer_limit
AsksFew _ = Unit {0}

-- a process that is not the outside may make an entry of this number
abbrev pub may_go : Bool → Process → Call → ℕ → Bool
may_go begun state call number =
    begun && not state.ended && goes_on number call.number (ends_call call.before call.made) (leaves_call call.before call.made)
