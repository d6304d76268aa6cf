-- The steps of calls on a pipe, by the caller, the number of its call and the pipe.
use Rattle.std.specs.Prelude.{ℕ, Bool, true, false, List, Result, Ok, Err}
use Rattle.pass_entry.specs.declared.entry.Act.TheVariants as act
use Rattle.pass_entry.specs.declared.entry.CallFault.{CallFault}
use Rattle.pass_entry.specs.declared.entry.CallFault.TheVariants as fault
use Rattle.pass_entry.specs.declared.entry.CallName.{CallName}
use Rattle.pass_entry.specs.declared.entry.CallName.TheVariants as calls
use Rattle.pass_entry.specs.declared.entry.Entry.{Entry}
use Rattle.pass_entry.specs.declared.entry.Reply.{Reply}
use Rattle.pass_entry.specs.declared.entry.Reply.TheVariants as answer
use Rattle.pass_entry.specs.declared.objects.End.{End}

abbrev pub take_entry : ℕ → ℕ → ℕ → ℕ → List ℕ → Entry
take_entry who number what len bytes = record { who = who; number = number; call = calls.Read; what = what; act = act.Take len; reply = answer.Took bytes }

abbrev pub push_entry : ℕ → ℕ → ℕ → ℕ → List ℕ → Reply → Entry
push_entry who number what out bytes reply = record { who = who; number = number; call = calls.Write; what = what; act = act.Push out bytes; reply = reply }

abbrev pub join_entry : ℕ → ℕ → ℕ → End → Entry
join_entry who number what x = record { who = who; number = number; call = calls.Fork; what = what; act = act.Join x; reply = answer.Done }

abbrev pub leave_entry : ℕ → ℕ → CallName → ℕ → End → Entry
leave_entry who number call what x = record { who = who; number = number; call = call; what = what; act = act.Leave x; reply = answer.Done }

-- the reply of a write that ended so
abbrev pub push_reply : {T : Type 0} → Result T CallFault → Reply
push_reply (Ok t) = answer.Done
push_reply (Err fault) = answer.Fault fault

-- the reply to a write whose bytes came in, or that nobody can read
abbrev pub given_reply : Bool → Reply
given_reply true = answer.Done
given_reply false = answer.Fault fault.BrokenPipe
