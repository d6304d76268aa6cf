-- How a process begins, sees more of the history, and ends.
use Rattle.std.specs.Prelude.{◌≡◌, ℕ, ◌+◌, true, List, [], Some, None, Result, Ok, Err, length, slice_get}
use Rattle.pass_entry.specs.declared.entry.Act.TheVariants as act
use Rattle.pass_entry.specs.declared.entry.CallName.TheVariants as calls
use Rattle.pass_entry.specs.declared.entry.Entry.{Entry}
use Rattle.pass_entry.specs.declared.entry.Reply.TheVariants as answer
use Rattle.pass_plain.specs.declared.request.Request.TheVariants as requests
use Rattle.pass_plain.specs.Calls.{pnode_at}
use Rattle.pass_plain.specs.Histories.{call_entries}
use Rattle.pass_plain.specs.Processes.{has_ended, new_process}
use Rattle.pass_plain.specs.Sessions.{Session}
use Rattle.pass_hold.specs.Callings.{HasLooked, made_by}
use Rattle.pass_proc.specs.Acts.{own_entry}
use Rattle.pass_proc.specs.CallEnds.{HasReplied}
use Rattle.pass_proc.specs.Procs.{ProcView}
use Rattle.pass_answer.specs.declared.answer.CallEnd.{CallEnd}
use Rattle.pass_answer.specs.declared.answer.Moved.{Moved}
use Rattle.pass_answer.specs.declared.answer.Moved.TheVariants as moved

-- the child of its parent's last call, just begun: the call's first entry gave its number; it has seen what its parent has, has made no call and
-- no entry, and holds what its parent holds
pub record IsChild (parent child : ProcView) : Type 0 where
  pub named : pnode_at (call_entries parent.seen parent.who parent.number) 0 ≡ child.who
  pub seen : child.seen ≡ parent.seen
  pub number : child.number ≡ 0
  pub none : made_by child.who child.seen ≡ []
  pub way : child.way ≡ None
  pub state : child.state ≡ record new_process { descriptors = parent.state.descriptors }

-- what a fork comes to for its parent, whose child is held beside it
abbrev pub forked : {C : Type 0} → Result C CallEnd → Result Moved CallEnd
forked (Ok child) = Ok moved.Done
forked (Err end) = Err end

-- the process has looked, and nothing else of it is changed
pub record HasMet (session : Session) (old new : ProcView) : Type 0 where
  pub looked : HasLooked session old.who old.seen new.seen
  pub same : new ≡ record old { seen = new.seen; syncs = new.syncs; looks = old.looks + 1; looked = length new.seen }

-- The exit was made to its end: all its steps, and the last one, by which the process has ended, stands last in what is seen, at this place.
pub record HasExited (session : Session) (old : ProcView) (seen : List Entry) (place : ℕ) : Type 0 where
  pub replied : HasReplied session old.who old.seen seen requests.Exit answer.Done
  pub finish : slice_get seen place ≡ Some (own_entry old.who (old.number + 1) calls.Exit act.Finish answer.Done)
  pub last : place + 1 ≡ length seen
  pub ended : has_ended seen old.who ≡ true
