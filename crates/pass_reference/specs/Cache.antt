-- What is kept of the states of objects while a history grows.
use Rattle.std.specs.Prelude.{ℕ, ◌≡◌, ◌≢◌, Bool, true, false, List, IfSome, if◌then◌else◌, Vec}
use Rattle.std.specs.declared.alloc.Global.{Global}
use Rattle.std.specs.Option.{MatchOption}
use Rattle.std.specs.Ordering.{nat_cmp}
use Rattle.std.specs.BTreeMap.{get}
use Rattle.pass_entry.specs.declared.entry.Entry.{Entry}
use Rattle.pass_entry.specs.declared.entry.Act.{Act}
use Rattle.pass_entry.specs.declared.entry.Act.TheVariants as act
use Rattle.pass_plain.specs.Histories.{pnode_of}
use Rattle.pass_plain.specs.Sessions.{opening_bytes}
use Rattle.pass_plain.specs.Sound.{IsSound}
use Rattle.pass_plain.specs.Legal.{IsLegal, session_of, is_start}
use Rattle.pass_plain.specs.Pipes.{new_pipe, pipe_after}
use Rattle.pass_plain.specs.Processes.{changes_process}
use Rattle.pass_plain.specs.Recording.{bytes_after}
use Rattle.pass_plain.specs.States.{IsBlank}
use Rattle.pass_reference.specs.States.{IsRegistry, IsPipe, IsCaller}
use Rattle.pass_plain.specs.declared.start.Start.{Start}
use Rattle.pass_reference.specs.declared.pipe.PipeState.{PipeState}
use Rattle.pass_reference.specs.declared.callers.Caller.{Caller}
use Rattle.pass_reference.specs.declared.cache.Cached.{Cached}
use Rattle.pass_reference.specs.declared.cache.StateCache.{StateCache}

-- the act changes the state of its pipe
abbrev pub is_pipe_change : Act → Bool
is_pipe_change (act.Take len) = true
is_pipe_change (act.Push out bytes) = true
is_pipe_change (act.Join end) = true
is_pipe_change (act.Leave end) = true
is_pipe_change _ = false

-- besides its caller an entry changes at most this process: the one on which it is, or the first, which it begins
abbrev pub other_process : Entry → ℕ
other_process e = if changes_process e.act then e.what else if is_start e.call then pnode_of e.reply else e.who

-- the state of an object is kept; where none is lost and none is kept, the object is as it began
abbrev pub IsCached : {X : Type 0} → (ℕ → Type 0) → (ℕ → X → Type 0) → Cached X → ℕ → Type 0
IsCached began is kept object = MatchOption (get nat_cmp kept.states object) (kept.whole ≡ true → began object) (is object)

-- a table has changed at one object at most
pub record ChangesAt {X : Type 0} (object : ℕ) (old new : Cached X) : Type 0 where
  pub others : (q : ℕ) → object ≢ q → get nat_cmp new.states q ≡ get nat_cmp old.states q
  pub whole : new.whole ≡ true → old.whole ≡ true

abbrev pub IsCachedFile : Start → List Entry → Cached (Vec ℕ Global) → ℕ → Type 0
IsCachedFile start history =
    IsCached (λ object. bytes_after start history object ≡ opening_bytes start object) (λ object content. content.items ≡ bytes_after start history object)

abbrev pub IsCachedPipe : List Entry → Cached PipeState → ℕ → Type 0
IsCachedPipe history = IsCached (λ object. pipe_after history object ≡ new_pipe) (IsPipe history)

abbrev pub IsCachedCaller : List Entry → Cached Caller → ℕ → Type 0
IsCachedCaller history = IsCached (IsBlank history) (IsCaller history)

-- what is kept is of the history
pub record AreCached (start : Start) (history : List Entry) (s : StateCache) : Type 0 where
  pub registry : IfSome s.registry (IsRegistry start history)
  pub files : (object : ℕ) → IsCachedFile start history s.files object
  pub pipes : (object : ℕ) → IsCachedPipe history s.pipes object
  pub callers : (who : ℕ) → IsCachedCaller history s.callers who

-- the history is legal in the session with a sound opening, and what is kept is of it
pub record IsPlainState (start : Start) (objects : ℕ) (history : List Entry) (s : StateCache) : Type 0 where
  pub legal : IsLegal (session_of start objects) history
  pub sound : IsSound (session_of start objects)
  pub kept : AreCached start history s
