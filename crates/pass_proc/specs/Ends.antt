-- What contracts see of a process that has ended, of one that hasn't, in the slot of its desk, and of what either had seen.
use Rattle.std.specs.Prelude.{◌≡◌, ℕ, true, List, [], Option, Some, None}
use Rattle.std.specs.Option.{option_map_or}
use Rattle.pass_entry.specs.declared.entry.Act.TheVariants as act
use Rattle.pass_entry.specs.declared.entry.CallName.TheVariants as calls
use Rattle.pass_entry.specs.declared.entry.Entry.{Entry}
use Rattle.pass_entry.specs.declared.entry.Reply.TheVariants as answer
use Rattle.pass_plain.specs.Lineages.{Lineage}
use Rattle.pass_plain.specs.Processes.{has_ended}
use Rattle.pass_plain.specs.Sessions.{Session}
use Rattle.pass_version.specs.States.{IsStateAfter}
use Rattle.pass_book.specs.Tokens.{LineState}
use Rattle.pass_proc.specs.Procs.{ProcView}

-- what its holder has seen of a process that has not ended
pub record LivingView : Type 0 where
  pub who : ℕ
  pub seen : List Entry

-- a process that has ended, with what was seen of it, and its last version
pub record EndedView : Type 0 where
  pub who : ℕ
  pub seen : List Entry
  pub lineage : Lineage

-- the process has ended, and its version is the one of the definitions after what was seen of it
pub record HasEnded (session : Session) (p : EndedView) : Type 0 where
  pub ended : has_ended p.seen p.who ≡ true
  pub node : p.lineage.node.pnode ≡ p.who
  pub lineage : IsStateAfter session p.seen p.lineage

-- what a process had seen that has ended or works no more
pub record TrailView : Type 0 where
  pub who : ℕ
  pub seen : List Entry

abbrev pub trail_of_line : LineState → TrailView
trail_of_line l = record { who = l.who; seen = l.seen }

abbrev pub trail_of_proc : ProcView → TrailView
trail_of_proc p = record { who = p.who; seen = p.seen }

abbrev pub no_trail : TrailView
no_trail = record { who = 0; seen = [] }

abbrev pub trail_of : Option LineState → Option ProcView → TrailView
trail_of line proc = option_map_or trail_of_line line (option_map_or trail_of_proc proc no_trail)

-- one of the two is there
abbrev pub IsOne : Option LineState → Option ProcView → Type 0
IsOne None None = ⊥
IsOne None (Some proc) = Unit {0}
IsOne (Some line) proc = Unit {0}

-- a process waits for a child that has ended, and takes from it
abbrev pub reap_entry : ℕ → ℕ → ℕ → Entry
reap_entry who number child = record { who = who; number = number; call = calls.WaitChild; what = child; act = act.Reap; reply = answer.Done }

-- a process waits for a child that has ended, and takes nothing from it
abbrev pub end_entry : ℕ → ℕ → ℕ → Entry
end_entry who number child = record { who = who; number = number; call = calls.Await; what = child; act = act.Ended; reply = answer.Done }
