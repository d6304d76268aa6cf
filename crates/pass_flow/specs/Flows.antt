-- The acts that files, pipes and app objects have in common.
use Rattle.std.specs.Prelude.{ℕ, Bool, true, false, List}
use Rattle.pass_entry.specs.declared.entry.Act.{Act}
use Rattle.pass_entry.specs.declared.entry.Act.TheVariants as act
use Rattle.pass_entry.specs.declared.entry.CallName.TheVariants as calls
use Rattle.pass_entry.specs.declared.entry.Entry.{Entry}
use Rattle.pass_entry.specs.declared.entry.Reply.TheVariants as answer
use Rattle.pass_book.specs.declared.view.VaultSync.{VaultSync}

-- an object under its lock: its number, what was seen of it and of the syncs, and from how many more sources it may take
pub record ObjectView : Type 0 where
  pub what : ℕ
  pub seen : List Entry
  pub syncs : List VaultSync
  pub spare : ℕ

-- the acts that leave the content of their object
abbrev pub is_flow_act : Act → Bool
is_flow_act act.Freeze = true
is_flow_act act.Cite = true
is_flow_act (act.Told out) = true
is_flow_act (act.Tag attr value) = true
is_flow_act act.Keep = true
is_flow_act _ = false

-- the steps, by the caller, the number of its call and the object

abbrev pub freeze_entry : ℕ → ℕ → ℕ → Entry
freeze_entry who number what = record { who = who; number = number; call = calls.FreezeObj; what = what; act = act.Freeze; reply = answer.Done }

abbrev pub cite_entry : ℕ → ℕ → ℕ → Entry
cite_entry who number what = record { who = who; number = number; call = calls.Disclose; what = what; act = act.Cite; reply = answer.Done }

abbrev pub told_entry : ℕ → ℕ → ℕ → ℕ → Entry
told_entry who number what out = record { who = who; number = number; call = calls.Disclose; what = what; act = act.Told out; reply = answer.Done }

abbrev pub tag_entry : ℕ → ℕ → ℕ → List ℕ → List ℕ → Entry
tag_entry who number what attr value = record { who = who; number = number; call = calls.TagObj; what = what; act = act.Tag attr value; reply = answer.Done }

abbrev pub keep_entry : ℕ → ℕ → ℕ → Entry
keep_entry who number what = record { who = who; number = number; call = calls.Sync; what = what; act = act.Keep; reply = answer.Done }
