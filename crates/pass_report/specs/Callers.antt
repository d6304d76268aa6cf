-- The states of processes after a history.
use Rattle.std.specs.Prelude.{ℕ, ◌≡◌, List}
use Rattle.std.specs.Option.{option_map_or}
use Rattle.std.specs.Ordering.{nat_cmp}
use Rattle.std.specs.BTreeMap.{get}
use Rattle.pass_entry.specs.declared.entry.Entry.{Entry}
use Rattle.pass_plain.specs.Processes.{Process, new_process, process_after}
use Rattle.pass_report.specs.declared.processes.Processes.{Processes}

abbrev pub state_in : Processes → ℕ → Process
state_in p who = option_map_or (λ s. s) (get nat_cmp p.states who) new_process

-- each process has its state
abbrev pub AreProcesses : List Entry → Processes → Type 0
AreProcesses history p = (who : ℕ) → state_in p who ≡ process_after history who
