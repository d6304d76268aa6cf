-- The calls of a history: the last one of each process, and the processes that calls have made.
use Rattle.std.specs.Prelude.{ℕ, ◌≡◌, ◌==◌, ◌&&◌, ◌||◌, Bool, true, false, List, [], Option, Some, None, slice_get, nat_lt, unwrap_or}
use Rattle.std.specs.Option.{option_map_or}
use Rattle.std.specs.Ordering.{nat_cmp, ordering_then}
use Rattle.std.specs.declared.cmp.Ordering.{Ordering}
use Rattle.std.specs.BTreeMap.{get}
use Rattle.pass_entry.specs.declared.entry.Entry.{Entry}
use Rattle.pass_entry.specs.declared.entry.Act.{Act}
use Rattle.pass_entry.specs.declared.entry.Act.TheVariants as act
use Rattle.pass_entry.specs.declared.objects.Kind.TheVariants as kind
use Rattle.pass_plain.specs.Histories.{call_entries, pnode_of}
use Rattle.pass_plain.specs.Legal.{last_number, is_over}
use Rattle.pass_report.specs.declared.calls.Calls.{Calls}

-- the act makes a process
abbrev pub makes_process : Act → Bool
makes_process (act.Mint kind.Process) = true
makes_process _ = false

-- the order of calls: by process, then by number
abbrev pub call_cmp : ℕ × ℕ → ℕ × ℕ → Ordering
call_cmp a b = ordering_then (nat_cmp a.0 b.0) (nat_cmp a.1 b.1)

abbrev pub number_in : Calls → ℕ → ℕ
number_in c who = option_map_or (λ l. l.number) (get nat_cmp c.last who) 0

abbrev pub ended_in : Calls → ℕ → Bool
ended_in c who = option_map_or (λ l. l.ended) (get nat_cmp c.last who) false

abbrev pub child_in : Calls → ℕ → ℕ → Option ℕ
child_in c who number = get call_cmp c.children (who, number)

pub record IsCallTable (history : List Entry) (c : Calls) : Type 0 where
  pub number : (who : ℕ) → number_in c who ≡ last_number history who
  pub ended : (who : ℕ) → ended_in c who ≡ is_over history who (last_number history who)
  -- what the first entry of a call has made
  pub child : (who number : ℕ) (s : ℕ × Entry) → slice_get (call_entries history who number) 0 ≡ Some s → makes_process s.1.act ≡ true
      → child_in c who number ≡ Some (pnode_of s.1.reply)
  pub none : (who number : ℕ) → call_entries history who number ≡ [] → child_in c who number ≡ None

-- a call has ended, by what the table says of its process's last call, before which all have ended
abbrev pub ended_by : Calls → ℕ → ℕ → Bool
ended_by c who number = nat_lt number (number_in c who) || number == number_in c who && ended_in c who

abbrev pub child_by : Calls → ℕ → ℕ → ℕ
child_by c who number = unwrap_or (child_in c who number) 0
