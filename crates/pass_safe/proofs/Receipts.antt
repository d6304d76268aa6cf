-- What a receipt counts, and what a process sees that has met the vault.
use Rattle.std.proofs.Common.{◌≡◌, ℕ, ◌+◌, ◌<◌, ◌≤◌, List, length, ap, sym, subst, arith}
use Rattle.std.specs.Prelude.{IfOk, Result, Ok, Err}
use Rattle.pass_entry.specs.declared.entry.Entry.{Entry}
use Rattle.pass_plain.specs.Sessions.{Session}
use Rattle.pass_hold.specs.Callings.{HasLooked}
use Rattle.pass_proc.specs.Procs.{ProcView}
use Rattle.pass_answer.specs.Lives.{HasMet}
use Rattle.pass_vault.specs.declared.vault.Receipt.{Receipt}
use Rattle.pass_safe.specs.declared.fault.SafeFault.{SafeFault}
use Rattle.pass_safe.specs.declared.saving.Saved.{Saved}

-- a sync's first entry is among those that its receipt counts
pub place_below : (place n : ℕ) (answer : Result Saved SafeFault) → place + 1 ≡ n → IfOk answer (λ s. n ≤ s.receipt.entries) → IfOk answer (λ s. place < s.receipt.entries)
place_below place n (Ok s) last all = omega (arith, last, all)
place_below place n (Err e) last all = tt

pub place_after : (place n m calls : ℕ) (answer : Result Saved SafeFault) → place + 1 ≡ n → n ≤ m → IfOk answer (λ s. s.receipt ≡ record { calls = calls; entries = m }) → IfOk answer (λ s. place < s.receipt.entries)
place_after place n m calls (Ok s) last low is = let all = ap (λ (r : Receipt). r.entries) is in omega (arith, last, low, all)
place_after place n m calls (Err e) last low is = tt

pub whole_of : (n calls : ℕ) (answer : Result Saved SafeFault) → IfOk answer (λ s. s.receipt ≡ record { calls = calls; entries = n }) → IfOk answer (λ s. n ≤ s.receipt.entries)
whole_of n calls (Ok s) is = let all = ap (λ (r : Receipt). r.entries) is in omega (arith, all)
whole_of n calls (Err e) is = tt

pub met_by : (session : Session) (old new : ProcView) (history : List Entry) → HasLooked session old.who old.seen new.seen → new.seen ≡ history
    → new ≡ record old { seen = history; syncs = new.syncs; looks = old.looks + 1; looked = length history } → HasMet session old new
met_by session old new history looked whole same = record {
  looked = looked;
  same = subst (λ (h : List Entry). new ≡ record old { seen = h; syncs = new.syncs; looks = old.looks + 1; looked = length h }) (sym whole) same;
}
