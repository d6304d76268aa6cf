-- What a process sees of a store that was settled, and what a receipt counts.
use Rattle.std.proofs.Common.{◌≡◌, ◌∙◌, ℕ, ◌+◌, ◌≤◌, List, length, ap, sym, subst, arith}
use Rattle.std.specs.Prelude.{IfOk, Result, Ok, Err}
use mathlib.Core.List.{IsPrefix}
use Rattle.pass_plain.specs.Sessions.{Session}
use Rattle.pass_book.proofs.Prefixes.{prefix_length}
use Rattle.pass_book.specs.declared.view.VaultSync.{VaultSync}
use Rattle.pass_vault.specs.declared.vault.Receipt.{Receipt}
use Rattle.pass_proc.specs.Procs.{ProcView}
use Rattle.pass_safe.proofs.Ends.{looked_twice, synced_on}
use Rattle.pass_answer.specs.Syncs.{HasSynced}
use Rattle.pass_safe.specs.declared.fault.SafeFault.{SafeFault}
use Rattle.pass_safe.specs.declared.saving.Saved.{Saved}
use Rattle.pass_kept.specs.Meetings.{HasLookedOn}
use Rattle.pass_answer.specs.Lives.{HasMet}
use Rattle.pass_kept.specs.Settlings.{HasSettled}
pub use Rattle.pass_safe.proofs.Receipts.{met_by}

-- a receipt counts what a later sync has
pub whole_still : (n m : ℕ) (answer : Result Saved SafeFault) → n ≤ m → IfOk answer (λ s. m ≤ s.receipt.entries) → IfOk answer (λ s. n ≤ s.receipt.entries)
whole_still n m (Ok s) low more = omega (arith, low, more)
whole_still n m (Err e) low more = tt

-- what a process was told it sees
pub synced_told : (r : Receipt) (ss us : List VaultSync) → HasSynced r.calls r.entries ss → IsPrefix ss us → HasSynced r.calls r.entries us
synced_told r ss us has more = synced_on r.calls r.entries ss us has more

-- who has looked once
looks_of : (session : Session) (old new : ProcView) → HasMet session old new → new.looks ≡ old.looks + 1
looks_of session old new met = ap (λ (v : ProcView). v.looks) met.same

one_look : (session : Session) (old new : ProcView) → HasMet session old new → new ≡ record old { seen = new.seen; syncs = new.syncs; looks = new.looks; looked = length new.seen }
one_look session old new met = subst (λ (n : ℕ). new ≡ record old { seen = new.seen; syncs = new.syncs; looks = n; looked = length new.seen }) (sym (looks_of session old new met)) met.same

pub looked_once : (session : Session) (old new : ProcView) → HasMet session old new → HasLookedOn session old new
looked_once session old new met = record {
  looked = met.looked;
  more = let looks = looks_of session old new met in omega (arith, looks);
  same = one_look session old new met;
}

-- and once more
pub looked_again : (session : Session) (old mid new : ProcView) → HasMet session old mid → HasMet session mid new → HasLookedOn session old new
looked_again session old mid new first second = record {
  looked = looked_twice session old.who mid.who old.seen mid.seen new.seen (ap (λ (v : ProcView). v.who) first.same) first.looked second.looked;
  more = let one = looks_of session old mid first in let two = looks_of session mid new second in omega (arith, one, two);
  same = one_look session mid new second ∙ ap (λ (v : ProcView). record v { seen = new.seen; syncs = new.syncs; looks = new.looks; looked = length new.seen }) first.same;
}

pub settled_with : (session : Session) (old mid new : ProcView) (s : Saved) (r : Receipt) → HasMet session old mid → length mid.seen ≤ s.receipt.entries → r ≡ s.receipt → HasSynced r.calls r.entries new.syncs
    → HasSettled old new r
settled_with session old mid new s r met whole is synced = record {
  since = let begins = prefix_length old.seen mid.seen met.looked.begins in let same = ap (λ (r : Receipt). r.entries) is in omega (arith, begins, whole, same);
  synced = synced;
}
