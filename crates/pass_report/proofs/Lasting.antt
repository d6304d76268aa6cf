-- Where calls end, by the states of processes.
use Rattle.std.proofs.Common.{◌≡◌, ◌==◌, ℕ, List, [], ◌∷◌, ◌++◌, length, refl, ap, sym, subst, ◌∙◌, Bool, true, false, ◌||◌, arith}
use Rattle.pass_entry.specs.declared.entry.Entry.{Entry}
use Rattle.pass_entry.specs.declared.entry.Act.{Act}
use Rattle.pass_entry.specs.declared.entry.Act.TheVariants as act
use Rattle.pass_entry.specs.declared.entry.CallName.{CallName}
use Rattle.pass_entry.specs.declared.entry.CallName.TheVariants as call
use Rattle.pass_plain.specs.Histories.{is_fault, call_entries}
use Rattle.pass_plain.specs.Sessions.{Session}
use Rattle.pass_plain.specs.Processes.{Process, new_process, process_after, process_act}
use Rattle.pass_plain.specs.Calls.{call_steps, is_last, is_last_act}
use Rattle.pass_plain.specs.Legal.{IsLegal, MayFollow, before_call}
use Rattle.pass_plain.proofs.Lists.{same_numbers}
use Rattle.pass_plain.proofs.Replays.{state_after-append, own_step-own, own_step-other, own_step-fault}
use Rattle.pass_plain.proofs.Rows.{Row}
use Rattle.pass_plain.proofs.Calling.{row}
use Rattle.pass_plain.proofs.Playing.{before_new}
use Rattle.pass_report.specs.declared.processes.Processes.{Processes}
use Rattle.pass_report.specs.Callers.{state_in, AreProcesses}

no_items : {X : Type 0} (xs : List X) → 0 ≡ length xs → xs ≡ []
no_items [] e = refl
no_items (x ∷ xs) e = absurd (omega arith)

-- of all acts the end of a call hangs on its process's state at a detach alone
same_last : (p q : Process) (name : CallName) (a : Act) → ((fd : ℕ) → a ≡ act.Detach fd → p ≡ q) → is_last_act p name a ≡ is_last_act q name a
same_last p q name (act.Detach fd) same = ap (λ p. is_last_act p name (act.Detach fd)) (same fd refl)
same_last p q call.Start _ same = refl
same_last p q call.CloseFd _ same = refl
same_last p q call.Exit act.Finish same = refl
same_last p q call.Exit _ same = refl
same_last p q _ (act.Bind name) same = refl
same_last p q _ (act.Find name) same = refl
same_last p q _ (act.Mint k) same = refl
same_last p q _ (act.Known pnode) same = refl
same_last p q _ (act.Show fd len) same = refl
same_last p q _ (act.Spawn child) same = refl
same_last p q _ act.Reap same = refl
same_last p q _ act.Ended same = refl
same_last p q _ (act.Give at len) same = refl
same_last p q _ act.Load same = refl
same_last p q _ (act.Take len) same = refl
same_last p q _ (act.Join e) same = refl
same_last p q _ act.Cite same = refl
same_last p q _ act.Keep same = refl
same_last p q _ _ same = refl

-- a detach is its call's first act, so the state before the call is the current one
pub last_known : (session : Session) (past : List Entry) (e : Entry) → IsLegal session past → MayFollow session past e
    → is_last (process_after past e.who) e ≡ is_last (before_call past e.who e.number) e
last_known session past e legal next =
    ap (λ b. is_fault e.reply || b) (same_last (process_after past e.who) (before_call past e.who e.number) e.call e.act (λ fd is.
    let r = row session past e legal next in
    let first = (subst (λ a. Row e.who (before_call past e.who e.number) (call_entries past e.who e.number)
    (call_steps e.who (before_call past e.who e.number) (call_entries past e.who e.number) next.step.request) (length (call_entries past e.who e.number)) e.what a) is r).1 in
    sym (before_new past e.who e.number (no_items (call_entries past e.who e.number) (sym first)))))

abbrev change : List Entry → Process → Entry → Process
change past p e = process_act past p e.act

-- the process of an entry that is no fault, and the others
pub changed_processes : (past : List Entry) (e : Entry) (p q : Processes) → is_fault e.reply ≡ false → AreProcesses past p
    → state_in q e.what ≡ process_act past (state_in p e.what) e.act
    → ((who : ℕ) → (e.what == who) ≡ false → state_in q who ≡ state_in p who) → AreProcesses (past ++ e ∷ []) q
changed_processes past e p q fine states own others = λ who. at_who who (e.what == who) refl
  where
    at_who : (who : ℕ) (b : Bool) → (e.what == who) ≡ b → state_in q who ≡ process_after (past ++ e ∷ []) who
    at_who who true is =
        subst (λ w. state_in q w ≡ process_act past (state_in p w) e.act) (same_numbers e.what who is) own
        ∙ ap (λ s. process_act past s e.act) (states who)
        ∙ sym (state_after-append change who new_process past e ∙ own_step-own change who past (process_after past who) e is fine)
    at_who who false is =
        others who is ∙ states who ∙ sym (state_after-append change who new_process past e ∙ own_step-other change who past (process_after past who) e is)

pub idle_processes : (past : List Entry) (e : Entry) (p : Processes) → is_fault e.reply ≡ false → AreProcesses past p
    → ((past : List Entry) (s : Process) → process_act past s e.act ≡ s) → AreProcesses (past ++ e ∷ []) p
idle_processes past e p fine states idle = changed_processes past e p p fine states (sym (idle past (state_in p e.what))) (λ who other. refl)

pub faulted_processes : (past : List Entry) (e : Entry) (p : Processes) → is_fault e.reply ≡ true → AreProcesses past p → AreProcesses (past ++ e ∷ []) p
faulted_processes past e p fault states = λ who.
    states who ∙ sym (state_after-append change who new_process past e ∙ own_step-fault change who past (process_after past who) e fault)
