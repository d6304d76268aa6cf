-- The counts of a walk are those of the definitions where no call closes a descriptor.
use Rattle.std.proofs.Common.{◌≡◌, ℕ, List, refl, ap, sym, ◌∙◌, Bool, true, false, not, ◌||◌, ◌&&◌, cond}
use Rattle.std.specs.Prelude.{Some, slice_get}
use Rattle.pass_entry.specs.declared.entry.Entry.{Entry}
use Rattle.pass_entry.specs.declared.entry.Act.{Act}
use Rattle.pass_entry.specs.declared.entry.Act.TheVariants as act
use Rattle.pass_entry.specs.declared.entry.CallName.{CallName}
use Rattle.pass_entry.specs.declared.entry.CallName.TheVariants as call_name
use Rattle.pass_plain.specs.Histories.{is_fault}
use Rattle.pass_plain.specs.Sessions.{Session}
use Rattle.pass_plain.specs.Processes.{Process, new_process}
use Rattle.pass_plain.specs.Calls.{is_last, is_last_act}
use Rattle.pass_plain.specs.Legal.{is_start, before_call}
use Rattle.pass_plain.specs.Traces.{name_of_call}
use Rattle.pass_plain.specs.Runs.{IsRun}
use Rattle.pass_report.specs.Reports.{is_answered}
use Rattle.pass_drawn.specs.declared.reporting.Tally.{Tally}
use Rattle.pass_drawn.specs.Runs.{drawn_trace}
use Rattle.pass_drawn.specs.Texts.{is_write, is_written, length_written, drawn_text, run_text}
use Rattle.pass_drawn.specs.Tallies.{ends, wrote, IsTally}
use Rattle.pass_drawn.proofs.Adding.{sum_by-same}
use Rattle.pass_drawn.proofs.Calls.{called, call_named}
use Rattle.pass_drawn.proofs.Tracing.{is_drawn_name, call_named_so}

-- the process's state matters to a close alone

abbrev is_close : CallName → Bool
is_close call_name.CloseFd = true
is_close _ = false

exit_alike : (p q : Process) (a : Act) → is_last_act p call_name.Exit a ≡ is_last_act q call_name.Exit a
exit_alike p q act.Finish = refl
exit_alike p q _ = refl

alike : (p q : Process) (c : CallName) (a : Act) → is_close c ≡ false → is_last_act p c a ≡ is_last_act q c a
alike p q call_name.CloseFd a other = absurd (cc)
alike p q call_name.Start a other = refl
alike p q call_name.Exit a other = exit_alike p q a
alike p q _ (act.Bind name) other = refl
alike p q _ _ other = refl

no_close : (c : CallName) → is_drawn_name c ≡ true → is_close c ≡ false
no_close call_name.CloseFd is = absurd (cc)
no_close _ is = refl

module _ (session : Session) (number lines : ℕ) (history : List Entry) (run : IsRun session (drawn_trace number lines) history) where
  ends_as : (i : ℕ) (e : Entry) → slice_get history i ≡ Some e → ends e ≡ is_answered history e
  ends_as i e at = at_test (is_start e.call) refl
    where
      at_test : (b : Bool) → is_start e.call ≡ b → ends e ≡ is_answered history e
      at_test true t =
          ap (λ b. not b && is_last new_process e) t ∙ sym (ap (λ b. not b && is_last (before_call history e.who e.number) e) t)
      at_test false t =
          let c = called session number lines history run i e at t in
          let other : is_close e.call ≡ false = ap is_close (call_named session number lines history run i e at c) ∙ no_close (name_of_call c.call) (call_named_so number lines c.process c.done c.call c.stands) in
          ap (λ b. not (is_start e.call) && (is_fault e.reply || b)) (alike new_process (before_call history e.who e.number) e.call e.act other)

  -- what the walk counts is what the calls of the run came to
  pub tally_text : (t : Tally) → IsTally history t → drawn_text number lines t.calls t.writes t.bytes ≡ run_text number lines history
  tally_text t is =
      let calls = is.calls ∙ sum_by-same (λ e. cond (ends e) 1 0) (λ e. cond (is_answered history e) 1 0) history (λ i e at. ap (λ b. cond b 1 0) (ends_as i e at)) in
      let writes = is.writes ∙ sum_by-same (λ e. cond (wrote e) 1 0) (λ e. cond (is_written history e) 1 0) history
      (λ i e at. ap (λ b. cond (b && (is_write e.call && not (is_fault e.reply))) 1 0) (ends_as i e at)) in
      let bytes = is.bytes ∙ sum_by-same (λ e. cond (wrote e) (length_written e.act) 0) (λ e. cond (is_written history e) (length_written e.act) 0) history
      (λ i e at. ap (λ b. cond (b && (is_write e.call && not (is_fault e.reply))) (length_written e.act) 0) (ends_as i e at)) in
      (λ j. drawn_text number lines (calls j) (writes j) (bytes j))
