-- A call of one step, on the process itself or on another object, which the process does not refuse.
use Rattle.std.proofs.Common.{◌≡◌, ℕ, ◌+◌, ◌-◌, ◌<◌, List, [], ◌∷◌, length, refl, ap, sym, ◌∙◌, true, false, ◌||◌, not}
use Rattle.std.specs.Prelude.{Option, Some, None, slice_get, if◌then◌else◌}
use Rattle.std.specs.Option.{option_map_or}
use Rattle.std.specs.FinMap as finite_map
use Rattle.pass_entry.specs.declared.entry.Act.{Act}
use Rattle.pass_entry.specs.declared.entry.Act.TheVariants as act
use Rattle.pass_entry.specs.declared.entry.Ask.TheVariants as ask
use Rattle.pass_entry.specs.declared.entry.Entry.{Entry}
use Rattle.pass_entry.specs.declared.entry.Reply.{Reply}
use Rattle.pass_entry.specs.declared.objects.Descriptor.{Descriptor}
use Rattle.pass_entry.proofs.Lists.{or_true}
use Rattle.pass_plain.specs.declared.request.Request.{Request}
use Rattle.pass_plain.specs.declared.request.Request.TheVariants as requests
use Rattle.pass_plain.specs.Calls.{Made, is_last_act, is_within, name_of, no_descriptor, refused_ask, steps_of}
use Rattle.pass_plain.specs.Histories.{is_fault}
use Rattle.pass_plain.specs.Legal.{is_start}
use Rattle.pass_plain.specs.Places.{is_exit, need_of}
use Rattle.pass_plain.specs.Processes.{Process, is_pipe, process_act, refusal}
use Rattle.pass_plain.specs.Sessions.{Session}
use Rattle.pass_hold.specs.Callings.{IsEntered, IsIdle, IsGoing, HasGone}
use Rattle.pass_hold.specs.Entering.{MayEnter}
use Rattle.pass_hold.proofs.Callings.{entry_of, call_made, idle_again}
use Rattle.pass_proc.specs.CallEnds.{HasReplied}
use Rattle.pass_proc.specs.declared.way.Way.{Way}
use Rattle.pass_proc.proofs.Steps.{begun, low_fd}
use Rattle.pass_answer.specs.Answers.{HasMoved, Tells, resumes}
use Rattle.pass_calls.specs.Renamings.{act_of_change, request_of_change}
use Rattle.pass_answer.specs.declared.answer.Moved.{Moved}
use Rattle.pass_answer.specs.declared.answer.Moved.TheVariants as moved
use Rattle.pass_calls.specs.declared.renaming.Change.{Change}
use Rattle.pass_calls.specs.declared.renaming.Change.TheVariants as change
use Rattle.pass_answer.proofs.Steps.{not_refused, not_asked, next_may, gone_by, gone_own}

-- the process p does not refuse the request, and its one step is this act on this object
pub record IsOnlyStep (who : ℕ) (p : Process) (r : Request) (what : ℕ) (a : Act) : Type 0 where
  pub fine : refused_ask p r ≡ None
  pub ordinary : is_start (name_of r) || is_exit (name_of r) ≡ false
  pub within : is_within r ≡ true
  pub begins : slice_get (steps_of who p [] r) 0 ≡ Some (what, a)
  pub ends : is_last_act p (name_of r) a ≡ true

module _ (session : Session) (seen : List Entry) (who number : ℕ) (p : Process) (r : Request) (what : ℕ) (a : Act) (step : IsOnlyStep who p r what a)
    (idle : IsIdle session seen who (number - 1) p) (some : 0 < number) (reply : Reply) where
  abbrev e : Entry
  e = entry_of who number r what a reply

  going : IsGoing session seen seen who number r p [] p
  going = begun session seen who number p r idle some

  last : is_fault reply || is_last_act p (name_of r) a ≡ true
  last = ap (λ l. is_fault reply || l) step.ends ∙ or_true (is_fault reply)

  pub step_may : MayEnter seen e 0
  step_may = next_may session seen seen who number r p [] p step.fine what a step.begins reply step.ordinary step.within going 0 (sym (ap (λ b. if b then 0 else need_of (name_of r) - (0 + 1)) last))

  module _ (desk after : List Entry) (entered : IsEntered session seen desk after e) where
    abbrev one : Made
    one = (length entered.past, e) ∷ []

    -- on another object, where it changes no process
    module _ (stays : (past : List Entry) → process_act past p a ≡ p) where
      there : HasGone session seen after who number r p one p
      there = gone_by session seen seen who number r p [] p step.fine what a step.begins reply desk after going entered (stays entered.past)

      pub there_replied : HasReplied session who seen after r reply
      there_replied = record { made = one; call = call_made session seen after who number r p one p there last; last = refl }

      pub there_moved : (m : Moved) → is_fault reply ≡ false → ((made : Made) → Tells session after p r made m) → HasMoved session who seen after p r m
      there_moved m went tells = record { made = one; call = call_made session seen after who number r p one p there last; reply = reply; last = refl; fine = went; tells = tells one }

      pub there_idle : IsIdle session after who number p
      there_idle = idle_again session seen after who number r p one p there last idle.lives

    -- on the process itself
    module _ (own : what ≡ who) (went : is_fault reply ≡ false) (lives : (process_act entered.past p a).ended ≡ false) where
      abbrev now : Process
      now = process_act entered.past p a

      here : HasGone session seen after who number r p one now
      here = gone_own session seen seen who number r p [] p step.fine what a step.begins reply desk after going entered own went

      pub here_moved : (m : Moved) → Tells session after now r one m → HasMoved session who seen after now r m
      here_moved m tells = record { made = one; call = call_made session seen after who number r p one now here last; reply = reply; last = refl; fine = went; tells = tells }

      pub here_idle : IsIdle session after who number now
      here_idle = idle_again session seen after who number r p one now here last lives

-- The calls of one step here

pub seek_step : (who : ℕ) (p : Process) (fd at : ℕ) → fd < 64 → refusal p (ask.ToSeek fd at) ≡ None → IsOnlyStep who p (requests.Seek fd at) who (act.Seek fd at)
seek_step who p fd at low free = record { fine = not_refused p (requests.Seek fd at) (ask.ToSeek fd at) refl free; ordinary = refl; within = low_fd fd low; begins = refl; ends = refl }

-- what leads to no pipe where it is held, leads to none where it isn't
no_pipe : (o : Option Descriptor) → ((d : Descriptor) → o ≡ Some d → is_pipe d ≡ false) → is_pipe (option_map_or (λ d. d) o no_descriptor) ≡ false
no_pipe (Some d) other = other d refl
no_pipe None other = refl

pub close_step : (who : ℕ) (p : Process) (fd : ℕ) → fd < 64 → refusal p (ask.Held fd) ≡ None → ((d : Descriptor) → finite_map.get p.descriptors fd ≡ Some d → is_pipe d ≡ false)
    → IsOnlyStep who p (requests.CloseFd fd) who (act.Detach fd)
close_step who p fd low free other = record {
  fine = not_refused p (requests.CloseFd fd) (ask.Held fd) refl free;
  ordinary = refl;
  within = low_fd fd low;
  begins = refl;
  ends = ap not (no_pipe (finite_map.get p.descriptors fd) other);
}

pub change_step : (who : ℕ) (p : Process) (x : Change) → is_within (request_of_change x) ≡ true → IsOnlyStep who p (request_of_change x) 0 (act_of_change x)
change_step who p (change.Move room) within = record { fine = not_asked p (requests.Rename room.from room.to) refl; ordinary = refl; within = within; begins = refl; ends = refl }
change_step who p (change.Unbind room) within = record { fine = not_asked p (requests.Unlink room) refl; ordinary = refl; within = within; begins = refl; ends = refl }

-- it changes no process
pub change_stays : (past : List Entry) (p : Process) (x : Change) → process_act past p (act_of_change x) ≡ p
change_stays past p (change.Move room) = refl
change_stays past p (change.Unbind room) = refl

pub change_tells : (session : Session) (after : List Entry) (p : Process) (x : Change) (made : Made) → Tells session after p (request_of_change x) made moved.Done
change_tells session after p (change.Move room) made = tt
change_tells session after p (change.Unbind room) made = tt

pub change_needs : (x : Change) → 3 ≡ need_of (name_of (request_of_change x))
change_needs (change.Move room) = refl
change_needs (change.Unbind room) = refl

pub new_change : (x : Change) (way : Option Way) → resumes way (request_of_change x) ≡ false
new_change (change.Move room) way = refl
new_change (change.Unbind room) way = refl
