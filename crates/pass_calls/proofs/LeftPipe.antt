-- The two steps by which a process gives up a descriptor of a pipe.
use Rattle.std.proofs.Common.{◌≡◌, ℕ, ◌+◌, ◌-◌, ◌<◌, List, [], ◌∷◌, ◌++◌, length, refl, ap, sym, ◌∙◌, subst, true, not, is_some}
use Rattle.std.specs.Prelude.{Option, Some, None, slice_get, if◌then◌else◌}
use Rattle.std.specs.Option.{option_map_or}
use Rattle.std.specs.FinMap as finite_map
use Rattle.pass_entry.specs.declared.entry.Entry.{Entry}
use Rattle.pass_entry.specs.declared.entry.Act.{Act}
use Rattle.pass_entry.specs.declared.entry.Act.TheVariants as act
use Rattle.pass_entry.specs.declared.entry.Ask.TheVariants as ask
use Rattle.pass_entry.specs.declared.entry.CallFault.TheVariants as fault
use Rattle.pass_entry.specs.declared.entry.CallName.TheVariants as calls
use Rattle.pass_entry.specs.declared.entry.Reply.TheVariants as answer
use Rattle.pass_entry.specs.declared.objects.Descriptor.{Descriptor}
use Rattle.pass_entry.specs.declared.objects.End.{End}
use Rattle.pass_plain.specs.declared.request.Request.{Request}
use Rattle.pass_plain.specs.declared.request.Request.TheVariants as requests
use Rattle.pass_plain.specs.Calls.{Made, descriptor_at, end_of, is_within, no_descriptor, refused_ask, steps_of}
use Rattle.pass_plain.specs.Processes.{Process, faults_if, is_pipe, refusal}
use Rattle.pass_plain.specs.Sessions.{Session}
use Rattle.pass_hold.specs.Callings.{IsEntered, IsIdle, IsGoing, HasGone}
use Rattle.pass_hold.specs.Entering.{MayEnter}
use Rattle.pass_hold.proofs.Callings.{entry_of, more, call_made, idle_again}
use Rattle.pass_pipe.specs.Desks.{leave_entry}
use Rattle.pass_proc.specs.Acts.{own_entry}
use Rattle.pass_proc.proofs.Steps.{begun, low_fd}
use Rattle.pass_answer.specs.Answers.{HasMoved}
use Rattle.pass_answer.specs.declared.answer.Moved.TheVariants as moved
use Rattle.pass_answer.proofs.Steps.{not_refused, next_may, gone_by, gone_own}

module _ (session : Session) (seen : List Entry) (who number : ℕ) (p : Process) (fd : ℕ) (idle : IsIdle session seen who (number - 1) p) (some : 0 < number)
    (free : refusal p (ask.Held fd) ≡ None) (low : fd < 64) (pipe : is_pipe (descriptor_at p fd) ≡ true) where
  abbrev r : Request
  r = requests.CloseFd fd

  fine : refused_ask p r ≡ None
  fine = not_refused p r (ask.Held fd) refl free

  within : is_within r ≡ true
  within = low_fd fd low

  going : IsGoing session seen seen who number r p [] p
  going = begun session seen who number p r idle some

  abbrev given : Entry
  given = own_entry who number calls.CloseFd (act.Detach fd) answer.Done

  pub detach_may : MayEnter seen given 2
  detach_may = next_may session seen seen who number r p [] p fine who (act.Detach fd) refl answer.Done refl within going 2 (sym (ap (λ b. if not b then 0 else 3 - (0 + 1)) pipe))

  module _ (own after : List Entry) (detached : IsEntered session seen own after given) where
    abbrev now : Process
    now = record p { descriptors = finite_map.remove p.descriptors fd }

    abbrev one : Made
    one = (length detached.past, given) ∷ []

    on : IsGoing session seen after who number r p one now
    on = more session seen after who number r p one now
        (gone_own session seen seen who number r p [] p fine who (act.Detach fd) refl answer.Done own after going detached refl refl) (ap not pipe) idle.lives

    -- `by` stands for the process in the entry that is made, and `side` for its end
    module _ (what : ℕ) (is : what ≡ (descriptor_at p fd).pnode) (by : ℕ) (of : by ≡ who) (side : End) (its : side ≡ end_of (descriptor_at p fd).mode) where
      abbrev leaves : Act
      leaves = act.Leave (end_of (descriptor_at p fd).mode)

      next : slice_get (steps_of who p one r) 1 ≡ Some (what, leaves)
      next = ap (λ b. slice_get ((who, act.Detach fd) ∷ (if b then ((descriptor_at p fd).pnode, leaves) ∷ [] else [])) 1) pipe ∙ ap (λ (w : ℕ). Some (w, leaves)) (sym is)

      abbrev left : Entry
      left = leave_entry by number calls.CloseFd what side

      same : entry_of who number r what leaves answer.Done ≡ left
      same = ap (λ w. leave_entry w number calls.CloseFd what (end_of (descriptor_at p fd).mode)) (sym of) ∙ ap (λ x. leave_entry by number calls.CloseFd what x) (sym its)

      pub leave_may : MayEnter after left 0
      leave_may = subst (λ e. MayEnter after e 0) same (next_may session seen after who number r p one now fine what leaves next answer.Done refl within on 0 refl)

      module _ (desk last : List Entry) (done : IsEntered session after desk last left) where
        entered : IsEntered session after desk last (entry_of who number r what leaves answer.Done)
        entered = subst (λ e. IsEntered session after desk last e) (sym same) done

        abbrev two : Made
        two = one ++ (length entered.past, entry_of who number r what leaves answer.Done) ∷ []

        gone : HasGone session seen last who number r p two now
        gone = gone_by session seen after who number r p one now fine what leaves next answer.Done desk last on entered refl

        pub closed : HasMoved session who seen last now r moved.Done
        closed = record { made = two; call = call_made session seen last who number r p two now gone refl; reply = answer.Done; last = refl; fine = refl; tells = tt }

        pub closed_idle : IsIdle session last who number now
        closed_idle = idle_again session seen last who number r p two now gone refl idle.lives

-- what a process holds by a number, where it does
pub held_at : (p : Process) (fd : ℕ) → refusal p (ask.Held fd) ≡ None → finite_map.get p.descriptors fd ≡ Some (descriptor_at p fd)
held_at p fd free = at_held (finite_map.get p.descriptors fd) free
  where
    at_held : (o : Option Descriptor) → faults_if (not (is_some o)) fault.BadFd None ≡ None → o ≡ Some (option_map_or (λ d. d) o no_descriptor)
    at_held (Some d) fine = refl
    at_held None fine = absurd (cc)
