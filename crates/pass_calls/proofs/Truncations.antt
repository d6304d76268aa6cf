-- The steps of a `truncate`.
use Rattle.std.proofs.Common.{◌≡◌, ℕ, ◌+◌, ◌-◌, ◌<◌, List, [], ◌∷◌, length, refl, ap, sym, ◌∙◌, true, ◌||◌, not}
use Rattle.std.specs.Prelude.{Option, Some, None, slice_get, nat_lt}
use Rattle.std.specs.Option.{option_map_or}
use Rattle.std.specs.FinMap as finite_map
use Rattle.pass_entry.specs.declared.entry.Act.TheVariants as act
use Rattle.pass_entry.specs.declared.entry.Ask.TheVariants as ask
use Rattle.pass_entry.specs.declared.entry.CallFault.{CallFault}
use Rattle.pass_entry.specs.declared.entry.CallFault.TheVariants as fault
use Rattle.pass_entry.specs.declared.entry.Entry.{Entry}
use Rattle.pass_entry.specs.declared.entry.Reply.TheVariants as answer
use Rattle.pass_entry.specs.declared.objects.Descriptor.{Descriptor}
use Rattle.pass_entry.specs.declared.objects.Mode.TheVariants as mode
use Rattle.pass_plain.specs.declared.request.Request.{Request}
use Rattle.pass_plain.specs.declared.request.Request.TheVariants as requests
use Rattle.pass_plain.specs.Calls.{descriptor_at, is_within, no_descriptor, refused_ask, steps_of}
use Rattle.pass_plain.specs.Processes.{Process, at_held, faults_if, file_limit, is_file, refusal, same_mode}
use Rattle.pass_plain.specs.Sessions.{Session}
use Rattle.pass_hold.specs.Callings.{IsEntered, IsIdle}
use Rattle.pass_hold.specs.Entering.{MayEnter}
use Rattle.pass_hold.proofs.Callings.{entry_of}
use Rattle.pass_proc.proofs.Steps.{low_fd}
use Rattle.pass_answer.specs.Answers.{HasMoved}
use Rattle.pass_answer.specs.declared.answer.Moved.TheVariants as moved
use Rattle.pass_answer.proofs.Steps.{not_refused}
use Rattle.pass_calls.proofs.Shown.{both_idle, both_made, show_may, shown, take_may}

-- what the descriptor of a call holds that asks for a held one
pub held_by : (p : Process) (fd : ℕ) (judge : Descriptor → Option CallFault) → at_held p fd judge ≡ None
    → (d : Descriptor) × (finite_map.get p.descriptors fd ≡ Some d) × (judge d ≡ None)
held_by p fd judge fine = at_descriptor (finite_map.get p.descriptors fd) refl fine
  where
    at_descriptor : (o : Option Descriptor) → finite_map.get p.descriptors fd ≡ o → option_map_or judge o (Some fault.BadFd) ≡ None
        → (d : Descriptor) × (finite_map.get p.descriptors fd ≡ Some d) × (judge d ≡ None)
    at_descriptor None is fine = absurd (cc)
    at_descriptor (Some d) is fine = (d, is, fine)

module _ (session : Session) (seen : List Entry) (who number : ℕ) (p : Process) (fd size : ℕ) (idle : IsIdle session seen who (number - 1) p) (some : 0 < number)
    (free : refusal p (ask.ToCut fd size) ≡ None) (low : fd < 64) where
  abbrev r : Request
  r = requests.Truncate fd size

  fine : refused_ask p r ≡ None
  fine = not_refused p r (ask.ToCut fd size) refl free

  within : is_within r ≡ true
  within = low_fd fd low

  abbrev e : Entry
  e = entry_of who number r who (act.Show fd 0) answer.Done

  pub first_may : MayEnter seen e 2
  first_may = show_may session seen who number r p idle some fine refl within refl fd 0 refl refl

  module _ (what : ℕ) (object : (d : Descriptor) → finite_map.get p.descriptors fd ≡ Some d → what ≡ d.pnode)
      (desk after : List Entry) (out : ℕ) (at : out + 1 ≡ length after) (entered : IsEntered session seen desk after e) where
    its : (descriptor_at p fd).pnode ≡ what
    its = let h = held_by p fd (λ d. faults_if (not (is_file d) || same_mode d.mode mode.Read) fault.BadMode (faults_if (nat_lt file_limit size) fault.TooBig None)) free in
        ap (λ o. (option_map_or (λ d. d) o no_descriptor).pnode) h.1 ∙ sym (object h.0 h.1)

    takes : slice_get (steps_of who p ((out, e) ∷ []) r) 1 ≡ Some (what, act.Cut out size)
    takes = ap (λ n. Some (n, act.Cut out size)) its

    abbrev f : Entry
    f = entry_of who number r what (act.Cut out size) answer.Done

    pub cut_may : MayEnter after f 0
    cut_may = take_may session seen who number r p idle some fine refl within refl fd 0 refl refl desk after out at entered what (act.Cut out size) takes refl

    module _ (own later : List Entry) (cut : IsEntered session after own later f) where
      pub cut_made : HasMoved session who seen later (shown p fd 0) r moved.Done
      cut_made = record {
        made = _;
        call = both_made session seen who number r p idle some fine refl within refl fd 0 refl refl desk after out at entered what (act.Cut out size) takes refl own later cut refl;
        reply = answer.Done;
        last = refl;
        fine = refl;
        tells = tt;
      }

      pub cut_idle : IsIdle session later who number (shown p fd 0)
      cut_idle = both_idle session seen who number r p idle some fine refl within refl fd 0 refl refl desk after out at entered what (act.Cut out size) takes refl own later cut refl
