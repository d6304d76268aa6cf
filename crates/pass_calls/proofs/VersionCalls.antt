-- The steps of calls on versions: a freeze, a tag, a disclosure.
use Rattle.std.proofs.Common.{◌≡◌, ℕ, ◌+◌, ◌-◌, ◌<◌, List, [], ◌∷◌, ◌++◌, length, ap, ◌∙◌, refl, true, ◌&&◌}
use Rattle.std.specs.Prelude.{Option, Some, None, slice_get}
use Rattle.std.specs.FinMap as finite_map
use Rattle.pass_entry.specs.Texts.{is_name}
use Rattle.pass_entry.specs.declared.entry.Act.{Act}
use Rattle.pass_entry.specs.declared.entry.Act.TheVariants as act
use Rattle.pass_entry.specs.declared.entry.Ask.TheVariants as ask
use Rattle.pass_entry.specs.declared.entry.Entry.{Entry}
use Rattle.pass_entry.specs.declared.entry.Reply.TheVariants as answer
use Rattle.pass_entry.specs.declared.objects.Descriptor.{Descriptor}
use Rattle.pass_entry.specs.declared.objects.Node.{Node}
use Rattle.pass_plain.specs.declared.request.Request.{Request}
use Rattle.pass_plain.specs.declared.request.Request.TheVariants as requests
use Rattle.pass_plain.specs.Calls.{Made, Step, is_fd, is_within, refused_ask, steps_of}
use Rattle.pass_plain.specs.Processes.{Process, refusal}
use Rattle.pass_plain.specs.Sessions.{Session}
use Rattle.pass_plain.specs.Versions.{nodes_of}
use Rattle.pass_plain.proofs.Lists.{both_true}
use Rattle.pass_hold.specs.Callings.{IsEntered, IsIdle, IsGoing, HasGone}
use Rattle.pass_hold.specs.Entering.{MayEnter}
use Rattle.pass_hold.proofs.Callings.{call_made, idle_again, more}
use Rattle.pass_flow.specs.Flows.{freeze_entry, cite_entry, told_entry, tag_entry}
use Rattle.pass_proc.proofs.Steps.{begun, low_fd}
use Rattle.pass_answer.specs.Answers.{HasMoved}
use Rattle.pass_answer.specs.declared.answer.Moved.TheVariants as moved
use Rattle.pass_answer.proofs.Naming.{one_held, two_held, its_object}
use Rattle.pass_answer.proofs.ObjectSteps.{place_is, only_may, only_made, only_idle}
use Rattle.pass_answer.proofs.Steps.{not_refused, next_may, gone_by}

abbrev step_to : Act → ℕ → Option Step
step_to a what = Some (what, a)

-- A freeze

module _ (session : Session) (seen : List Entry) (who number : ℕ) (p : Process) (fd what : ℕ)
    (idle : IsIdle session seen who (number - 1) p) (some : 0 < number) (free : refusal p (ask.Held fd) ≡ None) (low : fd < 64)
    (named : (d : Descriptor) → finite_map.get p.descriptors fd ≡ Some d → what ≡ d.pnode) where
  freeze_fine : refused_ask p (requests.FreezeObj fd) ≡ None
  freeze_fine = not_refused p (requests.FreezeObj fd) (ask.Held fd) refl free

  freeze_at : slice_get (steps_of who p [] (requests.FreezeObj fd)) 0 ≡ Some (what, act.Freeze)
  freeze_at = ap (step_to act.Freeze) (its_object p fd what (one_held p fd free) named)

  pub freeze_may : MayEnter seen (freeze_entry who number what) 0
  freeze_may = only_may session seen who number p (requests.FreezeObj fd) what act.Freeze answer.Done idle some freeze_fine freeze_at refl (low_fd fd low) refl

  module _ (desk after : List Entry) (entered : IsEntered session seen desk after (freeze_entry who number what)) where
    pub frozen_moved : (place : ℕ) (node : Node) → place + 1 ≡ length after → slice_get (nodes_of session after) place ≡ Some node
        → HasMoved session who seen after p (requests.FreezeObj fd) (moved.Frozen node)
    frozen_moved place node last at = record {
      made = (length entered.past, freeze_entry who number what) ∷ [];
      call = only_made session seen who number p (requests.FreezeObj fd) what act.Freeze answer.Done idle some freeze_fine freeze_at refl (low_fd fd low) refl desk after entered refl;
      reply = answer.Done;
      last = refl;
      fine = refl;
      tells = ap (λ n. slice_get (nodes_of session after) n) (place_is session seen desk after (freeze_entry who number what) entered place last) ∙ at;
    }

    pub frozen_idle : IsIdle session after who number p
    frozen_idle = only_idle session seen who number p (requests.FreezeObj fd) what act.Freeze answer.Done idle some freeze_fine freeze_at refl (low_fd fd low) refl desk after entered refl

-- A tag

module _ (session : Session) (seen : List Entry) (who number : ℕ) (p : Process) (fd : ℕ) (attr value : List ℕ) (what : ℕ)
    (idle : IsIdle session seen who (number - 1) p) (some : 0 < number) (free : refusal p (ask.Held fd) ≡ None) (low : fd < 64)
    (named_attr : is_name attr ≡ true) (named_value : is_name value ≡ true)
    (named : (d : Descriptor) → finite_map.get p.descriptors fd ≡ Some d → what ≡ d.pnode) where
  tag_fine : refused_ask p (requests.TagObj fd attr value) ≡ None
  tag_fine = not_refused p (requests.TagObj fd attr value) (ask.Held fd) refl free

  tag_at : slice_get (steps_of who p [] (requests.TagObj fd attr value)) 0 ≡ Some (what, act.Tag attr value)
  tag_at = ap (step_to (act.Tag attr value)) (its_object p fd what (one_held p fd free) named)

  tag_within : is_within (requests.TagObj fd attr value) ≡ true
  tag_within = both_true (is_fd fd && is_name attr) (is_name value) (both_true (is_fd fd) (is_name attr) (low_fd fd low) named_attr) named_value

  pub tag_may : MayEnter seen (tag_entry who number what attr value) 0
  tag_may = only_may session seen who number p (requests.TagObj fd attr value) what (act.Tag attr value) answer.Done idle some tag_fine tag_at refl tag_within refl

  module _ (desk after : List Entry) (entered : IsEntered session seen desk after (tag_entry who number what attr value)) where
    pub tagged_moved : HasMoved session who seen after p (requests.TagObj fd attr value) moved.Done
    tagged_moved = record {
      made = (length entered.past, tag_entry who number what attr value) ∷ [];
      call = only_made session seen who number p (requests.TagObj fd attr value) what (act.Tag attr value) answer.Done idle some tag_fine tag_at refl tag_within refl desk after entered refl;
      reply = answer.Done;
      last = refl;
      fine = refl;
      tells = tt;
    }

    pub tagged_idle : IsIdle session after who number p
    tagged_idle = only_idle session seen who number p (requests.TagObj fd attr value) what (act.Tag attr value) answer.Done idle some tag_fine tag_at refl tag_within refl desk after entered refl

-- A disclosure

module _ (session : Session) (seen : List Entry) (who number : ℕ) (p : Process) (target_fd source_fd target source : ℕ)
    (idle : IsIdle session seen who (number - 1) p) (some : 0 < number) (free : refusal p (ask.HeldTwo target_fd source_fd) ≡ None)
    (target_low : target_fd < 64) (source_low : source_fd < 64)
    (source_named : (d : Descriptor) → finite_map.get p.descriptors source_fd ≡ Some d → source ≡ d.pnode)
    (target_named : (d : Descriptor) → finite_map.get p.descriptors target_fd ≡ Some d → target ≡ d.pnode) where
  abbrev r : Request
  r = requests.Disclose target_fd source_fd

  fine : refused_ask p r ≡ None
  fine = not_refused p r (ask.HeldTwo target_fd source_fd) refl free

  within : is_within r ≡ true
  within = both_true (is_fd target_fd) (is_fd source_fd) (low_fd target_fd target_low) (low_fd source_fd source_low)

  first : IsGoing session seen seen who number r p [] p
  first = begun session seen who number p r idle some

  cite_at : slice_get (steps_of who p [] r) 0 ≡ Some (source, act.Cite)
  cite_at = ap (step_to act.Cite) (its_object p source_fd source (two_held p target_fd source_fd free).1 source_named)

  abbrev cite : Entry
  cite = cite_entry who number source

  pub cite_may : MayEnter seen cite 2
  cite_may = next_may session seen seen who number r p [] p fine source act.Cite cite_at answer.Done refl within first 2 refl

  module _ (desk after : List Entry) (out : ℕ) (last : out + 1 ≡ length after) (cited : IsEntered session seen desk after cite) where
    abbrev one : Made
    one = (length cited.past, cite) ∷ []

    gone : HasGone session seen after who number r p one p
    gone = gone_by session seen seen who number r p [] p fine source act.Cite cite_at answer.Done desk after first cited refl

    going : IsGoing session seen after who number r p one p
    going = more session seen after who number r p one p gone refl idle.lives

    told_at : slice_get (steps_of who p one r) 1 ≡ Some (target, act.Told out)
    told_at = ap (step_to (act.Told (length cited.past))) (its_object p target_fd target (two_held p target_fd source_fd free).0 target_named)
        ∙ ap (λ n. step_to (act.Told n) target) (place_is session seen desk after cite cited out last)

    abbrev told : Entry
    told = told_entry who number target out

    pub told_may : MayEnter after told 0
    told_may = next_may session seen after who number r p one p fine target (act.Told out) told_at answer.Done refl within going 0 refl

    module _ (own later : List Entry) (entered : IsEntered session after own later told) where
      abbrev two : Made
      two = one ++ (length entered.past, told) ∷ []

      gone_on : HasGone session seen later who number r p two p
      gone_on = gone_by session seen after who number r p one p fine target (act.Told out) told_at answer.Done own later going entered refl

      pub disclosed_moved : HasMoved session who seen later p r moved.Done
      disclosed_moved = record { made = two; call = call_made session seen later who number r p two p gone_on refl; reply = answer.Done; last = refl; fine = refl; tells = tt }

      pub disclosed_idle : IsIdle session later who number p
      disclosed_idle = idle_again session seen later who number r p two p gone_on refl idle.lives
