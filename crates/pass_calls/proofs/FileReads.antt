-- The steps of a read from a file.
use Rattle.std.proofs.Common.{◌≡◌, ℕ, ◌+◌, ◌-◌, ◌<◌, ◌≤◌, List, [], ◌∷◌, ◌++◌, length, refl, ap, sym, ◌∙◌, subst, arith, true, length-append}
use Rattle.std.specs.Prelude.{Option, Some, None, slice_get, nat_le, if◌then◌else◌}
use Rattle.std.specs.Option.{option_map_or}
use Rattle.std.specs.FinMap as finite_map
use Rattle.std.proofs.lemmas.Bool.Decides.{nat_tests}
use Rattle.pass_entry.specs.Limits.{transfer_limit}
use Rattle.pass_entry.specs.declared.entry.Act.TheVariants as act
use Rattle.pass_entry.specs.declared.entry.Ask.TheVariants as ask
use Rattle.pass_entry.specs.declared.entry.Entry.{Entry}
use Rattle.pass_entry.specs.declared.entry.Reply.TheVariants as answer
use Rattle.pass_entry.specs.declared.objects.Descriptor.{Descriptor}
use Rattle.pass_entry.specs.declared.objects.Node.{Node}
use Rattle.pass_entry.proofs.Places.{slice_get-last}
use Rattle.pass_plain.specs.declared.request.Request.{Request}
use Rattle.pass_plain.specs.declared.request.Request.TheVariants as requests
use Rattle.pass_plain.specs.Calls.{Made, is_fd, is_within, no_descriptor, refused_ask, steps_of}
use Rattle.pass_plain.specs.Histories.{bytes_at, bytes_of}
use Rattle.pass_plain.specs.Processes.{Process, changed_at, is_file, refusal, risen}
use Rattle.pass_plain.specs.Sessions.{Session}
use Rattle.pass_plain.specs.Versions.{nodes_of}
use Rattle.pass_plain.proofs.Appends.{slice_get-append}
use Rattle.pass_plain.proofs.Lists.{both_true}
use Rattle.pass_hold.specs.Callings.{IsEntered, IsGoing, IsIdle, HasGone}
use Rattle.pass_hold.specs.Entering.{MayEnter}
use Rattle.pass_hold.proofs.Callings.{call_made, entry_of, idle_again, more}
use Rattle.pass_proc.specs.Views.{ProcessView}
use Rattle.pass_proc.proofs.Steps.{begun, low_fd}
use Rattle.pass_answer.specs.Answers.{HasMoved}
use Rattle.pass_answer.specs.declared.answer.Moved.TheVariants as moved
use Rattle.pass_calls.proofs.Nodes.{node_there}
use Rattle.pass_answer.proofs.Steps.{gone_by, gone_own, next_may, not_refused}

-- a process that has read bytes by a descriptor
abbrev pub read_of : ProcessView → ProcessView → List Entry → ℕ → List ℕ → ProcessView
read_of p after seen fd bytes = record p {
  seen = seen;
  state = record p.state { descriptors = changed_at p.state.descriptors fd (risen (length bytes)); last_read = bytes };
  lineage = after.lineage;
  spare = p.spare - 1;
}

module _ (session : Session) (seen : List Entry) (who number : ℕ) (p : Process) (fd len : ℕ) (idle : IsIdle session seen who (number - 1) p) (some : 0 < number)
    (free : refusal p (ask.ToRead fd) ≡ None) (low : fd < 64) (least : 1 ≤ len) (most : len ≤ transfer_limit)
    (d : Descriptor) (held : finite_map.get p.descriptors fd ≡ Some d) (file : is_file d ≡ true) (what : ℕ) (object : what ≡ d.pnode) (bytes : List ℕ) where
  abbrev r : Request
  r = requests.Read fd len

  fine : refused_ask p r ≡ None
  fine = not_refused p r (ask.ToRead fd) refl free

  within : is_within r ≡ true
  within =
      let a : nat_le 1 len ≡ true = grind (arith, nat_tests) in
      let b : nat_le len transfer_limit ≡ true = grind (arith, nat_tests) in
      both_true _ (nat_le len transfer_limit) (both_true (is_fd fd) (nat_le 1 len) (low_fd fd low) a) b

  abbrev e : Entry
  e = entry_of who number r what (act.Give d.offset len) (answer.Took bytes)

  gives : slice_get (steps_of who p [] r) 0 ≡ Some (what, act.Give d.offset len)
  gives =
      ap (λ o. let d = option_map_or (λ d. d) o no_descriptor in Some (d.pnode, if is_file d then act.Give d.offset len else act.Take len)) held
      ∙ ap (λ b. Some (d.pnode, if b then act.Give d.offset len else act.Take len)) file
      ∙ ap (λ n. Some (n, act.Give d.offset len)) (sym object)

  first : IsGoing session seen seen who number r p [] p
  first = begun session seen who number p r idle some

  pub give_may : MayEnter seen e 2
  give_may = next_may session seen seen who number r p [] p fine what (act.Give d.offset len) gives (answer.Took bytes) refl within first 2 refl

  module _ (desk after : List Entry) (out : ℕ) (at : out + 1 ≡ length after) (entered : IsEntered session seen desk after e) where
    abbrev one : Made
    one = (length entered.past, e) ∷ []

    place_is : length entered.past ≡ out
    place_is = let longer = ap length entered.whole ∙ length-append entered.past (e ∷ []) in omega (arith, longer, at)

    gone : HasGone session seen after who number r p one p
    gone = gone_by session seen seen who number r p [] p fine what (act.Give d.offset len) gives (answer.Took bytes) desk after first entered refl

    going : IsGoing session seen after who number r p one p
    going = more session seen after who number r p one p gone refl idle.lives

    abbrev f : Entry
    f = entry_of who number r who (act.Gain out fd) answer.Done

    second : slice_get (steps_of who p one r) 1 ≡ Some (who, act.Gain out fd)
    second = ap (λ n. Some (who, act.Gain n fd)) place_is

    pub gain_may : MayEnter after f 0
    gain_may = next_may session seen after who number r p one p fine who (act.Gain out fd) second answer.Done refl within going 0 refl

    there : slice_get after out ≡ Some e
    there = ap (λ h. slice_get h out) entered.whole ∙ ap (λ n. slice_get (entered.past ++ e ∷ []) n) (sym place_is) ∙ slice_get-last entered.past e

    pub given : bytes_at after out ≡ bytes
    given = ap (λ (o : Option Entry). option_map_or (λ (e : Entry). bytes_of e.reply) o []) there

    module _ (own later : List Entry) (gained : IsEntered session after own later f) where
      abbrev two : Made
      two = one ++ (length gained.past, f) ∷ []

      abbrev pub now : Process
      now = record p { descriptors = changed_at p.descriptors fd (risen (length bytes)); last_read = bytes }

      given_past : bytes_at gained.past out ≡ bytes
      given_past =
          let more = gained.line_begins.0 in
          ap (λ (o : Option Entry). option_map_or (λ (e : Entry). bytes_of e.reply) o [])
          (ap (λ h. slice_get h out) (sym gained.line_begins.1) ∙ slice_get-append after more out e there)

      gone_on : HasGone session seen later who number r p two now
      gone_on = subst (λ bs. HasGone session seen later who number r p two (record p { descriptors = changed_at p.descriptors fd (risen (length bs)); last_read = bs })) given_past
          (gone_own session seen after who number r p one p fine who (act.Gain out fd) second answer.Done own later going gained refl refl)

      pub read_idle : IsIdle session later who number now
      read_idle = idle_again session seen later who number r p two now gone_on refl idle.lives

      pub read_made : (from : Node) → slice_get (nodes_of session after) out ≡ Some from → HasMoved session who seen later now r (moved.Read (length bytes) from)
      read_made from node = record {
        made = two;
        call = call_made session seen later who number r p two now gone_on refl;
        reply = answer.Done;
        last = refl;
        fine = refl;
        tells = (
          refl,
          refl,
          ap (λ n. slice_get (nodes_of session later) n) place_is ∙ node_there session after own later f gained out from node,
        );
      }
