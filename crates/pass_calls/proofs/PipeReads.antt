-- The steps of a read of a pipe.
use Rattle.std.proofs.Common.{◌≡◌, ℕ, ◌+◌, ◌-◌, ◌<◌, ◌≤◌, List, [], ◌∷◌, ◌++◌, length, ap, sym, ◌∙◌, subst, refl, arith, Bool, true, ◌&&◌, append_assoc}
use Rattle.std.specs.Prelude.{◌≢◌, Option, Some, None, Err, slice_get, nat_le, if◌then◌else◌}
use Rattle.std.specs.Option.{option_map_or}
use Rattle.std.specs.FinMap as finite_map
use Rattle.std.proofs.lemmas.Bool.Decides.{nat_tests}
use Rattle.pass_entry.specs.Limits.{transfer_limit}
use Rattle.pass_entry.specs.declared.entry.Act.TheVariants as act
use Rattle.pass_entry.specs.declared.entry.Ask.TheVariants as ask
use Rattle.pass_entry.specs.declared.entry.CallName.TheVariants as calls
use Rattle.pass_entry.specs.declared.entry.Entry.{Entry}
use Rattle.pass_entry.specs.declared.entry.Reply.TheVariants as answer
use Rattle.pass_entry.specs.declared.objects.Descriptor.{Descriptor}
use Rattle.pass_entry.specs.declared.objects.Node.{Node}
use Rattle.pass_entry.proofs.Places.{slice_get-last}
use Rattle.pass_plain.specs.declared.request.Request.{Request}
use Rattle.pass_plain.specs.declared.request.Request.TheVariants as requests
use Rattle.pass_plain.specs.Calls.{Made, Step, is_fd, is_within, refused_ask, steps_of}
use Rattle.pass_plain.specs.Histories.{bytes_at, bytes_of}
use Rattle.pass_plain.specs.Pipes.{pipe_after}
use Rattle.pass_plain.specs.Processes.{Process, changed_at, is_file, is_pipe, refusal, risen}
use Rattle.pass_plain.specs.Replies.{taken}
use Rattle.pass_plain.specs.Sessions.{Session}
use Rattle.pass_plain.specs.Versions.{nodes_of}
use Rattle.pass_plain.proofs.Lists.{both_true}
use Rattle.pass_plain.proofs.Versioned.{short_get}
use Rattle.pass_hold.specs.Callings.{IsEntered, IsIdle, IsInCall, IsGoing, HasGone, HasLooked}
use Rattle.pass_hold.specs.Entering.{MayEnter}
use Rattle.pass_hold.proofs.Callings.{begins_call, call_made, going_looked, idle_again, more}
use Rattle.pass_pipe.specs.Desks.{take_entry}
use Rattle.pass_proc.specs.Acts.{own_entry}
use Rattle.pass_proc.specs.Procs.{ProcView}
use Rattle.pass_proc.proofs.Steps.{begun, low_fd, node_stays}
use Rattle.pass_answer.specs.Answers.{HasMoved, HasWaited}
use Rattle.pass_answer.specs.declared.answer.CallEnd.{CallEnd}
use Rattle.pass_answer.specs.declared.answer.Moved.TheVariants as moved
use Rattle.pass_answer.proofs.Naming.{at_descriptor, pipe_no_file, read_at}
use Rattle.pass_answer.proofs.ObjectSteps.{place_is}
use Rattle.pass_answer.proofs.Waiting.{waits}
use Rattle.pass_answer.proofs.Steps.{not_refused, step_at, next_may, gone_by, gone_own}
use Rattle.pass_answer.specs.Ready.{IsReadyIfFull}
use Rattle.pass_answer.proofs.Ready.{ready_at}

module _ (who : ℕ) (p : Process) (fd len what : ℕ) (free : refusal p (ask.ToRead fd) ≡ None)
    (named : (d : Descriptor) → finite_map.get p.descriptors fd ≡ Some d → (is_pipe d ≡ true) × (what ≡ d.pnode)) where
  abbrev takes : Bool → Descriptor → Option Step
  takes b d = Some (d.pnode, if b then act.Give d.offset len else act.Take len)

  abbrev on_what : ℕ → Option Step
  on_what o = Some (o, act.Take len)

  take_at : slice_get (steps_of who p [] (requests.Read fd len)) 0 ≡ Some (what, act.Take len)
  take_at =
      let (d, at) = read_at p fd free in
      let (pipe, its) = named d at in
      ap (λ d. takes (is_file d) d) (at_descriptor p fd d at) ∙ ap (λ b. takes b d) (pipe_no_file d.kind pipe) ∙ ap on_what (sym its)

module _ (session : Session) (seen : List Entry) (who number : ℕ) (p : Process) (fd len : ℕ) (bytes : List ℕ) (what : ℕ)
    (idle : IsIdle session seen who (number - 1) p) (some : 0 < number) (free : refusal p (ask.ToRead fd) ≡ None) (low : fd < 64) (from_one : 1 ≤ len) (to_limit : len ≤ transfer_limit)
    (named : (d : Descriptor) → finite_map.get p.descriptors fd ≡ Some d → (is_pipe d ≡ true) × (what ≡ d.pnode)) where
  abbrev r : Request
  r = requests.Read fd len

  fine : refused_ask p r ≡ None
  fine = not_refused p r (ask.ToRead fd) refl free

  is_le : (a b : ℕ) → a ≤ b → nat_le a b ≡ true
  is_le a b le = grind (arith, nat_tests)

  within : is_within r ≡ true
  within = both_true (is_fd fd && nat_le 1 len) (nat_le len transfer_limit) (both_true (is_fd fd) (nat_le 1 len) (low_fd fd low) (is_le 1 len from_one)) (is_le len transfer_limit to_limit)

  first : IsGoing session seen seen who number r p [] p
  first = begun session seen who number p r idle some

  abbrev taking : Entry
  taking = take_entry who number what len bytes

  pub take_may : MayEnter seen taking 2
  take_may = next_may session seen seen who number r p [] p fine what (act.Take len) (take_at who p fd len what free named) (answer.Took bytes) refl within first 2 refl

  module _ (desk after : List Entry) (out : ℕ) (last : out + 1 ≡ length after) (given : IsEntered session seen desk after taking) where
    abbrev one : Made
    one = (length given.past, taking) ∷ []

    out_is : length given.past ≡ out
    out_is = place_is session seen desk after taking given out last

    gone : HasGone session seen after who number r p one p
    gone = gone_by session seen seen who number r p [] p fine what (act.Take len) (take_at who p fd len what free named) (answer.Took bytes) desk after first given refl

    going : IsGoing session seen after who number r p one p
    going = more session seen after who number r p one p gone refl idle.lives

    stands : slice_get after out ≡ Some taking
    stands = ap (λ n. slice_get after n) (sym out_is) ∙ ap (λ h. slice_get h (length given.past)) given.whole ∙ slice_get-last given.past taking

    -- the bytes that it gave
    pub gives : bytes_at after out ≡ bytes
    gives = ap (λ (o : Option Entry). option_map_or (λ e. bytes_of e.reply) o []) stands

    abbrev gaining : Entry
    gaining = own_entry who number calls.Read (act.Gain out fd) answer.Done

    gain_at : slice_get (steps_of who p one r) 1 ≡ Some (who, act.Gain out fd)
    gain_at = ap (λ n. gains n) out_is
      where
        gains : ℕ → Option Step
        gains n = Some (who, act.Gain n fd)

    pub gain_may : MayEnter after gaining 0
    gain_may = next_may session seen after who number r p one p fine who (act.Gain out fd) gain_at answer.Done refl within going 0 refl

    module _ (own later : List Entry) (gained : IsEntered session after own later gaining) where
      abbrev pub now : Process
      now = record p { descriptors = changed_at p.descriptors fd (risen (length bytes)); last_read = bytes }

      abbrev two : Made
      two = one ++ (length gained.past, gaining) ∷ []

      still_gives : bytes_at gained.past out ≡ bytes
      still_gives =
          ap (λ (o : Option Entry). option_map_or (λ e. bytes_of e.reply) o [])
          (ap (λ h. slice_get h out) (sym gained.line_begins.1) ∙ short_get after gained.line_begins.0 out (omega (arith, last)) ∙ stands)

      gone_on : HasGone session seen later who number r p two now
      gone_on = subst (λ bytes. HasGone session seen later who number r p two (record p { descriptors = changed_at p.descriptors fd (risen (length bytes)); last_read = bytes })) still_gives
          (gone_own session seen after who number r p one p fine who (act.Gain out fd) gain_at answer.Done own later going gained refl refl)

      pub read_moved : (node : Node) → slice_get (nodes_of session after) out ≡ Some node → HasMoved session who seen later now r (moved.Read (length bytes) node)
      read_moved node at = record {
        made = two;
        call = call_made session seen later who number r p two now gone_on refl;
        reply = answer.Done;
        last = refl;
        fine = refl;
        tells = (refl, refl, ap (λ n. slice_get (nodes_of session later) n) out_is ∙ ap (λ h. slice_get (nodes_of session h) out) (sym later_is) ∙ node_stays session after more_later out (omega (arith, last)) ∙ at);
      }
        where
          more_later : List Entry
          more_later = gained.line_begins.0 ++ gaining ∷ []

          later_is : after ++ more_later ≡ later
          later_is = sym (append_assoc after gained.line_begins.0 (gaining ∷ [])) ∙ ap (λ h. h ++ gaining ∷ []) gained.line_begins.1 ∙ sym gained.whole

      pub read_idle : IsIdle session later who number now
      read_idle = idle_again session seen later who number r p two now gone_on refl idle.lives

-- where nothing is there to read yet, its process waits
pub read_waits : (session : Session) (old new : ProcView) (fd len what : ℕ) → IsIdle session old.seen old.who old.number old.state → (free : refusal old.state (ask.ToRead fd) ≡ None)
    → (named : (d : Descriptor) → finite_map.get old.state.descriptors fd ≡ Some d → (is_pipe d ≡ true) × (what ≡ d.pnode))
    → HasLooked session old.who old.seen new.seen → taken (pipe_after new.seen what) len ≡ None
    → new ≡ record old { seen = new.seen; syncs = new.syncs; looks = old.looks + 1; looked = length new.seen } → HasWaited session old new (requests.Read fd len)
read_waits session old new fd len what idle free named looked unready same =
    let rose : new.looks ≡ old.looks + 1 = ap (λ (v : ProcView). v.looks) same in
    let going = begins_call session old.seen old.who old.number old.state (requests.Read fd len) idle in
    let after = going_looked session old.seen old.seen new.seen old.who (old.number + 1) (requests.Read fd len) old.state [] old.state going looked in
    waits session old new (requests.Read fd len) old.seen (old.number + 1) old.state [] what (act.Take len) refl
    (subst (λ (q : Process). IsInCall session old.seen new.seen old.who (old.number + 1) (requests.Read fd len) old.state [] q) (sym (ap (λ (v : ProcView). v.state) same)) after.is)
    (step_at old.who old.state (requests.Read fd len) (not_refused old.state (requests.Read fd len) (ask.ToRead fd) refl free) [] 0 (what, act.Take len) (take_at old.who old.state fd len what free named))
    unready looked.begins (omega (arith, rose)) (ap (λ (v : ProcView). v.looked) same) (ap (λ (v : ProcView). v.who) same)
    (same ∙ ap (λ n. record old { seen = new.seen; syncs = new.syncs; looks = n; looked = length new.seen }) (sym rose))

-- where something is there to read, or no writer, too few places may be the answer
pub read_ready : (session : Session) (old new : ProcView) (fd len what : ℕ) → (free : refusal old.state (ask.ToRead fd) ≡ None)
    → (named : (d : Descriptor) → finite_map.get old.state.descriptors fd ≡ Some d → (is_pipe d ≡ true) × (what ≡ d.pnode))
    → taken (pipe_after new.seen what) len ≢ None → (end : CallEnd) → IsReadyIfFull session old new (requests.Read fd len) (Err end)
read_ready session old new fd len what free named ready end =
    ready_at session old new (requests.Read fd len) (what, act.Take len)
    (step_at old.who old.state (requests.Read fd len) (not_refused old.state (requests.Read fd len) (ask.ToRead fd) refl free) [] 0 (what, act.Take len) (take_at old.who old.state fd len what free named))
    ready end
