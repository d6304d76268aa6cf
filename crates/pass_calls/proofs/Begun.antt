-- A write to a pipe that went on behind its first step answers as one by what its process was before that step.
use Rattle.std.proofs.Common.{◌≡◌, ℕ, ◌+◌, List, ◌++◌, length, ap, refl, sym, ◌∙◌, subst, arith, true, false}
use Rattle.std.specs.Prelude.{Result, Ok, Err, IsErrOf, Some, slice_get}
use Rattle.std.specs.FinMap as finite_map
use Rattle.pass_entry.specs.declared.entry.Act.TheVariants as act
use Rattle.pass_entry.specs.declared.entry.CallName.TheVariants as calls
use Rattle.pass_entry.specs.declared.entry.Entry.{Entry}
use Rattle.pass_entry.specs.declared.objects.Descriptor.{Descriptor}
use Rattle.pass_entry.specs.declared.objects.Node.{Node}
use Rattle.pass_entry.specs.declared.entry.Reply.{Reply}
use Rattle.pass_entry.specs.declared.entry.Reply.TheVariants as answer
use Rattle.pass_plain.specs.declared.request.Request.{Request}
use Rattle.pass_plain.specs.declared.request.Request.TheVariants as requests
use Rattle.pass_plain.specs.CallLaws.{IsBegun}
use Rattle.pass_plain.specs.Calls.{Made, call_steps}
use Rattle.pass_plain.specs.Histories.{call_entries}
use Rattle.pass_plain.specs.Legal.{before_call, is_over, last_number}
use Rattle.pass_plain.specs.Processes.{Process, process_after}
use Rattle.pass_plain.specs.Sessions.{Session}
use Rattle.pass_book.proofs.Prefixes.{prefix_trans}
use mathlib.Core.List.{IsPrefix}
use Rattle.pass_hold.specs.Callers.{CallerState}
use Rattle.pass_hold.specs.Callings.{IsCallMade, IsEntered, IsIdle, IsInCall, HasLooked, entries_in}
use Rattle.pass_hold.proofs.Callings.{idle_looked}
use Rattle.pass_proc.specs.CallEnds.{HasReplied}
use Rattle.pass_proc.specs.Acts.{own_entry}
use Rattle.pass_proc.specs.Procs.{ProcView, is_way, proc_with}
use Rattle.pass_proc.specs.Views.{ProcessView}
use Rattle.pass_proc.specs.declared.way.Way.{Way}
use Rattle.pass_answer.specs.Answers.{Answers, HasEnded, HasMoved, begins_at}
use Rattle.pass_answer.specs.declared.answer.CallEnd.{CallEnd}
use Rattle.pass_answer.specs.declared.answer.CallEnd.TheVariants as ends
use Rattle.pass_answer.specs.declared.answer.Moved.{Moved}
use Rattle.pass_answer.proofs.Waiting.{goes_on_at, waits, way_itself}
use Rattle.pass_answer.proofs.Wrapping.{begins_now}
use Rattle.pass_calls.specs.Writes.{HasBegun}
use Rattle.pass_calls.proofs.Frame.{IsOpen}
use Rattle.pass_calls.proofs.PipeWrites.{past_is, seen_grows}

-- a call that was made since a look was made since before it
module _ (session : Session) (who number : ℕ) (p : Process) (early late : List Entry) (idle : IsIdle session early who number p) (looked : HasLooked session who early late) where
  late_idle : IsIdle session late who number p
  late_idle = idle_looked session early late who number p idle looked

  same_last : last_number late who ≡ last_number early who
  same_last = late_idle.last ∙ sym idle.last

  same_state : process_after late who ≡ process_after early who
  same_state = late_idle.state ∙ sym idle.state

  call_earlier : (after : List Entry) (r : Request) (made : Made) → IsCallMade session who late after r made → IsCallMade session who early after r made
  call_earlier after r made is = record {
    legal = is.legal;
    begins = prefix_trans early late after looked.begins is.begins;
    own = is.own ∙ ap (λ es. es ++ entries_in made) looked.own;
    made_is = subst (λ n. call_entries after who (n + 1) ≡ made) same_last is.made_is;
    before_is = subst (λ n. before_call after who (n + 1) ≡ process_after early who) same_last (is.before_is ∙ same_state);
    steps = subst (λ (q : Process). IsBegun who q made r) same_state is.steps;
    named = is.named;
    over = subst (λ n. is_over after who (n + 1) ≡ true) same_last is.over;
  }

  pub moved_earlier : (after : List Entry) (now : Process) (r : Request) (m : Moved) → HasMoved session who late after now r m → HasMoved session who early after now r m
  moved_earlier after now r m is = record {
    made = is.made;
    call = call_earlier after r is.made is.call;
    reply = is.reply;
    last = is.last;
    fine = is.fine;
    tells = is.tells;
  }

  pub replied_earlier : (after : List Entry) (r : Request) (reply : Reply) → HasReplied session who late after r reply → HasReplied session who early after r reply
  replied_earlier after r reply is = record { made = is.made; call = call_earlier after r is.made is.call; last = is.last }

  pub in_call_earlier : (seen : List Entry) (r : Request) (made : Made) (now : Process) → IsInCall session late seen who (last_number late who + 1) r (process_after late who) made now
      → IsInCall session early seen who (last_number late who + 1) r (process_after late who) made now
  in_call_earlier seen r made now is = record {
    legal = is.legal;
    begun = is.begun;
    state = is.state;
    begins = prefix_trans early late seen looked.begins is.begins;
    own = is.own ∙ ap (λ es. es ++ entries_in made) looked.own;
    was = sym same_state;
    counted = ap (λ n. n + 1) same_last;
    before_is = is.before_is;
    made_is = is.made_is;
    begun_as = is.begun_as;
    named = is.named;
  }

module _ (session : Session) (places : ℕ) (old between new : ProcView) (fd : ℕ) (bytes : List ℕ) (begun : HasBegun session old between fd bytes) where
  abbrev r : Request
  r = requests.Write fd bytes

  abbrev late : List Entry
  late = begins_at between r

  from_old : begins_at old r ≡ old.seen
  from_old = begins_now old r begun.anew

  ended : HasEnded session between new → HasEnded session old new
  ended is = record { who = is.who ∙ begun.who; grows = prefix_trans old.seen between.seen new.seen begun.grows is.grows; way = is.way }

  pub since : (result : Result Moved CallEnd) → (IsErrOf result ends.NoMemory → ⊥) → Answers session places between new r result → Answers session places old new r result
  since (Ok m) memory is = (
    subst (λ h. HasMoved session old.who h new.seen new.state r m) (sym from_old)
        (moved_earlier session old.who old.number old.state old.seen late begun.idle begun.looked new.seen new.state r m
        (subst (λ w. HasMoved session w late new.seen new.state r m) begun.who is.0)),
    ended is.1,
  )
  since (Err (ends.Fault f)) memory is = (
    subst (λ h. HasReplied session old.who h new.seen r (answer.Fault f)) (sym from_old)
        (replied_earlier session old.who old.number old.state old.seen late begun.idle begun.looked new.seen r (answer.Fault f)
        (subst (λ w. HasReplied session w late new.seen r (answer.Fault f)) begun.who is.0)),
    ended is.1,
  )
  since (Err ends.Again) memory is =
      let call = in_call_earlier session old.who old.number old.state old.seen late begun.idle begun.looked new.seen r is.made new.state
      (subst (λ w. IsInCall session late new.seen w (last_number late w + 1) r (process_after late w) is.made new.state) begun.who is.call) in
      waits session old new r old.seen (last_number late old.who + 1) (process_after late old.who) is.made is.step.0 is.step.1 from_old call
      (subst (λ w. slice_get (call_steps w (process_after late w) is.made r) (length is.made) ≡ Some is.step) begun.who is.next)
      is.unready (prefix_trans old.seen between.seen new.seen begun.grows is.grows) (omega (arith, begun.looks, is.rose)) is.looked (is.who ∙ begun.who) is.stays
  since (Err (ends.DiskFault first now)) memory is = absurd is
  since (Err (ends.Full left need)) memory is = absurd (let z : true ≡ false = sym begun.way ∙ is.anew in cc)
  since (Err ends.NoMemory) memory is = absurd (memory refl)

-- the first step of a write to a pipe has been made
pub begins_write : {session : Session} {p : ProcessView} {c : CallerState} {old : ProcView} {number : ℕ} (o : IsOpen session p c old number) (q : ProcessView) (e : CallerState) (fd : ℕ) (bytes : List ℕ)
    (d : Descriptor) (out : ℕ) (source : Node) → is_way old.way fd bytes ≡ false → q.who ≡ p.who → out + 1 ≡ length e.seen
    → ((x : Descriptor) → finite_map.get q.state.descriptors fd ≡ Some x → finite_map.get old.state.descriptors fd ≡ Some x) → e.looks ≡ c.looks + 1
    → (desk : List Entry) → IsEntered session c.seen desk e.seen (own_entry p.who number calls.Write (act.Show fd (length bytes)) answer.Done)
    → HasBegun session old (proc_with q number e (Some (record { fd = fd; bytes = bytes; to = d; out = out; source = source }))) fd bytes
begins_write {session} {p} {c} {old} {number} o q e fd bytes d out source new who last holds looks desk entered =
    let way : Way = record { fd = fd; bytes = bytes; to = d; out = out; source = source } in
    let shown = own_entry p.who number calls.Write (act.Show fd (length bytes)) answer.Done in
    let own = way_itself way fd bytes refl refl in
    let before = goes_on_at (proc_with q number e (Some way)) way fd bytes refl own ∙ past_is session c.seen desk e.seen shown entered out last in
    let were = ap (λ (v : ProcView). v.looks) o.view in
    record {
      who = who ∙ ap (λ (v : ProcView). v.who) o.view;
      anew = new;
      way = own;
      idle = subst (λ (v : ProcView). IsIdle session v.seen v.who v.number v.state) o.view (subst (λ m. IsIdle session c.seen p.who m p.state) (sym o.last) o.idle);
      looked = subst (λ h. HasLooked session old.who old.seen h) (sym before)
          (subst (λ (v : ProcView). HasLooked session v.who v.seen entered.past) o.view (record { legal = entered.legal; begins = entered.line_begins; own = sym entered.line_agrees }));
      grows = subst (λ (v : ProcView). IsPrefix v.seen e.seen) o.view (seen_grows session c.seen desk e.seen shown entered);
      looks = omega (arith, were, looks);
      holds = holds;
    }
