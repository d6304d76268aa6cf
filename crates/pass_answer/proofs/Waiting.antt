-- A call that waits, and a write to a pipe that goes on.
use Rattle.std.proofs.Common.{◌≡◌, ℕ, ◌+◌, ◌<◌, ◌==◌, List, length, ap, sym, ◌∙◌, subst, refl, true}
use Rattle.std.specs.Prelude.{Option, Some, None, Ok, Err, bytes_eq, slice_get, take, if◌then◌else◌}
use Rattle.std.specs.Option.{option_map_or}
use Rattle.std.proofs.lemmas.Slice.Eq.{bytes_eq-Decides}
use Rattle.std.proofs.lemmas.Bool.{and_parts}
use mathlib.Core.List.{IsPrefix}
use Rattle.pass_entry.specs.declared.entry.Act.{Act}
use Rattle.pass_entry.specs.declared.entry.CallFault.{CallFault}
use Rattle.pass_entry.specs.declared.entry.Entry.{Entry}
use Rattle.pass_entry.specs.declared.entry.Reply.TheVariants as answer
use Rattle.pass_plain.specs.declared.request.Request.{Request}
use Rattle.pass_plain.specs.declared.request.Request.TheVariants as requests
use Rattle.pass_plain.specs.Calls.{Made, call_steps}
use Rattle.pass_plain.specs.Legal.{last_number}
use Rattle.pass_plain.specs.Processes.{Process, process_after}
use Rattle.pass_plain.specs.Replies.{reply_to}
use Rattle.pass_plain.specs.Sessions.{Session}
use Rattle.pass_plain.proofs.Lists.{both_true, same_itself, same_numbers}
use Rattle.pass_hold.specs.Callings.{IsInCall}
use Rattle.pass_hold.specs.Callers.{CallerState}
use Rattle.pass_proc.specs.CallEnds.{HasReplied}
use Rattle.pass_proc.specs.Procs.{IsCallerOf, ProcView, is_way, proc_with}
use Rattle.pass_proc.specs.UnderWay.{IsWay}
use Rattle.pass_proc.specs.Views.{ProcessView}
use Rattle.pass_proc.specs.declared.way.Way.{Way}
use Rattle.pass_answer.specs.Answers.{Answers, HasMoved, HasWaited, Stays, begins_at}
use Rattle.pass_answer.specs.declared.answer.CallEnd.TheVariants as ends
use Rattle.pass_answer.specs.declared.answer.Moved.{Moved}
use Rattle.pass_answer.proofs.Steps.{told_call}

-- a call waits at its next step
pub waits : (session : Session) (old new : ProcView) (r : Request) (before : List Entry) (number : ℕ) (p : Process) (made : Made) (what : ℕ) (a : Act)
    → begins_at old r ≡ before → IsInCall session before new.seen old.who number r p made new.state → slice_get (call_steps old.who p made r) (length made) ≡ Some (what, a)
    → reply_to session new.seen what a ≡ None → IsPrefix old.seen new.seen → old.looks < new.looks → new.looked ≡ length new.seen → new.who ≡ old.who → Stays old new r
    → HasWaited session old new r
waits session old new r before number p made what a begins call next unready grows rose looked who stays = record {
  made = made;
  call = subst (λ h. IsInCall session h new.seen old.who (last_number h old.who + 1) r (process_after h old.who) made new.state) (sym begins)
      (told_call session before new.seen old.who number r p made new.state call);
  step = (what, a);
  next = subst (λ h. slice_get (call_steps old.who (process_after h old.who) made r) (length made) ≡ Some (what, a)) (sym begins)
      (subst (λ (q : Process). slice_get (call_steps old.who q made r) (length made) ≡ Some (what, a)) (sym call.was) next);
  unready = unready;
  grows = grows;
  rose = rose;
  looked = looked;
  who = who;
  stays = stays;
}

-- a process that has reserved memory is the same
pub reserved : (session : Session) (p q : ProcessView) (n : ℕ) (c : CallerState) (o : Option Way) → q ≡ record p { lineage = q.lineage; spare = q.spare; room = q.room }
    → IsCallerOf session p n c × IsWay session p.who n c.seen p.state o → IsCallerOf session q n c × IsWay session q.who n c.seen q.state o
reserved session p q n c o same is =
    subst (λ (q : ProcessView). IsCallerOf session q n c × IsWay session q.who n c.seen q.state o) (sym same)
    (record { of_who = is.0.of_who; own = is.0.own; idle = is.0.idle; few = is.0.few }, is.1)

-- A write is under way by its descriptor and its bytes

pub way_itself : (w : Way) (fd : ℕ) (bytes : List ℕ) → w.fd ≡ fd → w.bytes ≡ bytes → is_way (Some w) fd bytes ≡ true
way_itself w fd bytes same_fd same_bytes =
    both_true (w.fd == fd) (bytes_eq w.bytes bytes) (ap (λ n. w.fd == n) (sym same_fd) ∙ same_itself w.fd) ((bytes_eq-Decides w.bytes bytes).1 same_bytes)

pub way_fd : (w : Way) (fd : ℕ) (bytes : List ℕ) → is_way (Some w) fd bytes ≡ true → w.fd ≡ fd
way_fd w fd bytes is = same_numbers w.fd fd (and_parts (w.fd == fd) (bytes_eq w.bytes bytes) is).0

pub way_bytes : (w : Way) (fd : ℕ) (bytes : List ℕ) → is_way (Some w) fd bytes ≡ true → w.bytes ≡ bytes
way_bytes w fd bytes is = (bytes_eq-Decides w.bytes bytes).0 (and_parts (w.fd == fd) (bytes_eq w.bytes bytes) is).1

-- where the call goes on
pub goes_on_at : (old : ProcView) (w : Way) (fd : ℕ) (bytes : List ℕ) → old.way ≡ Some w → is_way old.way fd bytes ≡ true → begins_at old (requests.Write fd bytes) ≡ take w.out old.seen
goes_on_at old w fd bytes its is =
    ap (λ b. if b then option_map_or (λ (w : Way). take w.out old.seen) old.way old.seen else old.seen) is
    ∙ ap (λ (o : Option Way). option_map_or (λ (w : Way). take w.out old.seen) o old.seen) its

-- it has gone on to its end
module _ (session : Session) (places : ℕ) (old : ProcView) (w : Way) (its : old.way ≡ Some w) (p : ProcessView) (n : ℕ) (c : CallerState) (who : p.who ≡ old.who)
    (grows : IsPrefix old.seen c.seen) (fd : ℕ) (bytes : List ℕ) (is : is_way old.way fd bytes ≡ true) where
  own : is_way (Some w) fd bytes ≡ true
  own = ap (λ o. is_way o fd bytes) (sym its) ∙ is

  pub went_on : (m : Moved) → HasMoved session old.who (take w.out old.seen) c.seen p.state (requests.Write w.fd w.bytes) m
      → Answers session places old (proc_with p n c None) (requests.Write fd bytes) (Ok m)
  went_on m made = (
    subst (λ h. HasMoved session old.who h c.seen p.state (requests.Write fd bytes) m) (sym (goes_on_at old w fd bytes its is))
        (subst (λ b. HasMoved session old.who (take w.out old.seen) c.seen p.state (requests.Write fd b) m) (way_bytes w fd bytes own)
        (subst (λ f. HasMoved session old.who (take w.out old.seen) c.seen p.state (requests.Write f w.bytes) m) (way_fd w fd bytes own) made)),
    record { who = who; grows = grows; way = refl },
  )

  pub broke_off : (f : CallFault) → HasReplied session old.who (take w.out old.seen) c.seen (requests.Write w.fd w.bytes) (answer.Fault f)
      → Answers session places old (proc_with p n c None) (requests.Write fd bytes) (Err (ends.Fault f))
  broke_off f made = (
    subst (λ h. HasReplied session old.who h c.seen (requests.Write fd bytes) (answer.Fault f)) (sym (goes_on_at old w fd bytes its is))
        (subst (λ b. HasReplied session old.who (take w.out old.seen) c.seen (requests.Write fd b) (answer.Fault f)) (way_bytes w fd bytes own)
        (subst (λ n. HasReplied session old.who (take w.out old.seen) c.seen (requests.Write n w.bytes) (answer.Fault f)) (way_fd w fd bytes own) made)),
    record { who = who; grows = grows; way = refl },
  )

-- there is one write under way at most
pub same_way : (o : Option Way) (fd other : ℕ) (bytes more : List ℕ) → is_way o fd bytes ≡ true → is_way o other more ≡ true → other ≡ fd
same_way None fd other bytes more is also = absurd (cc)
same_way (Some w) fd other bytes more is also = sym (way_fd w other more also) ∙ way_fd w fd bytes is
