-- The steps of a write to a pipe, which may stay under way behind its first one.
use Rattle.std.proofs.Common.{◌≡◌, ℕ, ◌+◌, ◌-◌, ◌<◌, ◌≤◌, List, [], ◌∷◌, ◌++◌, length, ap, sym, ◌∙◌, subst, refl, arith, Bool, true, false, cond}
use Rattle.std.specs.Prelude.{Option, Some, None, is_some, not, slice_get, nat_le, take, if◌then◌else◌}
use Rattle.std.specs.Option.{option_map_or}
use Rattle.std.specs.Cmp.{nat_cmp_total, unsigned_tied}
use Rattle.std.specs.FinMap as finite_map
use Rattle.std.proofs.lemmas.List.{take_all, take-append-le}
use Rattle.std.proofs.lemmas.Bool.{le-leb}
use mathlib.Core.List.{IsPrefix}
use Rattle.pass_entry.specs.Limits.{transfer_limit}
use Rattle.pass_entry.specs.declared.entry.Act.TheVariants as act
use Rattle.pass_entry.specs.declared.entry.Ask.TheVariants as ask
use Rattle.pass_entry.specs.declared.entry.CallName.TheVariants as calls
use Rattle.pass_entry.specs.declared.entry.Entry.{Entry}
use Rattle.pass_entry.specs.declared.entry.Reply.{Reply}
use Rattle.pass_entry.specs.declared.entry.Reply.TheVariants as answer
use Rattle.pass_entry.specs.declared.objects.Descriptor.{Descriptor}
use Rattle.pass_entry.specs.declared.objects.Node.{Node}
use Rattle.pass_plain.specs.declared.request.Request.{Request}
use Rattle.pass_plain.specs.declared.request.Request.TheVariants as requests
use Rattle.pass_plain.specs.Calls.{Made, Step, call_steps, is_fd, is_within, refused_ask, steps_of}
use Rattle.pass_plain.specs.Histories.{is_fault}
use Rattle.pass_plain.specs.Legal.{last_number}
use Rattle.pass_plain.specs.Places.{call_places}
use Rattle.pass_plain.specs.Processes.{Process, Held, changed_at, is_file, is_pipe, process_after, refusal, risen}
use Rattle.pass_plain.specs.Replies.{reply_to}
use Rattle.pass_plain.specs.Sessions.{Session}
use Rattle.pass_plain.specs.Versions.{nodes_of}
use Rattle.pass_plain.proofs.Lists.{both_true, same_itself, or_true}
use Rattle.pass_book.proofs.Prefixes.{prefix_self, prefix_more}
use Rattle.pass_hold.specs.Callings.{IsEntered, IsIdle, IsGoing, HasGone, IsCallMade}
use Rattle.pass_hold.specs.Entering.{MayEnter}
use Rattle.pass_hold.proofs.Callings.{call_made, held_going, idle_again, idle_looked, left_idle, more}
use Rattle.pass_pipe.specs.Desks.{push_entry}
use Rattle.pass_proc.specs.Acts.{own_entry}
use Rattle.pass_proc.specs.CallEnds.{HasReplied}
use Rattle.pass_proc.specs.Procs.{ProcView, is_way}
use Rattle.pass_proc.specs.UnderWay.{IsUnderWay, show_entry}
use Rattle.pass_proc.specs.declared.way.Way.{Way}
use Rattle.pass_proc.proofs.Steps.{begun, low_fd}
use Rattle.pass_answer.specs.Answers.{HasMoved, HasWaited, begins_at}
use Rattle.pass_answer.specs.declared.answer.Moved.TheVariants as moved
use Rattle.pass_answer.proofs.Naming.{at_descriptor, pipe_no_file}
use Rattle.pass_answer.proofs.ObjectSteps.{place_is}
use Rattle.pass_answer.proofs.Waiting.{waits, way_itself}
use Rattle.pass_answer.proofs.Steps.{not_refused, step_at, next_may, gone_by, gone_own}

pub write_within : (fd : ℕ) (bytes : List ℕ) → fd < 64 → length bytes ≤ transfer_limit → is_within (requests.Write fd bytes) ≡ true
write_within fd bytes low few = both_true (is_fd fd) (nat_le (length bytes) transfer_limit) (low_fd fd low) (le-leb (length bytes) transfer_limit few)

-- The first step

module _ (session : Session) (seen : List Entry) (who number : ℕ) (p : Process) (fd : ℕ) (bytes : List ℕ) (d : Descriptor)
    (idle : IsIdle session seen who (number - 1) p) (some : 0 < number) (free : refusal p (ask.ToWrite fd (length bytes)) ≡ None) (low : fd < 64) (few : length bytes ≤ transfer_limit)
    (held : finite_map.get p.descriptors fd ≡ Some d) (pipe : is_pipe d ≡ true) where
  abbrev r : Request
  r = requests.Write fd bytes

  fine : refused_ask p r ≡ None
  fine = not_refused p r (ask.ToWrite fd (length bytes)) refl free

  first : IsGoing session seen seen who number r p [] p
  first = begun session seen who number p r idle some

  abbrev show : Entry
  show = own_entry who number calls.Write (act.Show fd (length bytes)) answer.Done

  pub show_may : MayEnter seen show 2
  show_may = next_may session seen seen who number r p [] p fine who (act.Show fd (length bytes)) refl answer.Done refl (write_within fd bytes low few) first 2 refl

  module _ (desk after : List Entry) (out : ℕ) (last : out + 1 ≡ length after) (entered : IsEntered session seen desk after show) where
    abbrev pub shown_state : Process
    shown_state = record p { descriptors = changed_at p.descriptors fd (risen (length bytes)) }

    abbrev one : Made
    one = (out, show) ∷ []

    gone : HasGone session seen after who number r p one shown_state
    gone = subst (λ n. HasGone session seen after who number r p ((n, show) ∷ []) shown_state) (place_is session seen desk after show entered out last)
        (gone_own session seen seen who number r p [] p fine who (act.Show fd (length bytes)) refl answer.Done desk after first entered refl refl)

    pub shown_going : IsGoing session seen after who number r p one shown_state
    shown_going = more session seen after who number r p one shown_state gone refl idle.lives

    pub shown_idle : IsIdle session after who number shown_state
    shown_idle = left_idle session seen after who number r p one shown_state gone (ap is_pipe (at_descriptor p fd d held) ∙ pipe) idle.lives

-- a descriptor of a pipe has no offset that rises
steady : (n : ℕ) (d : Descriptor) → is_pipe d ≡ true → risen n d ≡ d
steady n d pipe = ap (λ b. record d { offset = if b then d.offset + n else d.offset }) (pipe_no_file d.kind pipe)

get_here : (held : Held) (fd : ℕ) (d : Descriptor) → finite_map.get (finite_map.insert held fd d) fd ≡ Some d
get_here held fd d = finite_map.get-insert nat_cmp_total held fd d fd ∙ ap (λ b. cond b (Some d) (finite_map.get held fd)) (unsigned_tied fd fd ∙ same_itself fd)

pub still_held : (held : Held) (fd n : ℕ) (d : Descriptor) → finite_map.get held fd ≡ Some d → is_pipe d ≡ true → finite_map.get (changed_at held fd (risen n)) fd ≡ Some d
still_held held fd n d at pipe =
    ap (λ (o : Option Descriptor). finite_map.get (option_map_or (λ d. finite_map.insert held fd (risen n d)) o held) fd) at
    ∙ get_here held fd (risen n d) ∙ ap (λ d. Some d) (steady n d pipe)

-- what stands before an entry
pub past_is : (session : Session) (line desk after : List Entry) (e : Entry) (entered : IsEntered session line desk after e) (out : ℕ) → out + 1 ≡ length after → take out after ≡ entered.past
past_is session line desk after e entered out last =
    let place = place_is session line desk after e entered out last in
    ap (λ h. take out h) entered.whole ∙ take-append-le out entered.past (e ∷ []) (omega (arith, place)) ∙ take_all out entered.past (omega (arith, place))

-- It is under way then

module _ (session : Session) (seen : List Entry) (who number : ℕ) (p : Process) (fd : ℕ) (bytes : List ℕ) (d : Descriptor)
    (idle : IsIdle session seen who (number - 1) p) (some : 0 < number) (free : refusal p (ask.ToWrite fd (length bytes)) ≡ None) (low : fd < 64) (few : length bytes ≤ transfer_limit)
    (held : finite_map.get p.descriptors fd ≡ Some d) (pipe : is_pipe d ≡ true)
    (desk after : List Entry) (out : ℕ) (last : out + 1 ≡ length after) (source : Node) (at : slice_get (nodes_of session after) out ≡ Some source)
    (entered : IsEntered session seen desk after (own_entry who number calls.Write (act.Show fd (length bytes)) answer.Done)) where
  abbrev shown : Entry
  shown = own_entry who number calls.Write (act.Show fd (length bytes)) answer.Done

  abbrev way : Way
  way = record { fd = fd; bytes = bytes; to = d; out = out; source = source }

  past_idle : IsIdle session entered.past who (number - 1) p
  past_idle = idle_looked session seen entered.past who (number - 1) p idle (record { legal = entered.legal; begins = entered.line_begins; own = sym entered.line_agrees })

  from_past : IsEntered session entered.past desk after shown
  from_past = record {
    past = entered.past;
    whole = entered.whole;
    legal = entered.legal;
    follows = entered.follows;
    line_begins = prefix_self entered.past;
    line_agrees = refl;
    desk_begins = entered.desk_begins;
    desk_agrees = entered.desk_agrees;
  }

  before_is : take out after ≡ entered.past
  before_is = past_is session seen desk after shown entered out last

  was : p ≡ process_after entered.past who
  was = sym past_idle.state

  pub under_way : IsUnderWay session who number (take out after) after (record p { descriptors = changed_at p.descriptors fd (risen (length bytes)) }) way
  under_way = subst (λ h. IsUnderWay session who number h after (record p { descriptors = changed_at p.descriptors fd (risen (length bytes)) }) way) (sym before_is) (record {
    going = subst (λ (q : Process). IsGoing session entered.past after who number (requests.Write fd bytes) q ((out, shown) ∷ []) (record p { descriptors = changed_at p.descriptors fd (risen (length bytes)) })) was
        (shown_going session entered.past who number p fd bytes d past_idle some free low few held pipe desk after out last from_past);
    free = ap (λ (q : Process). refusal q (ask.ToWrite fd (length bytes))) (sym was) ∙ free;
    low = low;
    few = few;
    held = ap (λ (q : Process). finite_map.get q.descriptors fd) (sym was) ∙ held;
    pipe = pipe;
    within = omega (arith, last);
    source = at;
    holds = still_held p.descriptors fd (length bytes) d held pipe;
  })

-- The second step, behind a first one that stands

module _ (session : Session) (who number : ℕ) (w : Way) (seen : List Entry) (now : Process) (under : IsUnderWay session who number (take w.out seen) seen now w)
    (before : List Entry) (p : Process) (going : IsGoing session before seen who number (requests.Write w.fd w.bytes) p ((w.out, show_entry who number w) ∷ []) now) where
  abbrev call : Request
  call = requests.Write w.fd w.bytes

  abbrev made : Made
  made = (w.out, show_entry who number w) ∷ []

  same_state : p ≡ process_after (take w.out seen) who
  same_state = sym going.is.before_is ∙ under.going.is.before_is

  call_fine : refused_ask p call ≡ None
  call_fine = not_refused p call (ask.ToWrite w.fd (length w.bytes)) refl (ap (λ (q : Process). refusal q (ask.ToWrite w.fd (length w.bytes))) same_state ∙ under.free)

  abbrev pushes : Bool → Descriptor → Option Step
  pushes b d = Some (d.pnode, if b then act.Put w.out d.offset w.bytes else act.Push w.out w.bytes)

  pub push_at : slice_get (steps_of who p made call) 1 ≡ Some (w.to.pnode, act.Push w.out w.bytes)
  push_at =
      ap (λ d. pushes (is_file d) d) (at_descriptor p w.fd w.to (ap (λ (q : Process). finite_map.get q.descriptors w.fd) same_state ∙ under.held))
      ∙ ap (λ b. pushes b w.to) (pipe_no_file w.to.kind under.pipe)

  pub push_next : slice_get (call_steps who p made call) 1 ≡ Some (w.to.pnode, act.Push w.out w.bytes)
  push_next = step_at who p call call_fine made 1 (w.to.pnode, act.Push w.out w.bytes) push_at

  pub push_may : (reply : Reply) → MayEnter seen (push_entry who number w.to.pnode w.out w.bytes reply) 0
  push_may reply =
      next_may session before seen who number call p made now call_fine w.to.pnode (act.Push w.out w.bytes) push_at reply refl (write_within w.fd w.bytes under.low under.few) going 0 (sym (ap (λ b. if b then 0 else 3 - (1 + 1)) (or_true (is_fault reply))))

  pub places_held : last_number seen who ≡ number → call_places seen who ≡ 2
  places_held last = held_going session before seen who number call p (w.out, show_entry who number w) [] now going.is last refl

  module _ (desk after : List Entry) (reply : Reply) (entered : IsEntered session seen desk after (push_entry who number w.to.pnode w.out w.bytes reply)) where
    abbrev push : Entry
    push = push_entry who number w.to.pnode w.out w.bytes reply

    abbrev both : Made
    both = made ++ (length entered.past, push) ∷ []

    gone_on : HasGone session before after who number call p both now
    gone_on = gone_by session before seen who number call p made now call_fine w.to.pnode (act.Push w.out w.bytes) push_at reply desk after going entered refl

    push_made : IsCallMade session who before after call both
    push_made = call_made session before after who number call p both now gone_on (or_true (is_fault reply))

    pub pushed_idle : IsIdle session after who number now
    pushed_idle = idle_again session before after who number call p both now gone_on (or_true (is_fault reply)) going.lives

    pub pushed_reply : HasReplied session who before after call reply
    pushed_reply = record { made = both; call = push_made; last = refl }

    pub pushed_moved : (place : ℕ) (node : Node) → is_fault reply ≡ false → place + 1 ≡ length after → slice_get (nodes_of session after) place ≡ Some node
        → HasMoved session who before after now call (moved.Wrote (length w.bytes) node)
    pushed_moved place node fine last at = record {
      made = both;
      call = push_made;
      reply = reply;
      last = refl;
      fine = fine;
      tells = (refl, ap (λ n. slice_get (nodes_of session after) n) (place_is session seen desk after push entered place last) ∙ at);
    }

-- where it finds no room, it waits at its second step
pub write_waits : (session : Session) (old new : ProcView) (number : ℕ) (p : Process) (w : Way) (before : List Entry) → begins_at old (requests.Write w.fd w.bytes) ≡ before
    → IsUnderWay session old.who number (take w.out new.seen) new.seen new.state w
    → IsGoing session before new.seen old.who number (requests.Write w.fd w.bytes) p ((w.out, show_entry old.who number w) ∷ []) new.state
    → reply_to session new.seen w.to.pnode (act.Push w.out w.bytes) ≡ None → IsPrefix old.seen new.seen → old.looks < new.looks → new.looked ≡ length new.seen → new.who ≡ old.who
    → new.way ≡ Some w → HasWaited session old new (requests.Write w.fd w.bytes)
write_waits session old new number p w before begins under going unready grows rose looked who way =
    waits session old new (requests.Write w.fd w.bytes) before number p ((w.out, show_entry old.who number w) ∷ []) w.to.pnode (act.Push w.out w.bytes) begins going.is
    (push_next session old.who number w new.seen new.state under before p going) unready grows rose looked who
    (ap (λ o. is_way o w.fd w.bytes) way ∙ way_itself w w.fd w.bytes refl refl)

-- what a caller had seen is a beginning of what it sees with its entry
pub seen_grows : (session : Session) (line desk after : List Entry) (e : Entry) → IsEntered session line desk after e → IsPrefix line after
seen_grows session line desk after e entered = subst (λ h. IsPrefix line h) (sym entered.whole) (prefix_more line entered.past (e ∷ []) entered.line_begins)

-- no answer to a push is one that waits
pub no_room : (o : Option Reply) (b : Bool) → b ≡ not (is_some o) → b ≡ true → o ≡ None
no_room None b is full = refl
no_room (Some reply) b is full = absurd (let z : false ≡ true = sym is ∙ full in cc)
