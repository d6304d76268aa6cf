-- The steps of an exit on the pipes of its process, and its last one.
use Rattle.std.proofs.Common.{◌≡◌, ℕ, ◌+◌, ◌-◌, ◌<◌, ◌≤◌, ◌^◌, List, [], ◌∷◌, ◌++◌, length, refl, ap, sym, ◌∙◌, subst, arith, true, false, append_assoc, append-nil, length-append}
use Rattle.std.specs.Prelude.{Option, Some, None, drop, map, option_map, slice_get}
use Rattle.std.specs.FinMap as finite_map
use Rattle.pass_entry.specs.declared.entry.Act.{Act}
use Rattle.pass_entry.specs.declared.entry.Act.TheVariants as act
use Rattle.pass_entry.specs.declared.entry.CallName.TheVariants as calls
use Rattle.pass_entry.specs.declared.entry.Entry.{Entry}
use Rattle.pass_entry.specs.declared.entry.Reply.TheVariants as answer
use Rattle.pass_entry.specs.declared.objects.Descriptor.{Descriptor}
use Rattle.pass_entry.specs.declared.objects.End.{End}
use Rattle.pass_entry.proofs.Places.{slice_get-last}
use Rattle.pass_plain.specs.declared.request.Request.{Request}
use Rattle.pass_plain.specs.declared.request.Request.TheVariants as requests
use Rattle.pass_plain.specs.Calls.{Step, act_on, end_of, pipe_descriptors, refused_ask, steps_of}
use Rattle.pass_plain.specs.Legal.{CallerAllows}
use Rattle.pass_plain.specs.Processes.{Process, has_ended}
use Rattle.pass_plain.specs.Sessions.{Session}
use Rattle.pass_plain.proofs.Counts.{few_pipes}
use Rattle.pass_hold.specs.Callers.{CallerState, moved_on}
use Rattle.pass_hold.specs.Callings.{IsEntered, HasGone}
use Rattle.pass_hold.proofs.Callings.{begins_call, call_made, entry_of, more}
use Rattle.pass_pipe.specs.Desks.{leave_entry}
use Rattle.pass_proc.specs.Acts.{own_entry}
use Rattle.pass_proc.specs.CallEnds.{HasReplied}
use Rattle.pass_proc.specs.Procs.{IsCallerOf, ProcView, proc_with}
use Rattle.pass_proc.specs.Views.{ProcessView}
use Rattle.pass_proc.specs.declared.way.Way.{Way}
use Rattle.pass_answer.proofs.ObjectSteps.{place_is}
use Rattle.pass_answer.proofs.Steps.{not_asked, next_allows, gone_by, gone_own}
use Rattle.pass_lives.specs.Exits.{IsExiting}
use Rattle.pass_answer.specs.Lives.{HasExited}
use Rattle.pass_lives.proofs.PipeLists.{at_end, first_is, none_is, next_in, last_in, ends_with}

abbrev leaving : Descriptor → Step
leaving d = act_on d.pnode (act.Leave (end_of d.mode))

-- it begins
pub exit_begins : (session : Session) (p : ProcessView) (number : ℕ) (c : CallerState) (way : Option Way) → IsCallerOf session p number c
    → IsExiting session (proc_with p number c way) (number + 1) p c (pipe_descriptors p.state)
exit_begins session p number c way is = record {
  made = [];
  going = begins_call session c.seen p.who number p.state requests.Exit is.idle;
  left = [];
  pipes = refl;
  count = refl;
  counted = refl;
  own = (let own = is.own in omega (arith, own));
  of_who = is.of_who;
  who = refl;
  few = is.few;
}

module _ {session : Session} {before : ProcView} {number : ℕ} {p : ProcessView} {c : CallerState} {rest : List Descriptor} (is : IsExiting session before number p c rest) where
  abbrev r : Request
  r = requests.Exit

  fine : refused_ask p.state r ≡ None
  fine = not_asked p.state r refl

  abbrev ending : Step
  ending = act_on p.who act.Finish

  -- it holds a place for its next step
  pub exit_own : 0 < c.own
  exit_own =
      let all = few_pipes p.state in
      let parts = ap length is.pipes in
      let both = length-append is.left rest in
      let count = is.count in
      let own = is.own in
      omega (arith, all, parts, both, count, own)

-- it comes to its next pipe
pub ahead : {session : Session} {before : ProcView} {number : ℕ} {p : ProcessView} {c : CallerState} {ds : List Descriptor} → IsExiting session before number p c ds
    → (d : Descriptor) → slice_get ds 0 ≡ Some d → (rest : List Descriptor) → rest ≡ drop 1 ds → IsExiting session before number p c (d ∷ rest)
ahead {session} {before} {number} {p} {c} {ds} is d at rest behind =
    subst (λ (all : List Descriptor). IsExiting session before number p c all) (first_is ds d at ∙ ap (λ (all : List Descriptor). d ∷ all) (sym behind)) is

-- The next pipe. `by` stands for the process in the entry that is made, and `side` for the pipe's end

module _ {session : Session} {before : ProcView} {number : ℕ} {p : ProcessView} {c : CallerState} {d : Descriptor} {rest : List Descriptor} (is : IsExiting session before number p c (d ∷ rest))
    {what : ℕ} (its : what ≡ d.pnode) {by : ℕ} (of : by ≡ p.who) {side : End} (end_is : side ≡ end_of d.mode) where
  abbrev leaves : Act
  leaves = act.Leave (end_of d.mode)

  abbrev on_what : ℕ → Option Step
  on_what o = Some (o, leaves)

  at : slice_get (steps_of p.who p.state is.made requests.Exit) (length is.made) ≡ Some (what, leaves)
  at =
      ap (λ n. slice_get (map leaving (pipe_descriptors p.state) ++ ending is ∷ []) n) is.count
      ∙ ap (λ ds. slice_get (map leaving ds ++ ending is ∷ []) (length is.left)) is.pipes
      ∙ next_in leaving is.left rest d (ending is)
      ∙ ap on_what (sym its)

  abbrev left_by : Entry
  left_by = leave_entry by number calls.Exit what side

  same : entry_of p.who number requests.Exit what leaves answer.Done ≡ left_by
  same = ap (λ w. leave_entry w number calls.Exit what (end_of d.mode)) (sym of) ∙ ap (λ x. leave_entry by number calls.Exit what x) (sym end_is)

  pub leave_allows : CallerAllows c.seen left_by
  leave_allows = subst (λ e. CallerAllows c.seen e) same
      (next_allows session before.seen c.seen p.who number requests.Exit p.state is.made p.state (fine is) what leaves at answer.Done refl refl is.going)

  module _ {desk : List Entry} (e : CallerState) (on_it : e ≡ record (moved_on c e.seen e.syncs 0) { own = c.own - 1 }) (entered : IsEntered session c.seen desk e.seen left_by) where
    entry_made : IsEntered session c.seen desk e.seen (entry_of p.who number requests.Exit what leaves answer.Done)
    entry_made = subst (λ f. IsEntered session c.seen desk e.seen f) (sym same) entered

    abbrev m : ℕ × Entry
    m = (length entry_made.past, entry_of p.who number requests.Exit what leaves answer.Done)

    gone : HasGone session before.seen e.seen p.who number requests.Exit p.state (is.made ++ m ∷ []) p.state
    gone = gone_by session before.seen c.seen p.who number requests.Exit p.state is.made p.state (fine is) what leaves at answer.Done desk e.seen is.going entry_made refl

    pub left_on : length e.seen ≤ 2 ^ 32 → IsExiting session before number p e rest
    left_on few = record {
      made = is.made ++ m ∷ [];
      going = more session before.seen e.seen p.who number requests.Exit p.state (is.made ++ m ∷ []) p.state gone (ends_with p.state is.made m false refl) is.going.lives;
      left = is.left ++ d ∷ [];
      pipes = is.pipes ∙ sym (append_assoc is.left (d ∷ []) rest);
      count = (
          let steps = length-append is.made (m ∷ []) in
          let pipes = length-append is.left (d ∷ []) in
          let count = is.count in
          omega (arith, steps, pipes, count)
          );
      counted = is.counted;
      own = (
          let fewer = ap (λ (c : CallerState). c.own) on_it in
          let steps = length-append is.made (m ∷ []) in
          let some = exit_own is in
          let own = is.own in
          omega (arith, fewer, steps, some, own)
          );
      of_who = ap (λ (c : CallerState). c.who) on_it ∙ is.of_who;
      who = is.who;
      few = few;
    }

-- The process ends

pub has_left : {session : Session} {before : ProcView} {number : ℕ} {p : ProcessView} {c : CallerState} {ds : List Descriptor} → IsExiting session before number p c ds
    → slice_get ds 0 ≡ None → IsExiting session before number p c []
has_left {session} {before} {number} {p} {c} {ds} is at = subst (λ (rest : List Descriptor). IsExiting session before number p c rest) (none_is ds at) is

module _ {session : Session} {before : ProcView} {number : ℕ} {p : ProcessView} {c : CallerState} (is : IsExiting session before number p c []) where
  done : pipe_descriptors p.state ≡ is.left
  done = is.pipes ∙ append-nil is.left

  finish_at : slice_get (steps_of p.who p.state is.made requests.Exit) (length is.made) ≡ Some (p.who, act.Finish)
  finish_at =
      ap (λ n. slice_get (map leaving (pipe_descriptors p.state) ++ ending is ∷ []) n) is.count
      ∙ ap (λ ds. slice_get (map leaving ds ++ ending is ∷ []) (length is.left)) done
      ∙ last_in leaving is.left (ending is)

  abbrev finishing : Entry
  finishing = own_entry p.who number calls.Exit act.Finish answer.Done

  pub finish_allows : CallerAllows c.seen finishing
  finish_allows = next_allows session before.seen c.seen p.who number requests.Exit p.state is.made p.state (fine is) p.who act.Finish finish_at answer.Done refl refl is.going

  module _ {desk after : List Entry} (place : ℕ) (last : place + 1 ≡ length after) (entered : IsEntered session c.seen desk after finishing) where
    abbrev f : ℕ × Entry
    f = (length entered.past, finishing)

    abbrev now : Process
    now = record p.state { ended = true; descriptors = finite_map.empty }

    gone_last : HasGone session before.seen after p.who number requests.Exit p.state (is.made ++ f ∷ []) now
    gone_last = gone_own session before.seen c.seen p.who number requests.Exit p.state is.made p.state (fine is) p.who act.Finish finish_at answer.Done desk after is.going entered refl refl

    replied : HasReplied session p.who before.seen after requests.Exit answer.Done
    replied = record {
      made = is.made ++ f ∷ [];
      call = call_made session before.seen after p.who number requests.Exit p.state (is.made ++ f ∷ []) now gone_last (ends_with p.state is.made f true refl);
      last = ap (λ (o : Option (ℕ × Entry)). option_map (λ s. s.1.reply) o) (at_end is.made f);
    }

    pub exited : HasExited session before after place
    exited = record {
      replied = subst (λ (w : ℕ). HasReplied session w before.seen after requests.Exit answer.Done) is.who replied;
      finish = ap (λ n. slice_get after n) (sym (place_is session c.seen desk after finishing entered place last))
          ∙ ap (λ h. slice_get h (length entered.past)) entered.whole ∙ slice_get-last entered.past finishing
          ∙ ap (λ w. Some (own_entry w number calls.Exit act.Finish answer.Done)) is.who
          ∙ ap (λ n. Some (own_entry before.who n calls.Exit act.Finish answer.Done)) is.counted;
      last = last;
      ended = ap (λ w. has_ended after w) (sym is.who) ∙ ap (λ (q : Process). q.ended) gone_last.is.state;
    }
