-- The steps of either wait for a child, and a wait for one that has not ended.
use Rattle.std.proofs.Common.{◌≡◌, ℕ, ◌+◌, ◌-◌, ◌≤◌, ◌^◌, List, [], ◌∷◌, length, refl, ap, sym, ◌∙◌, subst, arith, true, false, ◌||◌}
use Rattle.std.specs.Prelude.{Option, Some, None, Ok, Err, slice_get, if◌then◌else◌}
use Rattle.std.specs.FinSet as finite_set
use Rattle.pass_entry.specs.declared.entry.Ask.TheVariants as ask
use Rattle.pass_entry.specs.declared.entry.Entry.{Entry}
use Rattle.pass_entry.specs.declared.entry.Reply.TheVariants as answer
use Rattle.pass_plain.specs.declared.request.Request.{Request}
use Rattle.pass_plain.specs.Calls.{Made, Step, ask_of, call_steps, is_last, is_within, name_of, refused_ask, steps_of}
use Rattle.pass_plain.specs.Legal.{ends_call, is_start}
use Rattle.pass_plain.specs.Lineages.{Lineage}
use Rattle.pass_plain.specs.Places.{is_exit, need_of}
use Rattle.pass_plain.specs.Processes.{Process, has_ended, process_act, refusal}
use Rattle.pass_plain.specs.Replies.{reply_to}
use Rattle.pass_plain.specs.Sessions.{Session}
use Rattle.pass_hold.specs.Callings.{IsEntered, IsGoing, IsIdle, IsInCall, HasGone, HasLooked}
use Rattle.pass_hold.specs.Entering.{MayEnter}
use Rattle.pass_hold.proofs.Callings.{begins_call, call_made, entry_of, going_looked, idle_again, more}
use Rattle.pass_hold.specs.Callers.{CallerState, moved_on}
use Rattle.pass_proc.specs.Procs.{IsCallerOf, ProcView, proc_with}
use Rattle.pass_proc.specs.Views.{ProcessView}
use Rattle.pass_proc.specs.declared.way.Way.{Way}
use Rattle.pass_proc.proofs.Steps.{begun}
use Rattle.pass_answer.specs.Answers.{Answers, HasMoved, HasWaited, Stays, Tells, resumes}
use Rattle.pass_answer.specs.Ready.{IsReadyIfFull}
use Rattle.pass_answer.specs.declared.answer.CallEnd.{CallEnd}
use Rattle.pass_answer.specs.declared.answer.Moved.TheVariants as moved
use Rattle.pass_answer.proofs.Between.{steps_end}
use Rattle.pass_answer.proofs.ObjectSteps.{place_is}
use Rattle.pass_answer.proofs.Steps.{not_refused, step_at, next_may, gone_by, gone_own}
use Rattle.pass_answer.proofs.Ready.{is_there, ready_at}
use Rattle.pass_answer.proofs.Waiting.{waits}
use Rattle.pass_answer.proofs.Wrapping.{begins_now}
use Rattle.pass_lives.specs.Waits.{let_go_by, request_of, shown_by}
use Rattle.pass_lives.specs.declared.waiting.ChildWait.{ChildWait}
use Rattle.pass_lives.specs.declared.waiting.ChildWait.TheVariants as kinds

-- what either asks, and the places that it needs
pub asked : (wait : ChildWait) (child : ℕ) → ask_of (request_of wait child) ≡ Some (ask.Child child)
asked kinds.Taking child = refl
asked kinds.Quiet child = refl

pub ordinary : (wait : ChildWait) (child : ℕ) → (is_start (name_of (request_of wait child)) || is_exit (name_of (request_of wait child)) ≡ false) × (is_within (request_of wait child) ≡ true)
ordinary kinds.Taking child = (refl, refl)
ordinary kinds.Quiet child = (refl, refl)

pub needed : (wait : ChildWait) (child : ℕ) → need_of (name_of (request_of wait child)) ≡ 3
needed kinds.Taking child = refl
needed kinds.Quiet child = refl

pub no_way : (wait : ChildWait) (child : ℕ) (way : Option Way) → resumes way (request_of wait child) ≡ false
no_way kinds.Taking child way = refl
no_way kinds.Quiet child way = refl

-- its two entries
abbrev pub first : ChildWait → ℕ → ℕ → ℕ → Entry
first wait who number child = entry_of who number (request_of wait child) child (shown_by wait) answer.Done

abbrev pub second : ChildWait → ℕ → ℕ → ℕ → ℕ → Entry
second wait who number child out = entry_of who number (request_of wait child) who (let_go_by wait out child) answer.Done

abbrev both : ChildWait → ℕ → ℕ → ℕ → ℕ → ℕ → ℕ → Made
both wait who number child out m n = (m, first wait who number child) ∷ (n, second wait who number child out) ∷ []

first_at : (wait : ChildWait) (who child : ℕ) (p : Process) → slice_get (steps_of who p [] (request_of wait child)) 0 ≡ Some (child, shown_by wait)
first_at kinds.Taking who child p = refl
first_at kinds.Quiet who child p = refl

abbrev goes : ChildWait → ℕ → ℕ → ℕ → Option Step
goes wait who child n = Some (who, let_go_by wait n child)

-- the place of its first entry, where the second one names it
abbrev pub IsLastIf : ChildWait → ℕ → List Entry → Type 0
IsLastIf kinds.Taking out after = out + 1 ≡ length after
IsLastIf kinds.Quiet out after = Unit {0}

second_at : (wait : ChildWait) (who child out : ℕ) (p : Process) (after : List Entry) (m : ℕ) (e : Entry) → (out + 1 ≡ length after → m ≡ out) → IsLastIf wait out after
    → slice_get (steps_of who p ((m, e) ∷ []) (request_of wait child)) 1 ≡ goes wait who child out
second_at kinds.Taking who child out p after m e same last = ap (λ n. goes kinds.Taking who child n) (same last)
second_at kinds.Quiet who child out p after m e same last = refl

first_keeps : (wait : ChildWait) (p : Process) (who number child : ℕ) → (if is_last p (first wait who number child) then 0 else need_of (name_of (request_of wait child)) - 1) ≡ 2
first_keeps kinds.Taking p who number child = refl
first_keeps kinds.Quiet p who number child = refl

second_keeps : (wait : ChildWait) (p : Process) (who number child out : ℕ) → (if is_last p (second wait who number child out) then 0 else need_of (name_of (request_of wait child)) - 2) ≡ 0
second_keeps kinds.Taking p who number child out = refl
second_keeps kinds.Quiet p who number child out = refl

goes_on : (wait : ChildWait) (p : Process) (who number child m : ℕ) → ends_call p ((m, first wait who number child) ∷ []) ≡ false
goes_on kinds.Taking p who number child m = refl
goes_on kinds.Quiet p who number child m = refl

is_over : (wait : ChildWait) (p : Process) (who number child out m n : ℕ) → ends_call p (both wait who number child out m n) ≡ true
is_over kinds.Taking p who number child out m n = refl
is_over kinds.Quiet p who number child out m n = refl

stays : (wait : ChildWait) (past : List Entry) (p : Process) → process_act past p (shown_by wait) ≡ p
stays kinds.Taking past p = refl
stays kinds.Quiet past p = refl

lets_go : (wait : ChildWait) (past : List Entry) (p : Process) (out child : ℕ) → process_act past p (let_go_by wait out child) ≡ record p { children = finite_set.remove p.children child }
lets_go kinds.Taking past p out child = refl
lets_go kinds.Quiet past p out child = refl

tells_done : (wait : ChildWait) (session : Session) (after : List Entry) (p : Process) (child : ℕ) (made : Made) → Tells session after p (request_of wait child) made moved.Done
tells_done kinds.Taking session after p child made = tt
tells_done kinds.Quiet session after p child made = tt

-- a process before a wait of this number, with its caller; contracts see both as `old`
pub record IsWaiting (session : Session) (p : ProcessView) (c : CallerState) (old : ProcView) (number child : ℕ) : Type 0 where
  pub was : ℕ
  pub way : Option Way
  pub view : proc_with p was c way ≡ old
  pub next : number ≡ was + 1
  pub is : IsCallerOf session p was c
  pub free : refusal p.state (ask.Child child) ≡ None

pub waiting : {session : Session} {p : ProcessView} {n : ℕ} {c : CallerState} → IsCallerOf session p n c → (way : Option Way) → (old : ProcView) → proc_with p n c way ≡ old
    → (child : ℕ) → refusal old.state (ask.Child child) ≡ None → (d : CallerState) → d ≡ c → IsWaiting session p d old (n + 1) child
waiting {session} {p} {n} {c} is way old view child free d same = record {
  was = n;
  way = way;
  view = ap (λ (x : CallerState). proc_with p n x way) same ∙ view;
  next = refl;
  is = subst (λ (x : CallerState). IsCallerOf session p n x) (sym same) is;
  free = ap (λ (v : ProcView). refusal v.state (ask.Child child)) view ∙ free;
}

-- `by` and `x` stand for the process and the child in the entry on the child
module _ (wait : ChildWait) {session : Session} {p : ProcessView} {c : CallerState} {old : ProcView} {number child : ℕ} (w : IsWaiting session p c old number child) {by x : ℕ} (of : by ≡ p.who)
    (its : x ≡ child) where
  abbrev r : Request
  r = request_of wait child

  fine : refused_ask p.state r ≡ None
  fine = not_refused p.state r (ask.Child child) (asked wait child) w.free

  going : IsGoing session c.seen c.seen p.who number r p.state [] p.state
  going =
      let next = w.next in
      let last : w.was ≡ number - 1 = omega (arith, next) in
      begun session c.seen p.who number p.state r (subst (λ n. IsIdle session c.seen p.who n p.state) last w.is.idle) (omega (arith, next))

  same : first wait by number x ≡ first wait p.who number child
  same = λ i. first wait (of i) number (its i)

  pub first_may : MayEnter c.seen (first wait by number x) 2
  first_may = subst (λ (f : Entry). MayEnter c.seen f 2) (sym same)
      (next_may session c.seen c.seen p.who number r p.state [] p.state fine child (shown_by wait) (first_at wait p.who child p.state) answer.Done (ordinary wait child).0 (ordinary wait child).1 going 2
      (sym (first_keeps wait p.state p.who number child)))

  module _ {desk after : List Entry} (entered : IsEntered session c.seen desk after (first wait by number x)) (out : ℕ) (place : IsLastIf wait out after) where
    shown : IsEntered session c.seen desk after (first wait p.who number child)
    shown = subst (λ (f : Entry). IsEntered session c.seen desk after f) same entered

    abbrev one : Made
    one = (length shown.past, first wait p.who number child) ∷ []

    gone : HasGone session c.seen after p.who number r p.state one p.state
    gone = gone_by session c.seen c.seen p.who number r p.state [] p.state fine child (shown_by wait) (first_at wait p.who child p.state) answer.Done desk after going shown (stays wait shown.past p.state)

    on : IsGoing session c.seen after p.who number r p.state one p.state
    on = more session c.seen after p.who number r p.state one p.state gone (goes_on wait p.state p.who number child (length shown.past)) w.is.idle.lives

    at : slice_get (steps_of p.who p.state one r) 1 ≡ goes wait p.who child out
    at = second_at wait p.who child out p.state after (length shown.past) (first wait p.who number child) (place_is session c.seen desk after (first wait p.who number child) shown out) place

    pub second_may : MayEnter after (second wait p.who number child out) 0
    second_may = next_may session c.seen after p.who number r p.state one p.state fine p.who (let_go_by wait out child) at answer.Done (ordinary wait child).0 (ordinary wait child).1 on 0
        (sym (second_keeps wait p.state p.who number child out))

    -- its entries are made: `q` and `e` are the process and its caller then
    module _ (q : ProcessView) (e : CallerState) {own : List Entry} (gathered : IsEntered session after own e.seen (second wait p.who number child out)) {line : List Entry} {lineage : Lineage} {spare : ℕ}
        (is_q : q ≡ record p { seen = line; state = record p.state { children = finite_set.remove p.state.children child }; lineage = lineage; spare = spare }) where
      abbrev now : Process
      now = record p.state { children = finite_set.remove p.state.children child }

      who : q.who ≡ p.who
      who = ap (λ (v : ProcessView). v.who) is_q

      state : q.state ≡ now
      state = ap (λ (v : ProcessView). v.state) is_q

      abbrev two : Made
      two = both wait p.who number child out (length shown.past) (length gathered.past)

      over : ends_call p.state two ≡ true
      over = is_over wait p.state p.who number child out (length shown.past) (length gathered.past)

      gone_two : HasGone session c.seen e.seen p.who number r p.state two now
      gone_two = subst (λ (s : Process). HasGone session c.seen e.seen p.who number r p.state two s) (lets_go wait gathered.past p.state out child)
          (gone_own session c.seen after p.who number r p.state one p.state fine p.who (let_go_by wait out child) at answer.Done own e.seen on gathered refl refl)

      pub waited : (places : ℕ) → Answers session places old (proc_with q number e None) r (Ok moved.Done)
      waited places =
          steps_end session places p w.was c w.way old w.view r (no_way wait child) q number e who c refl (Ok moved.Done)
          (subst (λ (s : Process). HasMoved session p.who c.seen e.seen s r moved.Done) (sym state)
          (record {
            made = two;
            call = call_made session c.seen e.seen p.who number r p.state two now gone_two over;
            reply = answer.Done;
            last = refl;
            fine = refl;
            tells = tells_done wait session e.seen now child two;
          }))
          (Ok moved.Done) refl

      pub rests : (d : CallerState) → d ≡ moved_on c d.seen d.syncs 2 → e ≡ moved_on d e.seen e.syncs 0 → length e.seen ≤ 2 ^ 32 → IsCallerOf session q number e
      rests d before behind few = record {
        of_who = ap (λ (x : CallerState). x.who) behind ∙ ap (λ (x : CallerState). x.who) before ∙ w.is.of_who ∙ sym who;
        own = ap (λ (x : CallerState). x.own) behind ∙ ap (λ (x : CallerState). x.own) before ∙ w.is.own;
        idle = subst (λ (s : Process). IsIdle session e.seen q.who number s) (sym state)
            (subst (λ n. IsIdle session e.seen n number now) (sym who) (idle_again session c.seen e.seen p.who number r p.state two now gone_two over w.is.idle.lives));
        few = few;
      }

-- the child shows its end once it has ended
shows : (wait : ChildWait) (session : Session) (history : List Entry) (child : ℕ) → reply_to session history child (shown_by wait) ≡ (if has_ended history child then Some answer.Done else None)
shows kinds.Taking session history child = refl
shows kinds.Quiet session history child = refl

only_looks : (wait : ChildWait) (child : ℕ) (old new : ProcView) → new ≡ record old { seen = new.seen; syncs = new.syncs; looks = new.looks; looked = length new.seen } → Stays old new (request_of wait child)
only_looks kinds.Taking child old new same = same
only_looks kinds.Quiet child old new same = same

module _ (wait : ChildWait) (session : Session) (old new : ProcView) (child : ℕ) (free : refusal old.state (ask.Child child) ≡ None) where
  abbrev q : Request
  q = request_of wait child

  shown_at : slice_get (call_steps old.who old.state [] q) 0 ≡ Some (child, shown_by wait)
  shown_at = step_at old.who old.state q (not_refused old.state q (ask.Child child) (asked wait child) free) [] 0 (child, shown_by wait) (first_at wait old.who child old.state)

  -- where the child has not ended, its parent waits
  pub child_waits : IsIdle session old.seen old.who old.number old.state → HasLooked session old.who old.seen new.seen → has_ended new.seen child ≡ false
      → new ≡ record old { seen = new.seen; syncs = new.syncs; looks = old.looks + 1; looked = length new.seen } → HasWaited session old new q
  child_waits idle looked lives same =
      let rose : new.looks ≡ old.looks + 1 = ap (λ (v : ProcView). v.looks) same in
      let going = begins_call session old.seen old.who old.number old.state q idle in
      let after = going_looked session old.seen old.seen new.seen old.who (old.number + 1) q old.state [] old.state going looked in
      waits session old new q old.seen (old.number + 1) old.state [] child (shown_by wait) (begins_now old q (no_way wait child old.way))
      (subst (λ (now : Process). IsInCall session old.seen new.seen old.who (old.number + 1) q old.state [] now) (sym (ap (λ (v : ProcView). v.state) same)) after.is)
      shown_at
      (shows wait session new.seen child ∙ ap (λ b. if b then Some answer.Done else None) lives)
      looked.begins (omega (arith, rose)) (ap (λ (v : ProcView). v.looked) same) (ap (λ (v : ProcView). v.who) same)
      (only_looks wait child old new (same ∙ ap (λ n. record old { seen = new.seen; syncs = new.syncs; looks = n; looked = length new.seen }) (sym rose)))

  -- where the child has ended, too few places may be the answer
  pub child_ready : has_ended new.seen child ≡ true → (end : CallEnd) → IsReadyIfFull session old new q (Err end)
  child_ready ended end =
      ready_at session old new q (child, shown_by wait) shown_at
      (is_there (reply_to session new.seen child (shown_by wait)) answer.Done (shows wait session new.seen child ∙ ap (λ b. if b then Some answer.Done else None) ended))
      end
