-- What each answer of a call makes of its process's history.
use Rattle.std.proofs.Common.{◌≡◌, ◌≢◌, ◌<◌, ◌+◌, ℕ, List, [], ◌∷◌, length, refl, ap, sym, ◌∙◌, subst, arith, ◌⊎◌, inl, inr, true, false}
use Rattle.std.specs.Prelude.{Some, None, Ok, Err, slice_get}
use mathlib.Core.List.{IsPrefix}
use Rattle.pass_entry.specs.declared.entry.Entry.{Entry}
use Rattle.pass_plain.specs.declared.request.Request.{Request}
use Rattle.pass_plain.specs.declared.request.Request.TheVariants as requests
use Rattle.pass_plain.specs.CallLaws.{IsBegun}
use Rattle.pass_plain.specs.Calls.{Made, Step, call_steps, name_of}
use Rattle.pass_plain.specs.Histories.{call_entries}
use Rattle.pass_plain.specs.Legal.{before_call, ends_call, is_over, last_number}
use Rattle.pass_plain.specs.NextSteps.{AreOfCall}
use Rattle.pass_plain.specs.Places.{freed_places, left_for, left_places, need_of}
use Rattle.pass_plain.specs.Processes.{Process, has_ended, process_after}
use Rattle.pass_plain.specs.Replies.{reply_to}
use Rattle.pass_plain.specs.Runs.{next_number}
use Rattle.pass_plain.specs.Sessions.{Session}
use Rattle.pass_plain.proofs.Lists.{some_is}
use Rattle.pass_book.proofs.Prefixes.{prefix_self}
use Rattle.pass_hold.specs.Callings.{IsCallMade, IsInCall, HasLooked}
use Rattle.pass_hold.proofs.Callings.{none_yet}
use Rattle.pass_hold.proofs.Goings.{look_law as goes_looked, number_same, still_law, unanswered_law}
use Rattle.pass_proc.specs.Procs.{ProcView, is_way}
use Rattle.pass_answer.specs.Answers.{HasEnded, HasWaited, IsFull, Stays, begins_at, resumes}
use Rattle.pass_answer.specs.declared.answer.CallEnd.TheVariants as ends
use Rattle.pass_progress.specs.Progress.{HasGoneOn, IsAtRest, IsBetween, IsDone, IsNotDone, IsNotReady, IsShortOfPlaces, MayGoOn, ProgressLaw}
use Rattle.pass_progress.proofs.Rests.{IsBeginning, beginning, in_last, looked_law, looked_same}
use Rattle.pass_progress.proofs.Positions.{next_of_over}
use Rattle.pass_progress.proofs.Since.{IsSince, goes, last_now, none_made}

-- it lives
lives : (session : Session) (new : ProcView) (who : ℕ) → IsBetween session new → new.who ≡ who → has_ended new.seen who ≡ false
lives session new who between same = subst (λ w. has_ended new.seen w ≡ false) same (ap (λ (p : Process). p.ended) between.idle.state ∙ between.idle.lives)

-- a call that is over has an entry
ended_some : (p : Process) (made : Made) → ends_call p made ≡ true → (m : ℕ × Entry) × (rest : Made) × (made ≡ m ∷ rest)
ended_some p [] over = absurd (cc)
ended_some p (m ∷ rest) over = (m, rest, refl)

module _ (session : Session) (old new : ProcView) (r : Request) (between : IsBetween session old) (after : IsBetween session new) (same_who : new.who ≡ old.who) (before : List Entry) (b : IsBeginning session old r before) where
  abbrev who : ℕ
  who = old.who

  abbrev number : ℕ
  number = next_number old.seen old.who

  some : number ≢ 0
  some none = let next = b.next in omega (arith, next, none)

  -- the entries since it began
  pub since : (made : Made) → IsPrefix old.seen new.seen → IsCallMade session who before new.seen r made → IsSince session who number r before old.seen new.seen (process_after before who) made
  since made to call = record {
    legal = call.legal;
    begun = between.idle.begun;
    from = b.from;
    to = to;
    own = call.own;
    made_is = ap (λ n. call_entries new.seen who n) b.next ∙ call.made_is;
    before_is = ap (λ n. before_call new.seen who n) b.next ∙ call.before_is;
    was = b.was;
    steps = call.steps;
    named = call.named;
    next = refl;
    some = some;
  }

  pub since_in : (made : Made) (now : Process) → IsPrefix old.seen new.seen → IsInCall session before new.seen who (last_number before who + 1) r (process_after before who) made now
      → IsSince session who number r before old.seen new.seen (process_after before who) made
  since_in made now to is = record {
    legal = is.legal;
    begun = between.idle.begun;
    from = b.from;
    to = to;
    own = is.own;
    made_is = ap (λ n. call_entries new.seen who n) b.next ∙ is.made_is;
    before_is = ap (λ n. before_call new.seen who n) b.next ∙ is.before_is;
    was = b.was;
    steps = is.begun_as;
    named = is.named;
    next = refl;
    some = some;
  }

  module _ (made : Made) (is : IsSince session who number r before old.seen new.seen (process_after before who) made) where
    pub gone_on : HasGoneOn session old new r
    gone_on = record {
      who = same_who;
      goes = goes session who number r before old.seen new.seen (process_after before who) made is;
      before = is.before_is ∙ sym is.was;
      steps = subst (λ (p : Process). IsBegun who p (call_entries new.seen who number) r) (sym is.before_is)
          (subst (λ (m : Made). IsBegun who (process_after before who) m r) (sym is.made_is) is.steps);
      named = subst (λ (m : Made). AreOfCall m (name_of r)) (sym is.made_is) is.named;
    }

    -- it is over
    pub done : is_over new.seen who number ≡ true → IsDone session old new r
    done over =
        let (m, rest, same) = ended_some (before_call new.seen who number) made (ap (λ (ms : Made). ends_call (before_call new.seen who number) ms) (sym is.made_is) ∙ over) in
        let last : last_number new.seen who ≡ number = last_now session who number r before old.seen new.seen (process_after before who) made is m rest same in
        let next : next_number new.seen who ≡ number + 1 = next_of_over new.seen who number last some over in
        record {
          on = gone_on;
          answered = record { over = over; next = next; living = lives session new who after same_who };
          rest = subst (λ w. next_number new.seen w ≡ last_number new.seen w + 1) (sym same_who) (next ∙ ap (λ n. n + 1) (sym last));
        }

    -- it is not
    pub not_done : next_number new.seen who ≡ number → IsNotDone session old new r
    not_done next = record {
      on = gone_on;
      unanswered = record {
        next = next;
        state = gone_on.before;
        under_way = subst (λ n. IsBegun who (before_call new.seen who n) (call_entries new.seen who n) r) (sym next) gone_on.steps;
        living = lives session new who after same_who;
      };
    }

    -- nothing was made
    pub still_next : made ≡ [] → next_number new.seen who ≡ number
    still_next none =
        number_same old.seen new.seen who
        (looked_same session old new.seen between (record { legal = is.legal; begins = is.to; own = none_made session who number r before old.seen new.seen (process_after before who) made is none }))

    -- the call is the last one
    pub in_it : (m : ℕ × Entry) (rest : Made) → made ≡ m ∷ rest → last_number new.seen who ≡ number
    in_it m rest same = last_now session who number r before old.seen new.seen (process_after before who) made is m rest same

-- The process has only looked

module _ (session : Session) (old new : ProcView) (r : Request) (between : IsBetween session old) (may : MayGoOn old r) (l : HasLooked session old.who old.seen new.seen) (same_who : new.who ≡ old.who) where
  b : IsBeginning session old r (begins_at old r)
  b = beginning session old between r may

  pub looked_on : IsNotDone session old new r
  looked_on =
      let who = old.who in
      let number = next_number old.seen old.who in
      let same = looked_same session old new.seen between l in
      record {
        on = record {
          who = same_who;
          goes = goes_looked session who r old.seen old.seen new.seen (still_law session who r old.seen between.idle.legal between.idle.begun) l;
          before = same.before number;
          steps = subst (λ (p : Process). IsBegun who p (call_entries new.seen who number) r) (sym (same.before number))
              (subst (λ (m : Made). IsBegun who (before_call old.seen who number) m r) (sym (same.calls number)) b.under);
          named = subst (λ (m : Made). AreOfCall m (name_of r)) (sym (same.calls number)) b.named;
        };
        unanswered = unanswered_law session who r old.seen new.seen l between.idle.begun (lives session old who between refl) b.under;
      }

  -- a new call lacks places
  pub short : (places left need : ℕ) → IsAtRest old → need ≡ need_of (name_of r) → left < need → left ≡ left_for places new.seen old.who → IsShortOfPlaces places old.who r new.seen
  short places left need rest needs fewer leaves =
      let who = old.who in
      let same = looked_same session old new.seen between l in
      record {
        none = ap (λ n. call_entries new.seen who n) (looked_on.unanswered.next ∙ rest) ∙ same.calls (last_number old.seen who + 1) ∙ none_yet session old.seen who (last_number old.seen who) between.idle.legal refl;
        lacks = let parts : left_for places new.seen who ≡ left_places places new.seen + freed_places new.seen who = refl in omega (arith, parts, needs, fewer, leaves);
      }

-- The answers

-- a call that waits and has made an entry is a write
stays_cases : (old new : ProcView) (r : Request) → Stays old new r
    → ((fd : ℕ) × (bytes : List ℕ) × (r ≡ requests.Write fd bytes) × (is_way new.way fd bytes ≡ true))
    ⊎ ((new ≡ record old { seen = new.seen; syncs = new.syncs; looks = new.looks; looked = length new.seen }) × (resumes old.way r ≡ false))
stays_cases old new (requests.Write fd bytes) stays = inl (fd, bytes, refl, stays)
stays_cases old new _ stays = inr (stays, refl)

module _ (session : Session) (places : ℕ) (old new : ProcView) (r : Request) (between : IsBetween session old) (after : IsBetween session new) (may : MayGoOn old r) where
  begin : IsBeginning session old r (begins_at old r)
  begin = beginning session old between r may

  pub over_done : (made : Made) → IsCallMade session old.who (begins_at old r) new.seen r made → HasEnded session old new → IsDone session old new r
  over_done made call ended =
      done session old new r between after ended.who (begins_at old r) begin made (since session old new r between after ended.who (begins_at old r) begin made ended.grows call)
      (ap (λ n. is_over new.seen old.who n) begin.next ∙ call.over)

  module _ (w : HasWaited session old new r) where
    is : IsSince session old.who (next_number old.seen old.who) r (begins_at old r) old.seen new.seen (process_after (begins_at old r) old.who) w.made
    is = since_in session old new r between after w.who (begins_at old r) begin w.made new.state w.grows w.call

    by_look : w.made ≡ [] → next_number new.seen old.who ≡ next_number old.seen old.who
    by_look none = still_next session old new r between after w.who (begins_at old r) begin w.made is none

    by_entry : (m : ℕ × Entry) (rest : Made) → w.made ≡ m ∷ rest → last_number new.seen old.who ≡ next_number old.seen old.who
    by_entry m rest same = in_it session old new r between after w.who (begins_at old r) begin w.made is m rest same

    a_write : (fd : ℕ) (bytes : List ℕ) → is_way new.way fd bytes ≡ true → (made : Made) → w.made ≡ made → next_number new.seen old.who ≡ next_number old.seen old.who
    a_write fd bytes way [] none = by_look none
    a_write fd bytes way (m ∷ rest) same = subst (λ w. next_number new.seen w ≡ last_number new.seen w) w.who (in_last session new fd bytes after way) ∙ by_entry m rest same

    another : new ≡ record old { seen = new.seen; syncs = new.syncs; looks = new.looks; looked = length new.seen } → IsAtRest old → (made : Made) → w.made ≡ made → w.made ≡ []
    another same rest [] none = none
    another same rest (m ∷ others) made =
        let last = by_entry m others made in
        let count : new.number ≡ old.number = ap (λ (p : ProcView). p.number) same in
        let now : last_number new.seen old.who ≡ new.number = subst (λ w. last_number new.seen w ≡ new.number) w.who after.idle.last in
        let was = between.idle.last in
        absurd (omega (arith, last, count, now, was, rest))

    -- it is under way by then, or has not begun
    pub stands : (next_number new.seen old.who ≡ next_number old.seen old.who) × MayGoOn new r
    stands = elim (stays_cases old new r w.stays) [
      | inl x ↦ (a_write x.0 x.1 x.3 w.made refl, inr (ap (λ r. resumes new.way r) x.2 ∙ x.3))
      | inr x ↦ elim may [
        | inr on ↦ absurd (let z : true ≡ false = sym on ∙ x.1 in cc)
        | inl rest ↦
            let none = another x.0 rest w.made refl in (
              by_look none,
              looked_law session old new r between
                  (record { legal = is.legal; begins = is.to; own = none_made session old.who (next_number old.seen old.who) r (begins_at old r) old.seen new.seen (process_after (begins_at old r) old.who) w.made is none })
                  w.who (ap (λ (p : ProcView). p.way) x.0) (inl rest),
            )
      ]
    ]

    pub waits : IsNotDone session old new r
    waits = not_done session old new r between after w.who (begins_at old r) begin w.made is stands.0

    pub unready : IsNotReady session old.who r new.seen
    unready s at =
        let p = process_after (begins_at old r) old.who in
        let next = stands.0 in
        let state : before_call new.seen old.who (next_number new.seen old.who) ≡ p = ap (λ n. before_call new.seen old.who n) next ∙ is.before_is in
        let made : call_entries new.seen old.who (next_number new.seen old.who) ≡ w.made = ap (λ n. call_entries new.seen old.who n) next ∙ is.made_is in
        let there : slice_get (call_steps old.who p w.made r) (length w.made) ≡ Some s = (λ i. slice_get (call_steps old.who (sym state i) (sym made i) r) (length (sym made i))) ∙ at in
        let one : w.step ≡ s = some_is w.step s (sym w.next ∙ there) in
        subst (λ (s : Step). reply_to session new.seen s.0 s.1 ≡ None) one w.unready

  pub full : (left need : ℕ) → IsFull session places old new r left need → IsNotDone session old new r × IsShortOfPlaces places old.who r new.seen × MayGoOn new r
  full left need f =
      let l = f.only.looked in
      let who : new.who ≡ old.who = ap (λ (p : ProcView). p.who) f.only.stays in
      elim may [
        | inr on ↦ absurd (let z : true ≡ false = sym on ∙ f.anew in cc)
        | inl rest ↦ (
          looked_on session old new r between (inl rest) l who,
          short session old new r between (inl rest) l who places left need rest f.needs f.fewer f.leaves,
          looked_law session old new r between l who (ap (λ (p : ProcView). p.way) f.only.stays) (inl rest),
        )
      ]

  pub memory : new ≡ old → IsNotDone session old new r
  memory same =
      subst (λ (p : ProcView). IsNotDone session old p r) (sym same)
      (looked_on session old old r between may (record { legal = between.idle.legal; begins = prefix_self old.seen; own = refl }) refl)

pub progress_law : ProgressLaw
progress_law session places old new r (Ok m) between after may a = over_done session places old new r between after may a.0.made a.0.call a.1
progress_law session places old new r (Err (ends.Fault f)) between after may a = over_done session places old new r between after may a.0.made a.0.call a.1
progress_law session places old new r (Err ends.Again) between after may a =
    (waits session places old new r between after may a, unready session places old new r between after may a, (stands session places old new r between after may a).1)
progress_law session places old new r (Err (ends.DiskFault opened now)) between after may a = absurd a
progress_law session places old new r (Err (ends.Full left need)) between after may a = full session places old new r between after may left need a
progress_law session places old new r (Err ends.NoMemory) between after may a = memory session places old new r between after may a
