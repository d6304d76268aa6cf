-- What each answer of a sync makes of its process's history.
use Rattle.std.proofs.Common.{◌≡◌, ℕ, ◌+◌, [], ◌∷◌, ◌++◌, take, refl, ap, sym, ◌∙◌, subst, ◌⊎◌, inl, inr, true, false, ◌||◌, zero, suc, arith}
use Rattle.std.specs.Prelude.{Option, Some, None, Ok, Err, slice_get}
use Rattle.std.specs.Option.{option_map_or}
use Rattle.pass_entry.specs.declared.entry.Act.TheVariants as act
use Rattle.pass_entry.specs.declared.entry.Ask.{Ask}
use Rattle.pass_entry.specs.declared.entry.CallName.{CallName}
use Rattle.pass_entry.specs.declared.entry.CallName.TheVariants as calls
use Rattle.pass_entry.specs.declared.entry.Entry.{Entry}
use Rattle.pass_entry.specs.declared.entry.Reply.TheVariants as answer
use Rattle.pass_plain.specs.declared.request.Request.TheVariants as requests
use Rattle.pass_plain.specs.CallLaws.{IsBegun}
use Rattle.pass_plain.specs.Calls.{Made, Step, descriptor_at, is_last_act, refused_ask}
use Rattle.pass_plain.specs.Histories.{call_entries, is_fault}
use Rattle.pass_plain.specs.Legal.{before_call, ends_call, is_left_act, is_over, last_number, leaves_call, may_be_left, step_of}
use Rattle.pass_plain.specs.NextSteps.{AreOfCall}
use Rattle.pass_plain.specs.Processes.{Process, process_after}
use Rattle.pass_plain.specs.Replies.{reply_to}
use Rattle.pass_plain.specs.Runs.{next_number}
use Rattle.pass_plain.specs.Sessions.{Session}
use Rattle.pass_plain.proofs.Calling.{of_call}
use Rattle.pass_plain.proofs.Lists.{some_is}
use Rattle.pass_hold.specs.Callings.{entries_in, made_by}
use Rattle.pass_proc.specs.Procs.{ProcView}
use Rattle.pass_answer.specs.declared.answer.CallEnd.TheVariants as ends
use Rattle.pass_answer.specs.Syncs.{HasLeft}
use Rattle.pass_progress.specs.Progress.{IsBetween, IsNotDone, MayGoOn}
use Rattle.pass_progress.specs.Syncs.{SyncLaw}
use Rattle.pass_progress.proofs.Answering.{in_it, not_done, progress_law}
use Rattle.pass_progress.proofs.Rests.{IsBeginning, beginning}
use Rattle.pass_progress.proofs.Positions.{next_of_last}
use Rattle.pass_progress.proofs.Since.{IsSince}

-- The one entry of a sync that may be left

left_keep : (p : Process) (name : CallName) → is_left_act p name act.Keep ≡ true → name ≡ calls.Sync
left_keep p calls.Sync left = refl
left_keep p calls.Write left = absurd (cc)
left_keep p _ left = absurd (cc)

left_deny : (p : Process) (name : CallName) (a : Ask) → is_left_act p name (act.Deny a) ≡ true → ⊥
left_deny p calls.Sync a left = absurd (cc)
left_deny p calls.Write a left = absurd (cc)
left_deny p _ a left = absurd (cc)

-- its first step is the one that keeps, where the process does not refuse it
one_of : {X : Type 0} (x y : X) → x ∷ [] ≡ y ∷ [] → x ≡ y
one_of x y e = some_is x y (ap (λ xs. slice_get xs 0) e)

first_step : (who : ℕ) (p : Process) (o : Option Ask) (what fd : ℕ) (s : Step) → s ∷ [] ≡ take 1 (option_map_or (λ a. (who, act.Deny a) ∷ []) o ((what, act.Keep) ∷ (who, act.Kept fd) ∷ []))
    → (s.1 ≡ act.Keep) ⊎ ((a : Ask) × (s.1 ≡ act.Deny a))
first_step who p None what fd s is = inl (ap (λ (s : Step). s.1) (one_of s (what, act.Keep) is))
first_step who p (Some a) what fd s is = inr (a, ap (λ (s : Step). s.1) (one_of s (who, act.Deny a) is))

-- it keeps, in a call named so
record IsKeep (s : ℕ × Entry) : Type 0 where
  pub does : s.1.act ≡ act.Keep
  pub called : s.1.call ≡ calls.Sync

keep_is : (who : ℕ) (p : Process) (fd : ℕ) (s : ℕ × Entry) → is_left_act p s.1.call s.1.act ≡ true → IsBegun who p (s ∷ []) (requests.Sync fd) → IsKeep s
keep_is who p fd s left begun = elim (first_step who p (refused_ask p (requests.Sync fd)) (descriptor_at p fd).pnode fd (step_of s) begun) [
  | inl keeps ↦ record { does = keeps; called = left_keep p s.1.call (ap (is_left_act p s.1.call) (sym keeps) ∙ left) }
  | inr denies ↦ absurd (left_deny p s.1.call denies.0 (ap (is_left_act p s.1.call) (sym denies.1) ∙ left))
]

one_entry : (p : Process) (made : Made) → leaves_call p made ≡ true → (s : ℕ × Entry) × (made ≡ s ∷ []) × (is_left_act p s.1.call s.1.act ≡ true)
one_entry p [] left = absurd (cc)
one_entry p (s ∷ []) left = (s, refl, left)
one_entry p (s ∷ t ∷ made) left = absurd (cc)

goes_on_after : (p : Process) (s : ℕ × Entry) → IsKeep s → is_fault s.1.reply ≡ false → ends_call p (s ∷ []) ≡ false
goes_on_after p s keeps fine = λ i. fine i || is_last_act p (keeps.called i) (keeps.does i)

module _ (session : Session) (old new : ProcView) (fd : ℕ) (between : IsBetween session old) (after : IsBetween session new) (may : MayGoOn old (requests.Sync fd)) (l : HasLeft session old new (requests.Sync fd)) where
  abbrev who : ℕ
  who = old.who

  abbrev number : ℕ
  number = next_number old.seen old.who

  abbrev p : Process
  p = process_after old.seen old.who

  begin : IsBeginning session old (requests.Sync fd) old.seen
  begin = beginning session old between (requests.Sync fd) may

  made_is : call_entries new.seen who (last_number old.seen who + 1) ≡ l.made
  made_is = subst (λ w. call_entries new.seen w (last_number old.seen w + 1) ≡ l.made) l.who l.made_is

  before_is : before_call new.seen who (last_number old.seen who + 1) ≡ p
  before_is = subst (λ w. before_call new.seen w (last_number old.seen w + 1) ≡ process_after old.seen w) l.who l.before_is

  steps : IsBegun who p l.made (requests.Sync fd)
  steps = subst (λ w. IsBegun w (process_after old.seen w) l.made (requests.Sync fd)) l.who l.steps

  left : leaves_call p l.made ≡ true
  left = (λ i. leaves_call (sym before_is i) (sym made_is i)) ∙ subst (λ w. may_be_left new.seen w (last_number old.seen w + 1) ≡ true) l.who l.left

  module _ (s : ℕ × Entry) (one : l.made ≡ s ∷ []) (keeps : IsKeep s) where
    named : AreOfCall (s ∷ []) calls.Sync
    named zero t at = ap (λ (s : ℕ × Entry). s.1.call) (sym (some_is s t at)) ∙ keeps.called
    named (suc j) t at = absurd (cc)

    since : IsSince session who number (requests.Sync fd) old.seen old.seen new.seen p l.made
    since = record {
      legal = l.legal;
      begun = between.idle.begun;
      from = begin.from;
      to = l.begins;
      own = subst (λ w. made_by w new.seen ≡ made_by w old.seen ++ entries_in l.made) l.who l.own;
      made_is = ap (λ n. call_entries new.seen who n) begin.next ∙ made_is;
      before_is = ap (λ n. before_call new.seen who n) begin.next ∙ before_is;
      was = begin.was;
      steps = steps;
      named = subst (λ (m : Made). AreOfCall m calls.Sync) (sym one) named;
      next = refl;
      some = λ none. let next = begin.next in omega (arith, next, none);
    }

    last : last_number new.seen who ≡ number
    last = in_it session old new (requests.Sync fd) between after l.who old.seen begin l.made since s [] one

    fine : is_fault s.1.reply ≡ false
    fine =
        let place : slice_get (call_entries new.seen who number) 0 ≡ Some s = ap (λ m. slice_get m 0) (since.made_is ∙ one) in
        let stands = (of_call new.seen who number 0 s place).0 in
        let replied = (l.legal s.0 s.1 stands).replied in
        ap is_fault (some_is s.1.reply answer.Done (sym replied ∙ ap (λ a. reply_to session (take s.0 new.seen) s.1.what a) keeps.does))

    left_by : IsNotDone session old new (requests.Sync fd)
    left_by =
        let goes : is_over new.seen who (last_number new.seen who) ≡ false =
        ap (λ n. is_over new.seen who n) last ∙ (λ i. ends_call (since.before_is i) ((since.made_is ∙ one) i)) ∙ goes_on_after p s keeps fine in
        not_done session old new (requests.Sync fd) between after l.who old.seen begin l.made since (next_of_last new.seen who number (sym last) since.some goes)

  pub left_on : IsNotDone session old new (requests.Sync fd)
  left_on =
      let (s, one, does) = one_entry p l.made left in
      left_by s one (keep_is who p fd s does (subst (λ (m : Made). IsBegun who p m (requests.Sync fd)) one steps))

pub sync_law : SyncLaw
sync_law session places old new fd (Ok m) between after may a = progress_law session places old new (requests.Sync fd) (Ok m) between after may (a.0, a.1)
sync_law session places old new fd (Err (ends.Fault f)) between after may a = progress_law session places old new (requests.Sync fd) (Err (ends.Fault f)) between after may a
sync_law session places old new fd (Err ends.Again) between after may a = absurd a
sync_law session places old new fd (Err (ends.DiskFault opened now)) between after may a = left_on session old new fd between after may a.0
sync_law session places old new fd (Err (ends.Full left need)) between after may a = progress_law session places old new (requests.Sync fd) (Err (ends.Full left need)) between after may a
sync_law session places old new fd (Err ends.NoMemory) between after may a = left_on session old new fd between after may a
