-- How a process ends.
use Rattle.std.proofs.Common.{◌≡◌, ℕ, zero, suc, List, [], ◌∷◌, ◌++◌, length, map, take, refl, ap, sym, ◌∙◌, subst, arith, ◌⊎◌, inl, inr, true, false, ◌||◌, ◌&&◌, not, ◌==◌, cond}
use Rattle.std.specs.Prelude.{Some, slice_get}
use Rattle.pass_entry.specs.declared.entry.Act.{Act}
use Rattle.pass_entry.specs.declared.entry.Act.TheVariants as act
use Rattle.pass_entry.specs.declared.entry.Entry.{Entry}
use Rattle.pass_entry.specs.declared.entry.Reply.{Reply}
use Rattle.pass_entry.specs.declared.entry.Reply.TheVariants as answer
use Rattle.pass_entry.specs.declared.objects.Descriptor.{Descriptor}
use Rattle.pass_entry.specs.declared.objects.End.{End}
use Rattle.pass_entry.proofs.Places.{slice_get-last}
use Rattle.pass_plain.specs.declared.request.Request.TheVariants as requests
use Rattle.pass_plain.specs.CallLaws.{IsBegun}
use Rattle.pass_plain.specs.Calls.{act_on, Made, Step, end_of, is_last, is_last_act, pipe_descriptors}
use Rattle.pass_plain.specs.Histories.{call_entries, is_fault, own_step}
use Rattle.pass_plain.specs.Legal.{before_call, ends_call, is_over, last_number, step_of}
use Rattle.pass_plain.specs.Processes.{Process, process_act, process_after, has_begun, has_ended}
use Rattle.pass_plain.specs.Replies.{reply_to}
use Rattle.pass_plain.specs.Runs.{next_number}
use Rattle.pass_plain.specs.Sessions.{Session}
use Rattle.pass_plain.proofs.Calling.{of_call}
use Rattle.pass_plain.proofs.Lists.{same_itself, some_is}
use Rattle.pass_plain.proofs.Playing.{all_played, played}
use Rattle.pass_plain.proofs.OtherCalls.{ends_last}
use Rattle.pass_hold.specs.Callings.{IsCallMade}
use Rattle.pass_proc.specs.Procs.{ProcView}
use Rattle.pass_progress.specs.Progress.{ExitLaw, IsAtRest, IsBetween}
use Rattle.pass_progress.proofs.Rests.{IsBeginning, at_rest}
use Rattle.pass_progress.proofs.Positions.{begun_step}
use Rattle.pass_progress.proofs.Since.{IsSince, goes, last_now}

-- entries, and a last one
parted : (m : ℕ × Entry) (made : Made) → (front : Made) × (s : ℕ × Entry) × (m ∷ made ≡ front ++ s ∷ [])
parted m [] = ([], m, refl)
parted m (n ∷ made) = let (front, s, whole) = parted n made in (m ∷ front, s, ap (λ ms. m ∷ ms) whole)

-- a step of an exit is a leave, or the end
abbrev IsExitStep : ℕ → Step → Type 0
IsExitStep who s = ((e : End) × (s.1 ≡ act.Leave e)) ⊎ ((s.0 ≡ who) × (s.1 ≡ act.Finish))

exit_step : (who : ℕ) (ds : List Descriptor) (k : ℕ) (s : Step) → slice_get (map (λ (d : Descriptor). act_on d.pnode (act.Leave (end_of d.mode))) ds ++ (who, act.Finish) ∷ []) k ≡ Some s → IsExitStep who s
exit_step who [] zero s at = inr (ap (λ (s : Step). s.0) (sym (some_is (who, act.Finish) s at)), ap (λ (s : Step). s.1) (sym (some_is (who, act.Finish) s at)))
exit_step who [] (suc k) s at = absurd (cc)
exit_step who (d ∷ ds) zero s at = inl (end_of d.mode, ap (λ (s : Step). s.1) (sym (some_is (act_on d.pnode (act.Leave (end_of d.mode))) s at)))
exit_step who (d ∷ ds) (suc k) s at = exit_step who ds k s at

-- the end ends it
ended : (history : List Entry) (who : ℕ) (front : Made) (s : ℕ × Entry) (p : Process) → (s.1.what == who) ≡ true → is_fault s.1.reply ≡ false → s.1.act ≡ act.Finish
    → (played history who (front ++ s ∷ []) p).ended ≡ true
ended history who [] s p own fine is =
    ap (λ b. (cond b (process_act (take s.0 history) p s.1.act) p).ended) (λ i. own i && not (fine i)) ∙ ap (λ a. (process_act (take s.0 history) p a).ended) is
ended history who (t ∷ front) s p own fine is = ended history who front s (own_step (λ past p e. process_act past p e.act) who (take t.0 history) p t.1) own fine is

fine_done : (session : Session) (h : List Entry) (what : ℕ) (a : Act) (reply : Reply) → reply_to session h what a ≡ Some reply → ((e : End) × (a ≡ act.Leave e)) ⊎ (a ≡ act.Finish) → is_fault reply ≡ false
fine_done session h what a reply at (inl l) = ap is_fault (some_is reply answer.Done (sym at ∙ ap (λ a. reply_to session h what a) l.1))
fine_done session h what a reply at (inr f) = ap is_fault (some_is reply answer.Done (sym at ∙ ap (λ a. reply_to session h what a) f))

module _ (session : Session) (old : ProcView) (new : List Entry) (made : Made) (between : IsBetween session old) (rest : IsAtRest old) (call : IsCallMade session old.who old.seen new requests.Exit made) where
  abbrev who : ℕ
  who = old.who

  abbrev number : ℕ
  number = next_number old.seen old.who

  begin : IsBeginning session old requests.Exit old.seen
  begin = at_rest session old requests.Exit between rest

  since : IsSince session who number requests.Exit old.seen old.seen new (process_after old.seen who) made
  since = record {
    legal = call.legal;
    begun = between.idle.begun;
    from = begin.from;
    to = call.begins;
    own = call.own;
    made_is = ap (λ n. call_entries new who n) rest ∙ call.made_is;
    before_is = ap (λ n. before_call new who n) rest ∙ call.before_is;
    was = begin.was;
    steps = call.steps;
    named = call.named;
    next = refl;
    some = λ none. omega (arith, rest, none);
  }

  over : is_over new who number ≡ true
  over = ap (λ n. is_over new who n) rest ∙ call.over

  ends : ends_call (process_after old.seen who) made ≡ true
  ends = (λ i. ends_call (sym since.before_is i) (sym since.made_is i)) ∙ over

  -- its last entry is the end
  finished : (m : ℕ × Entry) (others : Made) → made ≡ m ∷ others → has_ended new who ≡ true
  finished m others some =
      let p : Process = process_after old.seen who in
      let (front, s, whole) = parted m others in
      let is : made ≡ front ++ s ∷ [] = some ∙ whole in
      let step = begun_step who p front s requests.Exit (subst (λ (ms : Made). IsBegun who p ms requests.Exit) is call.steps) in
      let kind = exit_step who (pipe_descriptors p) (length front) (step_of s) step in
      let place : slice_get (call_entries new who number) (length front) ≡ Some s = ap (λ ms. slice_get ms (length front)) (since.made_is ∙ is) ∙ slice_get-last front s in
      let stands = (of_call new who number (length front) s place).0 in
      let replied = (call.legal s.0 s.1 stands).replied in
      let called = call.named (length front) s (ap (λ ms. slice_get ms (length front)) is ∙ slice_get-last front s) in
      let last : is_last p s.1 ≡ true = sym (ends_last p front s) ∙ ap (ends_call p) (sym is) ∙ ends in
      let at_last : last_number new who ≡ number = last_now session who number requests.Exit old.seen old.seen new p made since m others some in
      let begun = since_begun in
      let played_is : process_after new who ≡ played new who (front ++ s ∷ []) p =
      all_played session new call.legal who begun ∙ ap (λ n. played new who (call_entries new who n) (before_call new who n)) at_last ∙ (λ i. played new who ((since.made_is ∙ is) i) (since.before_is i)) in
      elim kind [
        | inl l ↦
            let fine = fine_done session (take s.0 new) s.1.what s.1.act s.1.reply replied (inl l) in
            absurd (let z : false ≡ true = (λ i. sym fine i || is_last_act p (sym called i) (sym l.1 i)) ∙ last in cc)
        | inr f ↦
            let fine = fine_done session (take s.0 new) s.1.what s.1.act s.1.reply replied (inr f.1) in
            ap (λ (p : Process). p.ended) played_is ∙ ended new who front s p (ap (λ w. w == who) f.0 ∙ same_itself who) fine f.1
      ]
    where
      since_begun : has_begun new who ≡ true
      since_begun = (goes session who number requests.Exit old.seen old.seen new (process_after old.seen who) made since).begun

pub exit_law : ExitLaw
exit_law session old new made between rest call = (
  goes session old.who (next_number old.seen old.who) requests.Exit old.seen old.seen new (process_after old.seen old.who) made (since session old new made between rest call),
  over session old new made between rest call,
  with_some made refl,
)
  where
    with_some : (ms : Made) → made ≡ ms → has_ended new old.who ≡ true
    with_some [] none = absurd (let z : false ≡ true = ap (ends_call (process_after old.seen old.who)) (sym none) ∙ ends session old new made between rest call in cc)
    with_some (m ∷ others) some = finished session old new made between rest call m others some
