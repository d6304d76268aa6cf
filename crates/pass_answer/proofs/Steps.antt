-- How the steps of a call follow one another that its process does not refuse.
use Rattle.std.proofs.Common.{◌≡◌, ℕ, ◌+◌, ◌-◌, List, [], ◌∷◌, ◌++◌, length, ap, sym, ◌∙◌, subst, true, false, ◌==◌, ◌||◌}
use Rattle.std.proofs.lemmas.Bool.{or_parts}
use Rattle.std.specs.Prelude.{Option, Some, None, slice_get, if◌then◌else◌}
use Rattle.std.specs.Option.{option_map_or}
use Rattle.pass_entry.specs.declared.entry.Act.{Act}
use Rattle.pass_entry.specs.declared.entry.Act.TheVariants as act
use Rattle.pass_entry.specs.declared.entry.Ask.{Ask}
use Rattle.pass_entry.specs.declared.entry.CallFault.{CallFault}
use Rattle.pass_entry.specs.declared.entry.Entry.{Entry}
use Rattle.pass_entry.specs.declared.entry.Reply.{Reply}
use Rattle.pass_plain.specs.declared.request.Request.{Request}
use Rattle.pass_plain.specs.Calls.{Made, Step, ask_of, call_steps, is_last, is_within, name_of, refused_ask, steps_of}
use Rattle.pass_plain.specs.Histories.{is_fault, own_step}
use Rattle.pass_plain.specs.Legal.{CallerAllows, is_start, last_number}
use Rattle.pass_plain.specs.Places.{is_exit, need_of}
use Rattle.pass_plain.specs.Processes.{Process, process_act, process_after, refusal}
use Rattle.pass_plain.specs.Sessions.{Session}
use Rattle.pass_plain.proofs.Lists.{same_itself}
use Rattle.pass_plain.proofs.Replays.{own_step-own}
use Rattle.pass_hold.specs.Callings.{IsEntered, IsGoing, HasGone, IsInCall}
use Rattle.pass_hold.specs.Entering.{MayEnter}
use Rattle.pass_hold.proofs.Callings.{entry_of, allows, keeps_going, goes}
use Rattle.pass_proc.proofs.Steps.{unchanged}

-- what a call asks is not refused, or it asks nothing
pub not_refused : (p : Process) (r : Request) (a : Ask) → ask_of r ≡ Some a → refusal p a ≡ None → refused_ask p r ≡ None
not_refused p r a asked fine =
    ap (λ o. option_map_or (λ a. option_map_or (λ f. Some a) (refusal p a) None) o None) asked
    ∙ ap (λ (o : Option CallFault). option_map_or (λ f. Some a) o None) fine

pub not_asked : (p : Process) (r : Request) → ask_of r ≡ None → refused_ask p r ≡ None
not_asked p r none = ap (λ o. option_map_or (λ a. option_map_or (λ f. Some a) (refusal p a) None) o None) none

-- its steps are then its own
pub step_at : (who : ℕ) (p : Process) (r : Request) → refused_ask p r ≡ None → (made : Made) (k : ℕ) (s : Step)
    → slice_get (steps_of who p made r) k ≡ Some s → slice_get (call_steps who p made r) k ≡ Some s
step_at who p r fine made k s at = ap (λ o. slice_get (option_map_or (λ a. (who, act.Deny a) ∷ []) o (steps_of who p made r)) k) fine ∙ at

-- The next step of a call that goes on

module _ (session : Session) (before seen : List Entry) (who number : ℕ) (r : Request) (p : Process) (made : Made) (now : Process) (fine : refused_ask p r ≡ None)
    (what : ℕ) (a : Act) (at : slice_get (steps_of who p made r) (length made) ≡ Some (what, a)) (reply : Reply) where
  abbrev e : Entry
  e = entry_of who number r what a reply

  next : slice_get (call_steps who p made r) (length made) ≡ Some (what, a)
  next = step_at who p r fine made (length made) (what, a) at

  pub next_allows : is_start (name_of r) ≡ false → is_within r ≡ true → IsGoing session before seen who number r p made now → CallerAllows seen e
  next_allows ordinary within going = allows session before seen who number r p made now what a reply next going ordinary within

  pub next_may : is_start (name_of r) || is_exit (name_of r) ≡ false → is_within r ≡ true → IsGoing session before seen who number r p made now
      → (held : ℕ) → held ≡ (if is_last p e then 0 else need_of (name_of r) - (length made + 1)) → MayEnter seen e held
  next_may ordinary within going held is =
      let neither = or_parts (is_start (name_of r)) (is_exit (name_of r)) ordinary in
      record { exit = neither.1; allows = next_allows neither.0 within going; keep = is ∙ sym (keeps_going session before seen who number r p made now what a reply next going.is) }

  module _ (desk after : List Entry) (going : IsGoing session before seen who number r p made now) (entered : IsEntered session seen desk after e) where
    gone : HasGone session before after who number r p (made ++ (length entered.past, e) ∷ []) (own_step (λ past p e. process_act past p e.act) who entered.past now e)
    gone = goes session before seen who number r p made now what a reply next desk after going.is entered

    -- it changes no process
    pub gone_by : process_act entered.past now a ≡ now → HasGone session before after who number r p (made ++ (length entered.past, e) ∷ []) now
    gone_by same = subst (λ q. HasGone session before after who number r p (made ++ (length entered.past, e) ∷ []) q) (unchanged who entered.past now e same) gone

    -- it is on the process itself
    pub gone_own : what ≡ who → is_fault reply ≡ false → HasGone session before after who number r p (made ++ (length entered.past, e) ∷ []) (process_act entered.past now a)
    gone_own own went =
        subst (λ q. HasGone session before after who number r p (made ++ (length entered.past, e) ∷ []) q)
        (own_step-own (λ past p e. process_act past p e.act) who entered.past now e (ap (λ w. w == who) own ∙ same_itself who) went) gone

-- a call by the number and the state that its process had
pub told_call : (session : Session) (before seen : List Entry) (who number : ℕ) (r : Request) (p : Process) (made : Made) (now : Process)
    → IsInCall session before seen who number r p made now → IsInCall session before seen who (last_number before who + 1) r (process_after before who) made now
told_call session before seen who number r p made now is =
    subst (λ n. IsInCall session before seen who n r (process_after before who) made now) is.counted
    (subst (λ q. IsInCall session before seen who number r q made now) (sym is.was) is)
