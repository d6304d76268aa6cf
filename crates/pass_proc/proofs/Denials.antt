-- A call that its process refuses: the process after it, and the call.
use Rattle.std.proofs.Common.{◌≡◌, ℕ, ◌-◌, ◌<◌, ◌≤◌, ◌^◌, List, [], ◌∷◌, length, refl, ap, sym, ◌∙◌, subst, true, false}
use Rattle.std.specs.Prelude.{Some, None, slice_get}
use Rattle.std.specs.Option.{option_map_or}
use Rattle.pass_entry.specs.declared.entry.Act.TheVariants as act
use Rattle.pass_entry.specs.declared.entry.Ask.{Ask}
use Rattle.pass_entry.specs.declared.entry.CallFault.{CallFault}
use Rattle.pass_entry.specs.declared.entry.CallName.{CallName}
use Rattle.pass_entry.specs.declared.entry.Entry.{Entry}
use Rattle.pass_entry.specs.declared.entry.Reply.TheVariants as answer
use Rattle.pass_plain.specs.declared.request.Request.{Request}
use Rattle.pass_plain.specs.declared.request.Request.TheVariants as requests
use Rattle.pass_plain.specs.Calls.{Made, Step, name_of, ask_of, is_within, call_steps, steps_of, refused_ask}
use Rattle.pass_plain.specs.Legal.{is_start}
use Rattle.pass_plain.specs.Places.{is_exit}
use Rattle.pass_plain.specs.Processes.{Process, new_process, process_act, process_after, refusal}
use Rattle.pass_plain.specs.Sessions.{Session}
use Rattle.pass_plain.proofs.Replays.{own_step-fault}
use Rattle.pass_hold.specs.Callings.{IsEntered, IsIdle, IsGoing, HasGone}
use Rattle.pass_hold.specs.Entering.{MayEnter}
use Rattle.pass_hold.proofs.Callings.{allows, keeps_going, goes, call_made, idle_again}
use Rattle.pass_hold.proofs.Objects.{object_after, stays}
use Rattle.pass_proc.specs.Acts.{own_entry}
use Rattle.pass_proc.specs.CallEnds.{HasReplied}
use Rattle.pass_proc.specs.Views.{ProcessView, IsProcess}
use Rattle.pass_proc.proofs.Steps.{begun}

-- the process
pub denied : (session : Session) (line after : List Entry) (number : ℕ) (call : CallName) (p : ProcessView) → IsProcess session p → (a : Ask) (f : CallFault)
    → IsEntered session line p.seen after (own_entry p.who number call (act.Deny a) (answer.Fault f)) → length after ≤ 2 ^ 32 → IsProcess session (record p { seen = after })
denied session line after number call p is a f entered few =
    let e = own_entry p.who number call (act.Deny a) (answer.Fault f) in
    record {
      state = object_after session line p.seen after e entered (λ past p e. process_act past p e.act) new_process
          ∙ own_step-fault (λ past p e. process_act past p e.act) p.who entered.past (process_after p.seen p.who) e refl ∙ is.state;
      node = is.node;
      lineage = stays session line p.seen after e entered p.lineage is.node is.lineage refl refl refl;
      sources = is.sources;
      few = few;
    }

-- the call

ordinary : (r : Request) (a : Ask) → ask_of r ≡ Some a → is_start (name_of r) ≡ false
ordinary requests.Start a asked = absurd (cc)
ordinary _ a asked = refl

no_exit : (r : Request) (a : Ask) → ask_of r ≡ Some a → is_exit (name_of r) ≡ false
no_exit requests.Exit a asked = absurd (cc)
no_exit _ a asked = refl

module _ (session : Session) (seen : List Entry) (who number : ℕ) (p : Process) (r : Request) (a : Ask) (f : CallFault)
    (idle : IsIdle session seen who (number - 1) p) (some : 0 < number) (refused : refusal p a ≡ Some f) (asked : ask_of r ≡ Some a) (within : is_within r ≡ true) where
  first : IsGoing session seen seen who number r p [] p
  first = begun session seen who number p r idle some

  abbrev denial : Step
  denial = (who, act.Deny a)

  asks : refused_ask p r ≡ Some a
  asks = ap (λ o. option_map_or (λ a. option_map_or (λ f. Some a) (refusal p a) None) o None) asked ∙ ap (λ o. option_map_or (λ f. Some a) o None) refused

  next : slice_get (call_steps who p [] r) 0 ≡ Some denial
  next = ap (λ o. slice_get (option_map_or (λ a. (who, act.Deny a) ∷ []) o (steps_of who p [] r)) 0) asks

  pub deny_may : MayEnter seen (own_entry who number (name_of r) (act.Deny a) (answer.Fault f)) 0
  deny_may = record {
    exit = no_exit r a asked;
    allows = allows session seen seen who number r p [] p who (act.Deny a) (answer.Fault f) next first (ordinary r a asked) within;
    keep = sym (keeps_going session seen seen who number r p [] p who (act.Deny a) (answer.Fault f) next first.is);
  }

  module _ (desk after : List Entry) (entered : IsEntered session seen desk after (own_entry who number (name_of r) (act.Deny a) (answer.Fault f))) where
    abbrev one : Made
    one = (length entered.past, own_entry who number (name_of r) (act.Deny a) (answer.Fault f)) ∷ []

    gone : HasGone session seen after who number r p one p
    gone = subst (λ q. HasGone session seen after who number r p one q) (own_step-fault (λ past p e. process_act past p e.act) who entered.past p (own_entry who number (name_of r) (act.Deny a) (answer.Fault f)) refl)
        (goes session seen seen who number r p [] p who (act.Deny a) (answer.Fault f) next desk after first.is entered)

    pub denied_call : HasReplied session who seen after r (answer.Fault f)
    denied_call = record { made = one; call = call_made session seen after who number r p one p gone refl; last = refl }

    pub denied_idle : IsIdle session after who number p
    denied_idle = idle_again session seen after who number r p one p gone refl idle.lives
