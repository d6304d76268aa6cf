-- The two steps of a call that asks the registry for an object and attaches a descriptor of it.
use Rattle.std.proofs.Common.{◌≡◌, ℕ, ◌+◌, ◌-◌, ◌<◌, List, [], ◌∷◌, ◌++◌, length, refl, ap, sym, ◌∙◌, subst, arith, Bool, true, false, ◌||◌}
use Rattle.std.specs.Prelude.{Option, Some, None, slice_get, if◌then◌else◌}
use Rattle.pass_entry.specs.declared.entry.Entry.{Entry}
use Rattle.pass_entry.specs.declared.entry.Act.{Act}
use Rattle.pass_entry.specs.declared.entry.CallFault.{CallFault}
use Rattle.pass_entry.specs.declared.entry.Reply.{Reply}
use Rattle.pass_entry.specs.declared.entry.Reply.TheVariants as answer
use Rattle.pass_plain.specs.declared.request.Request.{Request}
use Rattle.pass_plain.specs.Calls.{Made, ask_of, is_last_act, is_within, name_of, refused_ask, steps_of}
use Rattle.pass_plain.specs.Histories.{is_fault}
use Rattle.pass_plain.specs.Legal.{ends_call, is_start}
use Rattle.pass_plain.specs.Places.{is_exit, kept_by, need_of}
use Rattle.pass_plain.specs.Processes.{Process, process_act, refusal}
use Rattle.pass_plain.specs.Sessions.{Session}
use Rattle.pass_hold.specs.Callings.{IsEntered, IsIdle, IsGoing, HasGone}
use Rattle.pass_hold.specs.Entering.{MayEnter}
use Rattle.pass_hold.proofs.Callings.{entry_of, more, call_made, idle_again}
use Rattle.pass_proc.specs.Acts.{own_entry}
use Rattle.pass_proc.specs.CallEnds.{HasReplied}
use Rattle.pass_proc.specs.declared.way.Way.{Way}
use Rattle.pass_proc.proofs.Steps.{begun}
use Rattle.pass_registry.specs.Desks.{on_registry}
use Rattle.pass_answer.specs.Answers.{HasMoved, Tells, resumes}
use Rattle.pass_calls.specs.Grants.{IsGranted, ask_of_grant, attach_of, attached_by, call_of, first_of, request_of}
use Rattle.pass_answer.specs.declared.answer.Moved.TheVariants as moved
use Rattle.pass_calls.specs.declared.granting.Attach.{Attach}
use Rattle.pass_calls.specs.declared.granting.Attach.TheVariants as attach
use Rattle.pass_calls.specs.declared.granting.Grant.{Grant}
use Rattle.pass_calls.specs.declared.granting.Grant.TheVariants as grant
use Rattle.pass_answer.proofs.Steps.{not_refused, next_may, gone_by, gone_own}

-- what the calls have in common
record IsTwoSteps (g : Grant) (r : Request) (a : Act) (t : Attach) : Type 0 where
  asked : ask_of r ≡ Some (ask_of_grant g)
  ordinary : is_start (name_of r) || is_exit (name_of r) ≡ false
  needs : need_of (name_of r) ≡ 3
  named : call_of t ≡ name_of r
  begun : (way : Option Way) → resumes way r ≡ false
  begins : (who : ℕ) (p : Process) → slice_get (steps_of who p [] r) 0 ≡ Some (0, a)
  stays : (past : List Entry) (p : Process) → process_act past p a ≡ p
  goes_on : (p : Process) → is_last_act p (name_of r) a ≡ false
  ends : (p : Process) (n : ℕ) → is_last_act p (name_of r) (attached_by t n) ≡ true

two_steps : (g : Grant) → IsTwoSteps g (request_of g) (first_of g) (attach_of g)
two_steps (grant.Bind fd name) = record { asked = refl; ordinary = refl; needs = refl; named = refl; begun = λ way. refl; begins = λ who p. refl; stays = λ past p. refl; goes_on = λ p. refl; ends = λ p n. refl }
two_steps (grant.Find fd name m) = record { asked = refl; ordinary = refl; needs = refl; named = refl; begun = λ way. refl; begins = λ who p. refl; stays = λ past p. refl; goes_on = λ p. refl; ends = λ p n. refl }
two_steps (grant.App fd list) = record { asked = refl; ordinary = refl; needs = refl; named = refl; begun = λ way. refl; begins = λ who p. refl; stays = λ past p. refl; goes_on = λ p. refl; ends = λ p n. refl }
two_steps (grant.Known fd pnode) = record { asked = refl; ordinary = refl; needs = refl; named = refl; begun = λ way. refl; begins = λ who p. refl; stays = λ past p. refl; goes_on = λ p. refl; ends = λ p n. refl }
two_steps (grant.Pipe reader writer list) = record { asked = refl; ordinary = refl; needs = refl; named = refl; begun = λ way. refl; begins = λ who p. refl; stays = λ past p. refl; goes_on = λ p. refl; ends = λ p n. refl }

-- it goes on with no write
pub new_grant : (g : Grant) (way : Option Way) → resumes way (request_of g) ≡ false
new_grant g way = (two_steps g).begun way

pub grant_needs : (g : Grant) → 3 ≡ need_of (name_of (request_of g))
grant_needs g = sym (two_steps g).needs

-- it attaches the object that it was answered, and answers that
record IsAnswered (session : Session) (g : Grant) (n : ℕ) : Type 0 where
  next : (who : ℕ) (p : Process) (place number : ℕ)
      → slice_get (steps_of who p ((place, on_registry who number (name_of (request_of g)) (first_of g) (answer.Made n)) ∷ []) (request_of g)) 1 ≡ Some (who, attached_by (attach_of g) n)
  tells : (after : List Entry) (now : Process) (place who number : ℕ) (rest : Made)
      → Tells session after now (request_of g) ((place, on_registry who number (name_of (request_of g)) (first_of g) (answer.Made n)) ∷ rest) (moved.Made n)

answered : (session : Session) (before after : List Entry) (g : Grant) (n : ℕ) → IsGranted session before after g n → IsAnswered session g n
answered session before after (grant.Bind fd name) n is = record { next = λ who p place number. refl; tells = λ after now place who number rest. refl }
answered session before after (grant.Find fd name m) n is = record { next = λ who p place number. refl; tells = λ after now place who number rest. refl }
answered session before after (grant.App fd list) n is = record { next = λ who p place number. refl; tells = λ after now place who number rest. refl }
answered session before after (grant.Known fd pnode) n is = record {
  next = λ who p place number. ap (λ (object : ℕ). Some (who, attached_by (attach_of (grant.Known fd pnode)) object)) is;
  tells = λ after now place who number rest. is;
}
answered session before after (grant.Pipe reader writer list) n is = record { next = λ who p place number. refl; tells = λ after now place who number rest. refl }

-- an attached descriptor is the same whatever came before, and its process lives on
attached_now : (past : List Entry) (p : Process) (t : Attach) (n : ℕ) → process_act past p (attached_by t n) ≡ process_act [] p (attached_by t n)
attached_now past p (attach.One call fd k m) n = refl
attached_now past p (attach.Ends reader writer) n = refl

attached_lives : (p : Process) (t : Attach) (n : ℕ) → (process_act [] p (attached_by t n)).ended ≡ p.ended
attached_lives p (attach.One call fd k m) n = refl
attached_lives p (attach.Ends reader writer) n = refl

module _ (session : Session) (seen : List Entry) (who number : ℕ) (p : Process) (g : Grant) (idle : IsIdle session seen who (number - 1) p) (some : 0 < number)
    (free : refusal p (ask_of_grant g) ≡ None) (within : is_within (request_of g) ≡ true) where
  abbrev r : Request
  r = request_of g

  abbrev first : Reply → Entry
  first reply = on_registry who number (name_of r) (first_of g) reply

  is : IsTwoSteps g r (first_of g) (attach_of g)
  is = two_steps g

  fine : refused_ask p r ≡ None
  fine = not_refused p r (ask_of_grant g) is.asked free

  going : IsGoing session seen seen who number r p [] p
  going = begun session seen who number p r idle some

  pub first_may : (reply : Reply) → MayEnter seen (first reply) (kept_by reply 2)
  first_may reply =
      next_may session seen seen who number r p [] p fine 0 (first_of g) (is.begins who p) reply is.ordinary within going (kept_by reply 2)
      (at_fault (is_fault reply) (is_last_act p (name_of r) (first_of g)) (is.goes_on p) (need_of (name_of r)) is.needs)
    where
      at_fault : (b l : Bool) → l ≡ false → (n : ℕ) → n ≡ 3 → ◌≡◌ {A = ℕ} (if b then 0 else 2) (if b || l then 0 else n - (0 + 1))
      at_fault true l on n three = refl
      at_fault false true on n three = absurd (cc)
      at_fault false false on n three = omega (arith, three)

  -- `asker` stands for the process in the entry that was made
  module _ (desk after : List Entry) (asker : ℕ) (of : asker ≡ who) (reply : Reply) (by : IsEntered session seen desk after (on_registry asker number (name_of r) (first_of g) reply)) where
    entered : IsEntered session seen desk after (first reply)
    entered = subst (λ w. IsEntered session seen desk after (on_registry w number (name_of r) (first_of g) reply)) of by

    abbrev one : Made
    one = (length entered.past, first reply) ∷ []

    gone : HasGone session seen after who number r p one p
    gone = gone_by session seen seen who number r p [] p fine 0 (first_of g) (is.begins who p) reply desk after going entered (is.stays entered.past p)

  -- the registry refuses it
  module _ (desk after : List Entry) (asker : ℕ) (of : asker ≡ who) (f : CallFault) (by : IsEntered session seen desk after (on_registry asker number (name_of r) (first_of g) (answer.Fault f))) where
    pub faulted : HasReplied session who seen after r (answer.Fault f)
    faulted = record {
      made = one desk after asker of (answer.Fault f) by;
      call = call_made session seen after who number r p (one desk after asker of (answer.Fault f) by) p (gone desk after asker of (answer.Fault f) by) refl;
      last = refl;
    }

    pub faulted_idle : IsIdle session after who number p
    faulted_idle = idle_again session seen after who number r p (one desk after asker of (answer.Fault f) by) p (gone desk after asker of (answer.Fault f) by) refl idle.lives

  -- it gets the object
  module _ (desk after : List Entry) (asker : ℕ) (of : asker ≡ who) (n : ℕ) (by : IsEntered session seen desk after (on_registry asker number (name_of r) (first_of g) (answer.Made n)))
      (before later : List Entry) (granted : IsGranted session before later g n) (t : Attach) (attached : t ≡ attach_of g) where
    abbrev made : Made
    made = one desk after asker of (answer.Made n) by

    on : IsGoing session seen after who number r p made p
    on = more session seen after who number r p made p (gone desk after asker of (answer.Made n) by) (is.goes_on p) idle.lives

    next : slice_get (steps_of who p made r) 1 ≡ Some (who, attached_by (attach_of g) n)
    next = (answered session before later g n granted).next who p (length (entered desk after asker of (answer.Made n) by).past) number

    abbrev second : Attach → Entry
    second t = own_entry who number (call_of t) (attached_by t n) answer.Done

    same : entry_of who number r who (attached_by (attach_of g) n) answer.Done ≡ second t
    same = ap (λ c. own_entry who number c (attached_by (attach_of g) n) answer.Done) (sym is.named) ∙ ap second (sym attached)

    pub second_may : MayEnter after (second t) 0
    second_may = subst (λ e. MayEnter after e 0) same
        (next_may session seen after who number r p made p fine who (attached_by (attach_of g) n) next answer.Done is.ordinary within on 0
        (sym (ap (λ b. if b then 0 else need_of (name_of r) - (1 + 1)) (is.ends p n))))

    module _ (own last : List Entry) (done : IsEntered session after own last (second t)) where
      abbrev now : Process
      now = process_act [] p (attached_by t n)

      again : IsEntered session after own last (entry_of who number r who (attached_by (attach_of g) n) answer.Done)
      again = subst (λ e. IsEntered session after own last e) (sym same) done

      abbrev two : Made
      two = made ++ (length again.past, entry_of who number r who (attached_by (attach_of g) n) answer.Done) ∷ []

      whole : HasGone session seen last who number r p two now
      whole = subst (λ q. HasGone session seen last who number r p two q)
          (attached_now again.past p (attach_of g) n ∙ ap (λ t. process_act [] p (attached_by t n)) (sym attached))
          (gone_own session seen after who number r p made p fine who (attached_by (attach_of g) n) next answer.Done own last on again refl refl)

      over : ends_call p two ≡ true
      over = is.ends p n

      pub given : HasMoved session who seen last now r (moved.Made n)
      given = record {
        made = two;
        call = call_made session seen last who number r p two now whole over;
        reply = answer.Done;
        last = refl;
        fine = refl;
        tells = (answered session before later g n granted).tells last now (length (entered desk after asker of (answer.Made n) by).past) who number ((length again.past, entry_of who number r who (attached_by (attach_of g) n) answer.Done) ∷ []);
      }

      pub given_idle : IsIdle session last who number now
      given_idle = idle_again session seen last who number r p two now whole over (attached_lives p t n ∙ idle.lives)
