-- The steps of an `exec`.
use Rattle.std.proofs.Common.{◌≡◌, ℕ, ◌+◌, ◌-◌, ◌<◌, List, [], ◌∷◌, ◌++◌, length, refl, ap, ◌∙◌, arith, Bool, true, false, ◌||◌, length-append}
use Rattle.std.specs.Prelude.{None, Result, Some, slice_get, if◌then◌else◌}
use Rattle.std.specs.FinMap as finite_map
use Rattle.pass_entry.specs.Texts.{is_line, is_name}
use Rattle.pass_entry.specs.declared.entry.Act.TheVariants as act
use Rattle.pass_entry.specs.declared.entry.CallFault.{CallFault}
use Rattle.pass_entry.specs.declared.entry.CallFault.TheVariants as fault
use Rattle.pass_entry.specs.declared.entry.Entry.{Entry}
use Rattle.pass_entry.specs.declared.entry.Reply.{Reply}
use Rattle.pass_entry.specs.declared.entry.Reply.TheVariants as answer
use Rattle.pass_plain.specs.declared.request.Request.{Request}
use Rattle.pass_plain.specs.declared.request.Request.TheVariants as requests
use Rattle.pass_plain.specs.Calls.{Made, is_within, refused_ask, steps_of}
use Rattle.pass_plain.specs.Histories.{is_fault}
use Rattle.pass_plain.specs.Places.{kept_by}
use Rattle.pass_plain.specs.Processes.{Process}
use Rattle.pass_plain.specs.Registries.{Registry}
use Rattle.pass_plain.specs.Replies.{found as found_reply}
use Rattle.pass_plain.specs.States.{registry_reply}
use Rattle.pass_plain.specs.Sessions.{Session}
use Rattle.pass_plain.proofs.Lists.{both_true}
use Rattle.pass_hold.specs.Callings.{IsEntered, IsGoing, IsIdle, HasGone}
use Rattle.pass_hold.specs.Entering.{MayEnter}
use Rattle.pass_hold.proofs.Callings.{call_made, entry_of, idle_again, more}
use Rattle.pass_proc.specs.CallEnds.{HasReplied}
use Rattle.pass_registry.specs.Outcomes.{reply_made}
use Rattle.pass_proc.proofs.Steps.{begun}
use Rattle.pass_answer.specs.Answers.{HasMoved}
use Rattle.pass_answer.specs.declared.answer.Moved.TheVariants as moved
use Rattle.pass_answer.proofs.Steps.{gone_by, gone_own, next_may, not_asked}

-- the registry's answer where a file has the name, and where none has it
pub answers_file : (session : Session) (r : Registry) (name : List ℕ) (file : ℕ) (result : Result ℕ CallFault) → reply_made result ≡ registry_reply session r (act.Find name)
    → finite_map.get r.names name ≡ Some file → reply_made result ≡ answer.Made file
answers_file session r name file result told named = told ∙ ap found_reply named

pub answers_none : (session : Session) (r : Registry) (name : List ℕ) (result : Result ℕ CallFault) → reply_made result ≡ registry_reply session r (act.Find name)
    → finite_map.get r.names name ≡ None → reply_made result ≡ answer.Fault fault.NoEntry
answers_none session r name result told none = told ∙ ap found_reply none

module _ (session : Session) (seen : List Entry) (who number : ℕ) (p : Process) (name args : List ℕ) (idle : IsIdle session seen who (number - 1) p) (some : 0 < number)
    (named : is_name name ≡ true) (lined : is_line args ≡ true) where
  abbrev r : Request
  r = requests.Exec name args

  fine : refused_ask p r ≡ None
  fine = not_asked p r refl

  within : is_within r ≡ true
  within = both_true (is_name name) (is_line args) named lined

  abbrev e : Reply → Entry
  e reply = entry_of who number r 0 (act.Find name) reply

  first : IsGoing session seen seen who number r p [] p
  first = begun session seen who number p r idle some

  pub find_may : (reply : Reply) → MayEnter seen (e reply) (kept_by reply 2)
  find_may reply = next_may session seen seen who number r p [] p fine 0 (act.Find name) refl reply refl within first (kept_by reply 2) (at_fault (is_fault reply))
    where
      at_fault : (b : Bool) → ◌≡◌ {A = ℕ} (if b then 0 else 2) (if b || false then 0 else 2)
      at_fault true = refl
      at_fault false = refl

  module _ (desk after : List Entry) (reply : Reply) (entered : IsEntered session seen desk after (e reply)) where
    abbrev one : Made
    one = (length entered.past, e reply) ∷ []

    gone : HasGone session seen after who number r p one p
    gone = gone_by session seen seen who number r p [] p fine 0 (act.Find name) refl reply desk after first entered refl

  -- no file has the name
  module _ (desk after : List Entry) (f : CallFault) (entered : IsEntered session seen desk after (e (answer.Fault f))) where
    pub not_found : HasReplied session who seen after r (answer.Fault f)
    not_found = record {
      made = one desk after (answer.Fault f) entered;
      call = call_made session seen after who number r p (one desk after (answer.Fault f) entered) p (gone desk after (answer.Fault f) entered) refl;
      last = refl;
    }

    pub not_found_idle : IsIdle session after who number p
    not_found_idle = idle_again session seen after who number r p (one desk after (answer.Fault f) entered) p (gone desk after (answer.Fault f) entered) refl idle.lives

  -- the file is found
  module _ (file : ℕ) (desk after : List Entry) (entered : IsEntered session seen desk after (e (answer.Made file))) where
    abbrev found : Made
    found = one desk after (answer.Made file) entered

    going : IsGoing session seen after who number r p found p
    going = more session seen after who number r p found p (gone desk after (answer.Made file) entered) refl idle.lives

    abbrev f : Entry
    f = entry_of who number r file act.Load answer.Done

    pub load_may : MayEnter after f 1
    load_may = next_may session seen after who number r p found p fine file act.Load refl answer.Done refl within going 1 refl

    module _ (own later : List Entry) (out : ℕ) (at : out + 1 ≡ length later) (loaded : IsEntered session after own later f) where
      abbrev two : Made
      two = found ++ (length loaded.past, f) ∷ []

      place_is : length loaded.past ≡ out
      place_is = let longer = ap length loaded.whole ∙ length-append loaded.past (f ∷ []) in omega (arith, longer, at)

      going_on : IsGoing session seen later who number r p two p
      going_on = more session seen later who number r p two p (gone_by session seen after who number r p found p fine file act.Load refl answer.Done own later going loaded refl) refl idle.lives

      abbrev g : Entry
      g = entry_of who number r who (act.Exec out name args) answer.Done

      third : slice_get (steps_of who p two r) 2 ≡ Some (who, act.Exec out name args)
      third = ap (λ n. Some (who, act.Exec n name args)) place_is

      pub run_may : MayEnter later g 0
      run_may = next_may session seen later who number r p two p fine who (act.Exec out name args) third answer.Done refl within going_on 0 refl

      module _ (mine last : List Entry) (run : IsEntered session later mine last g) where
        abbrev three : Made
        three = two ++ (length run.past, g) ∷ []

        abbrev pub now : Process
        now = record p { last_read = [] }

        gone_all : HasGone session seen last who number r p three now
        gone_all = gone_own session seen later who number r p two p fine who (act.Exec out name args) third answer.Done mine last going_on run refl refl

        pub run_made : HasMoved session who seen last now r moved.Done
        run_made = record {
          made = three;
          call = call_made session seen last who number r p three now gone_all refl;
          reply = answer.Done;
          last = refl;
          fine = refl;
          tells = tt;
        }

        pub run_idle : IsIdle session last who number now
        run_idle = idle_again session seen last who number r p three now gone_all refl idle.lives
