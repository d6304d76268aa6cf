-- A call of one step, on an object that is not its process.
use Rattle.std.proofs.Common.{◌≡◌, ℕ, ◌+◌, ◌-◌, ◌<◌, List, [], ◌∷◌, length, ap, sym, ◌∙◌, arith, true, false, ◌||◌, length-append}
use Rattle.std.specs.Prelude.{Some, None, slice_get, if◌then◌else◌}
use Rattle.pass_entry.specs.declared.entry.Act.{Act}
use Rattle.pass_entry.specs.declared.entry.Entry.{Entry}
use Rattle.pass_entry.specs.declared.entry.Reply.{Reply}
use Rattle.pass_plain.specs.declared.request.Request.{Request}
use Rattle.pass_plain.specs.Calls.{Made, is_last, is_within, name_of, refused_ask, steps_of}
use Rattle.pass_plain.specs.Legal.{is_start}
use Rattle.pass_plain.specs.Places.{is_exit, need_of}
use Rattle.pass_plain.specs.Processes.{Process, process_act}
use Rattle.pass_plain.specs.Sessions.{Session}
use Rattle.pass_hold.specs.Callings.{IsEntered, IsIdle, IsGoing, HasGone, IsCallMade}
use Rattle.pass_hold.specs.Entering.{MayEnter}
use Rattle.pass_hold.proofs.Callings.{entry_of, call_made, idle_again}
use Rattle.pass_proc.proofs.Steps.{begun}
use Rattle.pass_answer.proofs.Steps.{next_may, gone_by}

-- the place of an entry that was made last
pub place_is : (session : Session) (line desk after : List Entry) (e : Entry) (entered : IsEntered session line desk after e) (place : ℕ) → place + 1 ≡ length after → length entered.past ≡ place
place_is session line desk after e entered place at = let longer = ap length entered.whole ∙ length-append entered.past (e ∷ []) in omega (arith, longer, at)

module _ (session : Session) (seen : List Entry) (who number : ℕ) (p : Process) (r : Request) (what : ℕ) (a : Act) (reply : Reply)
    (idle : IsIdle session seen who (number - 1) p) (some : 0 < number) (fine : refused_ask p r ≡ None) (at : slice_get (steps_of who p [] r) 0 ≡ Some (what, a))
    (ordinary : is_start (name_of r) || is_exit (name_of r) ≡ false) (within : is_within r ≡ true) (last : is_last p (entry_of who number r what a reply) ≡ true) where
  abbrev e : Entry
  e = entry_of who number r what a reply

  first : IsGoing session seen seen who number r p [] p
  first = begun session seen who number p r idle some

  pub only_may : MayEnter seen e 0
  only_may = next_may session seen seen who number r p [] p fine what a at reply ordinary within first 0 (sym (ap (λ b. if b then 0 else need_of (name_of r) - (0 + 1)) last))

  module _ (desk after : List Entry) (entered : IsEntered session seen desk after e) (same : process_act entered.past p a ≡ p) where
    abbrev one : Made
    one = (length entered.past, e) ∷ []

    gone : HasGone session seen after who number r p one p
    gone = gone_by session seen seen who number r p [] p fine what a at reply desk after first entered same

    pub only_made : IsCallMade session who seen after r one
    only_made = call_made session seen after who number r p one p gone last

    pub only_idle : IsIdle session after who number p
    only_idle = idle_again session seen after who number r p one p gone last idle.lives
