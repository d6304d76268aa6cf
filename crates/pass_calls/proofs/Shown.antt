-- A call by which a process shows bytes to an object, which then takes them: two entries.
use Rattle.std.proofs.Common.{◌≡◌, ℕ, ◌+◌, ◌-◌, ◌<◌, List, [], ◌∷◌, ◌++◌, length, refl, ap, sym, ◌∙◌, arith, Bool, true, false, ◌||◌, length-append}
use Rattle.std.specs.Prelude.{None, Some, slice_get, if◌then◌else◌}
use Rattle.pass_entry.specs.declared.entry.Act.{Act}
use Rattle.pass_entry.specs.declared.entry.Act.TheVariants as act
use Rattle.pass_entry.specs.declared.entry.Entry.{Entry}
use Rattle.pass_entry.specs.declared.entry.Reply.TheVariants as answer
use Rattle.pass_entry.specs.declared.objects.Node.{Node}
use Rattle.pass_plain.specs.declared.request.Request.{Request}
use Rattle.pass_plain.specs.Calls.{Made, is_last_act, is_within, name_of, refused_ask, steps_of}
use Rattle.pass_plain.specs.Legal.{is_start}
use Rattle.pass_plain.specs.Places.{is_exit, need_of}
use Rattle.pass_plain.specs.Processes.{Process, changed_at, process_act, risen}
use Rattle.pass_plain.specs.Sessions.{Session}
use Rattle.pass_plain.specs.Versions.{nodes_of}
use Rattle.pass_hold.specs.Callings.{IsCallMade, IsEntered, IsGoing, IsIdle, HasGone}
use Rattle.pass_hold.specs.Entering.{MayEnter}
use Rattle.pass_hold.proofs.Callings.{call_made, entry_of, idle_again, more}
use Rattle.pass_proc.proofs.Steps.{begun}
use Rattle.pass_answer.proofs.Steps.{gone_by, gone_own, next_may}

abbrev pub shown : Process → ℕ → ℕ → Process
shown p fd len = record p { descriptors = changed_at p.descriptors fd (risen len) }

module _ (session : Session) (seen : List Entry) (who number : ℕ) (r : Request) (p : Process) (idle : IsIdle session seen who (number - 1) p) (some : 0 < number)
    (fine : refused_ask p r ≡ None) (ordinary : is_start (name_of r) || is_exit (name_of r) ≡ false) (within : is_within r ≡ true) (need : need_of (name_of r) ≡ 3)
    (fd len : ℕ) (shows : slice_get (steps_of who p [] r) 0 ≡ Some (who, act.Show fd len)) (on : is_last_act p (name_of r) (act.Show fd len) ≡ false) where
  abbrev e : Entry
  e = entry_of who number r who (act.Show fd len) answer.Done

  first : IsGoing session seen seen who number r p [] p
  first = begun session seen who number p r idle some

  pub show_may : MayEnter seen e 2
  show_may = next_may session seen seen who number r p [] p fine who (act.Show fd len) shows answer.Done ordinary within first 2 (sym (at_last (is_last_act p (name_of r) (act.Show fd len)) on))
    where
      at_last : (b : Bool) → b ≡ false → ◌≡◌ {A = ℕ} (if b then 0 else need_of (name_of r) - 1) 2
      at_last false told = ap (λ n. n - 1) need
      at_last true told = absurd (cc)

  module _ (desk after : List Entry) (out : ℕ) (at : out + 1 ≡ length after) (entered : IsEntered session seen desk after e) where
    abbrev one : Made
    one = (length entered.past, e) ∷ []

    abbrev now : Process
    now = shown p fd len

    place_is : length entered.past ≡ out
    place_is = let longer = ap length entered.whole ∙ length-append entered.past (e ∷ []) in omega (arith, longer, at)

    gone : HasGone session seen after who number r p one now
    gone = gone_own session seen seen who number r p [] p fine who (act.Show fd len) shows answer.Done desk after first entered refl refl

    going : IsGoing session seen after who number r p one now
    going = more session seen after who number r p one now gone on idle.lives

    module _ (what : ℕ) (a : Act) (takes : slice_get (steps_of who p ((out, e) ∷ []) r) 1 ≡ Some (what, a)) (last : is_last_act p (name_of r) a ≡ true) where
      abbrev f : Entry
      f = entry_of who number r what a answer.Done

      second : slice_get (steps_of who p one r) 1 ≡ Some (what, a)
      second = ap (λ n. slice_get (steps_of who p ((n, e) ∷ []) r) 1) place_is ∙ takes

      pub take_may : MayEnter after f 0
      take_may = next_may session seen after who number r p one now fine what a second answer.Done ordinary within going 0 (sym (at_last (is_last_act p (name_of r) a) last))
        where
          at_last : (b : Bool) → b ≡ true → ◌≡◌ {A = ℕ} (if b then 0 else need_of (name_of r) - 2) 0
          at_last true told = refl
          at_last false told = absurd (cc)

      module _ (own later : List Entry) (taken : IsEntered session after own later f) (still : process_act taken.past now a ≡ now) where
        abbrev pub two : Made
        two = one ++ (length taken.past, f) ∷ []

        gone_on : HasGone session seen later who number r p two now
        gone_on = gone_by session seen after who number r p one now fine what a second answer.Done own later going taken still

        pub both_made : IsCallMade session who seen later r two
        both_made = call_made session seen later who number r p two now gone_on last

        pub both_idle : IsIdle session later who number now
        both_idle = idle_again session seen later who number r p two now gone_on last idle.lives

        -- the node at the last entry's place
        pub node_at : (to : Node) → slice_get (nodes_of session later) (length later - 1) ≡ Some to → slice_get (nodes_of session later) (length taken.past) ≡ Some to
        node_at to at_last =
            let longer = ap length taken.whole ∙ length-append taken.past (f ∷ []) in
            let place : length taken.past ≡ length later - 1 = omega (arith, longer) in
            ap (λ n. slice_get (nodes_of session later) n) place ∙ at_last
