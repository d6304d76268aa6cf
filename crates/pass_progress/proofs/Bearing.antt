-- A fork that did not go through has borne no child.
use Rattle.std.proofs.Common.{◌≡◌, ◌≤◌, ◌+◌, ◌-◌, ℕ, zero, suc, List, [], ◌∷◌, ◌++◌, length, take, refl, ap, sym, ◌∙◌, subst, arith, true, ◌||◌, ◌==◌, cond, length-append}
use Rattle.std.specs.Prelude.{Some, Err, drop, option_map, slice_get}
use Rattle.std.proofs.lemmas.List.{append-nil, length-map, take-append-drop}
use Rattle.std.proofs.lemmas.Option.{get_or_from_slice_get, slice_get_within}
use Rattle.pass_entry.specs.declared.entry.Act.TheVariants as act
use Rattle.pass_entry.specs.declared.entry.CallFault.{CallFault}
use Rattle.pass_entry.specs.declared.entry.Entry.{Entry}
use Rattle.pass_entry.specs.declared.entry.Reply.TheVariants as answer
use Rattle.pass_entry.proofs.Places.{slice_get-last}
use Rattle.pass_plain.specs.declared.request.Request.TheVariants as requests
use Rattle.pass_plain.specs.CallLaws.{IsBegun}
use Rattle.pass_plain.specs.Calls.{Made, call_steps, is_last_act}
use Rattle.pass_plain.specs.Histories.{call_entries, is_fault, is_of_call}
use Rattle.pass_plain.specs.Legal.{before_call, ends_call, is_over, last_number, step_of}
use Rattle.pass_plain.specs.Processes.{Held, Process}
use Rattle.pass_plain.specs.Replies.{reply_to}
use Rattle.pass_plain.specs.Runs.{next_number}
use Rattle.pass_plain.specs.Sessions.{Session}
use Rattle.pass_plain.proofs.Calling.{call_entries-append, numbered}
use Rattle.pass_plain.proofs.Going.{step_number_law}
use Rattle.pass_plain.proofs.Lists.{both_true, same_itself, some_is}
use Rattle.pass_plain.proofs.Replays.{take-next}
use Rattle.pass_plain.proofs.Rows.{Row, row_of_step}
use Rattle.pass_plain.proofs.OtherCalls.{ends_last}
use Rattle.pass_hold.specs.Goings.{HasNotAnswered, IsStepAt}
use Rattle.pass_hold.proofs.Callings.{no_zero}
use Rattle.pass_proc.specs.CallEnds.{last_reply}
use Rattle.pass_proc.specs.Procs.{ProcView}
use Rattle.pass_answer.specs.declared.answer.CallEnd.TheVariants as ends
use Rattle.pass_progress.specs.Progress.{HasGoneOn, ChildlessLaw, NumberLaw}
use Rattle.pass_progress.proofs.Answering.{progress_law}
use Rattle.pass_progress.proofs.Positions.{calls_begin, next_of_over}
use Rattle.pass_progress.proofs.Rests.{beginning}
use Rattle.pass_progress.proofs.Since.{last_below}

take_short : {X : Type 0} (n : ℕ) (xs : List X) → length (take n xs) ≤ length xs
take_short zero [] = omega arith
take_short zero (x ∷ xs) = omega arith
take_short (suc n) [] = omega arith
take_short (suc n) (x ∷ xs) = let z = take_short n xs in omega (arith, z)

nothing_behind : {X : Type 0} (xs : List X) → length xs ≤ 0 → xs ≡ []
nothing_behind [] low = refl
nothing_behind (x ∷ xs) low = absurd (omega (arith, low))

last_told : (front : Made) (s : ℕ × Entry) → last_reply (front ++ s ∷ []) ≡ Some s.1.reply
last_told front s =
    ap (λ o. option_map (λ (s : ℕ × Entry). s.1.reply) o)
    (ap (λ n. slice_get (front ++ s ∷ []) n) (let z : length (front ++ s ∷ []) - 1 ≡ length front = omega (arith, length-append front (s ∷ [])) in z) ∙ slice_get-last front s)

-- the process is in a fork, and has borne a child by this entry
module _ (session : Session) (old new : ProcView) (on : HasGoneOn session old new requests.Fork) (n : ℕ) (e : Entry) (out : ℕ) (held : Held) (at : slice_get new.seen n ≡ Some e) (le : length old.seen ≤ n)
    (by : e.who ≡ old.who) (born : e.act ≡ act.Born out held) where
  abbrev who : ℕ
  who = old.who

  abbrev number : ℕ
  number = next_number old.seen old.who

  abbrev h : List Entry
  h = take n new.seen

  abbrev front : Made
  front = call_entries h who number

  abbrev state : Process
  state = before_call old.seen who number

  abbrev made : Made
  made = call_entries new.seen who number

  abbrev place : ℕ × Entry
  place = (length h, e)

  step : IsStepAt who number requests.Fork state h e
  step = on.goes.steps n e at by le

  there : slice_get (call_steps who state front requests.Fork) (length front) ≡ Some (e.what, act.Born out held)
  there = step.step ∙ ap (λ a. Some (e.what, a)) born

  row : Row who state front (call_steps who state front requests.Fork) (length front) e.what (act.Born out held)
  row = row_of_step who state front requests.Fork refl (length front) (e.what, act.Born out held) there

  done : e.reply ≡ answer.Done
  done = some_is e.reply answer.Done (sym (on.goes.legal n e at).replied ∙ ap (λ a. reply_to session h e.what a) born)

  own : is_of_call who number e ≡ true
  own = both_true (e.who == who) (e.number == number) (ap (λ w. w == who) by ∙ same_itself who) (ap (λ k. k == number) step.counted ∙ same_itself number)

  longer : take (n + 1) new.seen ≡ h ++ e ∷ []
  longer = take-next new.seen n e (slice_get_within new.seen n e at) (sym (get_or_from_slice_get new.seen n e e at))

  -- its entry is the call's last one
  only : made ≡ front ++ place ∷ []
  only =
      let (others, both) = calls_begin (h ++ e ∷ []) (drop (n + 1) new.seen) who number in
      let here : call_entries (h ++ e ∷ []) who number ≡ front ++ place ∷ [] = call_entries-append h e who number ∙ ap (λ b. front ++ cond b (place ∷ []) []) own in
      let whole : (front ++ place ∷ []) ++ others ≡ made =
      ap (λ m. m ++ others) (sym here) ∙ both ∙ ap (λ h. call_entries (h ++ drop (n + 1) new.seen) who number) (sym longer) ∙ ap (λ h. call_entries h who number) (take-append-drop (n + 1) new.seen) in
      let steps : IsBegun who state made requests.Fork = subst (λ (p : Process). IsBegun who p made requests.Fork) on.before on.steps in
      let few : length made ≤ length (call_steps who state made requests.Fork) =
      subst (λ k. k ≤ length (call_steps who state made requests.Fork)) (sym (ap length steps) ∙ length-map made step_of) (take_short (length made) (call_steps who state made requests.Fork)) in
      let many = step_number_law who state made front requests.Fork in
      let end : suc (length front) ≡ length (call_steps who state front requests.Fork) = row.2 in
      let size = ap length whole in
      let parts = length-append (front ++ place ∷ []) others in
      let parts_before = length-append front (place ∷ []) in
      let none : others ≡ [] = nothing_behind others (omega (arith, few, many, end, size, parts, parts_before)) in
      sym whole ∙ ap (λ m. (front ++ place ∷ []) ++ m) none ∙ append-nil (front ++ place ∷ [])

  over : is_over new.seen who number ≡ true
  over =
      let p = before_call new.seen who number in
      ap (ends_call p) only ∙ ends_last p front place ∙ (λ i. is_fault (done i) || is_last_act p (step.named i) (born i))

  -- so the call is over
  pub not_under_way : HasNotAnswered who requests.Fork old.seen new.seen → ⊥
  not_under_way u =
      let high = (numbered session new.seen on.goes.legal).below n e at in
      let of_who : last_number new.seen e.who ≡ last_number new.seen who = ap (λ w. last_number new.seen w) by in
      let low = last_below new.seen who in
      let stays = u.next in
      let counted = step.counted in
      let last : last_number new.seen who ≡ number = omega (arith, high, of_who, low, stays, counted) in
      let next = next_of_over new.seen who number last (λ none. no_zero session new.seen who n e on.goes.legal on.goes.begun at by (step.counted ∙ none)) over in
      omega (arith, next, stays)

  -- and not by a fault
  pub no_fault : (f : CallFault) (call : Made) → made ≡ call → last_reply call ≡ Some (answer.Fault f) → ⊥
  no_fault f call is last =
      let z : answer.Done ≡ answer.Fault f = sym done ∙ some_is e.reply (answer.Fault f) (sym (last_told front place) ∙ ap last_reply (sym only ∙ is) ∙ last) in
      absurd (cc)

pub childless_law : ChildlessLaw
childless_law session places old new (ends.Fault f) between after may a n e out held at le by born =
    let b = beginning session old between requests.Fork may in
    no_fault session old new (progress_law session places old new requests.Fork (Err (ends.Fault f)) between after may a).on n e out held at le by born f a.0.made
    (ap (λ k. call_entries new.seen old.who k) b.next ∙ a.0.call.made_is) a.0.last
childless_law session places old new ends.Again between after may a n e out held at le by born =
    let is = (progress_law session places old new requests.Fork (Err ends.Again) between after may a).0 in
    not_under_way session old new is.on n e out held at le by born is.unanswered
childless_law session places old new (ends.DiskFault opened now) between after may a n e out held at le by born = absurd a
childless_law session places old new (ends.Full left need) between after may a n e out held at le by born =
    let is = (progress_law session places old new requests.Fork (Err (ends.Full left need)) between after may a).0 in
    not_under_way session old new is.on n e out held at le by born is.unanswered
childless_law session places old new ends.NoMemory between after may a n e out held at le by born =
    let is = progress_law session places old new requests.Fork (Err ends.NoMemory) between after may a in
    not_under_way session old new is.on n e out held at le by born is.unanswered

pub number_law : NumberLaw
number_law session old new r after is =
    let last = after.idle.last in
    let rest = is.rest in
    let next : next_number new.seen new.who ≡ next_number old.seen old.who + 1 = ap (λ w. next_number new.seen w) is.on.who ∙ is.answered.next in
    omega (arith, last, rest, next)
