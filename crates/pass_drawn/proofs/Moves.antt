-- A run of a drawn trace never gets stuck.
use Rattle.std.proofs.Common.{◌≡◌, ◌<◌, ◌≤◌, ◌+◌, ◌-◌, ℕ, List, [], ◌∷◌, ◌++◌, length, take, map, refl, ap, sym, ◌∙◌, subst, arith, ◌⊎◌, inl, inr, Bool, true, false, not, ◌||◌, ◌&&◌, ◌==◌, cond}
use Rattle.std.specs.Prelude.{Option, Some, None, option_map, slice_get, if◌then◌else◌}
use Rattle.std.specs.Option.{option_map_or}
use Rattle.std.proofs.lemmas.Bool.{cases_lt}
use Rattle.std.proofs.lemmas.Bool.Decides.{nat_tests}
use Rattle.std.proofs.lemmas.List.{length-map}
use Rattle.std.proofs.lemmas.Option.{slice_get_within, slice_get-map}
use Rattle.pass_entry.specs.declared.entry.Entry.{Entry}
use Rattle.pass_entry.specs.declared.entry.Act.{Act}
use Rattle.pass_entry.specs.declared.entry.Act.TheVariants as act
use Rattle.pass_entry.specs.declared.entry.CallName.TheVariants as call_name
use Rattle.pass_entry.specs.declared.entry.Reply.{Reply}
use Rattle.pass_entry.specs.declared.entry.Reply.TheVariants as answer
use Rattle.pass_entry.specs.declared.objects.Kind.TheVariants as kind
use Rattle.pass_entry.proofs.Places.{slice_get-take, Contains-place, slice_get-last}
use Rattle.pass_plain.specs.declared.request.Request.TheVariants as requests
use Rattle.pass_plain.specs.Histories.{call_entries, is_fault}
use Rattle.pass_plain.specs.Sessions.{Session}
use Rattle.pass_plain.specs.Replies.{reply_to}
use Rattle.pass_plain.specs.Processes.{Process, process_act, process_after, has_ended, is_file}
use Rattle.pass_plain.specs.Calls.{Step, Made, act_on, call_steps, steps_of, descriptor_at, is_last, is_last_act}
use Rattle.pass_plain.specs.Lawful.{sees_end}
use Rattle.pass_plain.specs.Legal.{IsLegal, before_call, last_number, is_over, step_of}
use Rattle.pass_plain.specs.Traces.{Line, LineCall, given, write_last, fork_as, wait_for, await_for, waited_for, lines_of, calls_of, request_of}
use Rattle.pass_plain.specs.Runs.{IsRun, first, forked_by, is_open, next_number, pnode_of_process, request_at, steps_at}
use Rattle.pass_plain.proofs.Lists.{some_is, is_place, in_filtered, alike}
use Rattle.pass_plain.proofs.Appends.{place_of, slice_get-append}
use Rattle.pass_plain.proofs.Calling.{legal_induction, of_call}
use Rattle.pass_plain.proofs.Rows.{Row, Holds, row_of_step}
use Rattle.pass_plain.proofs.TwoPrefixes.{process-append}
use Rattle.pass_plain.proofs.OtherCalls.{ended_act}
use Rattle.pass_replay.specs.Ends.{NoneCanMove, IsStuck}
use Rattle.pass_replay.proofs.Begun.{first_has_begun, child_has_begun}
use Rattle.pass_replay.proofs.Entries.{here_ends}
use Rattle.pass_replay.proofs.NextCalls.{numbered_as, none_above, unmade_not_over, over_within, call_cases, calls_length, line_behind, any_call, named_call, within_call, last_read_short, all_made_over}
use Rattle.pass_replay.proofs.Positions.{lines-append}
use Rattle.pass_replay.proofs.StepKinds.{exit_step}
use Rattle.pass_drawn.specs.Lawful.{NeverStuckLaw}
use Rattle.pass_drawn.specs.Runs.{drawn_trace}
use Rattle.pass_drawn.proofs.Tracing.{IsFirsts, IsChilds, line_drawn, call_drawn}
use Rattle.pass_drawn.proofs.Calls.{behind, first_step, holds_none}
use Rattle.pass_drawn.proofs.Firsts.{first_begins}

-- the next call of a process whose exit isn't over

next_if : (last count : ℕ) (none over : Bool) → (last == 0) ≡ none → (over ≡ true → last < count) → last ≤ count → 1 ≤ count
    → (1 ≤ cond none 1 (cond over (last + 1) last)) × (cond none 1 (cond over (last + 1) last) ≤ count)
next_if last count true over t less most some = (omega arith, some)
next_if last count false true t less most some = (omega arith, let z = less refl in omega (arith, z))
next_if last count false false t less most some = (let z : 1 ≤ last = grind (arith, nat_tests) in z, most)

next_within : (last count : ℕ) (over : Bool) → (over ≡ true → last < count) → last ≤ count → 1 ≤ count
    → (1 ≤ cond (last == 0) 1 (cond over (last + 1) last)) × (cond (last == 0) 1 (cond over (last + 1) last) ≤ count)
next_within last count over less most some = next_if last count (last == 0) over refl less most some

-- what isn't ready: a read from a pipe, a write to one, and a wait for a process that lives
abbrev Waits : List Entry → Process → ℕ → ℕ → Act → Type 0
Waits history p k what a =
    ((fd : ℕ) × Holds p fd × (is_file (descriptor_at p fd) ≡ false))
    ⊎ ((sees_end a ≡ true) × (k ≡ 0) × (has_ended history what ≡ false))

alive_if : (b : Bool) → (if b then Some answer.Done else None) ≡ None → b ≡ false
alive_if true h = absurd (cc)
alive_if false h = refl

waits : (session : Session) (history : List Entry) (who : ℕ) (p : Process) (made : Made) (steps : List Step) (k what : ℕ) (a : Act) → Row who p made steps k what a
    → reply_to session history what a ≡ None → Waits history p k what a
waits session history who p made steps k what (act.Take len) r none = inl (r.2, r.3, r.5)
waits session history who p made steps k what (act.Push out bytes) r none = inl (r.2, r.3, r.5)
waits session history who p made steps k what act.Reap r none = inr (refl, r.0, alive_if (has_ended history what) none)
waits session history who p made steps k what act.Ended r none = inr (refl, r.0, alive_if (has_ended history what) none)
waits session history who p made steps k what _ r none = absurd (cc)

-- only a wait looks for an end

reading_sees_none : (b : Bool) (at len : ℕ) → sees_end (if b then act.Give at len else act.Take len) ≡ true → ⊥
reading_sees_none true at len is = cc
reading_sees_none false at len is = cc

childs_see_none : (who : ℕ) (p : Process) (made : Made) (pnode : ℕ → ℕ) (last : List ℕ) (call : LineCall) (s : Step) → IsChilds call
    → slice_get (steps_of who p made (request_of pnode last call)) 0 ≡ Some s → sees_end s.1 ≡ true → ⊥
childs_see_none who p made pnode last (given (requests.Seek fd at)) s is step sees = let z : false ≡ true = ap (λ (s : Step). sees_end s.1) (some_is (act_on who (act.Seek fd at)) s step) ∙ sees in cc
childs_see_none who p made pnode last (given (requests.Read fd len)) s is step sees =
    reading_sees_none (is_file (descriptor_at p fd)) (descriptor_at p fd).offset len
    (ap (λ (s : Step). sees_end s.1) (some_is (act_on (descriptor_at p fd).pnode (if is_file (descriptor_at p fd) then act.Give (descriptor_at p fd).offset len else act.Take len)) s step) ∙ sees)
childs_see_none who p made pnode last (given (requests.Write fd bytes)) s is step sees =
    let z : false ≡ true = ap (λ (s : Step). sees_end s.1) (some_is (act_on who (act.Show fd (length bytes))) s step) ∙ sees in cc
childs_see_none who p made pnode last (given _) s is step sees = is
childs_see_none who p made pnode last (write_last fd) s is step sees = is
childs_see_none who p made pnode last (fork_as child) s is step sees = is
childs_see_none who p made pnode last (wait_for child) s is step sees = is
childs_see_none who p made pnode last (await_for child) s is step sees = is

-- the first process waits for one that it has forked
firsts_see : (who : ℕ) (p : Process) (made : Made) (pnode : ℕ → ℕ) (last : List ℕ) (call : LineCall) (s : Step) → IsFirsts call
    → slice_get (steps_of who p made (request_of pnode last call)) 0 ≡ Some s → sees_end s.1 ≡ true
    → (q : ℕ) × (call ≡ wait_for q) × (s.0 ≡ pnode q)
firsts_see who p made pnode last (given (requests.Creat fd name)) s is step sees = absurd (let z : false ≡ true = ap (λ (s : Step). sees_end s.1) (some_is (act_on 0 (act.Bind name)) s step) ∙ sees in cc)
firsts_see who p made pnode last (given _) s is step sees = absurd is
firsts_see who p made pnode last (write_last fd) s is step sees = absurd is
firsts_see who p made pnode last (fork_as child) s is step sees = absurd (let z : false ≡ true = ap (λ (s : Step). sees_end s.1) (some_is (act_on 0 (act.Mint kind.Process)) s step) ∙ sees in cc)
firsts_see who p made pnode last (wait_for q) s is step sees = (q, refl, ap (λ (s : Step). s.0) (sym (some_is (act_on (pnode q) act.Reap) s step)))
firsts_see who p made pnode last (await_for q) s is step sees = absurd is

exit_sees_none : (who : ℕ) (p : Process) (made : Made) (k : ℕ) (s : Step) → slice_get (call_steps who p made requests.Exit) k ≡ Some s → sees_end s.1 ≡ true → ⊥
exit_sees_none who p made k s step sees = elim (exit_step who p made k s step) [
  | inl leave ↦ (let z : false ≡ true = ap (λ (s : Step). sees_end s.1) leave.2 ∙ sees in cc)
  | inr finish ↦ (let z : false ≡ true = ap (λ (s : Step). sees_end s.1) finish ∙ sees in cc)
]

-- who has finished has ended

ended_if : (b : Bool) (p q : Process) → p.ended ≡ true → q.ended ≡ true → (cond b q p).ended ≡ true
ended_if true p q was now_too = now_too
ended_if false p q was now_too = was

pub ended_more : (history : List Entry) (e : Entry) (who : ℕ) → has_ended history who ≡ true → has_ended (history ++ e ∷ []) who ≡ true
ended_more history e who was =
    ap (λ (p : Process). p.ended) (process-append history e who)
    ∙ ended_if (e.what == who && not (is_fault e.reply)) (process_after history who) (process_act history (process_after history who) e.act) was (ended_act history (process_after history who) e.act was)

abbrev Finished : List Entry → Type 0
Finished history = (i : ℕ) (f : Entry) (who : ℕ) → slice_get history i ≡ Some f → f.what ≡ who → f.act ≡ act.Finish → is_fault f.reply ≡ false → has_ended history who ≡ true

finished_next : (history : List Entry) (e : Entry) → Finished history → Finished (history ++ e ∷ [])
finished_next history e all i f who at own finish done = elim (place_of history e i f at) [
  | inl l ↦ ended_more history e who (all i f who l.0 own finish done)
  | inr r ↦
      let same : e ≡ f = r.1 in
      here_ends history e who (ap (λ (e : Entry). e.what) same ∙ own) (ap (λ (e : Entry). e.act) same ∙ finish) (ap (λ (e : Entry). is_fault e.reply) same ∙ done)
]

finished : (session : Session) (history : List Entry) → IsLegal session history → Finished history
finished session = legal_induction session Finished (λ i f who at own finish done. absurd (cc)) (λ history e legal all next. finished_next history e all)

module _ (session : Session) (number lines : ℕ) (history : List Entry) (run : IsRun session (drawn_trace number lines) history) (some_object : 1 ≤ session.objects) (some : 0 < length history) where
  abbrev trace : List Line
  trace = drawn_trace number lines

  abbrev pnode : ℕ → Option ℕ
  pnode process = pnode_of_process session trace history process

  abbrev first_who : ℕ
  first_who = session.start.ceiling + 1

  is_first : pnode 1 ≡ Some first_who
  is_first = first_has_begun session trace history some

  -- a process that can't move, though its exit isn't over
  record IsHeld (process who : ℕ) : Type 0 where
    done : ℕ
    call : LineCall
    stands : slice_get (calls_of trace process) done ≡ Some call
    next : next_number history who ≡ done + 1
    step : Step
    at : slice_get (steps_at session trace history who (done + 1) call) (length (call_entries history who (done + 1))) ≡ Some step
    waits_so : Waits history (before_call history who (done + 1)) (length (call_entries history who (done + 1))) step.0 step.1

  held : (process who : ℕ) → pnode process ≡ Some who → is_over history who (length (calls_of trace process)) ≡ false → NoneCanMove session trace history → IsHeld process who
  held process who begun lives still =
      let size = calls_length trace process in
      let count = length (calls_of trace process) in
      let last = last_number history who in
      let less : is_over history who last ≡ true → last < count = λ over. elim (cases_lt last count) [
        | inl l ↦ l
        | inr most ↦
            let same : last ≡ count = (let z = run.last process who begun in omega (arith, z, most)) in
            absurd (let z : true ≡ false = sym over ∙ ap (λ n. is_over history who n) same ∙ lives in cc)
      ] in
      let (low, high) = next_within last count (is_over history who last) less (run.last process who begun) (omega (arith, size)) in
      let done = next_number history who - 1 in
      let next : next_number history who ≡ done + 1 = omega (arith, low) in
      let (call, stands) = is_place (calls_of trace process) done (omega (arith, low, high)) in
      let p = before_call history who (done + 1) in
      let made = call_entries history who (done + 1) in
      let request = request_at session trace history who (done + 1) call in
      let unmade : is_over history who (done + 1) ≡ false = elim (numbered_as history who done next) [
        | inr on ↦ on.1
        | inl before ↦ (let z = before.0 in unmade_not_over history who (done + 1) (none_above session history who (done + 1) run.legal (omega (arith, z))))
      ] in
      let left : length made < length (call_steps who p made request) = elim (cases_lt (length made) (length (call_steps who p made request))) [
        | inl l ↦ l
        | inr all ↦ absurd (
            let over = all_made_over who p made request (λ j s there. run.named process who done call begun stands j s there ∙ sym (named_call _ p.last_read call)) (run.lines process who done call begun stands) all in
            let z : true ≡ false = sym over ∙ unmade in cc)
      ] in
      let (step, at) = is_place (call_steps who p made request) (length made) left in
      let within = within_call _ p.last_read call (any_call trace process done call (behind session number lines history run) stands) (last_read_short session history who (done + 1) run.legal) in
      let row = row_of_step who p made request within (length made) step at in
      let none : reply_to session history step.0 step.1 ≡ None = unready process who begun done call stands next step at still in
      record {
        done = done;
        call = call;
        stands = stands;
        next = next;
        step = step;
        at = at;
        waits_so = waits session history who p made (call_steps who p made request) (length made) step.0 step.1 row none;
      }
    where
      at_reply : (process who : ℕ) → pnode process ≡ Some who → (done : ℕ) (call : LineCall) → slice_get (calls_of trace process) done ≡ Some call → next_number history who ≡ done + 1 → (step : Step)
          → slice_get (steps_at session trace history who (done + 1) call) (length (call_entries history who (done + 1))) ≡ Some step → NoneCanMove session trace history
          → (o : Option Reply) → reply_to session history step.0 step.1 ≡ o → reply_to session history step.0 step.1 ≡ None
      at_reply process who begun done call stands next step at still None is = is
      at_reply process who begun done call stands next step at still (Some reply) is =
          absurd (still process (record {
            who = who;
            begun = begun;
            call = call;
            next = ap (λ n. slice_get (calls_of trace process) n) (let z : next_number history who - 1 ≡ done = omega (arith, next) in z) ∙ stands;
            step = step;
            stands = subst (λ n. slice_get (steps_at session trace history who n call) (length (call_entries history who n)) ≡ Some step) (sym next) at;
            reply = reply;
            ready = is;
          }))

      unready : (process who : ℕ) → pnode process ≡ Some who → (done : ℕ) (call : LineCall) → slice_get (calls_of trace process) done ≡ Some call → next_number history who ≡ done + 1 → (step : Step)
          → slice_get (steps_at session trace history who (done + 1) call) (length (call_entries history who (done + 1))) ≡ Some step → NoneCanMove session trace history
          → reply_to session history step.0 step.1 ≡ None
      unready process who begun done call stands next step at still = at_reply process who begun done call stands next step at still (reply_to session history step.0 step.1) refl

  -- it waits for a process that lives
  held_sees : (process who : ℕ) (h : IsHeld process who) → (sees_end h.step.1 ≡ true) × (length (call_entries history who (h.done + 1)) ≡ 0) × (has_ended history h.step.0 ≡ false)
  held_sees process who h = elim h.waits_so [
    | inl pipe ↦ absurd (holds_none session number lines history run who (h.done + 1) pipe.0 pipe.1 pipe.2)
    | inr seen ↦ seen
  ]

  -- by the first step of its call
  first_sees : (process who : ℕ) (h : IsHeld process who)
      → slice_get (steps_of who (before_call history who (h.done + 1)) (call_entries history who (h.done + 1)) (request_at session trace history who (h.done + 1) h.call)) 0 ≡ Some h.step
  first_sees process who h =
      let (sees, none, alive) = held_sees process who h in
      let p = before_call history who (h.done + 1) in
      let made = call_entries history who (h.done + 1) in
      let request = request_at session trace history who (h.done + 1) h.call in
      elim (first_step who p made request h.step (ap (λ k. slice_get (call_steps who p made request) k) (sym none) ∙ h.at)) [
        | inl deny ↦ absurd (let z : false ≡ true = ap (λ (s : Step). sees_end s.1) deny.1 ∙ sees in cc)
        | inr own ↦ own
      ]

  exit_moves : (process who : ℕ) (h : IsHeld process who) → h.call ≡ given requests.Exit → ⊥
  exit_moves process who h exit =
      let p = before_call history who (h.done + 1) in
      let made = call_entries history who (h.done + 1) in
      exit_sees_none who p made (length made) h.step
      (ap (λ c. slice_get (steps_at session trace history who (h.done + 1) c) (length made)) (sym exit) ∙ h.at) (held_sees process who h).0

  -- so it is the first process
  child_moves : (process who : ℕ) → 2 ≤ process → IsHeld process who → ⊥
  child_moves process who least h = elim (call_drawn number lines process h.done h.call h.stands) [
    | inr exit ↦ exit_moves process who h exit
    | inl drawn ↦ elim drawn [
      | inl one ↦ absurd (let z = one.0 in omega (arith, z, least))
      | inr other ↦
          childs_see_none who (before_call history who (h.done + 1)) (call_entries history who (h.done + 1)) _ (before_call history who (h.done + 1)).last_read h.call h.step other.2
          (first_sees process who h) (held_sees process who h).0
    ]
  ]

  -- the calls of the first process before its next one are over
  before_next : (done : ℕ) → next_number history first_who ≡ done + 1 → (k : ℕ) → 1 ≤ k → k ≤ done → is_over history first_who k ≡ true
  before_next done next k low high =
      let has = first_begins session history some_object run.legal some in
      elim (numbered_as history first_who done next) [
        | inr on ↦ (let z = on.0 in run.whole first_who k has low (omega (arith, z, high)))
        | inl last ↦ elim (cases_lt k done) [
          | inl less ↦ (let z = last.0 in run.whole first_who k has low (omega (arith, z, less)))
          | inr least ↦ elim last.1 [
            | inl none ↦ absurd (omega (arith, none, low, high))
            | inr over ↦ ap (λ n. is_over history first_who n) (let z : k ≡ done = omega (arith, least, high) in z) ∙ over
          ]
        ]
      ]

  -- a process for which it waits has begun
  waited_begun : (done q : ℕ) → slice_get (calls_of trace 1) done ≡ Some (wait_for q) → next_number history first_who ≡ done + 1 → (c : ℕ) × (pnode q ≡ Some c)
  waited_begun done q stands next = elim (call_cases trace 1 done (wait_for q) stands) [
    | inr exit ↦ absurd (let z : wait_for q ≡ given requests.Exit = exit.0 in cc)
    | inl l ↦
        let (s, rules) = line_behind trace 1 done l.0 (behind session number lines history run) l.1 in
        let (k, m, stands_there, forks) = rules.waits q (ap waited_for l.2) in
        let m_at : slice_get (lines_of s.before 1) k ≡ Some m = ap (λ p. slice_get (lines_of s.before p) k) (sym s.own) ∙ stands_there in
        let short = slice_get_within (lines_of s.before 1) k m m_at in
        let count = s.count in
        let in_trace : slice_get (lines_of trace 1) k ≡ Some m =
        ap (λ (t : List Line). slice_get (lines_of t 1) k) s.parts ∙ ap (λ (ls : List Line). slice_get ls k) (lines-append s.before (l.0 ∷ s.after) 1) ∙ slice_get-append (lines_of s.before 1) (lines_of (l.0 ∷ s.after) 1) k m m_at in
        (_, child_has_begun session trace history 1 k q first_who m (behind session number lines history run) in_trace forks is_first (before_next done next (k + 1) (omega arith) (omega (arith, short, count))))
  ]

  -- a process whose exit is over has ended
  pub exit_ends : (process who : ℕ) → pnode process ≡ Some who → is_over history who (length (calls_of trace process)) ≡ true → has_ended history who ≡ true
  exit_ends process who begun over =
      let n = length (lines_of trace process) in
      let p = before_call history who (n + 1) in
      let made = call_entries history who (n + 1) in
      let stands : slice_get (calls_of trace process) n ≡ Some (given requests.Exit) =
      ap (λ k. slice_get (calls_of trace process) k) (sym (length-map (lines_of trace process) (λ (l : Line). l.call))) ∙ slice_get-last (map (λ (l : Line). l.call) (lines_of trace process)) (given requests.Exit) in
      let ends : option_map_or (λ s. is_last p s.1) (slice_get made (length made - 1)) false ≡ true = ap (λ k. is_over history who k) (sym (calls_length trace process)) ∙ over in
      at_last process who begun n stands (slice_get made (length made - 1)) refl ends
    where
      at_last : (process who : ℕ) → pnode process ≡ Some who → (n : ℕ) → slice_get (calls_of trace process) n ≡ Some (given requests.Exit) → (o : Option (ℕ × Entry))
          → slice_get (call_entries history who (n + 1)) (length (call_entries history who (n + 1)) - 1) ≡ o
          → option_map_or (λ s. is_last (before_call history who (n + 1)) s.1) o false ≡ true → has_ended history who ≡ true
      at_last process who begun n stands None at ends = absurd (cc)
      at_last process who begun n stands (Some m) at ends =
          let p = before_call history who (n + 1) in
          let made = call_entries history who (n + 1) in
          let j = length made - 1 in
          let (there, by, its) = of_call history who (n + 1) j m at in
          let named = run.named process who n (given requests.Exit) begun stands j m at in
          let step : slice_get (call_steps who p made requests.Exit) j ≡ Some (step_of m) =
          slice_get-take (length made) j (call_steps who p made requests.Exit) (step_of m)
          (ap (λ (xs : List Step). slice_get xs j) (sym (run.lines process who n (given requests.Exit) begun stands)) ∙ slice_get-map step_of made j ∙ ap (λ o. option_map step_of o) at) in
          let replied = (run.legal m.0 m.1 there).replied in
          elim (exit_step who p made j (step_of m) step) [
            | inl leave ↦
                let leaves : act.Leave leave.1 ≡ m.1.act = ap (λ (s : Step). s.1) leave.2 in
                let quick : answer.Done ≡ m.1.reply = some_is answer.Done m.1.reply (ap (λ a. reply_to session (take m.0 history) m.1.what a) leaves ∙ replied) in
                absurd (let z : false ≡ true = ap (λ a. is_last_act p call_name.Exit a) leaves ∙ ap (λ c. is_last_act p c m.1.act) (sym named) ∙ ap (λ y. is_fault y || is_last_act p m.1.call m.1.act) quick ∙ ends in cc)
            | inr finish ↦
                let finishes : act.Finish ≡ m.1.act = ap (λ (s : Step). s.1) finish in
                let quick : answer.Done ≡ m.1.reply = some_is answer.Done m.1.reply (ap (λ a. reply_to session (take m.0 history) m.1.what a) finishes ∙ replied) in
                finished session history run.legal m.0 m.1 who there (ap (λ (s : Step). s.0) (sym finish)) (sym finishes) (ap is_fault (sym quick))
          ]

  -- the first process moves where all others have ended
  first_moves : ((q w : ℕ) → 2 ≤ q → pnode q ≡ Some w → is_over history w (length (calls_of trace q)) ≡ true) → IsHeld 1 first_who → ⊥
  first_moves others h = elim (call_drawn number lines 1 h.done h.call h.stands) [
    | inr exit ↦ exit_moves 1 first_who h exit
    | inl drawn ↦ elim drawn [
      | inr other ↦ (let z = other.0 in omega (arith, z))
      | inl one ↦
          let (sees, none, alive) = held_sees 1 first_who h in
          let (q, is_wait, child) = firsts_see first_who (before_call history first_who (h.done + 1)) (call_entries history first_who (h.done + 1)) _ (before_call history first_who (h.done + 1)).last_read
          h.call h.step one.1 (first_sees 1 first_who h) sees in
          let (c, begun) = waited_begun h.done q (h.stands ∙ ap (λ c. Some c) is_wait) h.next in
          let range : (2 ≤ q) × (q ≤ 8) = subst IsFirsts is_wait one.1 in
          let is_child : h.step.0 ≡ c = child ∙ ap (λ o. option_map_or (λ pnode. pnode) o 0) begun in
          let ended = exit_ends q c begun (others q c range.0 begun) in
          let z : true ≡ false = sym ended ∙ ap (λ w. has_ended history w) (sym is_child) ∙ alive in cc
    ]
  ]

  over_or : (who n : ℕ) → (is_over history who n ≡ false → ⊥) → is_over history who n ≡ true
  over_or who n never = at_test (is_over history who n) never
    where
      at_test : (b : Bool) → (b ≡ false → ⊥) → b ≡ true
      at_test true never = refl
      at_test false never = absurd (never refl)

  closed : (process who : ℕ) → pnode process ≡ Some who → is_over history who (length (calls_of trace process)) ≡ true → is_open session trace history process ≡ true → ⊥
  closed process who begun over opens =
      let z : false ≡ true = ap not (sym over) ∙ ap (λ o. option_map_or (λ w. not (is_over history w (length (calls_of trace process)))) o true) (sym begun) ∙ opens in cc

  pub never_stuck : IsStuck session trace history → ⊥
  never_stuck stuck =
      let others : (q w : ℕ) → 2 ≤ q → pnode q ≡ Some w → is_over history w (length (calls_of trace q)) ≡ true = λ q w least begun.
      over_or w (length (calls_of trace q)) (λ lives. child_moves q w least (held q w begun lives stuck.still)) in
      let over : is_over history first_who (length (calls_of trace 1)) ≡ true = over_or first_who (length (calls_of trace 1)) (λ lives. first_moves others (held 1 first_who is_first lives stuck.still)) in
      (elim stuck.of_trace as (λ process t. is_open session trace history process ≡ true → ⊥) [
        | first ↦ λ opens. closed 1 first_who is_first over opens
        | forked_by l child is forks ↦ λ opens.
            let (k, at) = Contains-place trace l is in
            elim (line_drawn number lines k l at) [
              | inr other ↦ subst IsChilds forks other.2
              | inl one ↦
                  let range : (2 ≤ child) × (child ≤ 8) = subst IsFirsts forks one.1 in
                  let (j, own) = in_filtered (λ (l : Line). l.process == 1) trace k l at (alike l.process 1 one.0) in
                  let least = over_within session history first_who (length (calls_of trace 1)) run.legal over in
                  let within = slice_get_within (lines_of trace 1) j l own in
                  let size = calls_length trace 1 in
                  let begun = child_has_begun session trace history 1 j child first_who l (behind session number lines history run) own forks is_first
                  (run.whole first_who (j + 1) (first_begins session history some_object run.legal some) (omega arith) (omega (arith, least, within, size))) in
                  closed child _ begun (others child _ range.0 begun) opens
            ]
      ]) stuck.waits

pub never_stuck_law : NeverStuckLaw
never_stuck_law session number lines history some_object run stuck = never_stuck session number lines history run some_object stuck.begun stuck
