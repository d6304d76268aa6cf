-- In a run of a drawn trace that has ended each call has one entry that answers it, its last.
use Rattle.std.proofs.Common.{◌≡◌, ◌<◌, ◌≤◌, ◌+◌, ◌-◌, ℕ, suc, List, length, take, refl, ap, sym, ◌∙◌, arith, true, false, not, ◌||◌, ◌&&◌, cond}
use Rattle.std.specs.Prelude.{Option, Some, None, slice_get, sum_by}
use Rattle.std.specs.Option.{option_map_or}
use Rattle.std.proofs.lemmas.List.{length-map, length-take}
use Rattle.std.proofs.lemmas.Option.{slice_get_within}
use Rattle.pass_entry.specs.declared.entry.Entry.{Entry}
use Rattle.pass_entry.specs.declared.entry.CallName.{CallName}
use Rattle.pass_entry.specs.declared.entry.CallName.TheVariants as call_name
use Rattle.pass_entry.proofs.Lists.{different}
use Rattle.pass_plain.specs.declared.request.Request.{Request}
use Rattle.pass_plain.specs.Histories.{call_entries, is_fault}
use Rattle.pass_plain.specs.Sessions.{Session}
use Rattle.pass_plain.specs.Processes.{Process}
use Rattle.pass_plain.specs.Calls.{Step, Made, name_of, is_last, is_last_act}
use Rattle.pass_plain.specs.Legal.{is_start, before_call, is_over, step_of}
use Rattle.pass_plain.specs.Traces.{LineCall, name_of_call, calls_of}
use Rattle.pass_plain.specs.Runs.{IsRun, request_at, steps_at}
use Rattle.pass_plain.proofs.Calling.{of_call, running}
use Rattle.pass_plain.proofs.Ending.{step_end_law}
use Rattle.pass_report.specs.Reports.{is_answered}
use Rattle.pass_replay.specs.Ends.{NoneOpen}
use Rattle.pass_replay.proofs.NextCalls.{named_call}
use Rattle.pass_trace.specs.TraceLines.{plain_line}
use Rattle.pass_gen.specs.Generated.{generated}
use Rattle.pass_gen.proofs.Numbers.{length-generated}
use Rattle.pass_drawn.specs.Runs.{drawn_trace}
use Rattle.pass_drawn.specs.Lawful.{AnsweredLaw}
use Rattle.pass_drawn.proofs.Adding.{sum_by-last, sum_by-ones}
use Rattle.pass_drawn.proofs.Tracing.{is_drawn_name, call_named_so}
use Rattle.pass_drawn.proofs.Counting.{pnode, all_over, counted_by_call}
use Rattle.pass_drawn.proofs.Calls.{call_step}

ordinary : (c : CallName) → is_drawn_name c ≡ true → is_start c ≡ false
ordinary call_name.Start is = absurd (cc)
ordinary _ is = refl

-- what an entry that starts the session counts
pub quiet_start : (history : List Entry) (v : Entry → ℕ) (e : Entry) → is_start e.call ≡ true → cond (is_answered history e) (v e) 0 ≡ 0
quiet_start history v e start = ap (λ b. cond (not b && is_last (before_call history e.who e.number) e) (v e) 0) start

module _ (session : Session) (number lines : ℕ) (history : List Entry) (run : IsRun session (drawn_trace number lines) history) (some_object : 1 ≤ session.objects)
    (closed : NoneOpen session (drawn_trace number lines) history)
    (process who k : ℕ) (call : LineCall) (begun : pnode session number lines history run some_object closed process ≡ Some who)
    (stands : slice_get (calls_of (drawn_trace number lines) process) k ≡ Some call) where
  abbrev made : Made
  made = call_entries history who (k + 1)

  abbrev state : Process
  state = before_call history who (k + 1)

  abbrev request : Request
  request = request_at session (drawn_trace number lines) history who (k + 1) call

  abbrev steps : List Step
  steps = steps_at session (drawn_trace number lines) history who (k + 1) call

  is_over_now : is_over history who (k + 1) ≡ true
  is_over_now = all_over session number lines history run some_object closed process who k begun (slice_get_within (calls_of (drawn_trace number lines) process) k call stands)

  -- the last entry of the call
  pub last_entry : (m : ℕ × Entry) × (slice_get made (length made - 1) ≡ Some m) × (is_last state m.1 ≡ true)
  last_entry = at_last (slice_get made (length made - 1)) refl is_over_now
    where
      at_last : (o : Option (ℕ × Entry)) → slice_get made (length made - 1) ≡ o → option_map_or (λ s. is_last state s.1) o false ≡ true
          → (m : ℕ × Entry) × (slice_get made (length made - 1) ≡ Some m) × (is_last state m.1 ≡ true)
      at_last None at over = absurd (cc)
      at_last (Some m) at over = (m, at, over)

  few : length made ≤ length steps
  few =
      let size : length made ≡ length (take (length made) steps) = sym (length-map made step_of) ∙ ap length (run.lines process who k call begun stands) in
      omega (arith, size, length-take (length made) steps)

  pub entry_named : (j : ℕ) (m : ℕ × Entry) → slice_get made j ≡ Some m → m.1.call ≡ name_of_call call
  entry_named j m at = run.named process who k call begun stands j m at

  answers_as : (j : ℕ) (m : ℕ × Entry) → slice_get made j ≡ Some m → is_answered history m.1 ≡ is_last state m.1
  answers_as j m at =
      let (there, by, its) = of_call history who (k + 1) j m at in
      let named : is_start m.1.call ≡ false = ap is_start (entry_named j m at) ∙ ordinary (name_of_call call) (call_named_so number lines process k call stands) in
      ap (λ b. not b && is_last (before_call history m.1.who m.1.number) m.1) named
      ∙ ap (λ w. is_last (before_call history w m.1.number) m.1) by ∙ ap (λ n. is_last (before_call history who n) m.1) its

  -- no entry before it ends the call
  goes_on : (j : ℕ) (m : ℕ × Entry) → slice_get made j ≡ Some m → suc j < length made → is_last state m.1 ≡ false
  goes_on j m at short =
      let fine : is_fault m.1.reply ≡ false = running session history run.legal who (k + 1) j m at short in
      let step = call_step session number lines history run process who k call begun stands j m at in
      let named : m.1.call ≡ name_of request = entry_named j m at ∙ sym (named_call _ state.last_read call) in
      let room = few in
      ap (λ b. b || is_last_act state m.1.call m.1.act) fine ∙ ap (λ c. is_last_act state c m.1.act) named
      ∙ step_end_law who state made request j (step_of m) step ∙ different (suc j) (length steps) (λ same. omega (arith, same, short, room))

  -- so the call counts what its last entry counts
  pub call_counts : (v : Entry → ℕ) (m : ℕ × Entry) → slice_get made (length made - 1) ≡ Some m → is_last state m.1 ≡ true
      → sum_by (λ (s : ℕ × Entry). cond (is_answered history s.1) (v s.1) 0) made ≡ v m.1
  call_counts v m at last =
      sum_by-last (λ (s : ℕ × Entry). cond (is_answered history s.1) (v s.1) 0) made m
      (λ j y there short. ap (λ b. cond b (v y.1) 0) (answers_as j y there ∙ goes_on j y there short)) at
      ∙ ap (λ b. cond b (v m.1) 0) (answers_as (length made - 1) m at ∙ last)

pub answered_law : AnsweredLaw
answered_law session number lines history least some_object run closed =
    let size = length-generated number lines least in
    let same = length-map (generated number lines) plain_line in
    let ones = sum_by-ones (drawn_trace number lines) in
    let total = counted_by_call session number lines history run some_object closed (λ e. cond (is_answered history e) 1 0) (λ call. 1) (λ e start. quiet_start history (λ e. 1) e start)
    (λ process who k call begun stands.
    let (m, at, last) = last_entry session number lines history run some_object closed process who k call begun stands in
    call_counts session number lines history run some_object closed process who k call begun stands (λ e. 1) m at last) in
    omega (arith, size, same, ones, total)
