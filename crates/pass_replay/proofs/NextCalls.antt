-- The next call of a process of a run.
use Rattle.std.proofs.Common.{◌≡◌, ◌<◌, ◌≤◌, ◌+◌, ◌-◌, ℕ, suc, List, [], ◌∷◌, ◌++◌, length, take, map, refl, ap, sym, ◌∙◌, subst, arith, ◌⊎◌, inl, inr, Bool, true, false, ◌==◌, cond, append_assoc}
use Rattle.std.specs.Prelude.{Option, Some, None, option_map, slice_get, nat_le}
use Rattle.std.specs.Option.{option_map_or}
use Rattle.std.specs.List.{position_or_len}
use Rattle.std.proofs.lemmas.List.{length-append, length-map, length-take, append-nil}
use Rattle.std.proofs.lemmas.Option.{slice_get-map, slice_get_within}
use Rattle.std.proofs.lemmas.Bool.{cases_lt, or_right, le-leb}
use Rattle.pass_entry.specs.declared.entry.Entry.{Entry}
use Rattle.pass_entry.proofs.Places.{slice_get-take}
use Rattle.pass_plain.specs.declared.request.Request.{Request}
use Rattle.pass_plain.specs.declared.request.Request.TheVariants as requests
use Rattle.pass_plain.specs.Histories.{call_entries, is_fault, is_of_call}
use Rattle.pass_plain.specs.Sessions.{Session}
use Rattle.pass_plain.specs.Processes.{Process, has_begun, has_ended}
use Rattle.pass_plain.specs.Calls.{Made, Step, name_of, is_within, is_fd, call_steps, is_last, is_last_act}
use Rattle.pass_plain.specs.Legal.{IsLegal, before_call, is_over, ends_call, last_number, is_start, step_of}
use Rattle.pass_plain.specs.Traces.{Line, LineCall, given, write_last, fork_as, wait_for, await_for, name_of_call, lines_of, calls_of, request_of}
use Rattle.pass_plain.specs.Runs.{pnode_of_process, next_number, request_at}
use Rattle.pass_plain.proofs.Lists.{some_is, same_numbers, both_true, is_place, alike}
use Rattle.pass_plain.specs.CallLaws.{IsBegun}
use Rattle.pass_plain.specs.NextSteps.{AreOfCall}
use Rattle.pass_plain.proofs.Appends.{place_of}
use Rattle.pass_plain.proofs.Calling.{legal_take, numbered}
use Rattle.pass_plain.proofs.Counts.{read_law}
use Rattle.pass_plain.proofs.Ending.{step_end_law}
use Rattle.pass_plain.proofs.Playing.{no_calls}
use Rattle.pass_replay.specs.Lines.{is_given, IsLineCall, IsLineBehind, AreLinesBehind}
use Rattle.pass_replay.specs.Making.{IsRunSoFar}
use Rattle.pass_replay.proofs.Positions.{StandsAt, stands_at}
use Rattle.pass_replay.proofs.StepKinds.{some_step}

-- the number of the next call

abbrev pub IsNumbered : List Entry → ℕ → ℕ → Type 0
IsNumbered history who done =
    ((last_number history who ≡ done) × ((done ≡ 0) ⊎ (is_over history who done ≡ true)))
    ⊎ ((last_number history who ≡ done + 1) × (is_over history who (done + 1) ≡ false))

numbered_if : (history : List Entry) (who done : ℕ) (a b : Bool) → (last_number history who == 0) ≡ a → is_over history who (last_number history who) ≡ b
    → cond a 1 (cond b (last_number history who + 1) (last_number history who)) ≡ done + 1 → IsNumbered history who done
numbered_if history who done true b none over next =
    let zero_last = same_numbers (last_number history who) 0 none in
    inl (omega (arith, zero_last, next), inl (omega (arith, next)))
numbered_if history who done false true none over next =
    let last : last_number history who ≡ done = omega (arith, next) in
    inl (last, inr (ap (λ n. is_over history who n) (sym last) ∙ over))
numbered_if history who done false false none over next = inr (next, ap (λ n. is_over history who n) (sym next) ∙ over)

pub numbered_as : (history : List Entry) (who done : ℕ) → next_number history who ≡ done + 1 → IsNumbered history who done
numbered_as history who done next = numbered_if history who done (last_number history who == 0) (is_over history who (last_number history who)) refl refl next

-- a number above the last one has no entries
pub none_above : (session : Session) (history : List Entry) (who number : ℕ) → IsLegal session history → last_number history who < number → call_entries history who number ≡ []
none_above session history who number legal above = no_calls history who number (λ i f at by its.
    let below = (numbered session history legal).below i f at in
    let same = ap (λ w. last_number history w) by in
    omega (arith, below, same, its, above))

pub unmade_not_over : (history : List Entry) (who number : ℕ) → call_entries history who number ≡ [] → is_over history who number ≡ false
unmade_not_over history who number none = ap (λ (m : Made). ends_call (before_call history who number) m) none

-- a call that is over has a number that is at most the last one
pub over_within : (session : Session) (history : List Entry) (who number : ℕ) → IsLegal session history → is_over history who number ≡ true → number ≤ last_number history who
over_within session history who number legal over = elim (cases_lt (last_number history who) number) [
  | inl above ↦ absurd (let z : true ≡ false = sym over ∙ unmade_not_over history who number (none_above session history who number legal above) in cc)
  | inr le ↦ le
]

-- what stands in the lines of a process, and behind them

pub call_cases : (trace : List Line) (process k : ℕ) (call : LineCall) → slice_get (calls_of trace process) k ≡ Some call
    → ((l : Line) × (slice_get (lines_of trace process) k ≡ Some l) × (l.call ≡ call)) ⊎ ((call ≡ given requests.Exit) × (k ≡ length (lines_of trace process)))
call_cases trace process k call at = elim (place_of (map (λ (l : Line). l.call) (lines_of trace process)) (given requests.Exit) k call at) [
  | inl l ↦ inl (found (slice_get (lines_of trace process) k) refl l.0)
  | inr r ↦ inr (sym r.1, r.0 ∙ length-map (lines_of trace process) (λ (l : Line). l.call))
]
  where
    found : (o : Option Line) → slice_get (lines_of trace process) k ≡ o → slice_get (map (λ (l : Line). l.call) (lines_of trace process)) k ≡ Some call
        → (l : Line) × (slice_get (lines_of trace process) k ≡ Some l) × (l.call ≡ call)
    found None is mapped = absurd (let z : None ≡ Some call = ap (λ o. option_map (λ (l : Line). l.call) o) (sym is) ∙ sym (slice_get-map (λ (l : Line). l.call) (lines_of trace process) k) ∙ mapped in cc)
    found (Some l) is mapped = (l, is, some_is l.call call (ap (λ o. option_map (λ (l : Line). l.call) o) (sym is) ∙ sym (slice_get-map (λ (l : Line). l.call) (lines_of trace process) k) ∙ mapped))

pub calls_length : (trace : List Line) (process : ℕ) → length (calls_of trace process) ≡ length (lines_of trace process) + 1
calls_length trace process =
    length-append (map (λ (l : Line). l.call) (lines_of trace process)) (given requests.Exit ∷ [])
    ∙ ap (λ n. n + 1) (length-map (lines_of trace process) (λ (l : Line). l.call))

-- the rules of the line that stands there
pub behind_at : (before xs ys : List Line) (l : Line) → AreLinesBehind before (xs ++ l ∷ ys) → IsLineBehind (before ++ xs) l
behind_at before [] ys l behind = subst (λ (b : List Line). IsLineBehind b l) (sym (append-nil before)) behind.0
behind_at before (x ∷ xs) ys l behind = subst (λ (b : List Line). IsLineBehind b l) (append_assoc before (x ∷ []) xs) (behind_at (before ++ x ∷ []) xs ys l behind.1)

pub line_behind : (trace : List Line) (process k : ℕ) (l : Line) → AreLinesBehind [] trace → slice_get (lines_of trace process) k ≡ Some l
    → (s : StandsAt trace process k l) × IsLineBehind s.before l
line_behind trace process k l behind at =
    let s = stands_at trace process k l at in
    (s, behind_at [] s.before s.after l (subst (λ (t : List Line). AreLinesBehind [] t) s.parts behind))

-- a call of a process: a line's or its exit
abbrev pub IsAnyCall : LineCall → Type 0
IsAnyCall call = IsLineCall call ⊎ (call ≡ given requests.Exit)

pub any_call : (trace : List Line) (process k : ℕ) (call : LineCall) → AreLinesBehind [] trace → slice_get (calls_of trace process) k ≡ Some call → IsAnyCall call
any_call trace process k call behind at = elim (call_cases trace process k call at) [
  | inl l ↦ inl (subst (λ c. IsLineCall c) l.2 (line_behind trace process k l.0 behind l.1).1.within)
  | inr exit ↦ inr exit.0
]

no_start : (r : Request) → is_given r ≡ true → is_start (name_of r) ≡ false
no_start requests.Start is = absurd (cc)
no_start _ is = refl

pub ordinary_call : (pnode : ℕ → ℕ) (last : List ℕ) (call : LineCall) → IsAnyCall call → is_start (name_of (request_of pnode last call)) ≡ false
ordinary_call pnode last (given r) (inl line) = no_start r line.0
ordinary_call pnode last (given r) (inr exit) = let z : r ≡ requests.Exit = cc in ap (λ r. is_start (name_of r)) z
ordinary_call pnode last (write_last fd) any = refl
ordinary_call pnode last (fork_as child) any = refl
ordinary_call pnode last (wait_for child) any = refl
ordinary_call pnode last (await_for child) any = refl

pub named_call : (pnode : ℕ → ℕ) (last : List ℕ) (call : LineCall) → name_of (request_of pnode last call) ≡ name_of_call call
named_call pnode last (given r) = refl
named_call pnode last (write_last fd) = refl
named_call pnode last (fork_as child) = refl
named_call pnode last (wait_for child) = refl
named_call pnode last (await_for child) = refl

pub within_call : (pnode : ℕ → ℕ) (last : List ℕ) (call : LineCall) → IsAnyCall call → length last ≤ 4096 → is_within (request_of pnode last call) ≡ true
within_call pnode last (given r) (inl line) short = line.1
within_call pnode last (given r) (inr exit) short = let z : r ≡ requests.Exit = cc in ap (λ r. is_within r) z
within_call pnode last (write_last fd) (inl line) short = both_true (is_fd fd) (nat_le (length last) 4096) line (le-leb (length last) 4096 short)
within_call pnode last (write_last fd) (inr exit) short = absurd (cc)
within_call pnode last (fork_as child) any short = refl
within_call pnode last (wait_for child) any short = refl
within_call pnode last (await_for child) any short = refl

-- what a process read last is short, also before a call
pub last_read_short : (session : Session) (history : List Entry) (who number : ℕ) → IsLegal session history → length (before_call history who number).last_read ≤ 4096
last_read_short session history who number legal =
    (read_law session (take (position_or_len (is_of_call who number) history) history) (legal_take session history (position_or_len (is_of_call who number) history) legal)).1 who

-- where a call has made all its steps it is over
pub all_made_over : (who : ℕ) (p : Process) (made : Made) (r : Request) → AreOfCall made (name_of r) → IsBegun who p made r → length (call_steps who p made r) ≤ length made → ends_call p made ≡ true
all_made_over who p made r called begun all =
    let steps = call_steps who p made r in
    let size : length made ≡ length (take (length made) steps) = sym (length-map made step_of) ∙ ap length begun in
    let some = some_step who p made r in
    let whole : length made ≡ length steps = omega (arith, size, all, length-take (length made) steps) in
    let (m, at) = is_place made (length made - 1) (omega (arith, some, whole)) in
    let step : slice_get steps (length made - 1) ≡ Some (step_of m) =
    slice_get-take (length made) (length made - 1) steps (step_of m)
    (ap (λ (xs : List Step). slice_get xs (length made - 1)) (sym begun) ∙ slice_get-map step_of made (length made - 1) ∙ ap (λ o. option_map step_of o) at) in
    let last : is_last_act p (name_of r) m.1.act ≡ (suc (length made - 1) == length steps) = step_end_law who p made r (length made - 1) (step_of m) step in
    let end : is_last_act p m.1.call m.1.act ≡ true =
    ap (λ name. is_last_act p name m.1.act) (called (length made - 1) m at) ∙ last ∙ alike (suc (length made - 1)) (length steps) (omega (arith, some, whole)) in
    ap (λ o. option_map_or (λ (s : ℕ × Entry). is_last p s.1) o false) at ∙ or_right (is_fault m.1.reply) (is_last_act p m.1.call m.1.act) end

-- a process of a run, which has a call left
module _ (session : Session) (trace : List Line) (behind : AreLinesBehind [] trace) (history : List Entry) (so_far : IsRunSoFar session trace history)
    (process who done : ℕ) (call : LineCall) (begun : pnode_of_process session trace history process ≡ Some who)
    (stands : slice_get (calls_of trace process) done ≡ Some call) (next : next_number history who ≡ done + 1) where
  abbrev pub the_request : Request
  the_request = request_at session trace history who (done + 1) call

  abbrev pub the_made : Made
  the_made = call_entries history who (done + 1)

  abbrev pub the_state : Process
  the_state = before_call history who (done + 1)

  legal : IsLegal session history
  legal = so_far.run.legal

  has : has_begun history who ≡ true
  has = so_far.begun process who begun

  -- the calls before it are over
  pub earlier_over : (k : ℕ) → 1 ≤ k → k ≤ done → is_over history who k ≡ true
  earlier_over k some below = elim (numbered_as history who done next) [
    | inr on ↦ so_far.run.whole who k has some (omega (arith, on.0, below))
    | inl last ↦ elim (cases_lt k done) [
      | inl less ↦ so_far.run.whole who k has some (omega (arith, last.0, less))
      | inr least ↦ elim last.1 [
        | inl none ↦ absurd (omega (arith, none, some, below))
        | inr over ↦ ap (λ n. is_over history who n) (let z : k ≡ done = omega (arith, least, below) in z) ∙ over
      ]
    ]
  ]

  -- and it isn't
  pub not_over : is_over history who (done + 1) ≡ false
  not_over = elim (numbered_as history who done next) [
    | inr on ↦ on.1
    | inl last ↦ unmade_not_over history who (done + 1) (none_above session history who (done + 1) legal (omega (arith, last.0)))
  ]

  pub is_any : IsAnyCall call
  is_any = any_call trace process done call behind stands

  pub named : name_of the_request ≡ name_of_call call
  named = named_call _ the_state.last_read call

  pub is_ordinary : is_start (name_of the_request) ≡ false
  is_ordinary = ordinary_call _ the_state.last_read call is_any

  pub is_within_limits : is_within the_request ≡ true
  is_within_limits = within_call _ the_state.last_read call is_any (last_read_short session history who (done + 1) legal)

  pub are_called : AreOfCall the_made (name_of the_request)
  are_called j s at = so_far.run.named process who done call begun stands j s at ∙ sym named

  pub is_begun : IsBegun who the_state the_made the_request
  is_begun = so_far.run.lines process who done call begun stands

  pub is_left : length the_made < length (call_steps who the_state the_made the_request)
  is_left = elim (cases_lt (length the_made) (length (call_steps who the_state the_made the_request))) [
    | inl less ↦ less
    | inr all ↦ absurd (let z : true ≡ false = sym (all_made_over who the_state the_made the_request are_called is_begun all) ∙ not_over in cc)
  ]

  -- its exit isn't over, and the process lives
  pub exit_not_over : is_over history who (length (calls_of trace process)) ≡ false
  exit_not_over = not_so (is_over history who (length (calls_of trace process))) refl
    where
      within : done < length (calls_of trace process)
      within = slice_get_within (calls_of trace process) done call stands

      not_so : (b : Bool) → is_over history who (length (calls_of trace process)) ≡ b → is_over history who (length (calls_of trace process)) ≡ false
      not_so false is = is
      not_so true is =
          let most = over_within session history who (length (calls_of trace process)) legal is in
          elim (numbered_as history who done next) [
            | inl last ↦ absurd (omega (arith, most, last.0, within))
            | inr on ↦
                let same : length (calls_of trace process) ≡ done + 1 = omega (arith, most, on.0, within) in
                absurd (let z : true ≡ false = sym is ∙ ap (λ n. is_over history who n) same ∙ on.1 in cc)
          ]

  pub lives : has_ended history who ≡ false
  lives = so_far.ended process who begun ∙ exit_not_over
