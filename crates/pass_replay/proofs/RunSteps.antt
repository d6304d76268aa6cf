-- A run, seen at one of its entries: it is the next step of the next call of its process.
use Rattle.std.proofs.Common.{◌≡◌, ◌<◌, ◌≤◌, ◌+◌, ◌-◌, ℕ, zero, suc, List, [], ◌∷◌, ◌++◌, length, take, refl, ap, sym, ◌∙◌, subst, arith, ◌⊎◌, inl, inr, Bool, true, false, ◌||◌, ◌&&◌, ◌==◌, cond, append_assoc, length-append}
use Rattle.std.specs.Prelude.{Some, None, slice_get, drop, option_map}
use Rattle.std.specs.Option.{option_map_or}
use Rattle.std.proofs.lemmas.List.{append-nil, length-take}
use Rattle.std.proofs.lemmas.Option.{slice_get-map, slice_get_within}
use Rattle.pass_entry.specs.declared.entry.Entry.{Entry}
use Rattle.pass_entry.proofs.Places.{any_more, slice_get-last, slice_get-take, parted}
use Rattle.pass_plain.specs.declared.request.Request.{Request}
use Rattle.pass_plain.specs.declared.request.Request.TheVariants as requests
use Rattle.pass_plain.specs.Histories.{call_entries, is_of_call}
use Rattle.pass_plain.specs.Sessions.{Session}
use Rattle.pass_plain.specs.Processes.{Process, process_after, begins, has_begun}
use Rattle.pass_plain.specs.Calls.{Made, Step, call_steps}
use Rattle.pass_plain.specs.Legal.{IsLegal, MayFollow, before_call, is_over, last_number, may_be_left, step_of}
use Rattle.pass_plain.specs.Traces.{Line, LineCall, given, write_last, fork_as, wait_for, await_for, waited_for, lines_of, calls_of}
use Rattle.pass_plain.specs.Runs.{IsRun, pnode_of_process, next_number, request_at, steps_at}
use Rattle.pass_plain.proofs.Lists.{alike, and_none, any_of, different, in_take, is_place, same_numbers}
use Rattle.pass_plain.proofs.Appends.{legal-last, slice_get-append}
use Rattle.pass_plain.proofs.Calling.{acts-cases, call_entries-append, goes_on-cases, last_if, legal_begins, numbered}
use Rattle.pass_plain.proofs.Calling.{next_number as number_bounds}
use Rattle.pass_plain.proofs.Going.{steps_stay}
use Rattle.pass_plain.proofs.OtherCalls.{before_more, goes_some, other_entries, other_over}
use Rattle.pass_replay.specs.Lines.{AreLinesBehind}
use Rattle.pass_replay.specs.Making.{IsNextEntry}
use Rattle.pass_replay.proofs.Begun.{child_has_begun}
use Rattle.pass_replay.proofs.Entries.{is_own, own_entries, own_is, own_state}
use Rattle.pass_replay.proofs.NextCalls.{call_cases, line_behind, named_call}
use Rattle.pass_replay.proofs.Positions.{lines-append}
use Rattle.pass_replay.proofs.Staying.{pnode_stays}

-- What later entries leave

-- the last number of a process rises
rises_by : (history : List Entry) (e : Entry) (who : ℕ) → last_number history e.who ≤ e.number → (b : Bool) → (e.who == who) ≡ b → last_number history who ≤ last_number (history ++ e ∷ []) who
rises_by history e who least true t =
    let now = last_if history e who true t in
    let same = ap (λ w. last_number history w) (same_numbers e.who who t) in
    omega (arith, now, same, least)
rises_by history e who least false t = let now = last_if history e who false t in omega (arith, now)

-- an entry of a call of a lower number doesn't come
not_earlier : (e : Entry) (who n last : ℕ) → last ≤ e.number → n < last → (b : Bool) → is_of_call who n e ≡ b → is_of_call who n e ≡ false
not_earlier e who n last least below false t = t
not_earlier e who n last least below true t = let its = (own_is e who n t).1 in absurd (omega (arith, least, below, its))

-- the calls before the last one of a process stay as they are
pub calls_stay : (session : Session) (old later : List Entry) (who n : ℕ) → IsLegal session (old ++ later) → n < last_number old who
    → (call_entries (old ++ later) who n ≡ call_entries old who n) × (is_over (old ++ later) who n ≡ is_over old who n)
calls_stay session old [] who n legal below = (ap (λ h. call_entries h who n) (append-nil old), ap (λ h. is_over h who n) (append-nil old))
calls_stay session old (e ∷ later) who n legal below =
    let whole : (old ++ e ∷ []) ++ later ≡ old ++ e ∷ later = append_assoc old (e ∷ []) later in
    let moved = subst (λ h. IsLegal session h) (sym whole) legal in
    let follows = legal-last session old e (legal_begins session (old ++ e ∷ []) later moved) in
    let least = (number_bounds session old e follows).0 in
    let other : is_of_call who n e ≡ false = if_own least (e.who == who) refl in
    let rises = rises_by old e who least (e.who == who) refl in
    let rest = calls_stay session (old ++ e ∷ []) later who n moved (omega (arith, below, rises)) in (
      ap (λ h. call_entries h who n) (sym whole) ∙ rest.0 ∙ other_entries old e who n other,
      ap (λ h. is_over h who n) (sym whole) ∙ rest.1 ∙ other_over old e who n other,
    )
  where
    if_own : last_number old e.who ≤ e.number → (b : Bool) → (e.who == who) ≡ b → is_of_call who n e ≡ false
    if_own least true t =
        let same = ap (λ w. last_number old w) (same_numbers e.who who t) in
        not_earlier e who n (last_number old who) (omega (arith, same, least)) below (is_of_call who n e) refl
    if_own least false t = ap (λ b. b && e.number == n) t

-- the entries of a call begin with those that it had
entries_if : (history : List Entry) (e : Entry) (who n : ℕ) (b : Bool) → is_of_call who n e ≡ b → (more : Made) × (call_entries (history ++ e ∷ []) who n ≡ call_entries history who n ++ more)
entries_if history e who n b t = (cond b ((length history, e) ∷ []) [], call_entries-append history e who n ∙ ap (λ b. call_entries history who n ++ cond b ((length history, e) ∷ []) []) t)

pub entries_front : (old later : List Entry) (who n : ℕ) → (more : Made) × (call_entries (old ++ later) who n ≡ call_entries old who n ++ more)
entries_front old [] who n = ([], ap (λ h. call_entries h who n) (append-nil old) ∙ sym (append-nil (call_entries old who n)))
entries_front old (e ∷ later) who n =
    let (first, is) = entries_if old e who n (is_of_call who n e) refl in
    let (rest, also) = entries_front (old ++ e ∷ []) later who n in
    (first ++ rest, ap (λ h. call_entries h who n) (sym (append_assoc old (e ∷ []) later)) ∙ also ∙ ap (λ m. m ++ rest) is ∙ append_assoc (call_entries old who n) first rest)

-- a step up to the next one is the same whatever the call makes later
pub steps_front : (who : ℕ) (p : Process) (made more : Made) (r : Request) (k : ℕ) (s : Step) → k ≤ length made
    → slice_get (call_steps who p (made ++ more) r) k ≡ Some s → slice_get (call_steps who p made r) k ≡ Some s
steps_front who p made [] r k s le at = ap (λ m. slice_get (call_steps who p m r) k) (sym (append-nil made)) ∙ at
steps_front who p made (m ∷ more) r k s le at =
    let size = length-append made (m ∷ []) in
    let longer : slice_get (call_steps who p (made ++ m ∷ []) r) k ≡ Some s = steps_front who p (made ++ m ∷ []) more r k s (omega (arith, size, le))
    (ap (λ n. slice_get (call_steps who p n r) k) (append_assoc made (m ∷ []) more) ∙ at) in
    slice_get-take (length made + 1) k (call_steps who p made r) s
    (ap (λ xs. slice_get xs k) (sym (steps_stay who p made m r)) ∙ in_take k (length made + 1) (call_steps who p (made ++ m ∷ []) r) s (omega (arith, le)) longer)

pub at_behind : {X : Type 0} (xs : List X) (x : X) (ys : List X) → slice_get (xs ++ x ∷ ys) (length xs) ≡ Some x
at_behind [] x ys = refl
at_behind (z ∷ xs) x ys = at_behind xs x ys

above_zero : (n : ℕ) → (n == 0) ≡ false → 1 ≤ n
above_zero zero t = absurd (let z : true ≡ false = t in cc)
above_zero (suc n) t = omega arith

-- The entry of a run at a place

module _ (session : Session) (trace : List Line) (behind : AreLinesBehind [] trace) (history : List Entry) (run : IsRun session trace history)
    (i : ℕ) (e : Entry) (stands : slice_get history i ≡ Some e) (some : 1 ≤ i) where
  abbrev pub past : List Entry
  past = take i history

  abbrev later : List Entry
  later = drop (suc i) history

  parts : history ≡ past ++ e ∷ later
  parts = parted history i e stands

  parts_too : history ≡ (past ++ e ∷ []) ++ later
  parts_too = parts ∙ sym (append_assoc past (e ∷ []) later)

  legal_too : IsLegal session ((past ++ e ∷ []) ++ later)
  legal_too = subst (λ h. IsLegal session h) parts_too run.legal

  pub follows : MayFollow session past e
  follows = run.legal i e stands

  pub past_size : length past ≡ i
  past_size = (let within = slice_get_within history i e stands in let size = length-take i history in omega (arith, within, size))

  -- a process between two calls, or in one
  acts : (has_begun past e.who ≡ true) × (1 ≤ e.number) × (((e.number ≡ last_number past e.who) × (is_over past e.who (last_number past e.who) ≡ false))
      ⊎ ((e.number ≡ last_number past e.who + 1) × ((last_number past e.who ≡ 0) ⊎ (is_over past e.who (last_number past e.who) || may_be_left past e.who (last_number past e.who) ≡ true))))
  acts = elim (acts-cases past e follows.acts) [
    | inl start ↦ let none = ap length start.1 in let size = past_size in absurd (omega (arith, none, size, some))
    | inr goes ↦ (
      goes.1,
      goes_some e.number (last_number past e.who) (is_over past e.who (last_number past e.who)) (may_be_left past e.who (last_number past e.who)) goes.3,
      goes_on-cases e.number (last_number past e.who) (is_over past e.who (last_number past e.who)) (may_be_left past e.who (last_number past e.who)) goes.3,
    )
  ]

  pub has : has_begun past e.who ≡ true
  has = acts.0

  pub counted : 1 ≤ e.number
  counted = acts.1

  last_now : last_number (past ++ e ∷ []) e.who ≡ e.number
  last_now = last_if past e e.who true (alike e.who e.who refl)

  pub below : e.number ≤ last_number history e.who
  below = (numbered session history run.legal).below i e stands

  -- the earlier calls of the process have no further entries
  pub earlier_same : (n : ℕ) → n < e.number → is_over history e.who n ≡ is_over past e.who n
  earlier_same n less =
      ap (λ h. is_over h e.who n) parts_too
      ∙ (calls_stay session (past ++ e ∷ []) later e.who n legal_too (let z = last_now in omega (arith, z, less))).1
      ∙ other_over past e e.who n (let apart = different e.number n (λ same. omega (arith, same, less)) in ap (λ b. e.who == e.who && b) apart ∙ and_none (e.who == e.who))

  pub earlier_over : (n : ℕ) → 1 ≤ n → n < e.number → is_over past e.who n ≡ true
  earlier_over n low less =
      sym (earlier_same n less) ∙ run.whole e.who n begun_whole low (let z = below in omega (arith, z, less))
    where
      begun_whole : has_begun history e.who ≡ true
      begun_whole = subst (λ h. has_begun h e.who ≡ true) (sym parts) (any_more (λ (f : Entry). begins e.who f.call f.act f.what f.reply) past (e ∷ later) has)

  -- it stands at that call
  pub next_is : next_number past e.who ≡ e.number
  next_is = elim acts.2 [
    | inl same ↦
        let some_number = counted in
        let none : (last_number past e.who == 0) ≡ false = different (last_number past e.who) 0 (λ z. omega (arith, z, same.0, some_number)) in
        ap (λ b. cond b 1 (cond (is_over past e.who (last_number past e.who)) (last_number past e.who + 1) (last_number past e.who))) none
        ∙ ap (λ b. cond b (last_number past e.who + 1) (last_number past e.who)) same.1 ∙ sym same.0
    | inr more ↦ if_first more.0 (last_number past e.who == 0) refl
  ]
    where
      if_first : e.number ≡ last_number past e.who + 1 → (b : Bool) → (last_number past e.who == 0) ≡ b → next_number past e.who ≡ e.number
      if_first is true t =
          let z = same_numbers (last_number past e.who) 0 t in
          ap (λ b. cond b 1 (cond (is_over past e.who (last_number past e.who)) (last_number past e.who + 1) (last_number past e.who))) t ∙ (let y : 1 ≡ e.number = omega (arith, z, is) in y)
      if_first is false t =
          let some_last : 1 ≤ last_number past e.who = above_zero (last_number past e.who) t in
          let over = earlier_over (last_number past e.who) some_last (omega (arith, is)) in
          ap (λ b. cond b 1 (cond (is_over past e.who (last_number past e.who)) (last_number past e.who + 1) (last_number past e.who))) t
          ∙ ap (λ b. cond b (last_number past e.who + 1) (last_number past e.who)) over ∙ sym is

  -- its process in the trace, and the call
  module _ (process done : ℕ) (call : LineCall) (number : e.number ≡ done + 1) (begun : pnode_of_process session trace past process ≡ Some e.who)
      (line : slice_get (calls_of trace process) done ≡ Some call) where
    abbrev pub who : ℕ
    who = e.who

    begun_now : pnode_of_process session trace history process ≡ Some who
    begun_now =
        let size = past_size in
        ap (λ h. pnode_of_process session trace h process) parts
        ∙ pnode_stays session trace past (e ∷ later) process who behind (subst (λ h. IsLegal session h) parts run.legal) (omega (arith, size, some)) begun

    own : is_of_call who (done + 1) e ≡ true
    own = is_own e who (done + 1) refl number

    abbrev pub made : Made
    made = call_entries past who (done + 1)

    abbrev more : Made
    more = (entries_front (past ++ e ∷ []) later who (done + 1)).0

    entries_are : call_entries history who (done + 1) ≡ made ++ (length past, e) ∷ more
    entries_are =
        ap (λ h. call_entries h who (done + 1)) parts_too ∙ (entries_front (past ++ e ∷ []) later who (done + 1)).1
        ∙ ap (λ m. m ++ more) (own_entries past e who (done + 1) own) ∙ append_assoc made ((length past, e) ∷ []) more

    state_is : before_call history who (done + 1) ≡ before_call past who (done + 1)
    state_is =
        ap (λ h. before_call h who (done + 1)) parts_too
        ∙ ap (λ h. process_after h who) (before_more (is_of_call who (done + 1)) (past ++ e ∷ []) later
        (any_of (is_of_call who (done + 1)) (past ++ e ∷ []) (length past) e (slice_get-last past e) own))
        ∙ own_state past e who (done + 1) own

    -- a child that the call waits for has begun before
    child_is : (q : ℕ) → waited_for call ≡ Some q → option_map_or (λ pnode. pnode) (pnode_of_process session trace history q) 0 ≡ option_map_or (λ pnode. pnode) (pnode_of_process session trace past q) 0
    child_is q waits = elim (call_cases trace process done call line) [
      | inr exit ↦ absurd (let z : Some q ≡ None = sym waits ∙ ap waited_for exit.0 in cc)
      | inl l ↦
          let (s, rules) = line_behind trace process done l.0 behind l.1 in
          let (k, m, there, forks) = rules.waits q (ap waited_for l.2 ∙ waits) in
          let m_at : slice_get (lines_of s.before process) k ≡ Some m = ap (λ p. slice_get (lines_of s.before p) k) (sym s.own) ∙ there in
          let short = slice_get_within (lines_of s.before process) k m m_at in
          let count = s.count in
          let in_trace : slice_get (lines_of trace process) k ≡ Some m =
          ap (λ (t : List Line). slice_get (lines_of t process) k) s.parts ∙ ap (λ (ls : List Line). slice_get ls k) (lines-append s.before (l.0 ∷ s.after) process)
          ∙ slice_get-append (lines_of s.before process) (lines_of (l.0 ∷ s.after) process) k m m_at in
          let was = child_has_begun session trace past process k q who m behind in_trace forks begun (earlier_over (k + 1) (omega arith) (omega (arith, short, count, number))) in
          let size = past_size in
          let is = pnode_stays session trace past (e ∷ later) q _ behind (subst (λ h. IsLegal session h) parts run.legal) (omega (arith, size, some)) was in
          ap (λ o. option_map_or (λ pnode. pnode) o 0) (ap (λ h. pnode_of_process session trace h q) parts ∙ is ∙ sym was)
    ]

    request_if : (c : LineCall) → call ≡ c → request_at session trace history who (done + 1) c ≡ request_at session trace past who (done + 1) c
    request_if (given r) is = refl
    request_if (write_last fd) is = ap (λ (p : Process). requests.Write fd p.last_read) state_is
    request_if (fork_as child) is = refl
    request_if (wait_for q) is = ap (λ m. requests.WaitChild m) (child_is q (ap waited_for is))
    request_if (await_for q) is = ap (λ m. requests.Await m) (child_is q (ap waited_for is))

    abbrev pub request : Request
    request = request_at session trace past who (done + 1) call

    here : slice_get (call_entries history who (done + 1)) (length made) ≡ Some (length past, e)
    here = ap (λ (m : Made). slice_get m (length made)) entries_are ∙ at_behind made (length past, e) more

    step_whole : slice_get (steps_at session trace history who (done + 1) call) (length made) ≡ Some (e.what, e.act)
    step_whole =
        slice_get-take (length (call_entries history who (done + 1))) (length made) (steps_at session trace history who (done + 1) call) (e.what, e.act)
        (ap (λ (xs : List Step). slice_get xs (length made)) (sym (run.lines process who done call begun_now line))
        ∙ slice_get-map step_of (call_entries history who (done + 1)) (length made) ∙ ap (λ o. option_map step_of o) here)

    step_is : slice_get (call_steps who (before_call past who (done + 1)) made request) (length made) ≡ Some (e.what, e.act)
    step_is =
        steps_front who (before_call past who (done + 1)) made ((length past, e) ∷ more) request (length made) (e.what, e.act) (omega arith)
        (ap (λ (m : Made). slice_get (call_steps who (before_call past who (done + 1)) m request) (length made)) (sym entries_are)
        ∙ ap (λ (p : Process). slice_get (call_steps who p (call_entries history who (done + 1)) request) (length made)) (sym state_is)
        ∙ ap (λ (r : Request). slice_get (call_steps who (before_call history who (done + 1)) (call_entries history who (done + 1)) r) (length made)) (sym (request_if call refl))
        ∙ step_whole)

    pub is_next : IsNextEntry who (done + 1) request (before_call past who (done + 1)) made e
    is_next = record {
      by = refl;
      counted = number;
      call = run.named process who done call begun_now line (length made) (length past, e) here ∙ sym (named_call _ (before_call past who (done + 1)).last_read call);
      step = step_is;
    }

  -- its process has a call of that number
  pub call_at : (process : ℕ) → pnode_of_process session trace past process ≡ Some e.who → (call : LineCall) × (slice_get (calls_of trace process) (e.number - 1) ≡ Some call)
  call_at process begun =
      let size = past_size in
      let now : pnode_of_process session trace history process ≡ Some e.who =
      ap (λ h. pnode_of_process session trace h process) parts
      ∙ pnode_stays session trace past (e ∷ later) process e.who behind (subst (λ h. IsLegal session h) parts run.legal) (omega (arith, size, some)) begun in
      let most = run.last process e.who now in
      let low = counted in
      let high = below in
      is_place (calls_of trace process) (e.number - 1) (omega (arith, most, low, high))
