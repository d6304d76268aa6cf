-- A run of a trace with one more entry.
use Rattle.std.proofs.Common.{◌≡◌, ◌≢◌, ◌<◌, ◌≤◌, ◌+◌, ℕ, suc, List, [], ◌∷◌, ◌++◌, length, map, take, refl, ap, sym, ◌∙◌, subst, arith, ◌⊎◌, inl, inr, Bool, true, false, ◌||◌, ◌==◌, cond}
use Rattle.std.specs.Prelude.{Some, None, slice_get}
use Rattle.std.specs.Option.{option_map_or}
use Rattle.std.proofs.lemmas.Option.{slice_get_within}
use Rattle.std.proofs.lemmas.Bool.{or_right}
use Rattle.pass_entry.specs.declared.entry.Entry.{Entry}
use Rattle.pass_entry.specs.declared.entry.Act.TheVariants as act
use Rattle.pass_entry.specs.declared.entry.CallName.TheVariants as call_name
use Rattle.pass_plain.specs.declared.request.Request.{Request}
use Rattle.pass_plain.specs.declared.request.Request.TheVariants as requests
use Rattle.pass_plain.specs.Histories.{is_fault, is_of_call, call_entries}
use Rattle.pass_plain.specs.Sessions.{Session}
use Rattle.pass_plain.specs.Processes.{Process, has_begun, begins}
use Rattle.pass_plain.specs.Calls.{Made, name_of, call_steps, is_last, is_last_act}
use Rattle.pass_plain.specs.Legal.{MayFollow, before_call, is_over, last_number, step_of, is_start}
use Rattle.pass_plain.specs.Traces.{Line, LineCall, given, write_last, fork_as, wait_for, await_for, waited_for, name_of_call, lines_of, calls_of}
use Rattle.pass_plain.specs.Runs.{pnode_of_process, next_number, request_at, steps_at, IsRun}
use Rattle.pass_plain.proofs.Lists.{some_is, same_numbers, alike, different}
use Rattle.pass_plain.proofs.Appends.{place_of, slice_get-append}
use Rattle.pass_plain.proofs.Beginning.{begins-cases}
use Rattle.pass_plain.proofs.Calling.{numbered, of_call, last_number-append}
use Rattle.pass_plain.proofs.Going.{begun_law}
use Rattle.pass_plain.proofs.LastCalls.{begun_next}
use Rattle.pass_plain.proofs.Playing.{zero_not}
use Rattle.pass_plain.proofs.OtherCalls.{last_none, other_entries}
use Rattle.pass_replay.specs.Lines.{AreLinesBehind}
use Rattle.pass_replay.specs.Making.{IsRunSoFar, IsNextEntry}
use Rattle.pass_replay.proofs.Positions.{lines-append}
use Rattle.pass_replay.proofs.Begun.{child_has_begun}
use Rattle.pass_replay.proofs.StepKinds.{is_born}
use Rattle.pass_replay.proofs.NextCalls.{call_cases, line_behind, is_begun, named, is_ordinary, earlier_over}
use Rattle.pass_replay.proofs.Entries.{own_is, own_entries, own_state, other_state, made_or_not, nothing_by}
use Rattle.pass_replay.proofs.Births.{fork_call, own, longer_legal, over_stays, last_act, kind_is, any, New, child_is, silent, no_entries, mono, back, child_now}

module _ (session : Session) (trace : List Line) (behind : AreLinesBehind [] trace) (history : List Entry) (so_far : IsRunSoFar session trace history)
    (process who done : ℕ) (call : LineCall) (begun : pnode_of_process session trace history process ≡ Some who)
    (stands : slice_get (calls_of trace process) done ≡ Some call) (next : next_number history who ≡ done + 1)
    (e : Entry) (follows : MayFollow session history e)
    (is : IsNextEntry who (done + 1) (request_at session trace history who (done + 1) call) (before_call history who (done + 1)) (call_entries history who (done + 1)) e) where
  abbrev request : Request
  request = request_at session trace history who (done + 1) call

  abbrev made : Made
  made = call_entries history who (done + 1)

  abbrev state : Process
  state = before_call history who (done + 1)

  abbrev longer : List Entry
  longer = history ++ e ∷ []

  abbrev IsNew : ℕ → ℕ → Type 0
  IsNew = New session trace behind history so_far process who done call begun stands next e follows is

  grows_to : (q w : ℕ) → pnode_of_process session trace history q ≡ Some w → pnode_of_process session trace longer q ≡ Some w
  grows_to = mono session trace behind history so_far process who done call begun stands next e follows is

  goes_to : (q w : ℕ) → pnode_of_process session trace longer q ≡ Some w → (pnode_of_process session trace history q ≡ Some w) ⊎ IsNew q w
  goes_to = back session trace behind history so_far process who done call begun stands next e follows is

  own_call : is_of_call who (done + 1) e ≡ true
  own_call = own session trace behind history so_far process who done call begun stands next e follows is

  none_of : (q w n : ℕ) → IsNew q w → call_entries longer w n ≡ []
  none_of = no_entries session trace behind history so_far process who done call begun stands next e follows is

  nobody : (q w : ℕ) → IsNew q w → (i : ℕ) (f : Entry) → slice_get longer i ≡ Some f → f.who ≡ w → ⊥
  nobody = silent session trace behind history so_far process who done call begun stands next e follows is

  pub still_over : (w n : ℕ) → is_over history w n ≡ true → is_over longer w n ≡ true
  still_over w n over = (over_stays session trace behind history so_far process who done call begun stands next e follows is w n over).0

  earlier : (k : ℕ) → 1 ≤ k → k ≤ done → is_over history who k ≡ true
  earlier = earlier_over session trace behind history so_far process who done call begun stands next

  pub last_after : last_number longer who ≡ done + 1
  last_after = last_number-append history e who ∙ ap (λ b. cond b e.number (last_number history who)) (alike e.who who is.by) ∙ is.counted

  pub last_other : (w : ℕ) → w ≢ who → last_number longer w ≡ last_number history w
  last_other w apart = last_number-append history e w ∙ ap (λ b. cond b e.number (last_number history w)) (different e.who w (λ same. apart (sym same ∙ is.by)))

  -- a child that is waited for keeps its pnode
  waited : (p w n q : ℕ) (c : LineCall) → waited_for c ≡ Some q → pnode_of_process session trace history p ≡ Some w → slice_get (calls_of trace p) n ≡ Some c → ((k : ℕ) → 1 ≤ k → k ≤ n → is_over history w k ≡ true)
      → option_map_or (λ pnode. pnode) (pnode_of_process session trace longer q) 0 ≡ option_map_or (λ pnode. pnode) (pnode_of_process session trace history q) 0
  waited p w n q c waits at st over = elim (call_cases trace p n c st) [
    | inr exit ↦ absurd (let z : None ≡ Some q = sym (ap waited_for exit.0) ∙ waits in cc)
    | inl l ↦
        let (s, rules) = line_behind trace p n l.0 behind l.1 in
        let (k, m, stands_there, forks) = rules.waits q (ap waited_for l.2 ∙ waits) in
        let m_at : slice_get (lines_of s.before p) k ≡ Some m = ap (λ p. slice_get (lines_of s.before p) k) (sym s.own) ∙ stands_there in
        let short = slice_get_within (lines_of s.before p) k m m_at in
        let count = s.count in
        let in_trace : slice_get (lines_of trace p) k ≡ Some m =
        ap (λ (t : List Line). slice_get (lines_of t p) k) s.parts ∙ ap (λ (ls : List Line). slice_get ls k) (lines-append s.before (l.0 ∷ s.after) p) ∙ slice_get-append (lines_of s.before p) (lines_of (l.0 ∷ s.after) p) k m m_at in
        let there = child_has_begun session trace history p k q w m behind in_trace forks at (over (k + 1) (omega arith) (omega (arith, short, count))) in
        ap (λ o. option_map_or (λ pnode. pnode) o 0) (grows_to q _ there) ∙ sym (ap (λ o. option_map_or (λ pnode. pnode) o 0) there)
  ]

  -- the request of a call that has begun is the same
  request_same : (p w n : ℕ) (c : LineCall) → pnode_of_process session trace history p ≡ Some w → slice_get (calls_of trace p) n ≡ Some c
      → ((k : ℕ) → 1 ≤ k → k ≤ n → is_over history w k ≡ true) → before_call longer w (n + 1) ≡ before_call history w (n + 1)
      → request_at session trace longer w (n + 1) c ≡ request_at session trace history w (n + 1) c
  request_same p w n (given r) at st over same = refl
  request_same p w n (write_last fd) at st over same = ap (λ (p : Process). requests.Write fd p.last_read) same
  request_same p w n (fork_as child) at st over same = refl
  request_same p w n (wait_for q) at st over same = ap (λ m. requests.WaitChild m) (waited p w n q (wait_for q) refl at st over)
  request_same p w n (await_for q) at st over same = ap (λ m. requests.Await m) (waited p w n q (await_for q) refl at st over)

  pub request_stays : request_at session trace longer who (done + 1) call ≡ request
  request_stays = request_same process who done call begun stands earlier (own_state history e who (done + 1) own_call)

  -- the calls

  abbrev AreSteps : ℕ → ℕ → LineCall → Type 0
  AreSteps w n c = map step_of (call_entries longer w (n + 1)) ≡ take (length (call_entries longer w (n + 1))) (steps_at session trace longer w (n + 1) c)

  no_steps : (w n : ℕ) (c : LineCall) → call_entries longer w (n + 1) ≡ [] → AreSteps w n c
  no_steps w n c none =
      subst (λ (m : Made). map step_of m ≡ take (length m) (call_steps w (before_call longer w (n + 1)) m (request_at session trace longer w (n + 1) c))) (sym none) refl

  own_steps : AreSteps who done call
  own_steps =
      subst (λ (m : Made). map step_of m ≡ take (length m) (call_steps who (before_call longer who (done + 1)) m (request_at session trace longer who (done + 1) call)))
      (sym (own_entries history e who (done + 1) own_call))
      (subst (λ (p : Process). map step_of (made ++ (length history, e) ∷ []) ≡ take (length (made ++ (length history, e) ∷ [])) (call_steps who p (made ++ (length history, e) ∷ []) (request_at session trace longer who (done + 1) call)))
      (sym (own_state history e who (done + 1) own_call))
      (subst (λ (r : Request). map step_of (made ++ (length history, e) ∷ []) ≡ take (length (made ++ (length history, e) ∷ [])) (call_steps who state (made ++ (length history, e) ∷ []) r)) (sym request_stays)
      (begun_law who state made request (length history) e (is_begun session trace behind history so_far process who done call begun stands next) is.step)))

  other_steps : (p w n : ℕ) (c : LineCall) → pnode_of_process session trace history p ≡ Some w → slice_get (calls_of trace p) n ≡ Some c → is_of_call w (n + 1) e ≡ false → AreSteps w n c
  other_steps p w n c at st other = elim (made_or_not (call_entries history w (n + 1))) [
    | inl none ↦ no_steps w n c (other_entries history e w (n + 1) other ∙ none)
    | inr some ↦
        let same = other_state history e w (n + 1) 0 some.0 some.1 in
        let (stands_there, by, its) = of_call history w (n + 1) 0 some.0 some.1 in
        let below = (numbered session history so_far.run.legal).below some.0.0 some.0.1 stands_there in
        let last = ap (λ w. last_number history w) by in
        let over : (k : ℕ) → 1 ≤ k → k ≤ n → is_over history w k ≡ true = λ k low high. so_far.run.whole w k (so_far.begun p w at) low (omega (arith, below, last, its, high)) in
        subst (λ (m : Made). map step_of m ≡ take (length m) (call_steps w (before_call longer w (n + 1)) m (request_at session trace longer w (n + 1) c))) (sym (other_entries history e w (n + 1) other))
        (subst (λ (q : Process). map step_of (call_entries history w (n + 1)) ≡ take (length (call_entries history w (n + 1))) (call_steps w q (call_entries history w (n + 1)) (request_at session trace longer w (n + 1) c))) (sym same)
        (subst (λ (r : Request). map step_of (call_entries history w (n + 1)) ≡ take (length (call_entries history w (n + 1))) (call_steps w (before_call history w (n + 1)) (call_entries history w (n + 1)) r)) (sym (request_same p w n c at st over same))
        (so_far.run.lines p w n c at st)))
  ]

  -- an entry of the call of this number is one of the process's own call
  own_place : (p w n : ℕ) (c : LineCall) → pnode_of_process session trace history p ≡ Some w → slice_get (calls_of trace p) n ≡ Some c → is_of_call w (n + 1) e ≡ true
      → (w ≡ who) × (n ≡ done) × (call ≡ c)
  own_place p w n c at st t =
      let (by, its) = own_is e w (n + 1) t in
      let same : w ≡ who = sym by ∙ is.by in
      let number : n ≡ done = (let z = is.counted in omega (arith, z, its)) in
      let one : p ≡ process = so_far.single p process who (at ∙ ap (λ w. Some w) same) begun in
      (same, number, some_is call c (sym stands ∙ ap (λ n. slice_get (calls_of trace process) n) (sym number) ∙ ap (λ p. slice_get (calls_of trace p) n) (sym one) ∙ st))

  lines_after : (p w n : ℕ) (c : LineCall) → pnode_of_process session trace longer p ≡ Some w → slice_get (calls_of trace p) n ≡ Some c → AreSteps w n c
  lines_after p w n c at st = elim (goes_to p w at) [
    | inr new ↦ no_steps w n c (none_of p w (n + 1) new)
    | inl old ↦ at_test old (is_of_call w (n + 1) e) refl
  ]
    where
      at_test : pnode_of_process session trace history p ≡ Some w → (b : Bool) → is_of_call w (n + 1) e ≡ b → AreSteps w n c
      at_test old true t =
          let (same, number, one) = own_place p w n c old st t in
          subst (λ w. AreSteps w n c) (sym same) (subst (λ n. AreSteps who n c) (sym number) (subst (λ c. AreSteps who done c) one own_steps))
      at_test old false t = other_steps p w n c old st t

  pub named_after : (p w n : ℕ) (c : LineCall) → pnode_of_process session trace longer p ≡ Some w → slice_get (calls_of trace p) n ≡ Some c → (j : ℕ) (s : ℕ × Entry)
      → slice_get (call_entries longer w (n + 1)) j ≡ Some s → s.1.call ≡ name_of_call c
  named_after p w n c at st j s there = elim (goes_to p w at) [
    | inr new ↦ absurd (let z : slice_get [] j ≡ Some s = ap (λ (m : Made). slice_get m j) (sym (none_of p w (n + 1) new)) ∙ there in cc)
    | inl old ↦ at_test old (is_of_call w (n + 1) e) refl
  ]
    where
      at_test : pnode_of_process session trace history p ≡ Some w → (b : Bool) → is_of_call w (n + 1) e ≡ b → s.1.call ≡ name_of_call c
      at_test old true t =
          let (same, number, one) = own_place p w n c old st t in
          elim (place_of (call_entries history w (n + 1)) (length history, e) j s (ap (λ (m : Made). slice_get m j) (sym (own_entries history e w (n + 1) t)) ∙ there)) [
            | inl l ↦ so_far.run.named p w n c old st j s l.0
            | inr r ↦ ap (λ (s : ℕ × Entry). s.1.call) (sym r.1) ∙ is.call ∙ named session trace behind history so_far process who done call begun stands next ∙ ap name_of_call one
          ]
      at_test old false t = so_far.run.named p w n c old st j s (ap (λ (m : Made). slice_get m j) (sym (other_entries history e w (n + 1) t)) ∙ there)

  -- who has begun in the history is a process of the trace
  traced_after : (w : ℕ) → has_begun longer w ≡ true → (p : ℕ) × (pnode_of_process session trace longer p ≡ Some w)
  traced_after w has = at_test (has_begun history w) refl
    where
      now_one : begins w e.call e.act e.what e.reply ≡ true → (p : ℕ) × (pnode_of_process session trace longer p ≡ Some w)
      now_one now = elim (begins-cases w e.call e.act e.what e.reply now) [
        | inl start ↦ absurd (let z : true ≡ false = ap is_start (sym start.0 ∙ is.call) ∙ is_ordinary session trace behind history so_far process who done call begun stands next in cc)
        | inr born ↦
            let born_is : e.act ≡ act.Born born.0 born.1 = born.2 in
            let forks = (kind_is session trace behind history so_far process who done call begun stands next e follows is).born (ap is_born born_is) in
            let (q, fork) = fork_call _ state.last_read call (any session trace behind history so_far process who done call begun stands next e follows is) forks in
            let is_the_fork : request ≡ requests.Fork = ap (λ c. request_at session trace history who (done + 1) c) fork in
            let named_fork : e.call ≡ call_name.Fork = is.call ∙ ap name_of is_the_fork in
            let last : is_last_act state e.call e.act ≡ true = ap (λ c. is_last_act state c e.act) named_fork ∙ ap (λ a. is_last_act state call_name.Fork a) born_is in
            let end : suc (length made) ≡ length (call_steps who state made request) =
            same_numbers (suc (length made)) (length (call_steps who state made request)) (sym (last_act session trace behind history so_far process who done call begun stands next e follows is) ∙ last) in
            let ends : is_last state e ≡ true = or_right (is_fault e.reply) (is_last_act state e.call e.act) last in
            let child = child_now session trace behind history so_far process who done call begun stands next e follows is q fork ends in
            let what = (child_is session trace behind history so_far process who done call begun stands next e follows is q _ (fork, ends, refl)).0 in
            (q, child ∙ ap (λ w. Some w) (sym what ∙ born.3))
      ]

      at_test : (b : Bool) → has_begun history w ≡ b → (p : ℕ) × (pnode_of_process session trace longer p ≡ Some w)
      at_test true was = let (p, at) = so_far.run.traced w was in (p, grows_to p w at)
      at_test false was = now_one (ap (λ b. b || begins w e.call e.act e.what e.reply) (sym was) ∙ sym (begun_next history e w) ∙ has)

  whole_after : (w n : ℕ) → has_begun longer w ≡ true → 1 ≤ n → n < last_number longer w → is_over longer w n ≡ true
  whole_after w n has low below = at_test (w == who) refl
    where
      begun_or : w ≢ who → (b : Bool) → has_begun history w ≡ b → is_over longer w n ≡ true
      begun_or apart true was = still_over w n (so_far.run.whole w n was low (let z = last_other w apart in omega (arith, z, below)))
      begun_or apart false was =
          let none = last_none history w (nothing_by session history w so_far.run.legal was
          (λ zero_is. zero_not session longer (longer_legal session trace behind history so_far process who done call begun stands next e follows is) (ap (λ w. has_begun longer w) (sym zero_is) ∙ has))) in
          absurd (let z = last_other w apart in omega (arith, z, none, below))

      at_test : (b : Bool) → (w == who) ≡ b → is_over longer w n ≡ true
      at_test true t =
          let same = same_numbers w who t in
          let last = ap (λ w. last_number longer w) same ∙ last_after in
          ap (λ w. is_over longer w n) same ∙ still_over who n (earlier n low (omega (arith, last, below)))
      at_test false t = begun_or (λ same. let z : true ≡ false = sym (alike w who same) ∙ t in cc) (has_begun history w) refl

  few_after : (p w : ℕ) → pnode_of_process session trace longer p ≡ Some w → last_number longer w ≤ length (calls_of trace p)
  few_after p w at = elim (goes_to p w at) [
    | inr new ↦ let none = last_none longer w (nobody p w new) in omega (arith, none)
    | inl old ↦ at_test old (w == who) refl
  ]
    where
      at_test : pnode_of_process session trace history p ≡ Some w → (b : Bool) → (w == who) ≡ b → last_number longer w ≤ length (calls_of trace p)
      at_test old true t =
          let same = same_numbers w who t in
          let one : p ≡ process = so_far.single p process who (old ∙ ap (λ w. Some w) same) begun in
          let within = slice_get_within (calls_of trace process) done call stands in
          let last = ap (λ w. last_number longer w) same ∙ last_after in
          let size = ap (λ p. length (calls_of trace p)) one in
          omega (arith, within, last, size)
      at_test old false t =
          let other = last_other w (λ same. let z : true ≡ false = sym (alike w who same) ∙ t in cc) in
          let most = so_far.run.last p w old in
          omega (arith, other, most)

  pub run_after : IsRun session trace longer
  run_after = record {
    legal = longer_legal session trace behind history so_far process who done call begun stands next e follows is;
    traced = traced_after;
    lines = lines_after;
    named = named_after;
    whole = whole_after;
    last = few_after;
  }
