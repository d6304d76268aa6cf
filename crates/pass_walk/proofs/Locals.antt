-- A living process of a run goes on by one call.
use Rattle.std.proofs.Common.{◌≡◌, ◌<◌, ◌≤◌, ◌+◌, ◌-◌, ℕ, List, [], ◌∷◌, length, take, refl, ap, sym, ◌∙◌, subst, arith, inl, inr, false}
use Rattle.std.specs.Prelude.{Some, None, slice_get}
use Rattle.std.proofs.lemmas.Bool.{cases_lt}
use Rattle.std.proofs.lemmas.Option.{slice_get_within}
use Rattle.std.proofs.lemmas.List.{take_all, take-append-le}
use mathlib.Core.List.{IsPrefix}
use Rattle.pass_entry.specs.declared.entry.Entry.{Entry}
use Rattle.pass_plain.specs.declared.request.Request.{Request}
use Rattle.pass_plain.specs.declared.request.Request.TheVariants as requests
use Rattle.pass_plain.specs.Histories.{call_entries}
use Rattle.pass_plain.specs.Sessions.{Session}
use Rattle.pass_plain.specs.Processes.{Process}
use Rattle.pass_plain.specs.Calls.{Made, call_steps, pnode_at}
use Rattle.pass_plain.specs.Legal.{before_call}
use Rattle.pass_plain.specs.Traces.{Line, LineCall, given, write_last, fork_as, wait_for, await_for, waited_for, request_of, lines_of, calls_of}
use Rattle.pass_plain.specs.Runs.{next_number}
use Rattle.pass_plain.proofs.Lists.{some_is, slice_get-front}
use Rattle.pass_plain.proofs.Appends.{slice_get-append}
use Rattle.pass_hold.specs.Goings.{Goes, HasAnswered, HasNotAnswered, IsStepAt}
use Rattle.pass_progress.specs.Progress.{IsNotReady}
use Rattle.pass_replay.specs.Members.{KnowsChildren, request_by, IsLineStep, MakesSteps, Waits}
use Rattle.pass_replay.specs.Lines.{AreLinesBehind}
use Rattle.pass_replay.specs.Making.{IsNextEntry}
use Rattle.pass_replay.proofs.Positions.{lines-append}
use Rattle.pass_replay.proofs.NextCalls.{call_cases, line_behind}
use Rattle.pass_walk.specs.Local.{IsLocal}

-- whoever knows the children knows the same pnode of one that a call waits for
known_alike : (trace : List Line) (behind : AreLinesBehind [] trace) (history : List Entry) (process who done : ℕ) (call : LineCall) (a b : ℕ → ℕ) (q : ℕ) → waited_for call ≡ Some q
    → slice_get (calls_of trace process) done ≡ Some call → KnowsChildren trace history process who done a → KnowsChildren trace history process who done b → a q ≡ b q
known_alike trace behind history process who done call a b q waits at ka kb = elim (call_cases trace process done call at) [
  | inr exit ↦ absurd (let z : None ≡ Some q = sym (ap waited_for exit.0) ∙ waits in cc)
  | inl l ↦
      let (s, rules) = line_behind trace process done l.0 behind l.1 in
      let (k, m, stands_there, forks) = rules.waits q (ap waited_for l.2 ∙ waits) in
      let m_at : slice_get (lines_of s.before process) k ≡ Some m = ap (λ p. slice_get (lines_of s.before p) k) (sym s.own) ∙ stands_there in
      let short = slice_get_within (lines_of s.before process) k m m_at in
      let count = s.count in
      let in_trace : slice_get (lines_of trace process) k ≡ Some m =
      ap (λ (t : List Line). slice_get (lines_of t process) k) s.parts ∙ ap (λ (ls : List Line). slice_get ls k) (lines-append s.before (l.0 ∷ s.after) process)
      ∙ slice_get-append (lines_of s.before process) (lines_of (l.0 ∷ s.after) process) k m m_at in
      let less : k < done = omega (arith, short, count) in
      ka k q m less in_trace forks ∙ sym (kb k q m less in_trace forks)
]

-- .. and makes the same request of a call
pub same_request : (trace : List Line) (behind : AreLinesBehind [] trace) (history : List Entry) (process who done : ℕ) (call : LineCall) (a b : ℕ → ℕ) (last : List ℕ)
    → slice_get (calls_of trace process) done ≡ Some call → KnowsChildren trace history process who done a → KnowsChildren trace history process who done b
    → request_of a last call ≡ request_of b last call
same_request trace behind history process who done (given r) a b last at ka kb = refl
same_request trace behind history process who done (write_last fd) a b last at ka kb = refl
same_request trace behind history process who done (fork_as child) a b last at ka kb = refl
same_request trace behind history process who done (wait_for q) a b last at ka kb =
    ap (λ n. requests.WaitChild n) (known_alike trace behind history process who done (wait_for q) a b q refl at ka kb)
same_request trace behind history process who done (await_for q) a b last at ka kb =
    ap (λ n. requests.Await n) (known_alike trace behind history process who done (await_for q) a b q refl at ka kb)

-- an entry of the whole that stands within a beginning
front : {X : Type 0} (xs ys : List X) (n : ℕ) (x : X) → (p : IsPrefix xs ys) → n < length xs → slice_get ys n ≡ Some x → slice_get xs n ≡ Some x
front xs ys n x p less at = slice_get-front xs p.0 n x less (ap (λ zs. slice_get zs n) p.1 ∙ at)

front_take : {X : Type 0} (xs ys : List X) (n : ℕ) (p : IsPrefix xs ys) → n ≤ length xs → take n ys ≡ take n xs
front_take xs ys n p le = ap (λ zs. take n zs) (sym p.1) ∙ take-append-le n xs p.0 le

module _ (session : Session) (trace : List Line) (behind : AreLinesBehind [] trace) (process who : ℕ) (old new : List Entry) (done : ℕ) (pnode : ℕ → ℕ) (call : LineCall)
    (local : IsLocal trace process who old done pnode) (stands : slice_get (calls_of trace process) done ≡ Some call)
    (goes : Goes session who (request_by pnode old who (done + 1) call) old new) where
  abbrev request : Request
  request = request_by pnode old who (done + 1) call

  -- what one who knows the children in a later history knew in the old one
  knew : (n : ℕ) (other : ℕ → ℕ) → length old ≤ n → KnowsChildren trace (take n new) process who done other → KnowsChildren trace old process who done other
  knew n other later knows k child l early at forks =
      knows k child l early at forks ∙ ap (λ (m : Made). pnode_at m 0) (goes.others (k + 1) n (λ same. let z = local.next in omega (arith, same, z, early)) later)

  pub knows_still : (other : ℕ → ℕ) → KnowsChildren trace old process who done other → KnowsChildren trace new process who done other
  knows_still other knows k child l early at forks =
      knows k child l early at forks
      ∙ ap (λ (m : Made). pnode_at m 0) (sym (goes.others (k + 1) (length old + length new) (λ same. let z = local.next in omega (arith, same, z, early)) (omega arith))
      ∙ ap (λ h. call_entries h who (k + 1)) (take_all (length old + length new) new (omega arith)))

  new_step : (n : ℕ) (e : Entry) → length old ≤ n → e.who ≡ who → slice_get new n ≡ Some e → IsLineStep trace process who (take n new) e
  new_step n e later by at =
      let step : IsStepAt who (done + 1) request (before_call old who (done + 1)) (take n new) e =
      subst (λ number. IsStepAt who number request (before_call old who number) (take n new) e) local.next (goes.steps n e at by later) in
      let counted : e.number ≡ done + 1 = step.counted in
      let before : e.number - 1 ≡ done = omega (arith, counted) in
      let within = local.within in
      let made = call_entries (take n new) who (done + 1) in
      let is_next : IsNextEntry who (done + 1) request (before_call old who (done + 1)) made e = record { by = step.by; counted = step.counted; call = step.named; step = step.step } in
      record {
        some = omega (arith, counted);
        within = omega (arith, counted, within);
        next = step.next ∙ sym counted;
        is = λ other there known_by knows.
            let one : call ≡ other = some_is call other (sym stands ∙ ap (λ k. slice_get (calls_of trace process) k) (sym before) ∙ there) in
            let knew_it = knew n known_by later (subst (λ k. KnowsChildren trace (take n new) process who k known_by) before knows) in
            let last : List ℕ = (before_call old who (done + 1)).last_read in
            let same : request ≡ request_by known_by (take n new) who (done + 1) other =
            same_request trace behind old process who done call pnode known_by last stands local.knows knew_it
            ∙ ap (λ (p : Process). request_of known_by p.last_read call) (sym step.was)
            ∙ ap (λ c. request_of known_by (before_call (take n new) who (done + 1)).last_read c) one in
            subst (λ number. IsNextEntry who number (request_by known_by (take n new) who number other) (before_call (take n new) who number) (call_entries (take n new) who number) e) (sym counted)
            (subst (λ (p : Process). IsNextEntry who (done + 1) (request_by known_by (take n new) who (done + 1) other) p (call_entries (take n new) who (done + 1)) e) (sym step.was)
            (subst (λ r. IsNextEntry who (done + 1) r (before_call old who (done + 1)) (call_entries (take n new) who (done + 1)) e) same is_next));
      }

  pub makes_new : MakesSteps trace process who new
  makes_new = record {
    begun = goes.begun;
    steps = λ n e at by. elim (cases_lt n (length old)) [
      | inr later ↦ new_step n e later by at
      | inl early ↦ subst (λ h. IsLineStep trace process who h e) (sym (front_take old new n goes.begins (omega (arith, early)))) (local.makes.steps n e (front old new n e goes.begins early at) by)
    ];
  }

  -- the call is over, and another one is left
  pub answered : HasAnswered who old new → (pnode_now : ℕ → ℕ) → KnowsChildren trace new process who (done + 1) pnode_now → done + 1 < length (calls_of trace process)
      → IsLocal trace process who new (done + 1) pnode_now
  answered has pnode_now knows within =
      let number = local.next in
      let next = has.next in
      record {
        makes = makes_new;
        next = omega (arith, next, number);
        living = has.living;
        knows = knows;
        within = within;
      }

  -- its state before the call is as it was
  state_stays : HasNotAnswered who request old new → before_call new who (done + 1) ≡ before_call old who (done + 1)
  state_stays has = subst (λ number. before_call new who number ≡ before_call old who number) local.next has.state

  -- the call isn't over
  pub unanswered : HasNotAnswered who request old new → IsLocal trace process who new done pnode
  unanswered has = record {
    makes = makes_new;
    next = has.next ∙ local.next;
    living = has.living;
    knows = knows_still pnode local.knows;
    within = local.within;
  }

  -- and is the same one
  pub request_stays : HasNotAnswered who request old new → (other : LineCall) → slice_get (calls_of trace process) done ≡ Some other → request ≡ request_by pnode new who (done + 1) other
  request_stays has other there =
      let one : call ≡ other = some_is call other (sym stands ∙ there) in
      ap (λ (p : Process). request_of pnode p.last_read call) (sym (state_stays has)) ∙ ap (λ c. request_of pnode (before_call new who (done + 1)).last_read c) one

  -- and its next step isn't ready
  pub waits_now : HasNotAnswered who request old new → IsNotReady session who request new → Waits session trace (record { process = process; who = who; seen = new; ended = false })
  waits_now has unready other there known_by knows s at =
      let next : next_number new who ≡ done + 1 = has.next ∙ local.next in
      let before : next_number new who - 1 ≡ done = omega (arith, next) in
      let one : call ≡ other = some_is call other (sym stands ∙ ap (λ k. slice_get (calls_of trace process) k) (sym before) ∙ there) in
      let state : before_call new who (next_number new who) ≡ before_call old who (done + 1) = ap (λ n. before_call new who n) next ∙ state_stays has in
      let knew_it = subst (λ h. KnowsChildren trace h process who done known_by → KnowsChildren trace old process who done known_by) (take_all (length old + length new) new (omega arith))
      (knew (length old + length new) known_by (omega arith)) (subst (λ k. KnowsChildren trace new process who k known_by) before knows) in
      let same : request ≡ request_by known_by new who (next_number new who) other =
      same_request trace behind old process who done call pnode known_by (before_call old who (done + 1)).last_read stands local.knows knew_it
      ∙ ap (λ (p : Process). request_of known_by p.last_read call) (sym state)
      ∙ ap (λ c. request_of known_by (before_call new who (next_number new who)).last_read c) one in
      unready s (ap (λ r. slice_get (call_steps who (before_call new who (next_number new who)) (call_entries new who (next_number new who)) r) (length (call_entries new who (next_number new who)))) same ∙ at)
