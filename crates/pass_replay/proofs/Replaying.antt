-- The history of a run, replayed entry by entry.
use Rattle.std.proofs.Common.{◌≡◌, ◌<◌, ◌≤◌, ◌+◌, ◌-◌, ℕ, zero, suc, List, [], ◌∷◌, ◌++◌, length, take, refl, ap, sym, ◌∙◌, subst, arith, inl, inr, true, false, ◌==◌, length-append}
use Rattle.std.specs.Prelude.{Some, slice_get, Contains, if◌then◌else◌}
use Rattle.std.specs.Option.{option_map_or}
use Rattle.std.proofs.lemmas.List.{take_all, take-append-le}
use Rattle.pass_entry.specs.declared.entry.Entry.{Entry}
use Rattle.pass_entry.specs.declared.entry.CallName.TheVariants as call_name
use Rattle.pass_entry.proofs.Places.{within_front, take_one_more}
use Rattle.pass_plain.specs.declared.request.Request.TheVariants as requests
use Rattle.pass_plain.specs.Histories.{call_entries, is_fault}
use Rattle.pass_plain.specs.Sessions.{Session}
use Rattle.pass_plain.specs.Processes.{has_begun}
use Rattle.pass_plain.specs.Places.{left_places}
use Rattle.pass_plain.specs.Legal.{IsLegal, MayFollow, before_call, is_over, ends_call}
use Rattle.pass_plain.specs.Traces.{Line, LineCall, given, write_last, fork_as, wait_for, await_for, name_of_call, calls_of}
use Rattle.pass_plain.specs.Runs.{next_number, pnode_of_process, request_at}
use Rattle.pass_plain.proofs.Lists.{some_is, same_itself, is_place}
use Rattle.pass_plain.proofs.Appends.{place_of}
use Rattle.pass_plain.proofs.Calling.{acts-cases}
use Rattle.pass_plain.proofs.TwoPrefixes.{none_later, SameCaller, caller_agrees}
use Rattle.pass_replay.specs.Ends.{NoneOpen}
use Rattle.pass_replay.specs.Lines.{AreLinesBehind}
use Rattle.pass_replay.specs.Making.{IsNextEntry, IsRunSoFar, first_entry, entries_made}
use Rattle.pass_replay.specs.Members.{KnowsChildren, IsLineStep, Member, HasMember}
use Rattle.pass_replay.specs.Needs.{need_of_line, places_of}
use Rattle.pass_replay.specs.Replays.{HasRun, RunLaw}
use Rattle.pass_replay.proofs.Sums.{count-le_sum}
use Rattle.pass_replay.proofs.Begun.{child_has_begun}
use Rattle.pass_replay.proofs.NextCalls.{IsAnyCall, call_cases, any_call, earlier_over, named}
use Rattle.pass_replay.proofs.Births.{child_is, back, fork_done}
use Rattle.pass_replay.proofs.SoFar.{so_far_after}
use Rattle.pass_replay.proofs.Started.{has_started, only_first}
use Rattle.pass_replay.proofs.Closed.{none_open}
use Rattle.pass_replay.proofs.Reserving.{Fits, fits_after, fits_first}

-- a call that is named a fork forks
named_fork : (call : LineCall) → name_of_call call ≡ call_name.Fork → IsAnyCall call → (q : ℕ) × (call ≡ fork_as q)
named_fork (given requests.Fork) is (inl line) = absurd (let z : false ≡ true = line.0 in cc)
named_fork (given requests.Fork) is (inr exit) = absurd (cc)
named_fork (given _) is any = absurd (cc)
named_fork (write_last fd) is any = absurd (cc)
named_fork (fork_as q) is any = (q, refl)
named_fork (wait_for q) is any = absurd (cc)
named_fork (await_for q) is any = absurd (cc)

module _ (session : Session) (trace : List Line) (members : List Member) (history : List Entry) (ran : HasRun session trace members history) where
  behind : AreLinesBehind [] trace
  behind = ran.ordered

  started : IsRunSoFar session trace (first_entry session ∷ [])
  started = has_started session trace ran.room

  -- so far the history is a run, and each process that has begun is there
  pub record IsAt (n : ℕ) : Type 0 where
    pub so_far : IsRunSoFar session trace (take n history)
    pub known : (q w : ℕ) → pnode_of_process session trace (take n history) q ≡ Some w → HasMember members q w
    pub fit : Fits session trace (take n history)
    pub forks : (k : ℕ) (e : Entry) → slice_get (take n history) k ≡ Some e → e.call ≡ call_name.Fork → is_fault e.reply ≡ false

  -- one entry more
  next : (n : ℕ) → n < length history → 1 ≤ n → IsAt n → IsAt (suc n)
  next n short some at =
      let (e, stands) = is_place history n short in
      let longer : take (suc n) history ≡ take n history ++ e ∷ [] = take_one_more history n e stands in
      let follows : MayFollow session (take n history) e = ran.told.legal n e stands in
      elim (acts-cases (take n history) e follows.acts) [
        | inl start ↦
            let some_so_far = at.so_far.some in
            let none = ap length start.1 in
            absurd (omega (arith, some_so_far, none))
        | inr acts ↦
            let (p, begun) = at.so_far.run.traced e.who acts.1 in
            let has = at.known p e.who begun in
            with_member n e stands longer follows at p begun has
      ]
    where
      with_member : (n : ℕ) (e : Entry) → slice_get history n ≡ Some e → take (suc n) history ≡ take n history ++ e ∷ [] → MayFollow session (take n history) e → IsAt n
          → (p : ℕ) → pnode_of_process session trace (take n history) p ≡ Some e.who → HasMember members p e.who → IsAt (suc n)
      with_member n e stands longer follows at p begun has =
          let m = has.member in
          let parts = (ran.told.begins m has.among).1 in
          let mine : (e.who == m.who) ≡ true = ap (λ w. w == m.who) (sym has.is) ∙ same_itself m.who in
          let (less, there) = within_front (λ (f : Entry). f.who == m.who) m.seen (ran.told.begins m has.among).0 history n e parts
          (none_later (λ (e : Entry). e.who == m.who) m.seen (ran.told.begins m has.among).0 history parts (ran.told.agrees m has.among)) stands mine in
          let front : take n m.seen ≡ take n history = sym (take-append-le n m.seen (ran.told.begins m has.among).0 (omega (arith, less))) ∙ ap (λ h. take n h) parts in
          let own = (ran.made.make m has.among).steps n e there (sym has.is) in
          let step : IsLineStep trace p e.who (take n history) e =
          subst (λ (x : ℕ × ℕ × List Entry). IsLineStep trace x.0 x.1 x.2 e) (λ i. (has.number i, has.is i, front i)) own in
          let done : ℕ = e.number - 1 in
          let counted : e.number ≡ done + 1 = (let some = step.some in omega (arith, some)) in
          let (call, line) = is_place (calls_of trace p) done (let within = step.within in omega (arith, within, counted)) in
          let at_number : next_number (take n history) e.who ≡ done + 1 = step.next ∙ counted in
          let pnode : ℕ → ℕ = λ process. option_map_or (λ pnode. pnode) (pnode_of_process session trace (take n history) process) 0 in
          let knows : KnowsChildren trace (take n history) p e.who done pnode = λ k child l early at_line forks.
          ap (λ o. option_map_or (λ pnode. pnode) o 0)
          (child_has_begun session trace (take n history) p k child e.who l behind at_line forks begun
          (earlier_over session trace behind (take n history) at.so_far p e.who done call begun line at_number (k + 1) (omega arith) (omega (arith, early)))) in
          let is : IsNextEntry e.who (done + 1) (request_at session trace (take n history) e.who (done + 1) call) (before_call (take n history) e.who (done + 1)) (call_entries (take n history) e.who (done + 1)) e =
          subst (λ number. IsNextEntry e.who number (request_at session trace (take n history) e.who number call) (before_call (take n history) e.who number) (call_entries (take n history) e.who number) e)
          counted (step.is call line pnode knows) in
          record {
            so_far = subst (λ h. IsRunSoFar session trace h) (sym longer) (so_far_after session trace behind (take n history) at.so_far p e.who done call begun line at_number e follows is);
            known = λ q w there_now. elim (back session trace behind (take n history) at.so_far p e.who done call begun line at_number e follows is q w
                (ap (λ h. pnode_of_process session trace h q) (sym longer) ∙ there_now)) [
                  | inl old ↦ at.known q w old
                  | inr new ↦
                      let (what, (out, born)) = child_is session trace behind (take n history) at.so_far p e.who done call begun line at_number e follows is q w new in
                      let birth = ran.made.bear m has.among n e out _ there (sym has.is) born in
                      let number : birth.number ≡ done = (let c = birth.counted in omega (arith, c, counted)) in
                      let forks : fork_as birth.child ≡ fork_as q = some_is (fork_as birth.child) (fork_as q)
                      (sym birth.forks ∙ ap (λ n. slice_get (calls_of trace m.process) n) number ∙ ap (λ p. slice_get (calls_of trace p) done) has.number ∙ line ∙ ap (λ c. Some c) new.0) in
                      let child : birth.child ≡ q = cc (forks) in
                      subst (λ (x : ℕ × ℕ). HasMember members x.0 x.1) (λ i. (child i, what i)) birth.there
                ];
            fit = subst (λ h. Fits session trace h) (sym longer) (fits_after session trace behind (take n history) at.so_far p e.who done call begun line at_number e follows is at.fit);
            forks = λ k f there_too forked. elim (place_of (take n history) e k f (ap (λ h. slice_get h k) (sym longer) ∙ there_too)) [
              | inl l ↦ at.forks k f l.0 forked
              | inr r ↦
                  let (q, fork) = named_fork call (sym (is.call ∙ named session trace behind (take n history) at.so_far p e.who done call begun line at_number) ∙ ap (λ (e : Entry). e.call) r.1 ∙ forked) (any_call trace p done call behind line) in
                  ap (λ (e : Entry). is_fault e.reply) (sym r.1) ∙ fork_done session trace behind (take n history) at.so_far p e.who done call begun line at_number e follows is q fork
            ];
          }

  -- so it goes on to each place of the history
  pub from : (n : ℕ) → IsAt 1 → 1 ≤ n → n ≤ length history → IsAt n
  from zero start some short = absurd (omega arith)
  from (suc zero) start some short = start
  from (suc (suc n)) start some short = next (suc n) (omega arith) (omega arith) (from (suc n) start (omega arith) (omega arith))

  one : take 1 history ≡ first_entry session ∷ []
  one = ap (λ h. take 1 h) (sym ran.starts.1)

  pub at_one : IsAt 1
  at_one = record {
    so_far = subst (λ h. IsRunSoFar session trace h) (sym one) started;
    known = λ q w at.
        let (is_one, is_first) = only_first session trace q w (ap (λ h. pnode_of_process session trace h q) (sym one) ∙ at) in
        subst (λ (x : ℕ × ℕ). HasMember members x.0 x.1) (λ i. (is_one i, is_first i)) ran.made.first_is;
    fit = subst (λ h. Fits session trace h) (sym one) (fits_first session trace);
    forks = λ k e at forked. absurd (let z : call_name.Start ≡ call_name.Fork = only_start k e (ap (λ h. slice_get h k) (sym one) ∙ at) ∙ forked in cc);
  }
    where
      only_start : (k : ℕ) (e : Entry) → slice_get (first_entry session ∷ []) k ≡ Some e → call_name.Start ≡ e.call
      only_start zero e at = ap (λ (e : Entry). e.call) (some_is (first_entry session) e at)
      only_start (suc k) e at = absurd (cc)

  some_entry : 1 ≤ length history
  some_entry = (let z = ap length ran.starts.1 in let y = length-append (first_entry session ∷ []) ran.starts.0 in omega (arith, z, y))

  whole : take (length history) history ≡ history
  whole = take_all (length history) history (omega arith)

  at_end : IsAt (length history)
  at_end = from (length history) at_one some_entry (omega arith)

  pub so_far : IsRunSoFar session trace history
  so_far = subst (λ h. IsRunSoFar session trace h) whole at_end.so_far

  pub known : (q w : ℕ) → pnode_of_process session trace history q ≡ Some w → HasMember members q w
  known q w at = at_end.known q w (ap (λ h. pnode_of_process session trace h q) whole ∙ at)

  -- no fork was a fault
  pub forks_done : (k : ℕ) (e : Entry) → slice_get history k ≡ Some e → e.call ≡ call_name.Fork → is_fault e.reply ≡ false
  forks_done k e at forked = at_end.forks k e (ap (λ h. slice_get h k) whole ∙ at) forked

  -- whatever beginning a process had seen: where its next line's call has no entry yet, the places that it needs are left
  pub places_left : (reserved : ℕ) → places_of trace ≤ reserved → (m : Member) → Contains members m → pnode_of_process session trace m.seen m.process ≡ Some m.who
      → (done : ℕ) (call : LineCall) → slice_get (calls_of trace m.process) done ≡ Some call → call_entries m.seen m.who (done + 1) ≡ []
      → need_of_line call ≤ left_places reserved m.seen
  places_left reserved enough m is known_as done call stands none =
      let size = length-append m.seen (ran.told.begins m is).0 in
      let total = ap length (ran.told.begins m is).1 in
      let seen_is : take (length m.seen) history ≡ m.seen = ap (λ h. take (length m.seen) h) (sym (ran.told.begins m is).1) ∙ take-append-le (length m.seen) m.seen (ran.told.begins m is).0 (omega arith) ∙ take_all (length m.seen) m.seen (omega arith) in
      let at = from (length m.seen) at_one (some_seen m.seen (ran.made.make m is).begun) (omega (arith, size, total)) in
      let fit = (subst (λ h. Fits session trace h) seen_is at.fit).fits in
      elim (call_cases trace m.process done call stands) [
        | inr exit ↦ (let z = ap need_of_line exit.0 in omega (arith, z))
        | inl l ↦
            let counted = count-le_sum (λ p n c. if entries_made session trace m.seen p n == 0 then need_of_line c else 0) trace m.process done l.0 l.1 in
            let made : entries_made session trace m.seen m.process (done + 1) ≡ 0 = ap (λ o. option_map_or (λ w. length (call_entries m.seen w (done + 1))) o 0) known_as ∙ ap length none in
            let here = ap (λ n. if n == 0 then need_of_line l.0.call else 0) made in
            let same = ap need_of_line l.2 in
            omega (arith, fit, counted, here, same, enough)
      ]
    where
      some_seen : (seen : List Entry) → has_begun seen m.who ≡ true → 1 ≤ length seen
      some_seen [] has = absurd (cc)
      some_seen (e ∷ es) has = omega arith

  -- what a process reads of its own in the history is what it had seen
  pub same : (m : Member) → Contains members m → SameCaller m.seen history m.who
  same m is =
      let parts = (ran.told.begins m is).1 in
      let none = none_later (λ (e : Entry). e.who == m.who) m.seen (ran.told.begins m is).0 history parts (ran.told.agrees m is) in
      subst (λ h. SameCaller m.seen h m.who) parts (caller_agrees session m.seen (ran.told.begins m is).0 m.who (subst (λ h. IsLegal session h) (sym parts) ran.told.legal) (ran.made.make m is).begun none)

  pub over_same : (m : Member) → Contains members m → (n : ℕ) → is_over history m.who n ≡ is_over m.seen m.who n
  over_same m is n = (λ i. ends_call ((same m is).before n i) ((same m is).calls n i))

  pub none_is_open : ((m : Member) → Contains members m → m.ended ≡ true) → NoneOpen session trace history
  none_is_open all = none_open session trace behind history so_far (λ p w at.
      let has = known p w at in
      let m = has.member in
      let over = over_same m has.among (length (calls_of trace m.process)) ∙ ran.made.ended m has.among (all m has.among) in
      ap (λ w. is_over history w (length (calls_of trace p))) (sym has.is) ∙ ap (λ p. is_over history m.who (length (calls_of trace p))) (sym has.number) ∙ over)

pub run_law : RunLaw
run_law session trace members history ran = (so_far session trace members history ran).run
