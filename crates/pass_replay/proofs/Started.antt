-- A run of a trace that has just begun.
use Rattle.std.proofs.Common.{◌≡◌, ◌≤◌, ◌+◌, ℕ, zero, suc, List, [], ◌∷◌, ◌++◌, length, map, take, refl, ap, sym, ◌∙◌, subst, arith, inl, inr, Bool, true, false, ◌||◌, ◌&&◌, ◌==◌, cond}
use Rattle.std.specs.Prelude.{Some, slice_get, fold}
use Rattle.std.proofs.lemmas.List.{append-nil}
use Rattle.pass_entry.specs.declared.entry.Entry.{Entry}
use Rattle.pass_plain.specs.Histories.{call_entries}
use Rattle.pass_plain.specs.Sessions.{Session}
use Rattle.pass_plain.specs.Registries.{Registry, registry_after}
use Rattle.pass_plain.specs.Processes.{has_begun, has_ended}
use Rattle.pass_plain.specs.Calls.{Made, call_steps}
use Rattle.pass_plain.specs.Legal.{before_call, is_over, last_number, step_of}
use Rattle.pass_plain.specs.Traces.{Line, lines_of, calls_of}
use Rattle.pass_plain.specs.Runs.{Begun, begun_at, begun_after, pnode_in, pnode_of_process, next_number, request_at}
use Rattle.pass_plain.proofs.Lists.{or_none, some_is, same_numbers, alike}
use Rattle.pass_plain.proofs.Counts.{first_law}
use Rattle.pass_plain.proofs.Making.{registry-append}
use Rattle.pass_plain.proofs.Playing.{no_calls}
use Rattle.pass_trace.specs.TraceLines.{call_of, plain_line, plain_trace}
use Rattle.pass_trace.specs.declared.trace.Command.{Command}
use Rattle.pass_trace.specs.declared.trace.Command.TheVariants as command
use Rattle.pass_trace.specs.declared.trace.Payload.TheVariants as payload
use Rattle.pass_trace.specs.declared.trace.TraceLine.{TraceLine}
use Rattle.pass_trace.specs.Rules.{creates}
use Rattle.pass_replay.specs.Making.{IsRunSoFar, first_entry, creates_call, creating_left, entries_made, sum_lines}
use Rattle.pass_replay.specs.Starts.{HasRoom, RoomLaw}
use Rattle.pass_replay.proofs.Sums.{sum-le}
use Rattle.pass_replay.proofs.Begun.{forked_or, in_single, single_in}
use Rattle.pass_replay.proofs.NextCalls.{calls_length, unmade_not_over}
use Rattle.pass_replay.proofs.Entries.{none_ends}

number_if : (b : Bool) → cond {A = ℕ} b 0 0 ≡ 0
number_if true = refl
number_if false = refl

-- no call of a process has been made
no_calls_yet : (session : Session) (who n : ℕ) → call_entries (first_entry session ∷ []) who (n + 1) ≡ []
no_calls_yet session who n = no_calls (first_entry session ∷ []) who (n + 1) (λ i f at by its. never i f at its)
  where
    never : (i : ℕ) (f : Entry) → slice_get (first_entry session ∷ []) i ≡ Some f → f.number ≡ n + 1 → ⊥
    never zero f at its = let same = ap (λ (f : Entry). f.number) (some_is (first_entry session) f at) in omega (arith, same, its)
    never (suc i) f at its = absurd (cc)

not_over_yet : (session : Session) (who n : ℕ) → is_over (first_entry session ∷ []) who (n + 1) ≡ false
not_over_yet session who n = unmade_not_over (first_entry session ∷ []) who (n + 1) (no_calls_yet session who n)

pub no_number_yet : (session : Session) (who : ℕ) → last_number (first_entry session ∷ []) who ≡ 0
no_number_yet session who = number_if (0 == who)

-- no other process has begun
none_begun : (session : Session) (b : Begun) (before ls : List Line) → begun_after (first_entry session ∷ []) b before ls ≡ b
none_begun session b before [] = refl
none_begun session b before (l ∷ ls) =
    ap (λ (c : Begun). begun_after (first_entry session ∷ []) (b ++ c) (before ++ l ∷ []) ls) nothing
    ∙ ap (λ (c : Begun). begun_after (first_entry session ∷ []) c (before ++ l ∷ []) ls) (append-nil b)
    ∙ none_begun session b (before ++ l ∷ []) ls
  where
    nothing : begun_at (first_entry session ∷ []) b before l ≡ []
    nothing = elim (forked_or (first_entry session ∷ []) (pnode_in b l.process) (length (lines_of before l.process) + 1) l.call) [
      | inl none ↦ none
      | inr f ↦ absurd (let z : true ≡ false = sym f.over ∙ not_over_yet session f.parent (length (lines_of before l.process)) in cc)
    ]

pub only_first : (session : Session) (trace : List Line) (p w : ℕ) → pnode_of_process session trace (first_entry session ∷ []) p ≡ Some w → (1 ≡ p) × (session.start.ceiling + 1 ≡ w)
only_first session trace p w at =
    in_single 1 (session.start.ceiling + 1) p w (ap (λ (b : Begun). pnode_in b p) (sym (none_begun session ((1, session.start.ceiling + 1) ∷ []) [] trace)) ∙ at)

pub first_is : (session : Session) (trace : List Line) → pnode_of_process session trace (first_entry session ∷ []) 1 ≡ Some (session.start.ceiling + 1)
first_is session trace = ap (λ (b : Begun). pnode_in b 1) (none_begun session ((1, session.start.ceiling + 1) ∷ []) [] trace) ∙ single_in 1 (session.start.ceiling + 1)

pub first_next : (session : Session) → next_number (first_entry session ∷ []) (session.start.ceiling + 1) ≡ 1
first_next session = ap (λ last. cond (last == 0) 1 (cond (is_over (first_entry session ∷ []) (session.start.ceiling + 1) last) (last + 1) last)) (no_number_yet session (session.start.ceiling + 1))

-- how many lines create

creates_same : (c : Command) → creates_call (call_of c) ≡ creates c
creates_same (command.Write fd (payload.Given bytes)) = refl
creates_same (command.Write fd payload.Last) = refl
creates_same _ = refl

summed : (so_far : ℕ) (before : List Line) (lines : List TraceLine)
    → fold (λ k (l : TraceLine). k + cond (creates l.command) 1 0) so_far lines ≡ so_far + sum_lines (λ p n c. cond (creates_call c) 1 0) before (plain_trace lines)
summed so_far before [] = (let z : so_far ≡ so_far + 0 = omega arith in z)
summed so_far before (l ∷ lines) =
    summed (so_far + cond (creates l.command) 1 0) (before ++ plain_line l ∷ []) lines
    ∙ ap (λ b. so_far + cond b 1 0 + sum_lines (λ p n c. cond (creates_call c) 1 0) (before ++ plain_line l ∷ []) (plain_trace lines)) (sym (creates_same l.command))
    ∙ (let n : ℕ = cond (creates_call (call_of l.command)) 1 0 in
    let m : ℕ = sum_lines (λ p n c. cond (creates_call c) 1 0) (before ++ plain_line l ∷ []) (plain_trace lines) in
    let z : so_far + n + m ≡ so_far + (n + m) = omega arith in z)

pub room_law : RoomLaw
room_law session lines objects = let all = summed 0 [] lines in omega (arith, all, objects)

no_more : (a b : Bool) → cond (a && b) 1 0 ≤ cond a 1 0
no_more true true = omega arith
no_more true false = omega arith
no_more false b = omega arith

room_first : (session : Session) (trace : List Line) → HasRoom session trace
    → (registry_after session (first_entry session ∷ [])).made + creating_left session trace (first_entry session ∷ []) ≤ session.objects
room_first session trace room =
    let made : (registry_after session (first_entry session ∷ [])).made ≡ 1 = ap (λ (r : Registry). r.made) (registry-append session [] (first_entry session)) in
    let less = sum-le (λ p n c. cond (creates_call c && entries_made session trace (first_entry session ∷ []) p n == 0) 1 0) (λ p n c. cond (creates_call c) 1 0) [] trace
    (λ p n c. no_more (creates_call c) (entries_made session trace (first_entry session ∷ []) p n == 0)) in
    omega (arith, made, less, room)

-- the run has begun
pub has_started : (session : Session) (trace : List Line) → HasRoom session trace → IsRunSoFar session trace (first_entry session ∷ [])
has_started session trace room =
    let begun_now : has_begun (first_entry session ∷ []) (session.start.ceiling + 1) ≡ true =
    ap (λ b. b || false) (let z : (session.start.ceiling + 1 == session.start.ceiling + 1) ≡ true = alike _ _ refl in z) in
    let alive : (w : ℕ) → has_ended (first_entry session ∷ []) w ≡ false = λ w. none_ends [] (first_entry session) w refl in
    record {
      run = record {
        legal = first_law session (omega (arith, room));
        traced = λ who begun. (1, first_is session trace ∙ ap (λ w. Some w) (same_numbers _ _ (sym (or_none (session.start.ceiling + 1 == who)) ∙ begun)));
        lines = λ process who number call at stands.
            subst (λ (m : Made). map step_of m ≡ take (length m) (call_steps who (before_call (first_entry session ∷ []) who (number + 1)) m (request_at session trace (first_entry session ∷ []) who (number + 1) call)))
            (sym (no_calls_yet session who number)) refl;
        named = λ process who number call at stands j s there. absurd (let z : slice_get [] j ≡ Some s = ap (λ (m : Made). slice_get m j) (sym (no_calls_yet session who number)) ∙ there in cc);
        whole = λ who number begun low below. let z = no_number_yet session who in absurd (omega (arith, z, below));
        last = λ process who at. let z = no_number_yet session who in omega (arith, z);
      };
      some = omega arith;
      begun = λ process who at. ap (λ w. has_begun (first_entry session ∷ []) w) (sym (only_first session trace process who at).1) ∙ begun_now;
      ended = λ process who at. alive who
          ∙ sym (unmade_not_over (first_entry session ∷ []) who (length (calls_of trace process))
          (ap (λ n. call_entries (first_entry session ∷ []) who n) (calls_length trace process) ∙ no_calls_yet session who (length (lines_of trace process))));
      unborn = λ who none. alive who;
      single = λ p q who at also. sym (only_first session trace p who at).0 ∙ (only_first session trace q who also).0;
      room = room_first session trace room;
    }
