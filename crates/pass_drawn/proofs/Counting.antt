-- The entries of a run of a drawn trace that has ended, counted call by call.
use Rattle.std.proofs.Common.{◌≡◌, ◌≢◌, ◌<◌, ◌≤◌, ◌+◌, ◌-◌, ◌*◌, ℕ, suc, List, [], ◌∷◌, ◌++◌, length, take, map, refl, ap, sym, ◌∙◌, subst, arith, inl, inr, Bool, true, false, not, ◌&&◌, ◌==◌, cond}
use Rattle.std.specs.Prelude.{Option, Some, None, option_map, slice_get, sum_by}
use Rattle.std.specs.Option.{option_map_or}
use Rattle.std.specs.List.{range_with_len}
use Rattle.std.proofs.lemmas.Bool.{cases_lt}
use Rattle.std.proofs.lemmas.List.Sums.{sum_by-append}
use Rattle.std.proofs.lemmas.Option.{slice_get_within, slice_get-map}
use Rattle.pass_entry.specs.declared.entry.Entry.{Entry}
use Rattle.pass_entry.specs.declared.entry.Act.TheVariants as act
use Rattle.pass_entry.specs.declared.entry.Reply.{Reply}
use Rattle.pass_entry.specs.declared.entry.Reply.TheVariants as answer
use Rattle.pass_entry.specs.declared.objects.Kind.TheVariants as kind
use Rattle.pass_entry.proofs.Places.{Contains-at}
use Rattle.pass_plain.specs.declared.request.Request.TheVariants as requests
use Rattle.pass_plain.specs.Histories.{call_entries, is_of_call, made_object, pnode_of}
use Rattle.pass_plain.specs.Sessions.{Session}
use Rattle.pass_plain.specs.Processes.{has_begun}
use Rattle.pass_plain.specs.Calls.{Step, Made, act_on, is_last, pnode_at}
use Rattle.pass_plain.specs.Legal.{IsLegal, is_start, before_call, is_over, step_of}
use Rattle.pass_plain.specs.Traces.{Line, LineCall, given, fork_as, lines_of, calls_of}
use Rattle.pass_plain.specs.Runs.{Begun, IsRun, IsOfTrace, first, forked_by, begun_after, pnode_in, pnode_of_process}
use Rattle.pass_plain.proofs.Lists.{some_is, same_numbers, filtered, alike, different}
use Rattle.pass_plain.proofs.Appends.{slice_get-append}
use Rattle.pass_plain.proofs.Calling.{acts-cases, legal_take, of_call}
use Rattle.pass_plain.proofs.Making.{made_once}
use Rattle.pass_plain.proofs.Playing.{who_begun, zero_not}
use Rattle.pass_replay.specs.Ends.{NoneOpen}
use Rattle.pass_replay.proofs.Begun.{begun_or_forked, first_has_begun, child_has_begun}
use Rattle.pass_replay.proofs.NextCalls.{over_within, calls_length}
use Rattle.pass_replay.proofs.Positions.{lines-append}
use Rattle.pass_trace.specs.declared.trace.Command.TheVariants as command
use Rattle.pass_trace.specs.TraceLines.{plain_line, plain_trace}
use Rattle.pass_gen.specs.Generated.{line, first_lines, drawn_lines, last_lines}
use Rattle.pass_drawn.specs.Runs.{drawn_trace}
use Rattle.pass_drawn.proofs.Adding.{sum_by-same, sum_by-none, sum_by-plus, sum_by-swap, sum_by-hit, sum_by-placed, sum_by-filter, sum_by-map, sum_by-places, in_range}
use Rattle.pass_drawn.proofs.Tracing.{IsFirsts, IsChilds, line_drawn, trace_parts, fork_at, ruled}
use Rattle.pass_drawn.proofs.Calls.{IsCalled, called, call_step}
use Rattle.pass_drawn.proofs.Firsts.{first_entry}

-- in an empty history process 1 is open

none_from : (before ls : List Line) → begun_after [] [] before ls ≡ []
none_from before [] = refl
none_from before (l ∷ ls) = none_from (before ++ l ∷ []) ls

pub some_entry : (session : Session) (trace : List Line) (history : List Entry) → NoneOpen session trace history → 0 < length history
some_entry session trace [] closed =
    absurd (let z : true ≡ false = ap (λ (b : Begun). option_map_or (λ who. not (is_over [] who (length (calls_of trace 1)))) (pnode_in b 1) true) (sym (none_from [] trace))
    ∙ closed 1 first in cc)
some_entry session trace (e ∷ history) closed = omega arith

-- the fork of a child is the call of its number
pub fork_line : (number lines child : ℕ) → child < 7 → slice_get (lines_of (drawn_trace number lines) 1) (suc child) ≡ Some (plain_line (line (2 + child) 1 (command.Fork (2 + child))))
fork_line number lines child small =
    let l : Line = plain_line (line (2 + child) 1 (command.Fork (2 + child))) in
    let drawn = plain_trace (drawn_lines number (lines - 15)) in
    let rest = plain_trace (last_lines (lines - 15)) in
    ap (λ t. slice_get (lines_of t 1) (suc child)) (trace_parts number lines)
    ∙ ap (λ ls. slice_get ls (suc child)) (lines-append (plain_trace first_lines ++ drawn) rest 1)
    ∙ slice_get-append (lines_of (plain_trace first_lines ++ drawn) 1) (lines_of rest 1) (suc child) l
    (ap (λ ls. slice_get ls (suc child)) (lines-append (plain_trace first_lines) drawn 1) ∙ slice_get-append (lines_of (plain_trace first_lines) 1) (lines_of drawn 1) (suc child) l (fork_at child small))

-- an entry of a call is made by a process that has begun
entry_begun : (session : Session) (history : List Entry) (i : ℕ) (f : Entry) → IsLegal session history → slice_get history i ≡ Some f → 1 ≤ f.number → (f.who ≢ 0) × (has_begun history f.who ≡ true)
entry_begun session history i f legal at some = elim (acts-cases (take i history) f (legal i f at).acts) [
  | inl start ↦ absurd (let z = start.3 in omega (arith, z, some))
  | inr acts ↦
      let apart : f.who ≢ 0 = λ none. zero_not session (take i history) (legal_take session history i legal) (ap (λ w. has_begun (take i history) w) (sym none) ∙ acts.1) in
      (apart, elim (who_begun session history i f legal at) [ inl none ↦ absurd (apart none) | inr begun ↦ begun ])
]

made_of : (y : Reply) (w : ℕ) → pnode_of y ≡ w → w ≢ 0 → y ≡ answer.Made w
made_of (answer.Made n) w is apart = ap (λ n. answer.Made n) is
made_of _ w is apart = absurd (apart (sym is))

nothing_if : (b : Bool) (n : ℕ) → n ≡ 0 → cond b n 0 ≡ 0
nothing_if true n none = none
nothing_if false n none = refl

eight : (x : ℕ) → sum_by (λ p. x) (range_with_len 1 8) ≡ 8 * x
eight x = omega arith

module _ (session : Session) (number lines : ℕ) (history : List Entry) (run : IsRun session (drawn_trace number lines) history) (some_object : 1 ≤ session.objects)
    (closed : NoneOpen session (drawn_trace number lines) history) where
  abbrev trace : List Line
  trace = drawn_trace number lines

  abbrev pub pnode : ℕ → Option ℕ
  pnode process = pnode_of_process session trace history process

  abbrev pub count : ℕ → ℕ
  count process = length (calls_of trace process)

  some : 0 < length history
  some = some_entry session trace history closed

  abbrev pub first_who : ℕ
  first_who = session.start.ceiling + 1

  pub is_first : pnode 1 ≡ Some first_who
  is_first = first_has_begun session trace history some

  -- the trace's processes are 1 to 8
  is_process : (process : ℕ) → 1 ≤ process → process ≤ 8 → IsOfTrace trace process
  is_process process least most = elim (cases_lt 1 process) [
    | inr one ↦ subst (λ p. IsOfTrace trace p) (let z : 1 ≡ process = omega (arith, one, least) in z) first
    | inl more ↦
        let child = process - 2 in
        let here : 2 + child ≡ process = omega (arith, more) in
        let (own, k, at) = filtered (λ (l : Line). l.process == 1) trace (suc child) _ (fork_line number lines child (omega (arith, here, most))) in
        subst (λ p. IsOfTrace trace p) here (forked_by _ (2 + child) (Contains-at trace k _ at) refl)
  ]

  pub range_of : (process who : ℕ) → pnode process ≡ Some who → (1 ≤ process) × (process ≤ 8)
  range_of process who begun = elim (begun_or_forked session trace history process who begun) [
    | inl one ↦ (omega (arith, one), omega (arith, one))
    | inr forked ↦ elim (line_drawn number lines forked.0 forked.1 forked.2) [
      | inl first_line ↦ (let range : (2 ≤ process) × (process ≤ 8) = subst IsFirsts forked.3 first_line.1 in (let z = range.0 in omega (arith, z), range.1))
      | inr other ↦ absurd (subst IsChilds forked.3 other.2)
    ]
  ]

  over_of : (process : ℕ) (o : Option ℕ) → pnode process ≡ o → option_map_or (λ w. not (is_over history w (count process))) o true ≡ false
      → (who : ℕ) × (pnode process ≡ Some who) × (is_over history who (count process) ≡ true)
  over_of process None is shut = absurd (cc)
  over_of process (Some who) is shut = (who, is, not_so (is_over history who (count process)) shut)
    where
      not_so : (b : Bool) → not b ≡ false → b ≡ true
      not_so true h = refl
      not_so false h = absurd (cc)

  -- each has begun, and its exit is over
  pub ended : (process : ℕ) → 1 ≤ process → process ≤ 8 → (who : ℕ) × (pnode process ≡ Some who) × (is_over history who (count process) ≡ true)
  ended process least most = over_of process (pnode process) refl (closed process (is_process process least most))

  pub exit_over : (process who : ℕ) → pnode process ≡ Some who → is_over history who (count process) ≡ true
  exit_over process who begun =
      let (least, most) = range_of process who begun in
      let (w, is, over) = ended process least most in
      ap (λ w. is_over history w (count process)) (some_is who w (sym begun ∙ is)) ∙ over

  -- its exit has an entry
  pub begun_of : (process who : ℕ) → pnode process ≡ Some who → (who ≢ 0) × (has_begun history who ≡ true)
  begun_of process who begun = at_last (slice_get made (length made - 1)) refl (exit_over process who begun)
    where
      made : Made
      made = call_entries history who (count process)

      at_last : (o : Option (ℕ × Entry)) → slice_get made (length made - 1) ≡ o → option_map_or (λ s. is_last (before_call history who (count process)) s.1) o false ≡ true → (who ≢ 0) × (has_begun history who ≡ true)
      at_last None at over = absurd (cc)
      at_last (Some m) at over =
          let (there, by, its) = of_call history who (count process) (length made - 1) m at in
          let size = calls_length trace process in
          let has = entry_begun session history m.0 m.1 run.legal there (omega (arith, its, size)) in
          (λ none. has.0 (by ∙ none), ap (λ w. has_begun history w) (sym by) ∙ has.1)

  -- each of its calls is over
  pub all_over : (process who k : ℕ) → pnode process ≡ Some who → k < count process → is_over history who (k + 1) ≡ true
  all_over process who k begun within =
      let over = exit_over process who begun in
      let least = over_within session history who (count process) run.legal over in
      elim (cases_lt (k + 1) (count process)) [
        | inl less ↦ run.whole who (k + 1) (begun_of process who begun).1 (omega arith) (omega (arith, less, least))
        | inr last ↦ ap (λ n. is_over history who n) (let z : k + 1 ≡ count process = omega (arith, last, within) in z) ∙ over
      ]

  -- the entry that made a child: its number is that of the child
  record IsMaker (process who : ℕ) : Type 0 where
    place : ℕ
    entry : Entry
    stands : slice_get history place ≡ Some entry
    numbered : entry.number + cond (process == 1) 1 0 ≡ process
    makes : made_object entry.act entry.reply ≡ Some who

  first_maker : IsMaker 1 first_who
  first_maker = let f = first_entry session history some_object run.legal some in record { place = 0; entry = f.entry; stands = f.stands; numbered = (let z = f.number in omega (arith, z)); makes = f.makes }

  child_maker : (child who : ℕ) → child < 7 → pnode (2 + child) ≡ Some who → who ≢ 0 → IsMaker (2 + child) who
  child_maker child who small begun apart =
      let k = suc child in
      let l = fork_line number lines child small in
      let at_call : slice_get (calls_of trace 1) k ≡ Some (fork_as (2 + child)) =
      slice_get-append (map (λ (l : Line). l.call) (lines_of trace 1)) (given requests.Exit ∷ []) k (fork_as (2 + child))
      (slice_get-map (λ (l : Line). l.call) (lines_of trace 1) k ∙ ap (λ o. option_map (λ (l : Line). l.call) o) l) in
      let within = slice_get_within (calls_of trace 1) k (fork_as (2 + child)) at_call in
      let there = child_has_begun session trace history 1 k (2 + child) first_who _ (ruled number lines) l refl is_first (all_over 1 first_who k is_first within) in
      let is : pnode_at (call_entries history first_who (k + 1)) 0 ≡ who = some_is _ who (sym there ∙ begun) in
      at_made child who apart k at_call (slice_get (call_entries history first_who (k + 1)) 0) refl is (omega arith)
    where
      at_made : (child who : ℕ) → who ≢ 0 → (k : ℕ) → slice_get (calls_of trace 1) k ≡ Some (fork_as (2 + child)) → (o : Option (ℕ × Entry)) → slice_get (call_entries history first_who (k + 1)) 0 ≡ o
          → option_map_or (λ s. pnode_of s.1.reply) (slice_get (call_entries history first_who (k + 1)) 0) 0 ≡ who → k + 1 ≡ 2 + child → IsMaker (2 + child) who
      at_made child who apart k at_call None at is here = absurd (apart (sym is ∙ ap (λ o. option_map_or (λ (s : ℕ × Entry). pnode_of s.1.reply) o 0) at))
      at_made child who apart k at_call (Some m) at is here =
          let (stands, by, its) = of_call history first_who (k + 1) 0 m at in
          let step = call_step session number lines history run 1 first_who k (fork_as (2 + child)) is_first at_call 0 m at in
          let mints : act_on 0 (act.Mint kind.Process) ≡ step_of m = some_is (act_on 0 (act.Mint kind.Process)) (step_of m) step in
          let reply : m.1.reply ≡ answer.Made who = made_of m.1.reply who (sym (ap (λ o. option_map_or (λ (s : ℕ × Entry). pnode_of s.1.reply) o 0) at) ∙ is) apart in
          let other : ◌≡◌ {A = ℕ} (cond (2 + child == 1) 1 0) 0 = ap (λ b. cond b 1 0) (different (2 + child) 1 (λ same. omega (arith, same))) in
          record {
            place = m.0;
            entry = m.1;
            stands = stands;
            numbered = omega (arith, its, here, other);
            makes = ap (λ a. made_object a m.1.reply) (ap (λ (s : Step). s.1) (sym mints)) ∙ ap (λ y. made_object (act.Mint kind.Process) y) reply;
          }

  maker : (process who : ℕ) → pnode process ≡ Some who → IsMaker process who
  maker process who begun =
      let (least, most) = range_of process who begun in
      elim (cases_lt 1 process) [
        | inr one ↦
            let same : 1 ≡ process = omega (arith, one, least) in
            let is : first_who ≡ who = some_is first_who who (sym is_first ∙ ap pnode same ∙ begun) in
            subst (λ w. IsMaker process w) is (subst (λ p. IsMaker p first_who) same first_maker)
        | inl more ↦
            let here : 2 + (process - 2) ≡ process = omega (arith, more) in
            subst (λ p. IsMaker p who) here (child_maker (process - 2) who (omega (arith, more, most)) (ap pnode here ∙ begun) (begun_of process who begun).0)
      ]

  numbers_same : (p q n : ℕ) → 1 ≤ p → 1 ≤ q → n + cond (p == 1) 1 0 ≡ p → n + cond (q == 1) 1 0 ≡ q → p ≡ q
  numbers_same p q n some_p some_q at_p at_q = by_tests (p == 1) refl (q == 1) refl
    where
      by_tests : (a : Bool) → (p == 1) ≡ a → (b : Bool) → (q == 1) ≡ b → p ≡ q
      by_tests true ta true tb = same_numbers p 1 ta ∙ sym (same_numbers q 1 tb)
      by_tests true ta false tb =
          let one = same_numbers p 1 ta in
          let a : n + 1 ≡ p = ap (λ b. n + cond b 1 0) (sym ta) ∙ at_p in
          let b : n + 0 ≡ q = ap (λ b. n + cond b 1 0) (sym tb) ∙ at_q in
          absurd (omega (arith, one, a, b, some_q))
      by_tests false ta true tb =
          let one = same_numbers q 1 tb in
          let a : n + 0 ≡ p = ap (λ b. n + cond b 1 0) (sym ta) ∙ at_p in
          let b : n + 1 ≡ q = ap (λ b. n + cond b 1 0) (sym tb) ∙ at_q in
          absurd (omega (arith, one, a, b, some_p))
      by_tests false ta false tb =
          let a : n + 0 ≡ p = ap (λ b. n + cond b 1 0) (sym ta) ∙ at_p in
          let b : n + 0 ≡ q = ap (λ b. n + cond b 1 0) (sym tb) ∙ at_q in
          omega (arith, a, b)

  -- each process has a pnode of its own
  pub single : (p q who : ℕ) → pnode p ≡ Some who → pnode q ≡ Some who → p ≡ q
  single p q who at also =
      let a = maker p who at in
      let b = maker q who also in
      let place = made_once session history a.place b.place a.entry b.entry who run.legal a.stands b.stands a.makes b.makes in
      let same : a.entry ≡ b.entry = some_is a.entry b.entry (sym a.stands ∙ ap (λ i. slice_get history i) place ∙ b.stands) in
      numbers_same p q a.entry.number (range_of p who at).0 (range_of q who also).0 a.numbered (ap (λ (e : Entry). e.number + cond (q == 1) 1 0) same ∙ b.numbered)

  -- a sum over the entries is the sum over the calls

  abbrev who_of : ℕ → ℕ
  who_of process = option_map_or (λ who. who) (pnode process) 0

  who_is : (process : ℕ) → 1 ≤ process → process ≤ 8 → pnode process ≡ Some (who_of process)
  who_is process least most =
      let (who, is, over) = ended process least most in
      is ∙ ap (λ w. Some w) (sym (ap (λ o. option_map_or (λ who. who) o 0) is))

  module _ (g : Entry → ℕ) (h : LineCall → ℕ) (quiet : (e : Entry) → is_start e.call ≡ true → g e ≡ 0)
      (each : (process who k : ℕ) (call : LineCall) → pnode process ≡ Some who → slice_get (calls_of trace process) k ≡ Some call
      → sum_by (λ (s : ℕ × Entry). g s.1) (call_entries history who (k + 1)) ≡ h call) where
    abbrev part : Entry → ℕ → ℕ → ℕ
    part e process j = cond (is_of_call (who_of process) j e) (g e) 0

    abbrev row : Entry → ℕ → ℕ
    row e process = sum_by (part e process) (range_with_len 1 (count process))

    nothing : (e : Entry) (process : ℕ) → g e ≡ 0 → row e process ≡ 0
    nothing e process none = sum_by-none (part e process) (range_with_len 1 (count process)) (λ j. nothing_if (is_of_call (who_of process) j e) (g e) none)

    own_row : (e : Entry) (c : IsCalled session number lines history run e) → row e c.process ≡ g e
    own_row e c =
        let is : e.who ≡ who_of c.process = sym (ap (λ o. option_map_or (λ who. who) o 0) c.begun) in
        let within = slice_get_within (calls_of trace c.process) c.done c.call c.stands in
        let counted = c.counted in
        sum_by-same (part e c.process) (λ j. cond (e.number == j) (g e) 0) (range_with_len 1 (count c.process))
        (λ k j at. ap (λ b. cond (b && e.number == j) (g e) 0) (alike e.who (who_of c.process) is))
        ∙ sum_by-hit (count c.process) e.number (g e) 1 (omega (arith, counted)) (omega (arith, counted, within))

    other_row : (e : Entry) (c : IsCalled session number lines history run e) (process : ℕ) → 1 ≤ process → process ≤ 8 → (c.process == process) ≡ false → row e process ≡ 0
    other_row e c process least most other =
        let apart : e.who ≢ who_of process = λ is.
        let same = single c.process process e.who c.begun (who_is process least most ∙ ap (λ w. Some w) (sym is)) in
        let z : true ≡ false = sym (alike c.process process same) ∙ other in cc in
        sum_by-none (part e process) (range_with_len 1 (count process)) (λ j. ap (λ b. cond (b && e.number == j) (g e) 0) (different e.who (who_of process) apart))

    row_is : (e : Entry) (c : IsCalled session number lines history run e) (process : ℕ) → 1 ≤ process → process ≤ 8 → row e process ≡ cond (c.process == process) (g e) 0
    row_is e c process least most = at_test (c.process == process) refl
      where
        at_test : (b : Bool) → (c.process == process) ≡ b → row e process ≡ cond b (g e) 0
        at_test true t = ap (λ p. row e p) (sym (same_numbers c.process process t)) ∙ own_row e c
        at_test false t = other_row e c process least most t

    -- an entry counts in its own call
    entry_is : (i : ℕ) (e : Entry) → slice_get history i ≡ Some e → g e ≡ sum_by (row e) (range_with_len 1 8)
    entry_is i e at = at_test (is_start e.call) refl
      where
        at_test : (b : Bool) → is_start e.call ≡ b → g e ≡ sum_by (row e) (range_with_len 1 8)
        at_test true t = quiet e t ∙ sym (sum_by-none (row e) (range_with_len 1 8) (λ p. nothing e p (quiet e t)))
        at_test false t =
            let c = called session number lines history run i e at t in
            let (least, most) = range_of c.process e.who c.begun in
            sym (sum_by-same (row e) (λ p. cond (c.process == p) (g e) 0) (range_with_len 1 8)
            (λ k p there. let (low, high) = in_range 1 8 k p there in row_is e c p low (omega (arith, high)))
            ∙ sum_by-hit 8 c.process (g e) 1 least (omega (arith, most)))

    -- the calls of a process
    process_is : (process : ℕ) → 1 ≤ process → process ≤ 8 → sum_by (λ e. row e process) history ≡ sum_by (λ (l : Line). cond (l.process == process) (h l.call) 0) trace + h (given requests.Exit)
    process_is process least most =
        let n = count process in
        let own = map (λ (l : Line). l.call) (lines_of trace process) in
        let one : sum_by h (given requests.Exit ∷ []) ≡ h (given requests.Exit) = omega arith in
        sum_by-swap (λ e j. part e process j) history (range_with_len 1 n)
        ∙ sum_by-places (λ j. sum_by (λ e. part e process j) history) h 1 (calls_of trace process)
        (λ k call at. ap (λ j. sum_by (λ e. part e process j) history) (let z : 1 + k ≡ k + 1 = omega arith in z)
        ∙ sum_by-placed (λ e. is_of_call (who_of process) (k + 1) e) g 0 history
        ∙ each process (who_of process) k call (who_is process least most) at)
        ∙ sum_by-append h own (given requests.Exit ∷ [])
        ∙ ap (λ x. sum_by h own + x) one
        ∙ ap (λ x. x + h (given requests.Exit)) (sum_by-map (λ (l : Line). l.call) h (lines_of trace process) ∙ sum_by-filter (λ (l : Line). l.process == process) (λ (l : Line). h l.call) trace)

    line_is : (k : ℕ) (l : Line) → slice_get trace k ≡ Some l → sum_by (λ p. cond (l.process == p) (h l.call) 0) (range_with_len 1 8) ≡ h l.call
    line_is k l at = elim (line_drawn number lines k l at) [
      | inl one ↦ (let z = one.0 in sum_by-hit 8 l.process (h l.call) 1 (omega (arith, z)) (omega (arith, z)))
      | inr other ↦ (let a = other.0 in let b = other.1 in sum_by-hit 8 l.process (h l.call) 1 (omega (arith, a)) (omega (arith, b)))
    ]

    pub counted_by_call : sum_by g history ≡ sum_by (λ (l : Line). h l.call) trace + 8 * h (given requests.Exit)
    counted_by_call =
        let mine : ℕ → ℕ = λ p. sum_by (λ (l : Line). cond (l.process == p) (h l.call) 0) trace in
        sum_by-same g (λ e. sum_by (row e) (range_with_len 1 8)) history entry_is
        ∙ sum_by-swap row history (range_with_len 1 8)
        ∙ sum_by-same (λ p. sum_by (λ e. row e p) history) (λ p. mine p + h (given requests.Exit)) (range_with_len 1 8)
        (λ k p at. let (low, high) = in_range 1 8 k p at in process_is p low (omega (arith, high)))
        ∙ sum_by-plus mine (λ p. h (given requests.Exit)) (range_with_len 1 8)
        ∙ ap (λ x. sum_by mine (range_with_len 1 8) + x) (eight (h (given requests.Exit)))
        ∙ ap (λ x. x + 8 * h (given requests.Exit))
        (sym (sum_by-swap (λ (l : Line) p. cond (l.process == p) (h l.call) 0) trace (range_with_len 1 8))
        ∙ sum_by-same (λ (l : Line). sum_by (λ p. cond (l.process == p) (h l.call) 0) (range_with_len 1 8)) (λ (l : Line). h l.call) trace line_is)
