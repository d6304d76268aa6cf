-- The calls of a run of a trace: one for each line, and an exit for each process.
use Rattle.std.proofs.Common.{◌≡◌, ◌∙◌, ◌==◌, ◌^◌, ◌||◌, ◌+◌, ◌*◌, ◌<◌, ◌≤◌, ℕ, suc, Bool, true, false, cond, List, [], ◌∷◌, ◌++◌, length, take, map, refl, ap, sym, arith, inl, inr, length-append}
use Rattle.std.specs.Prelude.{Option, Some, None, is_some, slice_get, find, option_map}
use Rattle.std.specs.Option.{option_map_or}
use Rattle.std.proofs.lemmas.List.{length-map}
use Rattle.std.proofs.lemmas.List.Elements.{filter-append}
use Rattle.std.proofs.lemmas.Option.{slice_get-map}
use Rattle.pass_entry.specs.declared.entry.Entry.{Entry}
use Rattle.pass_entry.specs.declared.objects.Node.{Node}
use Rattle.pass_entry.specs.declared.record.Record.{Record}
use Rattle.pass_entry.proofs.Places.{slice_get-take, slice_get-right}
use Rattle.pass_plain.specs.declared.start.StartFile.{StartFile}
use Rattle.pass_plain.specs.WellLogged.{current_of}
use Rattle.pass_graph.specs.Bounds.{CeilingLengthLaw, VersionLengthLaw}
use Rattle.pass_graph.specs.Openings.{Opens}
use Rattle.pass_bounds.proofs.Images.{opened_law}
use Rattle.pass_plain.specs.Sessions.{Session, opened_file, opened_app, opening_version}
use Rattle.pass_plain.specs.Processes.{begins, has_begun}
use Rattle.pass_plain.specs.Calls.{pnode_at}
use Rattle.pass_plain.specs.Histories.{call_entries}
use Rattle.pass_plain.specs.Legal.{is_over}
use Rattle.pass_plain.specs.Traces.{Line, LineCall, lines_of, calls_of}
use Rattle.pass_plain.specs.Runs.{Begun, pnode_in, first_begun, forked, begun_by_call, begun_at, begun_after, begun_of, pnode_of_process, IsRun}
use Rattle.pass_plain.specs.Traces.LineCall.{fork_as}
use Rattle.pass_plain.proofs.Lists.{some_is, same_numbers, any_at, any_of, le_or_above}
use Rattle.pass_plain.proofs.Appends.{slice_get-append}
use Rattle.pass_plain.proofs.Calling.{acts-cases, numbered}
use Rattle.pass_plain.proofs.OtherCalls.{goes_some}
use Rattle.pass_bounds.specs.Lawful.{RunLaw, FrameLaw}
use Rattle.pass_bounds.proofs.Charged.{Calls, AreCalled, entries_spent, bytes_spent}
use Rattle.pass_bounds.proofs.Ranges.{in_range_law}

-- the calls of the lines: `pnode` gives the pnodes of the trace's processes
abbrev line_calls : (ℕ → ℕ) → List Line → List Line → Calls
line_calls pnode before [] = []
line_calls pnode before (l ∷ ls) = (pnode l.process, length (lines_of before l.process) + 1) ∷ line_calls pnode (before ++ l ∷ []) ls

length-line_calls : (pnode : ℕ → ℕ) (before ls : List Line) → length (line_calls pnode before ls) ≡ length ls
length-line_calls pnode before [] = refl
length-line_calls pnode before (l ∷ ls) = let z = length-line_calls pnode (before ++ l ∷ []) ls in omega (arith, z)

-- the call of each number that a line of the process has
in_lines : (pnode : ℕ → ℕ) (process number : ℕ) (before ls : List Line) → length (lines_of before process) < number → number ≤ length (lines_of before process) + length (lines_of ls process)
    → (j : ℕ) × (slice_get (line_calls pnode before ls) j ≡ Some (pnode process, number))
in_lines pnode process number before [] low high = absurd (omega (arith, low, high))
in_lines pnode process number before (l ∷ ls) low high = by_test (l.process == process) refl (λ low high. in_lines pnode process number (before ++ l ∷ []) ls low high) high
  where
    Found : Type 0
    Found = (j : ℕ) × (slice_get (line_calls pnode before (l ∷ ls)) j ≡ Some (pnode process, number))

    Later : Type 0
    Later = length (lines_of (before ++ l ∷ []) process) < number → number ≤ length (lines_of (before ++ l ∷ []) process) + length (lines_of ls process)
        → (j : ℕ) × (slice_get (line_calls pnode (before ++ l ∷ []) ls) j ≡ Some (pnode process, number))

    behind : (j : ℕ) × (slice_get (line_calls pnode (before ++ l ∷ []) ls) j ≡ Some (pnode process, number)) → Found
    behind (j, at) = (suc j, at)

    grown : lines_of (before ++ l ∷ []) process ≡ lines_of before process ++ cond (l.process == process) (l ∷ []) []
    grown = filter-append (λ (l : Line). l.process == process) before (l ∷ [])

    by_test : (b : Bool) → (l.process == process) ≡ b → Later → number ≤ length (lines_of before process) + length (cond b (l ∷ lines_of ls process) (lines_of ls process)) → Found
    by_test true own later high = elim (le_or_above number (length (lines_of before process) + 1)) [
      | inl here ↦
          let same : l.process ≡ process = same_numbers l.process process own in
          let count : length (lines_of before l.process) + 1 ≡ number = (let z = ap (λ p. length (lines_of before p)) same in omega (arith, z, low, here)) in
          (0, (λ i. Some (pnode (same i), count i)))
      | inr more ↦
          let size : length (lines_of (before ++ l ∷ []) process) ≡ length (lines_of before process) + 1 =
          ap length (grown ∙ ap (λ b. lines_of before process ++ cond b (l ∷ []) []) own) ∙ length-append (lines_of before process) (l ∷ []) in
          behind (later (omega (arith, size, more)) (omega (arith, size, high)))
    ]
    by_test false other later high =
        let size : length (lines_of (before ++ l ∷ []) process) ≡ length (lines_of before process) =
        ap length (grown ∙ ap (λ b. lines_of before process ++ cond b (l ∷ []) []) other) ∙ (let z = length-append (lines_of before process) [] in omega (arith, z)) in
        behind (later (omega (arith, size, low)) (omega (arith, size, high)))

-- the processes that have begun are at most one more than the lines

forked_few : (history : List Entry) (child parent number : ℕ) → length (forked history child parent number) ≤ 1
forked_few history child parent number = by_test (is_over history parent number) (child, pnode_at (call_entries history parent number) 0)
  where
    by_test : (b : Bool) (one : ℕ × ℕ) → length (cond b (one ∷ []) []) ≤ 1
    by_test true one = omega arith
    by_test false one = omega arith

call_few : (history : List Entry) (o : Option ℕ) (number : ℕ) (c : LineCall) → length (begun_by_call history o number c) ≤ 1
call_few history (Some parent) number (fork_as child) = forked_few history child parent number
call_few history _ number _ = omega arith

begun_few : (history : List Entry) (begun : Begun) (before ls : List Line) → length (begun_after history begun before ls) ≤ length begun + length ls
begun_few history begun before [] = omega arith
begun_few history begun before (l ∷ ls) =
    let more = begun_few history (begun ++ begun_at history begun before l) (before ++ l ∷ []) ls in
    let sum = length-append begun (begun_at history begun before l) in
    let one = call_few history (pnode_in begun l.process) (length (lines_of before l.process) + 1) l.call in
    omega (arith, more, sum, one)

first_few : (session : Session) (history : List Entry) → length (first_begun session history) ≤ 1
first_few session [] = omega arith
first_few session (e ∷ es) = omega arith

-- the process of a pnode
in_begun : (begun : Begun) (process who : ℕ) → pnode_in begun process ≡ Some who → (j : ℕ) × (b : ℕ × ℕ) × (slice_get begun j ≡ Some b) × (b.0 ≡ process) × (b.1 ≡ who)
in_begun [] process who is = absurd (cc)
in_begun (b ∷ begun) process who is = by_test (b.0 == process) refl (λ is. in_begun begun process who is) is
  where
    by_test : (t : Bool) → (b.0 == process) ≡ t → (pnode_in begun process ≡ Some who → (j : ℕ) × (c : ℕ × ℕ) × (slice_get begun j ≡ Some c) × (c.0 ≡ process) × (c.1 ≡ who))
        → option_map (λ (c : ℕ × ℕ). c.1) (cond t (Some b) (find (λ c. c.0 == process) begun)) ≡ Some who
        → (j : ℕ) × (c : ℕ × ℕ) × (slice_get (b ∷ begun) j ≡ Some c) × (c.0 ≡ process) × (c.1 ≡ who)
    by_test true same later is = (0, b, refl, same_numbers b.0 process same, some_is b.1 who is)
    by_test false other later is = let (j, c, at, one, two) = later is in (suc j, c, at, one, two)

module _ (session : Session) (trace : List Line) (history : List Entry) (run : IsRun session trace history) where
  abbrev pnode : ℕ → ℕ
  pnode process = option_map_or (λ (who : ℕ). who) (pnode_of_process session trace history process) 0

  abbrev exit_call : ℕ × ℕ → ℕ × ℕ
  exit_call b = (b.1, length (calls_of trace b.0))

  abbrev exits : Calls
  exits = map exit_call (begun_of session trace history)

  abbrev run_calls : Calls
  run_calls = line_calls pnode [] trace ++ exits

  run_few : length run_calls ≤ 2 * length trace + 1
  run_few =
      let whole = length-append (line_calls pnode [] trace) exits in
      let lines = length-line_calls pnode [] trace in
      let ends = length-map (begun_of session trace history) exit_call in
      let begun = begun_few history (first_begun session history) [] trace in
      let one = first_few session history in
      omega (arith, whole, lines, ends, begun, one)

  call_among : (process who number : ℕ) → pnode_of_process session trace history process ≡ Some who → 1 ≤ number → number ≤ length (calls_of trace process) → (j : ℕ) × (slice_get run_calls j ≡ Some (who, number))
  call_among process who number at low high =
      let size : length (calls_of trace process) ≡ length (lines_of trace process) + 1 = calls_size in
      elim (le_or_above number (length (lines_of trace process))) [
        | inl line ↦
            let (j, there) = in_lines pnode process number [] trace (omega (arith, low)) (omega (arith, line)) in
            let named : pnode process ≡ who = ap (λ o. option_map_or (λ (who : ℕ). who) o 0) at in
            (j, slice_get-append (line_calls pnode [] trace) exits j (who, number) (there ∙ ap (λ w. Some (w, number)) named))
        | inr exit ↦
            let (j, b, there, one, two) = in_begun (begun_of session trace history) process who at in
            let last : length (calls_of trace process) ≡ number = omega (arith, size, high, exit) in (
              length (line_calls pnode [] trace) + j,
              slice_get-right (line_calls pnode [] trace) exits j (who, number)
                  (slice_get-map exit_call (begun_of session trace history) j ∙ ap (option_map exit_call) there ∙ (λ i. Some (two i, (ap (λ p. length (calls_of trace p)) one ∙ last) i))),
            )
      ]
    where
      calls_size : length (calls_of trace process) ≡ length (lines_of trace process) + 1
      calls_size = length-append (map (λ (l : Line). l.call) (lines_of trace process)) (_ ∷ []) ∙ ap (λ n. n + 1) (length-map (lines_of trace process) (λ (l : Line). l.call))

  are_called : AreCalled history run_calls
  are_called i e at ordinary = elim (acts-cases (take i history) e (run.legal i e at).acts) [
    | inl start ↦ absurd (let z : true ≡ false = sym start.0 ∙ ordinary in cc)
    | inr on ↦
        let begun : has_begun history e.who ≡ true = still_begun e.who on.1 in
        let (process, named) = run.traced e.who begun in
        let least = (numbered session history run.legal).below i e at in
        let most = run.last process e.who named in
        call_among process e.who e.number named (goes_some e.number _ _ _ on.3) (omega (arith, least, most))
  ]
    where
      still_begun : (who : ℕ) → has_begun (take i history) who ≡ true → has_begun history who ≡ true
      still_begun who begun =
          let test = λ (f : Entry). begins who f.call f.act f.what f.reply in
          let (k, f, there, passes) = any_at test (take i history) begun in
          any_of test history k f (slice_get-take i k history f there) passes

pub run_law : RunLaw
run_law session sound trace history run =
    let few = run_few session trace history run in
    let entries = entries_spent session sound history run.legal (run_calls session trace history run) (are_called session trace history run) in
    let bytes = bytes_spent session sound history run.legal (run_calls session trace history run) (are_called session trace history run) in
    (omega (arith, few, entries), omega (arith, few, bytes))

-- an object opens with its version in the records before, or with 1
opened_low : (before : List Record) (session : Session) → Opens before session → (most : ℕ) → 1 ≤ most → ((object : ℕ) → current_of before object ≤ most) → (object : ℕ)
    → opening_version session.start object ≤ most
opened_low before session opens most some low object = by_files (opened_file session.start object) (opened_app session.start object) (λ is. (opens.current object is).1)
  where
    by_files : (f : Option StartFile) (n : Option Node)
        → (is_some f || is_some n ≡ true → option_map_or (λ (f : StartFile). f.node.version) f (option_map_or (λ (n : Node). n.version) n 1) ≡ current_of before object)
        → option_map_or (λ (f : StartFile). f.node.version) f (option_map_or (λ (n : Node). n.version) n 1) ≤ most
    by_files (Some f) n is = let same = is refl in let z = low object in omega (arith, same, z)
    by_files None (Some n) is = let same = is refl in let z = low object in omega (arith, same, z)
    by_files None None is = some

pub frame_law : CeilingLengthLaw → VersionLengthLaw → FrameLaw
frame_law ceilings versions bytes log image short session opens trace history run few =
    let (numbers, currents) = opened_law ceilings versions bytes log image short opens.logged in
    let (entries, size) = run_law session opens.sound trace history run in
    let young = opened_low log.list session opens (2 ^ 35) (omega arith) currents in
    (in_range_law session opens.sound history run.legal (λ object. let low = young object in omega (arith, low, entries, few)), omega (arith, size, few))
