-- The lines of a trace, read one after the other against the calls of a run.
use Rattle.std.proofs.Common.{◌≡◌, ◌+◌, ◌==◌, ◌<◌, ◌≤◌, ℕ, suc, List, [], ◌∷◌, ◌++◌, length, take, map, refl, ap, sym, ◌∙◌, Bool, true, false, ◌&&◌, not, arith, append_assoc, get_or}
use Rattle.std.specs.Prelude.{Option, Some, None, find, filter_map, fold, slice_get, option_map, unwrap_or, if◌then◌else◌}
use Rattle.std.specs.Option.{option_map_or, option_or, option_to_list}
use Rattle.std.specs.List.{enumerate_from, cons_option}
use Rattle.std.specs.Ordering.{nat_cmp}
use Rattle.std.specs.BTreeMap.{get}
use Rattle.std.specs.BTreeSet.{insert_key}
use Rattle.std.proofs.lemmas.List.{length-append, append-nil}
use Rattle.std.proofs.lemmas.List.Elements.{filter-append, filter_map-append}
use Rattle.std.proofs.lemmas.List.Folds.{find-append}
use Rattle.std.proofs.lemmas.List.Sums.{fold-append}
use Rattle.std.proofs.lemmas.Option.{slice_get-map, slice_get_read}
use Rattle.pass_trace.specs.declared.trace.TraceLine.{TraceLine}
use Rattle.pass_trace.specs.TraceLines.{plain_line, plain_trace}
use Rattle.pass_entry.specs.declared.entry.Entry.{Entry}
use Rattle.pass_entry.specs.declared.entry.Act.TheVariants as act
use Rattle.pass_entry.specs.declared.objects.Kind.TheVariants as kind
use Rattle.pass_entry.proofs.Places.{take_one_more, slice_get-last}
use Rattle.pass_plain.specs.declared.request.Request.TheVariants as requests
use Rattle.pass_plain.specs.Histories.{call_entries, pnode_of}
use Rattle.pass_plain.specs.Sessions.{Session}
use Rattle.pass_plain.specs.Calls.{Made, Step, pnode_at}
use Rattle.pass_plain.specs.Legal.{before_call, is_over, ends_call, step_of}
use Rattle.pass_plain.specs.Traces.{Line, LineCall, given, write_last, fork_as, wait_for, await_for, lines_of, calls_of}
use Rattle.pass_plain.specs.Runs.{Begun, pnode_in, first_begun, begun_by_call, begun_at, begun_after, pnode_of_process, steps_at, IsRun}
use Rattle.pass_plain.proofs.Lists.{some_is, same_numbers, same_itself}
use Rattle.pass_plain.proofs.Appends.{slice_get-append}
use Rattle.pass_plain.proofs.Replays.{enumerate_from-append}
use Rattle.pass_report.specs.Reports.{ascending, trace_processes, forked_by, is_done}
use Rattle.pass_report.specs.declared.calls.Calls.{Calls}
use Rattle.pass_report.specs.CallTables.{makes_process, ended_by, child_by, IsCallTable}
use Rattle.pass_report.specs.declared.standing.Standing.{Standing}
use Rattle.pass_report.specs.Standings.{lines_in, begun_from, ReadsLine, HasRead, next_among, LooksAtLine, HasLooked, done_by}
use Rattle.pass_report.proofs.Tabling.{over_by}
use Rattle.pass_report.proofs.Digesting.{one_more}

pub option_map-or : {X Y : Type 0} (f : X → Y) (a b : Option X) → option_map f (option_or a b) ≡ option_or (option_map f a) (option_map f b)
option_map-or f None b = refl
option_map-or f (Some x) b = refl

pub or_none : {X : Type 0} (o : Option X) → option_or o None ≡ o
or_none None = refl
or_none (Some x) = refl

abbrev paired : ℕ → ℕ → ℕ × ℕ
paired a b = (a, b)

abbrev placed : ℕ → Line → ℕ × Line
placed k l = (k, l)

one_option : (o : Option ℕ) → cons_option o [] ≡ option_to_list o
one_option None = refl
one_option (Some n) = refl

-- the processes that have begun, one line further

begun_after-more : (history : List Entry) (begun : Begun) (before xs ys : List Line)
    → (more : Begun) × (begun_after history begun before (xs ++ ys) ≡ begun_after history begun before xs ++ more)
begun_after-more history begun before [] [] = ([], sym (append-nil begun))
begun_after-more history begun before [] (y ∷ ys) =
    let (more, is) = begun_after-more history (begun ++ begun_at history begun before y) (before ++ y ∷ []) [] ys in
    (begun_at history begun before y ++ more, is ∙ append_assoc begun (begun_at history begun before y) more)
begun_after-more history begun before (x ∷ xs) ys = begun_after-more history (begun ++ begun_at history begun before x) (before ++ x ∷ []) xs ys

begun_after-one : (history : List Entry) (begun : Begun) (before xs : List Line) (l : Line)
    → begun_after history begun before (xs ++ l ∷ []) ≡ begun_after history begun before xs ++ begun_at history (begun_after history begun before xs) (before ++ xs) l
begun_after-one history begun before [] l = ap (λ ls. begun ++ begun_at history begun ls l) (sym (append-nil before))
begun_after-one history begun before (x ∷ xs) l =
    begun_after-one history (begun ++ begun_at history begun before x) (before ++ x ∷ []) xs l
    ∙ ap (λ ls. begun_after history begun before (x ∷ xs) ++ begun_at history (begun_after history begun before (x ∷ xs)) ls l) (append_assoc before (x ∷ []) xs)

pnode_in-append : (a b : Begun) (process : ℕ) → pnode_in (a ++ b) process ≡ option_or (pnode_in a process) (pnode_in b process)
pnode_in-append a b process =
    ap (λ o. option_map (λ (b : ℕ × ℕ). b.1) o) (find-append (λ (b : ℕ × ℕ). b.0 == process) a b)
    ∙ option_map-or (λ (b : ℕ × ℕ). b.1) (find (λ b. b.0 == process) a) (find (λ b. b.0 == process) b)

-- the lines of a process

lines_of-one : (done : List Line) (l : Line) (process : ℕ) → lines_of (done ++ l ∷ []) process ≡ lines_of done process ++ (if l.process == process then l ∷ [] else [])
lines_of-one done l process = filter-append (λ (l : Line). l.process == process) done (l ∷ [])

length-lines_of-one : (done : List Line) (l : Line) (process : ℕ)
    → length (lines_of (done ++ l ∷ []) process) ≡ (if l.process == process then length (lines_of done process) + 1 else length (lines_of done process))
length-lines_of-one done l process =
    ap length (lines_of-one done l process) ∙ length-append (lines_of done process) (if l.process == process then l ∷ [] else [])
    ∙ one_more (l.process == process) (length (lines_of done process)) l

-- a line of a trace, its place among its process's lines, and the run
module _ (session : Session) (trace : List Line) (history : List Entry) (c : Calls) (run : IsRun session trace history) (table : IsCallTable history c)
    (done rest : List Line) (l : Line) (whole : trace ≡ done ++ l ∷ rest) where
  abbrev begun : Begun
  begun = begun_after history (first_begun session history) [] done

  place : ℕ
  place = length (lines_of done l.process)

  its_call : slice_get (calls_of trace l.process) (length (lines_of done l.process)) ≡ Some l.call
  its_call =
      let calls = map (λ (l : Line). l.call) (lines_of trace l.process) in
      let parted : lines_of trace l.process ≡ (lines_of done l.process ++ l ∷ []) ++ lines_of rest l.process =
      ap (λ t. lines_of t l.process) (whole ∙ sym (append_assoc done (l ∷ []) rest)) ∙ filter-append (λ (m : Line). m.process == l.process) (done ++ l ∷ []) rest
      ∙ ap (λ ls. ls ++ lines_of rest l.process) (lines_of-one done l l.process ∙ ap (λ b. lines_of done l.process ++ (if b then l ∷ [] else [])) (same_itself l.process)) in
      let here : slice_get (lines_of trace l.process) (length (lines_of done l.process)) ≡ Some l =
      ap (λ ls. slice_get ls (length (lines_of done l.process))) parted
      ∙ slice_get-append (lines_of done l.process ++ l ∷ []) (lines_of rest l.process) (length (lines_of done l.process)) l (slice_get-last (lines_of done l.process) l) in
      slice_get-append calls (given requests.Exit ∷ []) (length (lines_of done l.process)) l.call
      (slice_get-map (λ (l : Line). l.call) (lines_of trace l.process) (length (lines_of done l.process)) ∙ ap (λ o. option_map (λ (l : Line). l.call) o) here)

  known_parent : (parent : ℕ) → pnode_in begun l.process ≡ Some parent → pnode_of_process session trace history l.process ≡ Some parent
  known_parent parent is =
      let (more, parts) = begun_after-more history (first_begun session history) [] done (l ∷ rest) in
      ap (λ t. pnode_in (begun_after history (first_begun session history) [] t) l.process) whole ∙ ap (λ b. pnode_in b l.process) parts
      ∙ pnode_in-append begun more l.process ∙ ap (λ o. option_or o (pnode_in more l.process)) is

  -- the child that an answered fork has made
  made_child : (parent child : ℕ) → pnode_in begun l.process ≡ Some parent → l.call ≡ fork_as child → is_over history parent (length (lines_of done l.process) + 1) ≡ true
      → child_by c parent (length (lines_of done l.process) + 1) ≡ pnode_at (call_entries history parent (length (lines_of done l.process) + 1)) 0
  made_child parent child is forks over = by_entries (call_entries history parent (length (lines_of done l.process) + 1)) refl
    where
      by_entries : (made : Made) → call_entries history parent (length (lines_of done l.process) + 1) ≡ made
          → child_by c parent (length (lines_of done l.process) + 1) ≡ pnode_at (call_entries history parent (length (lines_of done l.process) + 1)) 0
      by_entries [] none =
          absurd (let z : false ≡ true = sym (ap (ends_call (before_call history parent (length (lines_of done l.process) + 1))) none) ∙ over in cc)
      by_entries (m ∷ made) first =
          let n = length (lines_of done l.process) + 1 in
          let steps = run.lines l.process parent (length (lines_of done l.process)) (fork_as child) (known_parent parent is) (its_call ∙ ap (λ k. Some k) forks) in
          let at : slice_get (call_entries history parent n) 0 ≡ Some m = ap (λ xs. slice_get xs 0) first in
          let head : ◌≡◌ {A = Option Step} (Some (step_of m)) (Some (0, act.Mint kind.Process)) =
          ap (λ (ss : List Step). slice_get ss 0) (sym (ap (map step_of) first) ∙ steps ∙ ap (λ (xs : Made). take (length xs) (steps_at session trace history parent n (fork_as child))) first) in
          let minted : Step = (0, act.Mint kind.Process) in
          let makes : makes_process m.1.act ≡ true = ap (λ (s : Step). makes_process s.1) (some_is (step_of m) minted head) in
          ap (λ o. unwrap_or o 0) (table.child parent n m at makes) ∙ sym (ap (λ o. option_map_or (λ (s : ℕ × Entry). pnode_of s.1.reply) o 0) at)

  -- what the tables say of the line is what the run says
  same_begun : (o : Option ℕ) → pnode_in begun l.process ≡ o → (k : LineCall) → l.call ≡ k
      → begun_from c o (length (lines_of done l.process) + 1) k ≡ begun_by_call history o (length (lines_of done l.process) + 1) k
  same_begun (Some parent) is (fork_as child) forks =
      by_test (is_over history parent n) refl
    where
      n : ℕ
      n = length (lines_of done l.process) + 1

      same : ended_by c parent (length (lines_of done l.process) + 1) ≡ is_over history parent (length (lines_of done l.process) + 1)
      same = over_by session trace history c run table parent (length (lines_of done l.process) + 1) (omega arith)

      by_test : (b : Bool) → is_over history parent (length (lines_of done l.process) + 1) ≡ b
          → begun_from c (Some parent) (length (lines_of done l.process) + 1) (fork_as child) ≡ begun_by_call history (Some parent) (length (lines_of done l.process) + 1) (fork_as child)
      by_test true over =
          let k = length (lines_of done l.process) + 1 in
          ap (λ b. if b then (child, child_by c parent k) ∷ [] else []) (same ∙ over)
          ∙ ap (λ p. paired child p ∷ []) (made_child parent child is forks over)
          ∙ sym (ap (λ b. if b then (child, pnode_at (call_entries history parent k) 0) ∷ [] else []) over)
      by_test false over =
          let k = length (lines_of done l.process) + 1 in
          ap (λ b. if b then (child, child_by c parent k) ∷ [] else []) (same ∙ over)
          ∙ sym (ap (λ b. if b then (child, pnode_at (call_entries history parent k) 0) ∷ [] else []) over)
  same_begun (Some parent) is (given request) forks = refl
  same_begun (Some parent) is (write_last fd) forks = refl
  same_begun (Some parent) is (wait_for child) forks = refl
  same_begun (Some parent) is (await_for child) forks = refl
  same_begun None is (fork_as child) forks = refl
  same_begun None is _ forks = refl

  pub read_next : (old new : Standing) → HasRead session history done old → ReadsLine c l old new → HasRead session history (done ++ l ∷ []) new
  read_next old new read reads = record {
    lines = λ process.
        reads.lines process ∙ ap (λ n. if l.process == process then n + 1 else n) (read.lines process) ∙ sym (length-lines_of-one done l process);
    processes =
        reads.processes ∙ ap (λ ks. fold (insert_key nat_cmp) ks (option_to_list (forked_by l.call))) read.processes
        ∙ sym (fold-append (insert_key nat_cmp) [] (trace_processes done) (option_to_list (forked_by l.call)))
        ∙ ap (λ ps. ascending nat_cmp (1 ∷ ps)) (sym (filter_map-append (λ (l : Line). forked_by l.call) done (l ∷ []) ∙ ap (λ ps. filter_map (λ (l : Line). forked_by l.call) done ++ ps) (one_option (forked_by l.call))));
    begun = λ process.
        reads.begun process
        ∙ (λ i. option_or (read.begun process i) (pnode_in (begun_from c (read.begun l.process i) (read.lines l.process i + 1) l.call) process))
        ∙ ap (λ b. option_or (pnode_in begun process) (pnode_in b process)) (same_begun (pnode_in begun l.process) refl l.call refl)
        ∙ sym (pnode_in-append begun (begun_at history begun done l) process)
        ∙ sym (ap (λ b. pnode_in b process) (begun_after-one history (first_begun session history) [] done l));
  }

-- a line at its place in a trace

pub line_at : (lines : List TraceLine) (i : ℕ) (x : TraceLine) → i < length lines → x ≡ get_or lines i x → slice_get (plain_trace lines) i ≡ Some (plain_line x)
line_at lines i x within is =
    slice_get-map plain_line lines i ∙ ap (λ o. option_map plain_line o) (slice_get_read lines (length lines) i x refl within is)

pub more_or_same : (b : Bool) (n m i : ℕ) → m ≡ (if b then n + 1 else n) → n ≤ i → m ≤ i + 1
more_or_same true n m i is few = omega (arith, is, few)
more_or_same false n m i is few = omega (arith, is, few)

pub one_line : (trace : List Line) (i : ℕ) (l : Line) → slice_get trace i ≡ Some l → take (i + 1) trace ≡ take i trace ++ l ∷ []
one_line trace i l at = ap (λ n. take n trace) (let z : i + 1 ≡ suc i = omega arith in z) ∙ take_one_more trace i l at

-- which calls are answered, and the next lines

module _ (session : Session) (trace : List Line) (history : List Entry) (c : Calls) (run : IsRun session trace history) (table : IsCallTable history c) where
  pub done_is : (s : Standing) (process number : ℕ) → get nat_cmp s.begun process ≡ pnode_of_process session trace history process → 1 ≤ number
      → done_by c s process number ≡ is_done session trace history process number
  done_is s process number known least =
      ap (λ o. option_map_or (λ who. ended_by c who number) o false) known ∙ by_pnode (pnode_of_process session trace history process)
    where
      by_pnode : (o : Option ℕ) → option_map_or (λ who. ended_by c who number) o false ≡ option_map_or (λ who. is_over history who number) o false
      by_pnode (Some who) = over_by session trace history c run table who number least
      by_pnode None = refl

  module _ (done : List Line) (l : Line) where
    found_last : (b : Bool) (k : ℕ) → option_map (λ (s : ℕ × Line). s.1.number) (if not b then Some (placed k l) else None) ≡ (if true && not b then Some l.number else None)
    found_last true k = refl
    found_last false k = refl

    next_other : (process : ℕ) → (l.process == process) ≡ false → next_among session trace history (done ++ l ∷ []) process ≡ next_among session trace history done process
    next_other process other =
        ap (λ ls. option_map (λ (s : ℕ × Line). s.1.number) (find (λ s. not (is_done session trace history process s.0)) (enumerate_from 1 ls)))
        (lines_of-one done l process ∙ ap (λ b. lines_of done process ++ (if b then l ∷ [] else [])) other ∙ append-nil (lines_of done process))

    next_own : (process : ℕ) → (l.process == process) ≡ true
        → next_among session trace history (done ++ l ∷ []) process
        ≡ option_or (next_among session trace history done process) (if true && not (is_done session trace history process (length (lines_of done process) + 1)) then Some l.number else None)
    next_own process own =
        let xs = lines_of done process in
        let test : ℕ × Line → Bool = λ s. not (is_done session trace history process s.0) in
        let number : ℕ × Line → ℕ = λ s. s.1.number in
        ap (λ ls. option_map number (find test (enumerate_from 1 ls)))
        (lines_of-one done l process ∙ ap (λ b. xs ++ (if b then l ∷ [] else [])) own)
        ∙ ap (λ es. option_map number (find test es)) (enumerate_from-append 1 xs l)
        ∙ ap (option_map number) (find-append test (enumerate_from 1 xs) ((1 + length xs, l) ∷ []))
        ∙ option_map-or number (find test (enumerate_from 1 xs)) (find test ((1 + length xs, l) ∷ []))
        ∙ ap (option_or (next_among session trace history done process))
        (found_last (is_done session trace history process (1 + length xs)) (1 + length xs)
        ∙ ap (λ k. if true && not (is_done session trace history process k) then Some l.number else None) (let z : 1 + length xs ≡ length xs + 1 = omega arith in z))

    pub look_next : (old new : Standing) → HasLooked session trace history done old
        → LooksAtLine (done_by c old l.process (lines_in old l.process + 1)) l old new → HasLooked session trace history (done ++ l ∷ []) new
    look_next old new looked looks = record {
      lines = λ process. looks.lines process ∙ ap (λ n. if l.process == process then n + 1 else n) (looked.lines process) ∙ sym (length-lines_of-one done l process);
      processes = ap (λ s. s.keys) looks.processes ∙ looked.processes;
      begun = λ process. ap (λ m. get nat_cmp m process) looks.begun ∙ looked.begun process;
      next = λ process. looks.next process ∙ ap (λ o. option_or o (if l.process == process && not answered then Some l.number else None)) (looked.next process) ∙ at_process process (l.process == process) refl;
    }
      where
        answered : Bool
        answered = done_by c old l.process (lines_in old l.process + 1)

        same : done_by c old l.process (lines_in old l.process + 1) ≡ is_done session trace history l.process (length (lines_of done l.process) + 1)
        same =
            ap (λ n. done_by c old l.process (n + 1)) (looked.lines l.process)
            ∙ done_is old l.process (length (lines_of done l.process) + 1) (looked.begun l.process) (omega arith)

        at_process : (process : ℕ) (b : Bool) → (l.process == process) ≡ b
            → option_or (next_among session trace history done process) (if l.process == process && not (done_by c old l.process (lines_in old l.process + 1)) then Some l.number else None)
            ≡ next_among session trace history (done ++ l ∷ []) process
        at_process process true own =
            ap (λ b. option_or (next_among session trace history done process) (if b && not (done_by c old l.process (lines_in old l.process + 1)) then Some l.number else None)) own
            ∙ ap (λ b. option_or (next_among session trace history done process) (if true && not b then Some l.number else None))
            (same ∙ ap (λ p. is_done session trace history p (length (lines_of done p) + 1)) (same_numbers l.process process own))
            ∙ sym (next_own process own)
        at_process process false other =
            ap (λ b. option_or (next_among session trace history done process) (if b && not (done_by c old l.process (lines_in old l.process + 1)) then Some l.number else None)) other
            ∙ or_none (next_among session trace history done process) ∙ sym (next_other process other)

-- process 1 begins with the history
pub first_in : (session : Session) (history : List Entry) (first : Option ℕ) → first ≡ pnode_in (first_begun session history) 1
    → (process : ℕ) → (if 1 == process then first else None) ≡ pnode_in (first_begun session history) process
first_in session [] first is process = ap (λ o. if 1 == process then o else None) is ∙ by_test (1 == process)
  where
    by_test : (b : Bool) → ◌≡◌ {A = Option ℕ} (if b then None else None) None
    by_test true = refl
    by_test false = refl
first_in session (e ∷ es) first is process = ap (λ o. if 1 == process then o else None) is ∙ by_test (1 == process)
  where
    by_test : (b : Bool) → (if b then Some (session.start.ceiling + 1) else None) ≡ option_map (λ (b : ℕ × ℕ). b.1) (if b then Some (paired 1 (session.start.ceiling + 1)) else None)
    by_test true = refl
    by_test false = refl
