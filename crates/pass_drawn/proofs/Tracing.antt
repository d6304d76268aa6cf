-- The lines of a drawn trace: who calls what, and that they keep the rules of a trace.
use Rattle.std.proofs.Common.{◌≡◌, ℕ, zero, suc, ◌+◌, ◌-◌, ◌/◌, ◌%◌, ◌<◌, ◌≤◌, Bool, true, false, ◌&&◌, ◌==◌, eqb, List, [], ◌∷◌, ◌++◌, length, map, replicate, codes, ◌⊎◌, inl, inr, refl, ap, sym, ◌∙◌, subst, arith, append_assoc, append-nil}
use Rattle.std.specs.Prelude.{Some, slice_get, nat_le}
use Rattle.std.specs.List.{range_with_len}
use Rattle.std.proofs.lemmas.Bool.{agree_below_at, le-leb}
use Rattle.std.proofs.lemmas.List.{length-replicate, map-append}
use Rattle.pass_entry.specs.declared.entry.CallName.{CallName}
use Rattle.pass_entry.specs.declared.entry.CallName.TheVariants as call_name
use Rattle.pass_plain.specs.declared.request.Request.TheVariants as requests
use Rattle.pass_plain.specs.Calls.{is_fd}
use Rattle.pass_plain.specs.Traces.{Line, LineCall, given, write_last, fork_as, wait_for, await_for, waited_for, name_of_call, lines_of, calls_of}
use Rattle.pass_plain.proofs.Lists.{AllFrom, all_at, all-append, all-map, both_true, filtered, same_numbers, of_both}
use Rattle.pass_plain.proofs.Appends.{slice_get-append}
use Rattle.pass_trace.specs.declared.trace.Command.TheVariants as command
use Rattle.pass_trace.specs.declared.trace.Payload.TheVariants.{Given}
use Rattle.pass_trace.specs.declared.trace.TraceLine.{TraceLine}
use Rattle.pass_trace.specs.TraceLines.{call_of, plain_line, plain_trace}
use Rattle.pass_gen.specs.Generated.{line, word_at, child_at, length_of, transfer_of, command_of, first_lines, drawn_lines, last_lines, generated}
use Rattle.pass_replay.specs.Lines.{IsLineCall, ForksBefore, IsLineBehind, AreLinesBehind, is_there}
use Rattle.pass_replay.proofs.Begun.{there_stays}
use Rattle.pass_replay.proofs.NextCalls.{call_cases}
use Rattle.pass_replay.proofs.Positions.{lines-append}
use Rattle.pass_drawn.specs.Runs.{drawn_trace}

-- the calls of the first process, and of the others
abbrev pub IsFirsts : LineCall → Type 0
IsFirsts (given (requests.Creat fd name)) = (fd ≡ 3) × (name ≡ codes "shared")
IsFirsts (fork_as child) = (2 ≤ child) × (child ≤ 8)
IsFirsts (wait_for child) = (2 ≤ child) × (child ≤ 8)
IsFirsts _ = ⊥

abbrev pub IsChilds : LineCall → Type 0
IsChilds (given (requests.Seek fd at)) = (fd ≡ 3) × (at < 65536)
IsChilds (given (requests.Read fd len)) = (fd ≡ 3) × (1 ≤ len) × (len ≤ 4096)
IsChilds (given (requests.Write fd bytes)) = (fd ≡ 3) × (length bytes ≤ 4096)
IsChilds _ = ⊥

abbrev pub IsDrawn : ℕ → LineCall → Type 0
IsDrawn process call = ((process ≡ 1) × IsFirsts call) ⊎ ((2 ≤ process) × (process ≤ 8) × IsChilds call)

childs_of : (i word : ℕ) → IsChilds (call_of (command_of i word))
childs_of i word =
    let size = length-replicate (length_of word) (word / 8192 % 256) in
    let short : length_of word ≤ 4096 = omega arith in
    let transfer = of_both (λ c. IsChilds (call_of c)) (eqb (word % 2) 0) (command.Read 3 (length_of word)) (command.Write 3 (Given (replicate (length_of word) (word / 8192 % 256))))
    (refl, omega arith, short) (refl, omega (arith, size, short)) in
    of_both (λ c. IsChilds (call_of c)) (eqb (i % 2) 0) (command.Seek 3 (word % 65536)) (transfer_of word) (refl, omega arith) transfer

abbrev AreDrawn : ℕ → List TraceLine → Type 0
AreDrawn n lines = AllFrom (λ k (l : TraceLine). IsDrawn l.process (call_of l.command)) n lines

forks_drawn : (n a count : ℕ) → 2 ≤ a → a + count ≤ 9 → AreDrawn n (map (λ child. line child 1 (command.Fork child)) (range_with_len a count))
forks_drawn n a zero least most = tt
forks_drawn n a (suc count) least most = (inl (refl, (least, omega (arith, most))), forks_drawn (suc n) (a + 1) count (omega (arith, least)) (omega (arith, most)))

waits_drawn : (n k a count : ℕ) → 2 ≤ a → a + count ≤ 9 → AreDrawn n (map (λ child. line (k + child) 1 (command.Wait child)) (range_with_len a count))
waits_drawn n k a zero least most = tt
waits_drawn n k a (suc count) least most = (inl (refl, (least, omega (arith, most))), waits_drawn (suc n) k (a + 1) count (omega (arith, least)) (omega (arith, most)))

childs_drawn : (n number a count : ℕ) → AreDrawn n (map (λ i. line (9 + i) (child_at i) (command_of i (word_at number i))) (range_with_len a count))
childs_drawn n number a zero = tt
childs_drawn n number a (suc count) =
    let small : a / 2 % 7 < 7 = omega arith in
    (inr (omega arith, omega (arith, small), childs_of a (word_at number a)), childs_drawn (suc n) number (a + 1) count)

all_drawn : (number lines : ℕ) → AreDrawn 0 (generated number lines)
all_drawn number lines =
    let count = lines - 15 in
    all-append (λ k (l : TraceLine). IsDrawn l.process (call_of l.command)) 0 (first_lines ++ drawn_lines number count) (last_lines count)
    (all-append (λ k (l : TraceLine). IsDrawn l.process (call_of l.command)) 0 first_lines (drawn_lines number count) (inl (refl, (refl, refl)), forks_drawn 1 2 7 (omega arith) (omega arith)) (childs_drawn (length first_lines + 0) number 0 count))
    (waits_drawn (length (first_lines ++ drawn_lines number count) + 0) (7 + count) 2 7 (omega arith) (omega arith))

-- each line of the trace, and each call of a process
pub line_drawn : (number lines k : ℕ) (l : Line) → slice_get (drawn_trace number lines) k ≡ Some l → IsDrawn l.process l.call
line_drawn number lines k l at =
    all_at (λ k (l : Line). IsDrawn l.process l.call) (drawn_trace number lines)
    (all-map (λ k (l : Line). IsDrawn l.process l.call) plain_line 0 (generated number lines) (all_drawn number lines)) k l at

pub own_line_drawn : (number lines process k : ℕ) (l : Line) → slice_get (lines_of (drawn_trace number lines) process) k ≡ Some l → IsDrawn process l.call
own_line_drawn number lines process k l at =
    let (own, i, stands) = filtered (λ (l : Line). l.process == process) (drawn_trace number lines) k l at in
    subst (λ p. IsDrawn p l.call) (same_numbers l.process process own) (line_drawn number lines i l stands)

pub call_drawn : (number lines process k : ℕ) (call : LineCall) → slice_get (calls_of (drawn_trace number lines) process) k ≡ Some call
    → IsDrawn process call ⊎ (call ≡ given requests.Exit)
call_drawn number lines process k call at = elim (call_cases (drawn_trace number lines) process k call at) [
  | inl l ↦ inl (subst (λ c. IsDrawn process c) l.2 (own_line_drawn number lines process k l.0 l.1))
  | inr exit ↦ inr exit.0
]

-- the calls of the trace, by their names
abbrev pub is_drawn_name : CallName → Bool
is_drawn_name call_name.Creat = true
is_drawn_name call_name.Fork = true
is_drawn_name call_name.WaitChild = true
is_drawn_name call_name.Seek = true
is_drawn_name call_name.Read = true
is_drawn_name call_name.Write = true
is_drawn_name call_name.Exit = true
is_drawn_name _ = false

firsts_named : (call : LineCall) → IsFirsts call → is_drawn_name (name_of_call call) ≡ true
firsts_named (given (requests.Creat fd name)) is = refl
firsts_named (given _) is = absurd is
firsts_named (write_last fd) is = absurd is
firsts_named (fork_as child) is = refl
firsts_named (wait_for child) is = refl
firsts_named (await_for child) is = absurd is

childs_named : (call : LineCall) → IsChilds call → is_drawn_name (name_of_call call) ≡ true
childs_named (given (requests.Seek fd at)) is = refl
childs_named (given (requests.Read fd len)) is = refl
childs_named (given (requests.Write fd bytes)) is = refl
childs_named (given _) is = absurd is
childs_named (write_last fd) is = absurd is
childs_named (fork_as child) is = absurd is
childs_named (wait_for child) is = absurd is
childs_named (await_for child) is = absurd is

named_if : (process : ℕ) (call : LineCall) → IsDrawn process call ⊎ (call ≡ given requests.Exit) → is_drawn_name (name_of_call call) ≡ true
named_if process call (inl (inl one)) = firsts_named call one.1
named_if process call (inl (inr other)) = childs_named call other.2
named_if process call (inr exit) = ap (λ c. is_drawn_name (name_of_call c)) exit

pub call_named_so : (number lines process k : ℕ) (call : LineCall) → slice_get (calls_of (drawn_trace number lines) process) k ≡ Some call → is_drawn_name (name_of_call call) ≡ true
call_named_so number lines process k call at = named_if process call (call_drawn number lines process k call at)

-- the rules of a trace

fork_behind : (before : List Line) (number child : ℕ) → child ≤ 65536 → is_there before child ≡ false → IsLineBehind before (plain_line (line number 1 (command.Fork child)))
fork_behind before number child small new = record {
  within = small;
  there = refl;
  forks = λ q is. ap (is_there before) (let z : q ≡ child = cc in z) ∙ new;
  waits = λ q is. absurd (cc);
}

wait_behind : (before : List Line) (number child : ℕ) → ForksBefore before 1 child → IsLineBehind before (plain_line (line number 1 (command.Wait child)))
wait_behind before number child forked = record {
  within = tt;
  there = refl;
  forks = λ q is. absurd (cc);
  waits = λ q is. subst (λ q. ForksBefore before 1 q) (let z : child ≡ q = cc in z) forked;
}

childs_within : (call : LineCall) → IsChilds call → IsLineCall call
childs_within (given (requests.Seek fd at)) is = (refl, ap is_fd is.0)
childs_within (given (requests.Read fd len)) is =
    (refl, both_true (is_fd fd && nat_le 1 len) (nat_le len 4096) (both_true (is_fd fd) (nat_le 1 len) (ap is_fd is.0) (le-leb 1 len is.1)) (le-leb len 4096 is.2))
childs_within (given (requests.Write fd bytes)) is = (refl, both_true (is_fd fd) (nat_le (length bytes) 4096) (ap is_fd is.0) (le-leb (length bytes) 4096 is.1))
childs_within (given _) is = absurd is
childs_within (write_last fd) is = absurd is
childs_within (fork_as child) is = absurd is
childs_within (wait_for child) is = absurd is
childs_within (await_for child) is = absurd is

childs_fork_none : (call : LineCall) (q : ℕ) → IsChilds call → call ≡ fork_as q → ⊥
childs_fork_none call q is same = let z : IsChilds (fork_as q) = subst IsChilds same is in z

childs_wait_none : (call : LineCall) (q : ℕ) → IsChilds call → waited_for call ≡ Some q → ⊥
childs_wait_none (given r) q is same = absurd (cc)
childs_wait_none (write_last fd) q is same = is
childs_wait_none (fork_as child) q is same = is
childs_wait_none (wait_for child) q is same = is
childs_wait_none (await_for child) q is same = is

child_behind : (before : List Line) (l : Line) → IsChilds l.call → is_there before l.process ≡ true → IsLineBehind before l
child_behind before l is there = record {
  within = childs_within l.call is;
  there = there;
  forks = λ q same. absurd (childs_fork_none l.call q is same);
  waits = λ q same. absurd (childs_wait_none l.call q is same);
}

behind-append : (before xs ys : List Line) → AreLinesBehind before xs → AreLinesBehind (before ++ xs) ys → AreLinesBehind before (xs ++ ys)
behind-append before [] ys f g = subst (λ b. AreLinesBehind b ys) (append-nil before) g
behind-append before (x ∷ xs) ys f g = (f.0, behind-append (before ++ x ∷ []) xs ys f.1 (subst (λ b. AreLinesBehind b ys) (sym (append_assoc before (x ∷ []) xs)) g))

abbrev firsts : List Line
firsts = plain_trace first_lines

firsts_behind : AreLinesBehind [] firsts
firsts_behind =
    let creat : IsLineBehind [] (plain_line (line 1 1 (command.Creat 3 (codes "shared")))) =
    record { within = (refl, refl); there = refl; forks = λ q is. absurd (cc); waits = λ q is. absurd (cc) } in (
      creat,
      (
        fork_behind _ 2 2 (omega arith) refl,
        (
          fork_behind _ 3 3 (omega arith) refl,
          (
            fork_behind _ 4 4 (omega arith) refl,
            (
              fork_behind _ 5 5 (omega arith) refl,
              (fork_behind _ 6 6 (omega arith) refl, (fork_behind _ 7 7 (omega arith) refl, (fork_behind _ 8 8 (omega arith) refl, tt))),
            ),
          ),
        ),
      ),
    )

first_there : (child : ℕ) → child < 7 → is_there firsts (2 + child) ≡ true
first_there child small = agree_below_at (λ q. is_there firsts (2 + q)) (λ q. true) 7 child refl small

childs_behind : (number a count : ℕ) (more : List Line) → AreLinesBehind (firsts ++ more) (plain_trace (map (λ i. line (9 + i) (child_at i) (command_of i (word_at number i))) (range_with_len a count)))
childs_behind number a zero more = tt
childs_behind number a (suc count) more =
    let small : a / 2 % 7 < 7 = omega arith in
    let l : Line = plain_line (line (9 + a) (child_at a) (command_of a (word_at number a))) in (
      child_behind (firsts ++ more) l (childs_of a (word_at number a)) (there_stays firsts more (child_at a) (first_there (a / 2 % 7) small)),
      subst (λ b. AreLinesBehind b (plain_trace (map (λ i. line (9 + i) (child_at i) (command_of i (word_at number i))) (range_with_len (a + 1) count)))) (sym (append_assoc firsts more (l ∷ [])))
          (childs_behind number (a + 1) count (more ++ l ∷ [])),
    )

-- the fork of a child is the line of the first process that has the child's number
pub fork_at : (child : ℕ) → child < 7 → slice_get (lines_of firsts 1) (suc child) ≡ Some (plain_line (line (2 + child) 1 (command.Fork (2 + child))))
fork_at zero small = refl
fork_at (suc zero) small = refl
fork_at (suc (suc zero)) small = refl
fork_at (suc (suc (suc zero))) small = refl
fork_at (suc (suc (suc (suc zero)))) small = refl
fork_at (suc (suc (suc (suc (suc zero))))) small = refl
fork_at (suc (suc (suc (suc (suc (suc zero)))))) small = refl
fork_at (suc (suc (suc (suc (suc (suc (suc child))))))) small = absurd (omega (arith, small))

forked : (more : List Line) (child : ℕ) → child < 7 → ForksBefore (firsts ++ more) 1 (2 + child)
forked more child small = (
  suc child,
  plain_line (line (2 + child) 1 (command.Fork (2 + child))),
  ap (λ ls. slice_get ls (suc child)) (lines-append firsts more 1) ∙ slice_get-append (lines_of firsts 1) (lines_of more 1) (suc child) _ (fork_at child small),
  refl,
)

waits_behind : (k b count : ℕ) (more : List Line) → b + count ≤ 7 → AreLinesBehind (firsts ++ more) (plain_trace (map (λ child. line (k + child) 1 (command.Wait child)) (range_with_len (2 + b) count)))
waits_behind k b zero more few = tt
waits_behind k b (suc count) more few =
    let l : Line = plain_line (line (k + (2 + b)) 1 (command.Wait (2 + b))) in
    let later : AreLinesBehind (firsts ++ (more ++ l ∷ [])) (plain_trace (map (λ child. line (k + child) 1 (command.Wait child)) (range_with_len (2 + (b + 1)) count))) =
    waits_behind k (b + 1) count (more ++ l ∷ []) (omega (arith, few)) in (
      wait_behind (firsts ++ more) (k + (2 + b)) (2 + b) (forked more b (omega (arith, few))),
      subst (λ n. AreLinesBehind ((firsts ++ more) ++ l ∷ []) (plain_trace (map (λ child. line (k + child) 1 (command.Wait child)) (range_with_len n count)))) (let z : 2 + (b + 1) ≡ 2 + b + 1 = omega arith in z)
          (subst (λ (ls : List Line). AreLinesBehind ls (plain_trace (map (λ child. line (k + child) 1 (command.Wait child)) (range_with_len (2 + (b + 1)) count)))) (sym (append_assoc firsts more (l ∷ []))) later),
    )

pub plain-append : (xs ys : List TraceLine) → plain_trace (xs ++ ys) ≡ plain_trace xs ++ plain_trace ys
plain-append xs ys = map-append plain_line xs ys

-- the trace's parts
pub trace_parts : (number lines : ℕ) → drawn_trace number lines ≡ (firsts ++ plain_trace (drawn_lines number (lines - 15))) ++ plain_trace (last_lines (lines - 15))
trace_parts number lines =
    plain-append (first_lines ++ drawn_lines number (lines - 15)) (last_lines (lines - 15))
    ∙ ap (λ ls. ls ++ plain_trace (last_lines (lines - 15))) (plain-append first_lines (drawn_lines number (lines - 15)))

pub ruled : (number lines : ℕ) → AreLinesBehind [] (drawn_trace number lines)
ruled number lines =
    let count = lines - 15 in
    let drawn = plain_trace (drawn_lines number count) in
    subst (λ t. AreLinesBehind [] t) (sym (trace_parts number lines))
    (behind-append [] (firsts ++ drawn) (plain_trace (last_lines count))
    (behind-append [] firsts drawn firsts_behind (subst (λ b. AreLinesBehind b drawn) (append-nil firsts) (childs_behind number 0 count [])))
    (waits_behind (7 + count) 0 7 drawn (omega arith)))
