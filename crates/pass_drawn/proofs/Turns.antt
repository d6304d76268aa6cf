-- Before each write of a drawn trace its process seeks.
use Rattle.std.proofs.Common.{◌≡◌, ℕ, zero, suc, ◌+◌, ◌-◌, ◌%◌, ◌<◌, ◌≤◌, Bool, true, false, ◌==◌, cond, List, [], ◌∷◌, ◌++◌, map, refl, ap, sym, ◌∙◌, subst, arith, inl, inr, append-nil}
use Rattle.std.specs.Prelude.{Some, codes, slice_get}
use Rattle.std.specs.List.{range_with_len}
use Rattle.pass_plain.specs.declared.request.Request.TheVariants as requests
use Rattle.pass_plain.specs.Traces.{Line, LineCall, given, write_last, fork_as, wait_for, await_for, lines_of, calls_of}
use Rattle.pass_plain.proofs.Lists.{AllFrom, all-map, some_is, alike, different}
use Rattle.pass_trace.specs.declared.trace.Command.{Command}
use Rattle.pass_trace.specs.declared.trace.Command.TheVariants as command
use Rattle.pass_trace.specs.declared.trace.TraceLine.{TraceLine}
use Rattle.pass_trace.specs.TraceLines.{call_of, plain_line, plain_trace}
use Rattle.pass_gen.specs.Generated.{line, word_at, child_at, transfer_of, command_of, first_lines, drawn_lines, last_lines}
use Rattle.pass_replay.proofs.Births.{call_at_line}
use Rattle.pass_replay.proofs.NextCalls.{call_cases}
use Rattle.pass_replay.proofs.Positions.{lines-append}
use Rattle.pass_drawn.specs.Runs.{drawn_trace}
use Rattle.pass_drawn.proofs.Tracing.{trace_parts}

abbrev IsSeek : LineCall → Type 0
IsSeek (given (requests.Seek fd at)) = (fd ≡ 3) × (at < 65536)
IsSeek _ = ⊥

seek_is : (call : LineCall) → IsSeek call → (at : ℕ) × (call ≡ given (requests.Seek 3 at)) × (at < 65536)
seek_is (given (requests.Seek fd at)) is = (at, ap (λ fd. given (requests.Seek fd at)) is.0, is.1)
seek_is (given _) is = absurd is
seek_is (write_last fd) is = absurd is
seek_is (fork_as child) is = absurd is
seek_is (wait_for child) is = absurd is
seek_is (await_for child) is = absurd is

-- each second line is a seek, the first one too
abbrev Alternates : List Line → Type 0
Alternates [] = Unit {0}
Alternates (l ∷ []) = IsSeek l.call
Alternates (l ∷ m ∷ ls) = IsSeek l.call × Alternates ls

no_seek : (l : Line) (fd : ℕ) (bytes : List ℕ) → IsSeek l.call → l.call ≡ given (requests.Write fd bytes) → ⊥
no_seek l fd bytes seeks writes = let z : IsSeek (given (requests.Write fd bytes)) = subst IsSeek writes seeks in z

before_write : (ls : List Line) (k : ℕ) (l : Line) (fd : ℕ) (bytes : List ℕ) → Alternates ls → slice_get ls k ≡ Some l → l.call ≡ given (requests.Write fd bytes)
    → (j : ℕ) × (m : Line) × (k ≡ suc j) × (slice_get ls j ≡ Some m) × IsSeek m.call
before_write [] k l fd bytes turns at writes = absurd (cc)
before_write (x ∷ []) zero l fd bytes turns at writes = absurd (no_seek x fd bytes turns (ap (λ (l : Line). l.call) (some_is x l at) ∙ writes))
before_write (x ∷ []) (suc k) l fd bytes turns at writes = absurd (cc)
before_write (x ∷ y ∷ ls) zero l fd bytes turns at writes = absurd (no_seek x fd bytes turns.0 (ap (λ (l : Line). l.call) (some_is x l at) ∙ writes))
before_write (x ∷ y ∷ ls) (suc zero) l fd bytes turns at writes = (0, x, refl, refl, turns.0)
before_write (x ∷ y ∷ ls) (suc (suc k)) l fd bytes turns at writes =
    let (j, m, same, there, seeks) = before_write ls k l fd bytes turns.1 at writes in
    (suc (suc j), m, ap (λ n. suc (suc n)) same, there, seeks)

two : (l m : Line) (rest : List Line) (a b : Bool) → b ≡ a → IsSeek l.call → Alternates rest → Alternates (cond a (l ∷ cond b (m ∷ rest) rest) (cond b (m ∷ rest) rest))
two l m rest true true same seeks turns = (seeks, turns)
two l m rest false false same seeks turns = turns
two l m rest true false same seeks turns = absurd (cc)
two l m rest false true same seeks turns = absurd (cc)

one : (l : Line) (b : Bool) → IsSeek l.call → Alternates (cond b (l ∷ []) [])
one l true seeks = seeks
one l false seeks = tt

seeks_if : (b : Bool) (word : ℕ) (c : Command) → b ≡ true → IsSeek (call_of (cond b (command.Seek 3 (word % 65536)) c))
seeks_if true word c is = (refl, omega arith)
seeks_if false word c is = absurd (cc)

alternates : (number q a n : ℕ) → a % 2 ≡ 0 → Alternates (lines_of (plain_trace (map (λ i. line (9 + i) (child_at i) (command_of i (word_at number i))) (range_with_len a n))) q)
alternates number q a zero even = tt
alternates number q a (suc zero) even =
    one (plain_line (line (9 + a) (child_at a) (command_of a (word_at number a)))) (child_at a == q) (seeks_if (a % 2 == 0) (word_at number a) (transfer_of (word_at number a)) (alike (a % 2) 0 even))
alternates number q a (suc (suc n)) even =
    two (plain_line (line (9 + a) (child_at a) (command_of a (word_at number a)))) (plain_line (line (9 + (a + 1)) (child_at (a + 1)) (command_of (a + 1) (word_at number (a + 1)))))
    (lines_of (plain_trace (map (λ i. line (9 + i) (child_at i) (command_of i (word_at number i))) (range_with_len (a + 1 + 1) n))) q) (child_at a == q) (child_at (a + 1) == q)
    (ap (λ c. c == q) (let z : child_at (a + 1) ≡ child_at a = omega (arith, even) in z))
    (seeks_if (a % 2 == 0) (word_at number a) (transfer_of (word_at number a)) (alike (a % 2) 0 even)) (alternates number q (a + 1 + 1) n (omega (arith, even)))

none_own : (n q : ℕ) (ls : List Line) → AllFrom (λ k (l : Line). l.process ≡ 1) n ls → 2 ≤ q → lines_of ls q ≡ []
none_own n q [] all least = refl
none_own n q (l ∷ ls) all least =
    ap (λ b. cond b (l ∷ lines_of ls q) (lines_of ls q)) (different l.process q (λ same. let one = all.0 in omega (arith, one, same, least)))
    ∙ none_own (suc n) q ls all.1 least

waits_first : (n k a count : ℕ) → AllFrom (λ k (l : TraceLine). (plain_line l).process ≡ 1) n (map (λ child. line (k + child) 1 (command.Wait child)) (range_with_len a count))
waits_first n k a zero = tt
waits_first n k a (suc count) = (refl, waits_first (suc n) k (a + 1) count)

-- the lines of another process than the first are drawn ones
own_lines : (number lines q : ℕ) → 2 ≤ q → lines_of (drawn_trace number lines) q ≡ lines_of (plain_trace (drawn_lines number (lines - 15))) q
own_lines number lines q least =
    let drawn = plain_trace (drawn_lines number (lines - 15)) in
    let rest = plain_trace (last_lines (lines - 15)) in
    let none = none_own 0 q (plain_trace first_lines) (refl, (refl, (refl, (refl, (refl, (refl, (refl, (refl, tt)))))))) least in
    let none_last = none_own 0 q rest (all-map (λ k (l : Line). l.process ≡ 1) plain_line 0 (last_lines (lines - 15)) (waits_first 0 (7 + (lines - 15)) 2 7)) least in
    ap (λ t. lines_of t q) (trace_parts number lines) ∙ lines-append (plain_trace first_lines ++ drawn) rest q
    ∙ ap (λ ls. ls ++ lines_of rest q) (lines-append (plain_trace first_lines) drawn q ∙ ap (λ ls. ls ++ lines_of drawn q) none)
    ∙ ap (λ ls. lines_of drawn q ++ ls) none_last ∙ append-nil (lines_of drawn q)

-- the call before a write is a seek
pub seek_before : (number lines q k fd : ℕ) (bytes : List ℕ) → 2 ≤ q → slice_get (calls_of (drawn_trace number lines) q) k ≡ Some (given (requests.Write fd bytes))
    → (j : ℕ) × (at : ℕ) × (k ≡ suc j) × (slice_get (calls_of (drawn_trace number lines) q) j ≡ Some (given (requests.Seek 3 at))) × (at < 65536)
seek_before number lines q k fd bytes least stands = elim (call_cases (drawn_trace number lines) q k (given (requests.Write fd bytes)) stands) [
  | inr exit ↦ absurd (let z : given (requests.Write fd bytes) ≡ given requests.Exit = exit.0 in cc)
  | inl l ↦
      let own = own_lines number lines q least in
      let (j, m, same, at, seeks) = before_write (lines_of (plain_trace (drawn_lines number (lines - 15))) q) k l.0 fd bytes (alternates number q 0 (lines - 15) refl)
      (ap (λ ls. slice_get ls k) (sym own) ∙ l.1) l.2 in
      let (place, is, near) = seek_is m.call seeks in
      (j, place, same, call_at_line (drawn_trace number lines) q j m (ap (λ ls. slice_get ls j) own ∙ at) ∙ ap (λ c. Some c) is, near)
]

-- the first call of the first process makes the file
pub creat_call : (number lines : ℕ) → slice_get (calls_of (drawn_trace number lines) 1) 0 ≡ Some (given (requests.Creat 3 (codes "shared")))
creat_call number lines = ap (λ t. slice_get (calls_of t 1) 0) (trace_parts number lines)
