-- The lines of the trace of a text keep the rules of a trace.
use Rattle.std.proofs.Common.{◌≡◌, ◌≤◌, ◌+◌, ℕ, List, [], ◌∷◌, ◌++◌, length, refl, ap, sym, ◌∙◌, subst, arith, Bool, true, false, not, ◌||◌, ◌&&◌, ◌==◌, cond, append_assoc, length-append}
use Rattle.std.specs.Prelude.{Option, Some, None, Result, Ok, Err, nat_le}
use Rattle.std.specs.List.{list_any}
use Rattle.std.proofs.lemmas.Bool.{le-leb}
use Rattle.std.proofs.lemmas.Bool.Decides.{nat_tests}
use Rattle.std.proofs.lemmas.List.{append-nil}
use Rattle.pass_entry.specs.Texts.{is_name, is_line}
use Rattle.pass_entry.specs.declared.objects.Mode.{Mode}
use Rattle.pass_entry.specs.declared.objects.Mode.TheVariants as mode
use Rattle.pass_plain.specs.Processes.{same_mode}
use Rattle.pass_plain.specs.Calls.{is_fd}
use Rattle.pass_plain.specs.Traces.{Line, fork_as, waited_for}
use Rattle.pass_plain.proofs.Lists.{true_left, true_right, both_true, not_true, any_at, in_filtered, same_numbers, some_is}
use Rattle.pass_trace.specs.TraceLines.{call_of, plain_line, plain_trace}
use Rattle.pass_trace.specs.declared.limits.Scale.TheVariants.{Long}
use Rattle.pass_trace.specs.declared.trace.Command.{Command}
use Rattle.pass_trace.specs.declared.trace.Command.TheVariants as command
use Rattle.pass_trace.specs.declared.trace.Payload.TheVariants as payload
use Rattle.pass_trace.specs.declared.trace.TraceLine.{TraceLine}
use Rattle.pass_trace.specs.declared.trace.TraceReason.{TraceReason}
use Rattle.pass_trace.specs.declared.trace.TraceReason.TheVariants as reason
use Rattle.pass_trace.specs.Lines as text_lines
use Rattle.pass_trace.specs.Rules as rules
use Rattle.pass_trace.specs.Traces.{text_line_of, said, lines_from, reason_behind, trace_of}
use Rattle.pass_trace.proofs.Good.{IsGood, IsMode, text_line_is}
use Rattle.pass_trace.proofs.LinesLemmas.{lines_from-push}
use Rattle.pass_trace.proofs.Again.{within}
use Rattle.pass_trace.proofs.Created.{at_front, AreFine}
use Rattle.pass_run.specs.Ends.{IsTrace}
use Rattle.pass_replay.specs.Lines.{is_fork_of, is_there, IsLineCall, IsLineBehind, AreLinesBehind, ForksBefore}
use Rattle.pass_walk.proofs.Linked.{plain_at}

below_64 : (fd : ℕ) → fd ≤ 63 → is_fd fd ≡ true
below_64 fd le = grind (arith, nat_tests)

no_app : (m : Mode) → IsMode m → not (same_mode m mode.App) ≡ true
no_app mode.App is = absurd is
no_app mode.Read is = refl
no_app mode.Write is = refl
no_app mode.Both is = refl

-- the call of a command is within its limits
line_call : (c : Command) → IsGood Long c → IsLineCall (call_of c)
line_call (command.Creat fd name) good = (refl, both_true (is_fd fd) (is_name name) (below_64 fd good.0) good.1)
line_call (command.Open fd name m) good =
    (refl, both_true (is_fd fd && is_name name) (not (same_mode m mode.App)) (both_true (is_fd fd) (is_name name) (below_64 fd good.0) good.1) (no_app m good.2))
line_call (command.Close fd) good = (refl, below_64 fd good)
line_call (command.Read fd len) good =
    (refl, both_true (is_fd fd && nat_le 1 len) (nat_le len 4096) (both_true (is_fd fd) (nat_le 1 len) (below_64 fd good.0) (le-leb 1 len good.1)) (le-leb len 4096 good.2))
line_call (command.Write fd (payload.Given bytes)) good = (refl, both_true (is_fd fd) (nat_le (length bytes) 4096) (below_64 fd good.0) (le-leb (length bytes) 4096 good.1.0))
line_call (command.Write fd payload.Last) good = below_64 fd good.0
line_call (command.Seek fd off) good = (refl, below_64 fd good.0)
line_call (command.Truncate fd size) good = (refl, below_64 fd good.0)
line_call (command.Pipe reader writer) good = (refl, both_true (is_fd reader) (is_fd writer) (below_64 reader good.0) (below_64 writer good.1))
line_call (command.Fork child) good = good.1
line_call (command.Exec name args) good = (refl, both_true (is_name name) (is_line args) good.0 good.1.line)
line_call (command.Wait child) good = tt
line_call (command.Await child) good = tt
line_call (command.Rename from to) good = (refl, both_true (is_name from) (is_name to) good.0 good.1)
line_call (command.Unlink name) good = (refl, good)
line_call (command.MkObj fd) good = (refl, below_64 fd good)
line_call (command.Revive fd pnode) good = (refl, below_64 fd good.0)
line_call (command.Freeze fd) good = (refl, below_64 fd good)
line_call (command.Disclose target source) good = (refl, both_true (is_fd target) (is_fd source) (below_64 target good.0) (below_64 source good.1))
line_call (command.Tag fd attr value) good =
    (refl, both_true (is_fd fd && is_name attr) (is_name value) (both_true (is_fd fd) (is_name attr) (below_64 fd good.0) good.1) good.2)
line_call (command.Sync fd) good = (refl, below_64 fd good)

-- who is there

same_fork : (q : ℕ) (c : Command) → is_fork_of q (call_of c) ≡ rules.is_fork_of q c
same_fork q (command.Fork child) = refl
same_fork q (command.Write fd (payload.Given bytes)) = refl
same_fork q (command.Write fd payload.Last) = refl
same_fork q _ = refl

same_forks : (q : ℕ) (lines : List TraceLine) → list_any (λ (l : Line). is_fork_of q l.call) (plain_trace lines) ≡ list_any (rules.forks q) lines
same_forks q [] = refl
same_forks q (l ∷ lines) =
    ap (λ b. b || list_any (λ (l : Line). is_fork_of q l.call) (plain_trace lines)) (same_fork q l.command)
    ∙ ap (λ b. rules.is_fork_of q l.command || b) (same_forks q lines)

same_there : (lines : List TraceLine) (q : ℕ) → is_there (plain_trace lines) q ≡ rules.is_there lines q
same_there lines q = ap (λ b. (q == 1) || b) (same_forks q lines)

fork_call : (q : ℕ) (c : Command) → call_of c ≡ fork_as q → c ≡ command.Fork q
fork_call q (command.Fork child) is = let z : child ≡ q = cc in ap (λ q. command.Fork q) z
fork_call q (command.Write fd (payload.Given bytes)) is = absurd (cc)
fork_call q (command.Write fd payload.Last) is = absurd (cc)
fork_call q _ is = absurd (cc)

-- a process that a call waits for is one that the rules look for
waits_may : (lines : List TraceLine) (process q : ℕ) (c : Command) → waited_for (call_of c) ≡ Some q → rules.may_call lines process c ≡ true → list_any (rules.forks_as process q) lines ≡ true
waits_may lines process q (command.Wait child) is may = subst (λ q. list_any (rules.forks_as process q) lines ≡ true) (some_is child q is) may
waits_may lines process q (command.Await child) is may = subst (λ q. list_any (rules.forks_as process q) lines ≡ true) (some_is child q is) may
waits_may lines process q (command.Write fd (payload.Given bytes)) is may = absurd (cc)
waits_may lines process q (command.Write fd payload.Last) is may = absurd (cc)
waits_may lines process q _ is may = absurd (cc)

fork_named : (q : ℕ) (c : Command) → rules.is_fork_of q c ≡ true → call_of c ≡ fork_as q
fork_named q (command.Fork child) is = ap (λ q. fork_as q) (same_numbers child q is)
fork_named q _ is = absurd (cc)

-- a line of the process that forks the child stands before
forks_before : (lines : List TraceLine) (process child : ℕ) → list_any (rules.forks_as process child) lines ≡ true → ForksBefore (plain_trace lines) process child
forks_before lines process child some =
    let (i, l, at, pass) = any_at (rules.forks_as process child) lines some in
    let own = true_left (l.process == process) (rules.forks child l) pass in
    let forks = true_right (l.process == process) (rules.forks child l) pass in
    let (k, there) = in_filtered (λ (l : Line). l.process == process) (plain_trace lines) i (plain_line l) (plain_at lines i l at) own in
    (k, plain_line l, there, fork_named child l.command forks)

-- what the rules say of a line
allowed : (b c : Bool) → cond (not b) (Some reason.Process) (cond c (Some reason.Many) None) ≡ None → b ≡ true
allowed true c none = refl
allowed false c none = absurd (cc)

ruled_line : (earlier : List TraceLine) (l : TraceLine) → IsGood Long l.command → rules.rule_of Long earlier l ≡ None → IsLineBehind (plain_trace earlier) (plain_line l)
ruled_line earlier l good none =
    let fine = allowed (rules.is_there earlier l.process && rules.may_call earlier l.process l.command) (rules.creates l.command && nat_le 65535 (rules.count_created earlier)) none in
    let may = true_right (rules.is_there earlier l.process) (rules.may_call earlier l.process l.command) fine in
    record {
      within = line_call l.command good;
      there = same_there earlier l.process ∙ true_left (rules.is_there earlier l.process) (rules.may_call earlier l.process l.command) fine;
      forks = λ child is. same_there earlier child ∙ not_true (rules.is_there earlier child) (sym (ap (λ c. rules.may_call earlier l.process c) (fork_call child l.command is)) ∙ may);
      waits = λ child is. forks_before earlier l.process child (waits_may earlier l.process child l.command is may);
    }

-- the texts of the lines, one by one

ruled_text : (earlier : List TraceLine) (number : ℕ) (text : List ℕ) (more : List TraceLine) (read : Result (Option TraceLine) TraceReason) → text_line_of Long number text ≡ read → reason_behind Long earlier read ≡ None
    → AreLinesBehind (plain_trace (earlier ++ said read)) (plain_trace more) → AreLinesBehind (plain_trace earlier) (plain_trace (said read ++ more))
ruled_text earlier number text more (Ok (Some l)) is none later =
    (ruled_line earlier l (text_line_is Long number text l is).command none, subst (λ (ls : List Line). AreLinesBehind ls (plain_trace more)) (plain-append earlier (l ∷ [])) later)
  where
    plain-append : (xs ys : List TraceLine) → plain_trace (xs ++ ys) ≡ plain_trace xs ++ plain_trace ys
    plain-append [] ys = refl
    plain-append (x ∷ xs) ys = ap (λ ls. plain_line x ∷ ls) (plain-append xs ys)
ruled_text earlier number text more (Ok None) is none later = subst (λ (ls : List TraceLine). AreLinesBehind (plain_trace ls) (plain_trace more)) (append-nil earlier) later
ruled_text earlier number text more (Err why) is none later = absurd (cc)

ruled_from : (seen rest : List (List ℕ)) → AreFine Long (seen ++ rest) → AreLinesBehind (plain_trace (lines_from Long 1 seen)) (plain_trace (lines_from Long (length seen + 1) rest))
ruled_from seen [] fine = tt
ruled_from seen (text ∷ rest) fine =
    let later = ruled_from (seen ++ text ∷ []) rest (subst (AreFine Long) (sym (append_assoc seen (text ∷ []) rest)) fine) in
    let number : length (seen ++ text ∷ []) ≡ length seen + 1 = length-append seen (text ∷ []) in
    let grown : lines_from Long 1 (seen ++ text ∷ []) ≡ lines_from Long 1 seen ++ said (text_line_of Long (length seen + 1) text) =
    lines_from-push Long 1 seen text ∙ ap (λ n. lines_from Long 1 seen ++ said (text_line_of Long n text)) (let z : 1 + length seen ≡ length seen + 1 = omega arith in z) in
    ruled_text (lines_from Long 1 seen) (length seen + 1) text (lines_from Long (length seen + 1 + 1) rest) (text_line_of Long (length seen + 1) text) refl (at_front Long seen rest text fine)
    (subst (λ (ls : List TraceLine). AreLinesBehind (plain_trace ls) (plain_trace (lines_from Long (length seen + 1 + 1) rest))) grown
    (subst (λ n. AreLinesBehind (plain_trace (lines_from Long 1 (seen ++ text ∷ []))) (plain_trace (lines_from Long (n + 1) rest))) number later))

-- each line of the trace of a text may stand behind those before it
pub ruled : (lines : List TraceLine) → IsTrace lines → AreLinesBehind [] (plain_trace lines)
ruled lines (bytes, text, is) =
    subst (λ (ls : List TraceLine). AreLinesBehind [] (plain_trace ls)) (sym is) (ruled_from [] (text_lines.lines_of bytes) text)

-- there are no more lines than a text may have
pub few_lines : (lines : List TraceLine) → IsTrace lines → length lines ≤ 1000000
few_lines lines (bytes, text, is) = let few : length (trace_of bytes) ≤ 1000000 = within Long bytes text in let same = ap length is in omega (arith, few, same)
