-- How many places the run of a trace takes at most, line by line.
use Rattle.std.proofs.Common.{◌≡◌, ◌≤◌, ℕ, ◌+◌, ◌*◌, ◌++◌, List, [], ◌∷◌, refl, ap, sym, ◌∙◌, length, arith}
use Rattle.std.specs.Prelude.{cond, sum_by}
use Rattle.std.proofs.lemmas.List.Sums.{sum_by-cons}
use Rattle.pass_plain.specs.Traces.{Line}
use Rattle.pass_trace.specs.declared.trace.Command.{Command}
use Rattle.pass_trace.specs.declared.trace.Command.TheVariants as command
use Rattle.pass_trace.specs.declared.trace.Payload.TheVariants as payload
use Rattle.pass_trace.specs.declared.trace.TraceLine.{TraceLine}
use Rattle.pass_trace.specs.Lawful.{ObjectsLaw}
use Rattle.pass_trace.specs.Rules.{creates, count_created}
use Rattle.pass_trace.specs.TraceLines.{call_of, plain_line, plain_trace}
use Rattle.pass_replay.specs.Making.{sum_lines}
use Rattle.pass_replay.specs.Needs.{need_of_line, places_of}
use Rattle.pass_run.specs.Ends.{IsTrace}
use Rattle.pass_run.proofs.Fitting.{few_objects}
use Rattle.pass_run.proofs.Ruled.{few_lines}

-- what a line needs
abbrev pub need : TraceLine → ℕ
need l = need_of_line (call_of l.command)

same_needs : (before : List Line) (lines : List TraceLine) → sum_lines (λ process number call. need_of_line call) before (plain_trace lines) ≡ sum_by need lines
same_needs before [] = refl
same_needs before (l ∷ ls) = ap (λ n. need l + n) (same_needs (before ++ plain_line l ∷ []) ls) ∙ sym (sum_by-cons need l ls)

pub places_are : (lines : List TraceLine) → places_of (plain_trace lines) ≡ 66 + sum_by need lines
places_are lines = ap (λ n. 66 + n) (same_needs [] lines)

-- a line that makes no object needs 3 places, and a fork 132
made_need : (c : Command) → need_of_line (call_of c) ≤ 3 + 129 * cond (creates c) 1 0
made_need (command.Fork child) = omega arith
made_need (command.Write fd (payload.Given bytes)) = omega arith
made_need (command.Write fd payload.Last) = omega arith
made_need _ = omega arith

few_needs : (lines : List TraceLine) → sum_by need lines ≤ 3 * length lines + 129 * count_created lines
few_needs [] = omega arith
few_needs (l ∷ ls) =
    let rest = few_needs ls in
    let here = made_need l.command in
    let one = sum_by-cons need l ls in
    let counted = sum_by-cons (λ (x : TraceLine). cond (creates x.command) 1 0) l ls in
    omega (arith, rest, here, one, counted)

-- a store has room for the run of any trace
pub room : ObjectsLaw → (lines : List TraceLine) → IsTrace lines → (66 ≤ places_of (plain_trace lines)) × (places_of (plain_trace lines) ≤ 16777216)
room law lines trace =
    let few = few_objects law lines trace in
    let short = few_lines lines trace in
    let most = few_needs lines in
    let same = places_are lines in
    (omega (arith, same), omega (arith, same, few, short, most))
