use Rattle.std.proofs.Common.{◌==◌, List, take, sym, subst, arith}
use Rattle.std.proofs.lemmas.List.{take_all, length-map}
use Rattle.pass_plain.specs.Traces.{Line}
use Rattle.pass_trace.specs.TraceLines.{plain_line, plain_trace}
use Rattle.pass_report.specs.Standings.{lines_in, HasLooked}
use Rattle.pass_report.proofs.Reading.{look_next, line_at, one_line, more_or_same}
use Rattle.pass_report.proofs.standing.Standing.look.Goals as goal

pub loop-line-preserved : goal.loop-line-preserved
loop-line-preserved c =
    let i = c.loop-line.line-index in
    let x = c.line-item.result in
    let trace : List Line = plain_trace c.args.lines.now in
    let at = line_at c.args.lines.now i x (omega arith) c.line-item.is in
    let looks = c.in_ok-look_at_line.ensures in
    record {
      few = λ process. more_or_same (x.process == process) (lines_in c.loop-line.self process) (lines_in c.look_at_line.new.self process) i (looks.lines process) (c.loop-line.invariant.few process);
      looked = λ session history run table first.
          subst (λ ls. HasLooked session trace history ls c.look_at_line.new.self) (sym (one_line trace i (plain_line x) at))
          (look_next session trace history c.args.calls.now run table (take i trace) (plain_line x) c.loop-line.self c.look_at_line.new.self
          (c.loop-line.invariant.looked session history run table first) looks);
    }

pub returns-clause-looked : goal.returns-clause-looked
returns-clause-looked c = λ session history run table first.
    let trace : List Line = plain_trace c.args.lines.now in
    let long = length-map c.args.lines.now plain_line in
    subst (λ ls. HasLooked session trace history ls c.loop-line.self) (take_all c.loop-line.line-index trace (omega (arith, long)))
    (c.loop-line.invariant.looked session history run table first)
