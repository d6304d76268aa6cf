use Rattle.std.proofs.Common.{◌==◌, suc, List, take, drop, sym, subst, ◌∙◌, arith}
use Rattle.std.proofs.lemmas.List.{take_all, length-map}
use Rattle.pass_plain.specs.Traces.{Line}
use Rattle.pass_trace.specs.TraceLines.{plain_line, plain_trace}
use Rattle.pass_report.specs.Standings.{lines_in, HasRead}
use Rattle.pass_report.proofs.Reading.{read_next, line_at, one_line, more_or_same}
use Rattle.pass_report.proofs.standing.Standing.read.Goals as goal
use Rattle.pass_entry.proofs.Places.{parted}

pub loop-line-preserved : goal.loop-line-preserved
loop-line-preserved c =
    let i = c.loop-line.line-index in
    let x = c.line-item.result in
    let trace : List Line = plain_trace c.args.lines.now in
    let at = line_at c.args.lines.now i x (omega arith) c.line-item.is in
    let reads = c.in_ok-read_line.ensures.reads in
    record {
      few = λ process. more_or_same (x.process == process) (lines_in c.loop-line.self process) (lines_in c.read_line.new.self process) i (reads.lines process) (c.loop-line.invariant.few process);
      read = λ session history run table first.
          subst (λ ls. HasRead session history ls c.read_line.new.self) (sym (one_line trace i (plain_line x) at))
          (read_next session trace history c.args.calls.now run table (take i trace) (drop (suc i) trace) (plain_line x) (parted trace i (plain_line x) at) c.loop-line.self c.read_line.new.self
          (c.loop-line.invariant.read session history run table first) reads);
      next = c.in_ok-read_line.ensures.next ∙ c.loop-line.invariant.next;
    }

pub returns-clause-read : goal.returns-clause-read
returns-clause-read c = λ session history run table first.
    let trace : List Line = plain_trace c.args.lines.now in
    let long = length-map c.args.lines.now plain_line in
    subst (λ ls. HasRead session history ls c.loop-line.self) (take_all c.loop-line.line-index trace (omega (arith, long)))
    (c.loop-line.invariant.read session history run table first)
