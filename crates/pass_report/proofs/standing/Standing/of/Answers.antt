use Rattle.std.proofs.Common.{List, [], ap, ◌∙◌}
use Rattle.std.specs.Option.{option_map_or}
use Rattle.std.specs.Ordering.{nat_cmp}
use Rattle.std.specs.BTreeMap.{get}
use Rattle.pass_plain.specs.Traces.{Line}
use Rattle.pass_trace.specs.TraceLines.{plain_trace}
use Rattle.pass_report.specs.Standings.{HasRead}
use Rattle.pass_report.proofs.Filling.{nothing_in}
use Rattle.pass_report.proofs.Reading.{first_in}
use Rattle.pass_report.proofs.standing.Standing.of.Goals as goal

pub returns-clause-looked : goal.returns-clause-looked
returns-clause-looked c = λ session history run table first.
    let trace : List Line = plain_trace c.args.lines.now in
    let new = c.in_ok-standing.ensures in
    let begins : HasRead session history [] c.in_ok-standing.standing = record {
      lines = new.lines;
      processes = new.processes;
      begun = λ process. new.begun process ∙ first_in session history c.args.first first process;
    } in
    let read = c.in_ok-read.ensures.read session history run table begins in
    c.in_ok-look.ensures.looked session history run table record {
      lines = λ process. ap (λ o. option_map_or (λ n. n) o 0) (nothing_in c.clear.new.self c.clear.ensures.empty process);
      processes = read.processes;
      begun = read.begun;
      next = λ process. ap (λ m. get nat_cmp m process) c.in_ok-read.ensures.next ∙ new.next process;
    }
