use Rattle.std.proofs.Common.{◌≡◌, ◌∷◌, [], length, ap, sym, ◌∙◌, true, arith}
use Rattle.std.specs.Prelude.{flat_map}
use Rattle.std.proofs.lemmas.List.{length-append}
use Rattle.pass_plain.specs.Histories.{is_fault}
use Rattle.pass_report.specs.Reports.{ascending, edge_cmp, edges_of_record}
use Rattle.pass_report.proofs.Storing.{faulted_files}
use Rattle.pass_report.proofs.Naming.{faulted_names}
use Rattle.pass_report.proofs.Tallying.{faulted_records}
use Rattle.pass_report.proofs.logged.Logged.note.Goals as goal

pub returns-in-Fault : goal.returns-in-Fault
returns-in-Fault c = λ session past known turned logged.
    let start = c.args.start.now in
    let e = c.args.entry.now in
    let fault : is_fault e.reply ≡ true = ap is_fault c.in-Fault.is in
    let same = faulted_records session past e fault in
    let longer = length-append past (e ∷ []) in
    let few = logged.few in
    record {
      files = faulted_files start session past e c.args.self.now.files fault logged.files;
      names = faulted_names session past e c.args.self.now.names fault logged.names;
      edges = logged.edges ∙ sym (ap (λ rs. ascending edge_cmp (flat_map edges_of_record rs)) same);
      count = logged.count ∙ sym (ap length same);
      few = omega (arith, longer, few);
    }
