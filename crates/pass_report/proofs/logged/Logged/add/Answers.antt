use Rattle.std.proofs.Common.{[], ◌∷◌, ap, sym, ◌∙◌, arith}
use Rattle.std.specs.Prelude.{fold}
use Rattle.std.specs.BTreeSet.{insert_key}
use Rattle.std.proofs.lemmas.List.{length-append}
use Rattle.pass_report.specs.Reports.{edge_cmp}
use Rattle.pass_report.specs.Logging.{turn_edges}
use Rattle.pass_report.proofs.Answering.{on_then}
use Rattle.pass_report.proofs.Tallying.{records_next, edges_next}
use Rattle.pass_report.proofs.logged.Logged.add.Goals as goal

pub returns : goal.returns
returns c = on_then c.join.result _ _ c.join.ensures (λ joined. λ session past known turned logged.
    let start = c.args.start.now in
    let e = c.args.entry.now in
    let turn = c.args.turn.now in
    let fine = c.requires.fine in
    let kept = c.in_ok-content.ensures.count session past known logged.files in
    let longer = length-append past (e ∷ []) in
    let own = c.own_records-own.ensures.few in
    let content = c.in_ok-content.ensures.few in
    let few = logged.few in
    record {
      files = kept.0;
      names = c.in_ok-note.ensures session past known.legal known.next logged.names;
      edges = joined ∙ ap (λ ks. fold (insert_key edge_cmp) ks (turn_edges turn)) logged.edges ∙ sym (edges_next session past e turn turned fine c.args.self.now.names logged.names);
      count =
          let next = records_next session past e turn turned fine c.args.self.now.names logged.names in
          let count = logged.count in
          let more = kept.1 in
          let counted = c.own_records-own.ensures.count in
          omega (arith, next, count, more, counted);
      few = omega (arith, longer, own, content, few);
    })
