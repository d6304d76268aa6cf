use Rattle.std.proofs.Common.{◌==◌, ◌∙◌, sym}
use Rattle.std.specs.List.{list_any}
use Rattle.pass_plain.specs.Sessions.{opening_size, opening_rows}
use Rattle.pass_report.specs.Digests.{row_at}
use Rattle.pass_report.proofs.Filling.{same_filled}
use Rattle.pass_report.proofs.files.Files.meet.Goals as goal

pub returns-in_ok-insert-clause-same : goal.returns-in_ok-insert-clause-same
returns-in_ok-insert-clause-same c = λ q. record {
  size = same_filled (λ b. b.size) (opening_size c.args.start.now) c.args.self.now.files c.insert.new.self c.args.file c.in_ok-blocks.blocks
      c.in_ok-insert.ensures.updates (sym c.contains_key.ensures ∙ c.if-not-contains_key.true) c.in_ok-blocks.ensures.size q;
  rows = λ block low. same_filled (λ b. row_at b.rows.items block) (λ file. list_any (λ x. x == block) (opening_rows c.args.start.now file))
      c.args.self.now.files c.insert.new.self c.args.file c.in_ok-blocks.blocks
      c.in_ok-insert.ensures.updates (sym c.contains_key.ensures ∙ c.if-not-contains_key.true) (c.in_ok-blocks.ensures.rows block low) q;
}
