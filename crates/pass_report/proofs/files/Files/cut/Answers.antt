use Rattle.std.proofs.Common.{◌+◌, ap, refl, ◌∙◌}
use Rattle.pass_report.specs.Contents.{size_in, row_in}
use Rattle.pass_report.proofs.Storing.{same_digests}
use Rattle.pass_report.proofs.files.Files.cut.Goals as goal

pub returns-clause-count : goal.returns-clause-count
returns-clause-count c =
    let same = c.in_ok-meet.ensures.same c.args.file in
    ap (λ n. 1 + n) (c.cut_met.ensures.count
    ∙ same_digests (row_in c.args.start.now c.meet.new.self c.args.file) (row_in c.args.start.now c.args.self.now c.args.file)
    (size_in c.args.start.now c.meet.new.self c.args.file) (size_in c.args.start.now c.args.self.now c.args.file) 0 0 c.args.size c.args.size 1024
    same.rows same.size refl)
