use Rattle.std.proofs.Common.{◌≡◌, length, ap, sym, ◌∙◌, arith}
use Rattle.pass_entry.specs.declared.entry.Act.TheVariants as act
use Rattle.pass_report.proofs.Answering.{if_each, if_at, on_at}
use Rattle.pass_report.proofs.Storing.{put_files, put_count, cut_files, cut_count, idle_note, put_fits}
use Rattle.pass_report.proofs.files.Files.note.Goals as goal

pub put-requires : goal.put-requires
put-requires c = λ some.
    let fits = put_fits c.args.start.now c.requires.known.0 c.requires.known.1 c.args.entry.now c.requires.known.2 _ _ _ c.in-Put.is in
    let same = ap length c.as_bytes.ensures.bytes in
    omega (arith, fits, same)

pub returns-in-Put-clause-count : goal.returns-in-Put-clause-count
returns-in-Put-clause-count c = if_each c.put.result _ (λ n ok. λ session past known files.
    let start = c.args.start.now in
    let e = c.args.entry.now in
    let bytes = c.as_bytes.result.now in
    let is : e.act ≡ act.Put c.in-Put.out c.in-Put.at bytes = c.in-Put.is ∙ ap (λ b. act.Put c.in-Put.out c.in-Put.at b) (sym c.as_bytes.ensures.bytes) in
    let others = on_at c.put.result _ c.put.ensures.others n ok in
    let size = on_at c.put.result _ c.put.ensures.size n ok in
    let rows = on_at c.put.result _ c.put.ensures.rows n ok in (
      put_files start session past e c.args.self.now c.put.new.self c.requires.fine files c.in-Put.out c.in-Put.at bytes is others size rows,
      if_at c.put.result _ c.put.ensures.count n ok ∙ put_count start session past e c.args.self.now c.put.new.self c.requires.fine files c.in-Put.out c.in-Put.at bytes is,
    ))

pub returns-in-Cut-clause-count : goal.returns-in-Cut-clause-count
returns-in-Cut-clause-count c = if_each c.cut.result _ (λ n ok. λ session past known files.
    let start = c.args.start.now in
    let e = c.args.entry.now in
    let others = on_at c.cut.result _ c.cut.ensures.others n ok in
    let size = on_at c.cut.result _ c.cut.ensures.size n ok in
    let rows = on_at c.cut.result _ c.cut.ensures.rows n ok in (
      cut_files start session past e c.args.self.now c.cut.new.self c.requires.fine files c.in-Cut.out c.in-Cut.size c.in-Cut.is others size rows,
      if_at c.cut.result _ c.cut.ensures.count n ok ∙ cut_count start session past e c.args.self.now c.cut.new.self c.requires.fine files c.in-Cut.out c.in-Cut.size c.in-Cut.is,
    ))

pub returns-in_default : goal.returns-in_default
returns-in_default c = record {
  few = omega arith;
  count = λ session past known files.
      idle_note c.args.start.now session past c.args.entry.now c.args.self.now c.requires.fine (λ out at bytes. c.in_default.not-Put out at bytes) (λ out size. c.in_default.not-Cut out size) files;
}
