use Rattle.std.proofs.Common.{length, refl, sym, arith}
use Rattle.std.proofs.lemmas.Option.{slice_get_read}
use Rattle.pass_vault.proofs.Cuts.{cut_here, cut_past, cut_other}
use Rattle.pass_vault.proofs.unwritten.given_at.Goals as goal

pub returns-then-place-given-clause-bytes : goal.returns-then-place-given-clause-bytes
returns-then-place-given-clause-bytes c = sym (cut_past c.args.given.now c.requires.rising c.args.block c.args.place c.requires.cut (omega (arith, c.if-place-given.true))).0

pub returns-then-place-given-clause-cut : goal.returns-then-place-given-clause-cut
returns-then-place-given-clause-cut c = (cut_past c.args.given.now c.requires.rising c.args.block c.args.place c.requires.cut (omega (arith, c.if-place-given.true))).1

pub returns-then-one-block-clause-bytes : goal.returns-then-one-block-clause-bytes
returns-then-one-block-clause-bytes c = let one = c.index-given-place in sym (cut_here c.args.given.now c.requires.rising c.args.block c.args.place c.requires.cut one.result (slice_get_read c.args.given.now (length c.args.given.now) c.args.place one.result refl (omega (arith, c.if-place-given.false)) one.is) (omega (arith, c.if-one-block.true))).0

pub returns-then-one-block-clause-cut : goal.returns-then-one-block-clause-cut
returns-then-one-block-clause-cut c = let one = c.index-given-place in (cut_here c.args.given.now c.requires.rising c.args.block c.args.place c.requires.cut one.result (slice_get_read c.args.given.now (length c.args.given.now) c.args.place one.result refl (omega (arith, c.if-place-given.false)) one.is) (omega (arith, c.if-one-block.true))).1

pub returns-clause-bytes : goal.returns-clause-bytes
returns-clause-bytes c =
    let one = c.index-given-place in
    sym (cut_other c.args.given.now c.requires.rising c.args.block c.args.place c.requires.cut one.result (slice_get_read c.args.given.now (length c.args.given.now) c.args.place one.result refl (omega (arith, c.if-place-given.false)) one.is) (λ same. omega (arith, c.if-one-block.false, same))).0

pub returns-clause-cut : goal.returns-clause-cut
returns-clause-cut c =
    let one = c.index-given-place in
    (cut_other c.args.given.now c.requires.rising c.args.block c.args.place c.requires.cut one.result (slice_get_read c.args.given.now (length c.args.given.now) c.args.place one.result refl (omega (arith, c.if-place-given.false)) one.is) (λ same. omega (arith, c.if-one-block.false, same))).1
