use Rattle.std.proofs.Common.{◌≡◌, ◌∙◌, ◌||◌, ◌==◌, ap, sym, arith}
use Rattle.pass_file.specs.BlockSets.{is_among}
use Rattle.pass_file.specs.Touches.{is_within}
use Rattle.pass_file.proofs.Members.{or_assoc, within_none, within_more}
use Rattle.pass_file.proofs.set.BlockSet.insert_all.Goals as goal

pub loop-block-init : goal.loop-block-init
loop-block-init c = record {
  from = omega arith;
  blocks = λ b. ap (λ t. t || is_among c.args.self.now.blocks b) (sym (within_none c.args.first b));
  room = omega arith;
}

pub insert-requires : goal.insert-requires
insert-requires c =
    let room = c.loop-block.invariant.room in
    let enough = c.requires.room in
    let test = c.loop-block-test.true in
    omega (arith, room, enough, test)

pub loop-block-preserved : goal.loop-block-preserved
loop-block-preserved c =
    let i = c.loop-block.invariant in
    let block = c.loop-block.block in
    let from = i.from in
    let room = i.room in
    let less = c.insert.ensures.room in
    record {
      from = omega (arith, from);
      blocks = λ b.
          c.insert.ensures.blocks b ∙ ap (λ t. (block == b) || t) (i.blocks b)
          ∙ or_assoc (block == b) (is_within c.args.first block b) (is_among c.args.self.now.blocks b)
          ∙ ap (λ t. t || is_among c.args.self.now.blocks b) (within_more c.args.first block b from);
      room = omega (arith, room, less);
    }

pub returns-clause-blocks : goal.returns-clause-blocks
returns-clause-blocks c = λ b.
    let from = c.loop-block.invariant.from in
    let order = c.requires.order in
    let last : c.loop-block.block ≡ c.args.end = omega (arith, c.loop-block-test.false, c.loop-block.auto.block-end, order) in
    c.loop-block.invariant.blocks b ∙ ap (λ n. is_within c.args.first n b || is_among c.args.self.now.blocks b) last

pub returns-clause-room : goal.returns-clause-room
returns-clause-room c =
    let order = c.requires.order in
    let last : c.loop-block.block ≡ c.args.end = omega (arith, c.loop-block-test.false, c.loop-block.auto.block-end, order) in
    let room = c.loop-block.invariant.room in
    omega (arith, room, last)
