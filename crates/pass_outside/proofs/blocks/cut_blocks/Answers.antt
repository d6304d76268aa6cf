use Rattle.std.proofs.Common.{◌≡◌, ◌≤◌, ◌<◌, ◌+◌, ◌*◌, ◌/◌, ◌%◌, length, sym, subst, ap, arith, length-take}
use Rattle.pass_outside.specs.declared.blocks.TheConstants.{BLOCK}
use Rattle.pass_outside.specs.Blocks.{AreWithin}
use Rattle.pass_outside.proofs.Flat.{cut_whole, cut_rest, within_take, within_set}
use Rattle.pass_outside.proofs.blocks.cut_blocks.Goals as goal

pub returns-then-rest-eq0-clause-within : goal.returns-then-rest-eq0-clause-within
returns-then-rest-eq0-clause-within c = subst (AreWithin BLOCK) (sym c.truncate.ensures.items) (within_take BLOCK c.args.blocks.now.items (c.args.len / BLOCK) c.requires.within)

pub returns-then-rest-eq0-clause-front : goal.returns-then-rest-eq0-clause-front
returns-then-rest-eq0-clause-front c =
    let bs = c.args.blocks.now.items in
    let len = c.args.len in
    let le : len / BLOCK ≤ length bs = omega (arith, c.requires.fits, c.args.blocks.now.ok.0) in
    let is : len ≡ BLOCK * (len / BLOCK) = omega (arith, c.if-rest-eq0.true) in
    cut_whole BLOCK bs c.truncate.new.self.items (len / BLOCK) len c.requires.within le is c.truncate.ensures.items

pub returns-clause-within : goal.returns-clause-within
returns-clause-within c =
    let i = c.args.len / BLOCK in
    within_set BLOCK c.truncate-2.new.self.items i c.truncate-3.new.self
    (subst (AreWithin BLOCK) (sym c.truncate-2.ensures.items) (within_take BLOCK c.args.blocks.now.items (i + 1) c.requires.within))
    (omega (arith, ap length c.truncate-3.ensures.items, length-take (c.args.len % BLOCK) c.index_mut.result.now.items))

pub returns-clause-front : goal.returns-clause-front
returns-clause-front c =
    let bs = c.args.blocks.now.items in
    let len = c.args.len in
    let le : len / BLOCK < length bs = omega (arith, c.requires.fits, c.args.blocks.now.ok.0, c.if-rest-eq0.false) in
    let is : len ≡ BLOCK * (len / BLOCK) + len % BLOCK = omega arith in
    let fits : len % BLOCK ≤ BLOCK = omega arith in
    cut_rest BLOCK bs c.truncate-2.new.self.items (len / BLOCK) (len % BLOCK) len c.index_mut.result.now c.truncate-3.new.self c.requires.within le fits is c.truncate-2.ensures.items c.index_mut.ensures.value c.truncate-3.ensures.items
