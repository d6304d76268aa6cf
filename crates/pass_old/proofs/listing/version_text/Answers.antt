use Rattle.std.proofs.Common.{arith}
use Rattle.std.specs.Prelude.{string_bytes}
use Rattle.pass_old.proofs.Listed.{next_lines, next_content, all_lines}
use Rattle.pass_old.proofs.listing.version_text.Goals as goal

pub loop-leaf-preserved : goal.loop-leaf-preserved
loop-leaf-preserved c =
    let leaves = c.args.leaves.now in
    let i = c.loop-leaf.leaf-index in
    let leaf = c.leaf-item.result in
    let e = c.in_ok-add_leaf.ensures in
    record {
      text = next_lines leaves c.requires c.args.file i leaf c.loop-leaf-test.true c.leaf-item.is (string_bytes c.loop-leaf.text) (string_bytes c.add_leaf.new.text) c.loop-leaf.content.items
          c.loop-leaf.invariant.text c.loop-leaf.invariant.content e.text;
      content = next_content leaves c.requires c.args.file i leaf c.loop-leaf-test.true c.leaf-item.is c.loop-leaf.content.items c.add_leaf.new.content.items c.loop-leaf.invariant.content e.content;
    }

pub returns : goal.returns
returns c = all_lines c.args.leaves.now c.args.file c.loop-leaf.leaf-index (string_bytes c.loop-leaf.text) (omega (arith, c.loop-leaf-test.false)) c.loop-leaf.invariant.text
