use Rattle.std.proofs.Common.{◌≡◌, ◌≤◌, ◌+◌, max, ℕ, List, length, take, ap, ◌∙◌, arith}
use Rattle.pass_outside.specs.declared.blocks.TheConstants.{BLOCK}
use Rattle.pass_outside.specs.Areas.{written}
use Rattle.pass_outside.specs.Blocks.{flat, IsArea}
use Rattle.pass_outside.proofs.Flat.{length-flat, area_grown, area_written}
use Rattle.pass_outside.proofs.content.Content.write.Goals as goal

-- what stands in the blocks at last
done : (c : goal.After-self-1) → IsArea BLOCK c.max-self-inside.result c.overwrite_blocks.new.blocks.items
    × (take c.max-self-inside.result (flat BLOCK c.overwrite_blocks.new.blocks.items) ≡ written (take c.self.inside.len (flat BLOCK c.self.inside.blocks.items)) c.args.at c.args.bytes.now)
done c =
    let bs = c.self.inside.blocks.items in
    let len = c.self.inside.len in
    let at = c.args.at in
    let bytes = c.args.bytes.now in
    let ready = c.write_out_blocks.new.blocks.items in
    let zeros = c.in_ok-add_blocks.ensures.zeros in
    let grown = area_grown BLOCK bs ready len zeros.0 c.self.invariant c.in_ok-write_out_blocks.ensures.within (c.in_ok-write_out_blocks.ensures.same ∙ zeros.1) in
    let fits : at + length bytes ≤ length (flat BLOCK ready) =
    omega (arith, length-flat BLOCK ready c.in_ok-write_out_blocks.ensures.within, c.write_out_blocks.new.blocks.ok.0, c.in_ok-write_out_blocks.ensures.count, c.in_ok-add_blocks.ensures.count, c.div_ceil-count.ensures, c.in-Some.ensures) in
    let to : c.max-self-inside.result ≡ max len (at + length bytes) = omega (arith, c.max-self-inside.ensures, c.in-Some.ensures) in
    let new = area_written BLOCK ready c.overwrite_blocks.new.blocks.items len at c.max-self-inside.result bytes grown.0 c.overwrite_blocks.ensures.within fits c.overwrite_blocks.ensures.written to in
    (new.0, new.1 ∙ ap (λ (l : List ℕ). written l at bytes) grown.1)

pub invariant_of-self-2 : goal.invariant_of-self-2
invariant_of-self-2 c = (done c).0

pub returns-clause-ok : goal.returns-clause-ok
returns-clause-ok c = (done c).1 ∙ ap (λ (l : List ℕ). written l c.args.at c.args.bytes.now) c.self.view_is
