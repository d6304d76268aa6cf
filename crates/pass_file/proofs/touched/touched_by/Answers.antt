use Rattle.std.proofs.Common.{ℕ, List, sym, subst}
use Rattle.pass_entry.specs.declared.entry.Act.{Act}
use Rattle.pass_entry.specs.declared.entry.Act.TheVariants as act
use Rattle.pass_file.specs.Touches.{IsTouchOf}
use Rattle.pass_file.proofs.touched.touched_by.Goals as goal

pub returns-in-Put : goal.returns-in-Put
returns-in-Put c =
    let content = c.args.content.now.bytes in
    let rows = c.args.rows.now.blocks in
    subst (λ (a : Act). IsTouchOf content rows a c.touched_by_write.result) (sym c.in-Put.is)
    (subst (λ (bs : List ℕ). IsTouchOf content rows (act.Put c.in-Put.out c.in-Put.at bs) c.touched_by_write.result) c.as_bytes.ensures.bytes (c.touched_by_write.ensures c.in-Put.out))

pub returns-in-Cut : goal.returns-in-Cut
returns-in-Cut c =
    subst (λ (a : Act). IsTouchOf c.args.content.now.bytes c.args.rows.now.blocks a c.touched_by_cut.result) (sym c.in-Cut.is) (c.touched_by_cut.ensures c.in-Cut.out)
