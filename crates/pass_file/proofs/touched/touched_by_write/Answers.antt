use Rattle.std.proofs.Common.{◌∙◌, ◌+◌, ◌-◌, ◌/◌, ◌&&◌, max, ℕ, List, [], length, ap, refl, sym, subst}
use Rattle.std.specs.Prelude.{nat_lt}
use Rattle.pass_entry.specs.declared.entry.Act.TheVariants as act
use Rattle.pass_plain.specs.Recording.{is_resized}
use Rattle.pass_table.proofs.Seen.{some_length}
use Rattle.pass_file.specs.declared.touched.Touched.{Touched}
use Rattle.pass_file.specs.BlockSets.{is_among, AreBelow}
use Rattle.pass_file.specs.Touches.{nothing_at, IsTouchOf}
use Rattle.pass_file.proofs.Resizing.{empty_list, touch_nothing, touch_write}
use Rattle.pass_file.proofs.touched.touched_by_write.Goals as goal

pub returns-then-is_empty : goal.returns-then-is_empty
returns-then-is_empty c = λ (out : ℕ).
    let a = c.args in
    let content = a.content.now.bytes in
    let rows = a.rows.now.blocks in
    subst (λ (bs : List ℕ). IsTouchOf content rows (act.Put out a.at bs) c.untouched.result) (sym (empty_list a.bytes.now (sym c.is_empty.ensures ∙ c.if-is_empty.true)))
    (subst (λ (t : Touched). IsTouchOf content rows (act.Put out a.at []) t) (sym (c.untouched.ensures ∙ ap nothing_at c.size-old.ensures)) (touch_nothing content rows c.requires.below out a.at c.requires.small))

pub edge_of-requires-clause-below : goal.edge_of-requires-clause-below
edge_of-requires-clause-below c = subst (AreBelow c.args.rows.now.blocks) (sym c.size-old.ensures) c.requires.below

pub returns : goal.returns
returns c = λ (out : ℕ).
    let a = c.args in
    let content = a.content.now.bytes in
    let rows = a.rows.now.blocks in
    touch_write content rows c.requires.below out a.at a.bytes.now (some_length (length a.bytes.now) (sym c.is_empty.ensures ∙ c.if-is_empty.false)) c.requires.few c.requires.small c.requires.limit
    c.edge_of.result (a.at / 4096) ((a.at + length a.bytes.now - 1) / 4096 + 1) c.max-size.result refl refl (c.max-size.ensures ∙ ap (λ n. max n (a.at + length a.bytes.now)) c.size-old.ensures)
    (λ b. c.edge_of.ensures.same b ∙ ap (λ n. is_resized n c.max-size.result (is_among rows b) b && nat_lt b (a.at / 4096)) c.size-old.ensures) c.edge_of.ensures.below
