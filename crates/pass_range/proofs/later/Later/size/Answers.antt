use Rattle.std.proofs.Common.{◌≡◌, ◌∙◌, ◌==◌, ◌&&◌, ◌*◌, Bool, false, cond, ap, sym}
use Rattle.std.specs.Prelude.{Some, nat_le}
use Rattle.std.specs.Option.{option_map_or}
use Rattle.std.specs.Ordering.{nat_cmp}
use Rattle.std.specs.BTreeMap.{get}
use Rattle.pass_plain.specs.Records.{block_size}
use Rattle.pass_range.specs.Laters.{has_size, range_cmp}
use Rattle.pass_range.specs.Tables.{range_at}
use Rattle.pass_range.proofs.Noting.{size_noted, cut_put, cut_kept, is_eq-nat_cmp}
use Rattle.pass_range.proofs.later.Later.size.Goals as goal

pub returns-then-has_size : goal.returns-then-has_size
returns-then-has_size c = λ p block.
    let old = c.args.self.now in
    size_noted (get range_cmp old.rows (range_at p block)) ((c.args.pnode == p) && nat_le c.args.size (block * block_size)) (has_size old p (block * block_size)) (has_size old p (block * block_size))
    (cut_kept c.args.pnode p c.args.size (block * block_size) (λ q. get nat_cmp old.least q) (sym c.has_size.ensures ∙ c.if-has_size.true))

pub returns : goal.returns
returns c = λ p block.
    let old = c.args.self.now in
    let put : get nat_cmp c.insert.new.self p ≡ cond (c.args.pnode == p) (Some c.args.size) (get nat_cmp old.least p) =
    c.in_ok-insert.ensures.updates.0 p ∙ ap (λ (b : Bool). cond b (Some c.args.size) (get nat_cmp old.least p)) (is_eq-nat_cmp c.args.pnode p) in
    size_noted (get range_cmp old.rows (range_at p block)) ((c.args.pnode == p) && nat_le c.args.size (block * block_size)) (has_size old p (block * block_size))
    (option_map_or (λ least. nat_le least (block * block_size)) (get nat_cmp c.insert.new.self p) false)
    (cut_put c.args.pnode p c.args.size (block * block_size) (λ q. get nat_cmp old.least q) (get nat_cmp c.insert.new.self p) put (sym c.has_size.ensures ∙ c.if-has_size.false))
