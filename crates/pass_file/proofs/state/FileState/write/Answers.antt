use Rattle.std.proofs.Common.{◌∙◌, ℕ, Bool, length, ap, sym, refl, arith}
use Rattle.pass_table.proofs.Seen.{some_length}
use Rattle.pass_file.proofs.Resizing.{empty_list}
use Rattle.pass_entry.specs.declared.entry.Act.TheVariants as act
use Rattle.pass_plain.specs.Recording.{block_count, flags}
use Rattle.pass_file.specs.FileViews.{FileView, dirty_by}
use Rattle.pass_file.proofs.Turning.{row_turned, dirty_turned, state_after, rows_room, dirty_room, edge_room, rows_still, dirty_still}
use Rattle.pass_file.proofs.state.FileState.write.Goals as goal

pub touched_by_write-touched-requires : goal.touched_by_write-touched-requires
touched_by_write-touched-requires c =
    let v = c.self.invariant in
    let limit = v.limit in
    let room = c.requires.room in
    let mine = ap (λ (w : FileView). w.room) c.self.view_is in
    record { below = v.rows_below; small = v.small; limit = omega (arith, limit, room, mine); few = c.requires.few }

pub write-requires : goal.write-requires
write-requires c =
    let covered = c.self.invariant.covered in
    let room = c.requires.room in
    let mine = ap (λ (w : FileView). w.room) c.self.view_is in
    record { room = omega (arith, covered, room, mine); few = c.requires.few }

pub turn_rows-requires : goal.turn_rows-requires
turn_rows-requires c =
    let i = c.self.inside in
    let v = c.self.invariant in
    let is = c.touched_by_write-touched.ensures 0 in
    let room = c.requires.room in
    let mine = ap (λ (w : FileView). w.room) c.self.view_is in
    record {
      limit = is.limit;
      order = is.order;
      room = rows_room i.content.bytes i.rows.blocks (act.Put 0 c.args.at c.args.bytes.now) c.touched_by_write-touched.result is i.room i.rows.room i.dirty.room (omega (arith, room, mine)) v.places;
    }

pub turn_dirty-requires : goal.turn_dirty-requires
turn_dirty-requires c =
    let i = c.self.inside in
    let v = c.self.invariant in
    let is = c.touched_by_write-touched.ensures 0 in
    let room = c.requires.room in
    let mine = ap (λ (w : FileView). w.room) c.self.view_is in
    record {
      limit = is.limit;
      order = is.order;
      room = dirty_room i.content.bytes i.rows.blocks (act.Put 0 c.args.at c.args.bytes.now) c.touched_by_write-touched.result is i.room i.rows.room i.dirty.room (omega (arith, room, mine)) v.places;
      edge = edge_room i.content.bytes i.rows.blocks (act.Put 0 c.args.at c.args.bytes.now) c.touched_by_write-touched.result is i.room i.rows.room i.dirty.room (omega (arith, room, mine)) v.places;
    }

pub invariant_of-self : goal.invariant_of-self
invariant_of-self c =
    let i = c.self.inside in
    state_after i.content.bytes i.rows.blocks (act.Put 0 c.args.at c.args.bytes.now) c.touched_by_write-touched.result c.self.invariant.rows_below (c.touched_by_write-touched.ensures 0) refl
    c.write.new.self c.turn_rows.new.rows c.turn_dirty.new.dirty i.dirty.blocks c.write.ensures.bytes c.turn_rows.ensures c.turn_dirty.ensures

pub returns-clause-rows : goal.returns-clause-rows
returns-clause-rows c = λ (had : ℕ → Bool) rows.
    let i = c.self.inside in
    row_turned i.content.bytes i.rows.blocks (act.Put 0 c.args.at c.args.bytes.now) c.touched_by_write-touched.result c.self.invariant.rows_below (c.touched_by_write-touched.ensures 0) refl
    had c.turn_rows.new.rows.blocks (ap (λ (w : FileView). w.rows) c.self.view_is ∙ rows) c.turn_rows.ensures

pub returns-clause-dirty : goal.returns-clause-dirty
returns-clause-dirty c = λ (had was : ℕ → Bool) rows dirty.
    let i = c.self.inside in
    let a = act.Put 0 c.args.at c.args.bytes.now in
    dirty_turned i.content.bytes i.rows.blocks a c.touched_by_write-touched.result c.self.invariant.rows_below (c.touched_by_write-touched.ensures 0) refl
    had was i.dirty.blocks c.turn_dirty.new.dirty.blocks (ap (λ (w : FileView). w.rows) c.self.view_is ∙ rows) (ap (λ (w : FileView). w.dirty) c.self.view_is ∙ dirty) c.turn_dirty.ensures
    ∙ (λ k. flags (λ b. dirty_by (length (c.self.view_is k).bytes) (length (sym c.write.ensures.bytes k)) (had b) a b (was b)) block_count)

pub returns-then-is_empty-clause-rows : goal.returns-then-is_empty-clause-rows
returns-then-is_empty-clause-rows c = λ (had : ℕ → Bool) rows.
    let i = c.self.inside in
    let v = c.self.invariant in
    let none = empty_list c.args.bytes.now (sym c.is_empty.ensures ∙ c.if-is_empty.true) in
    let mine = ap (λ (w : FileView). w.rows) c.self.view_is in
    sym mine ∙ rows_still i.content.bytes i.rows.blocks 0 c.args.at c.args.bytes.now none v.small v.rows_below had (mine ∙ rows)

pub returns-then-is_empty-clause-dirty : goal.returns-then-is_empty-clause-dirty
returns-then-is_empty-clause-dirty c = λ (had was : ℕ → Bool) rows dirty.
    let i = c.self.inside in
    let v = c.self.invariant in
    let none = empty_list c.args.bytes.now (sym c.is_empty.ensures ∙ c.if-is_empty.true) in
    let mine = ap (λ (w : FileView). w.rows) c.self.view_is in
    let its = ap (λ (w : FileView). w.dirty) c.self.view_is in
    sym its ∙ dirty_still i.content.bytes i.rows.blocks 0 c.args.at c.args.bytes.now none v.small v.rows_below had was i.dirty.blocks v.dirty_below (mine ∙ rows) (its ∙ dirty)
    ∙ (λ k. flags (λ b. dirty_by (length (c.self.view_is k).bytes) (length (c.self.view_is k).bytes) (had b) (act.Put 0 c.args.at c.args.bytes.now) b (was b)) block_count)

pub returns-clause-nothing : goal.returns-clause-nothing
returns-clause-nothing c = λ none.
    let some = some_length (length c.args.bytes.now) (sym c.is_empty.ensures ∙ c.if-is_empty.false) in
    let no = ap length none in
    absurd (omega (arith, some, no))
