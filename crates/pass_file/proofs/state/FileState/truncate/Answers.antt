use Rattle.std.proofs.Common.{◌∙◌, ℕ, Bool, length, ap, sym, refl, arith}
use Rattle.pass_entry.specs.declared.entry.Act.TheVariants as act
use Rattle.pass_plain.specs.Recording.{block_count, flags}
use Rattle.pass_file.specs.FileViews.{FileView, dirty_by}
use Rattle.pass_file.proofs.Turning.{row_turned, dirty_turned, state_after, rows_room, dirty_room, edge_room}
use Rattle.pass_file.proofs.state.FileState.truncate.Goals as goal

pub touched_by_cut-touched-requires : goal.touched_by_cut-touched-requires
touched_by_cut-touched-requires c =
    let v = c.self.invariant in
    let limit = v.limit in
    let room = c.requires in
    let mine = ap (λ (w : FileView). w.room) c.self.view_is in
    record { below = v.rows_below; small = v.small; limit = omega (arith, limit, room, mine) }

pub truncate-requires : goal.truncate-requires
truncate-requires c =
    let covered = c.self.invariant.covered in
    let room = c.requires in
    let mine = ap (λ (w : FileView). w.room) c.self.view_is in
    omega (arith, covered, room, mine)

pub turn_rows-requires : goal.turn_rows-requires
turn_rows-requires c =
    let i = c.self.inside in
    let v = c.self.invariant in
    let is = c.touched_by_cut-touched.ensures 0 in
    let room = c.requires in
    let mine = ap (λ (w : FileView). w.room) c.self.view_is in
    record {
      limit = is.limit;
      order = is.order;
      room = rows_room i.content.bytes i.rows.blocks (act.Cut 0 c.args.size) c.touched_by_cut-touched.result is i.room i.rows.room i.dirty.room (omega (arith, room, mine)) v.places;
    }

pub turn_dirty-requires : goal.turn_dirty-requires
turn_dirty-requires c =
    let i = c.self.inside in
    let v = c.self.invariant in
    let is = c.touched_by_cut-touched.ensures 0 in
    let room = c.requires in
    let mine = ap (λ (w : FileView). w.room) c.self.view_is in
    record {
      limit = is.limit;
      order = is.order;
      room = dirty_room i.content.bytes i.rows.blocks (act.Cut 0 c.args.size) c.touched_by_cut-touched.result is i.room i.rows.room i.dirty.room (omega (arith, room, mine)) v.places;
      edge = edge_room i.content.bytes i.rows.blocks (act.Cut 0 c.args.size) c.touched_by_cut-touched.result is i.room i.rows.room i.dirty.room (omega (arith, room, mine)) v.places;
    }

pub invariant_of-self : goal.invariant_of-self
invariant_of-self c =
    let i = c.self.inside in
    state_after i.content.bytes i.rows.blocks (act.Cut 0 c.args.size) c.touched_by_cut-touched.result c.self.invariant.rows_below (c.touched_by_cut-touched.ensures 0) refl
    c.truncate.new.self c.turn_rows.new.rows c.turn_dirty.new.dirty i.dirty.blocks c.truncate.ensures.bytes c.turn_rows.ensures c.turn_dirty.ensures

pub returns-clause-rows : goal.returns-clause-rows
returns-clause-rows c = λ (had : ℕ → Bool) rows.
    let i = c.self.inside in
    row_turned i.content.bytes i.rows.blocks (act.Cut 0 c.args.size) c.touched_by_cut-touched.result c.self.invariant.rows_below (c.touched_by_cut-touched.ensures 0) refl
    had c.turn_rows.new.rows.blocks (ap (λ (w : FileView). w.rows) c.self.view_is ∙ rows) c.turn_rows.ensures

pub returns-clause-dirty : goal.returns-clause-dirty
returns-clause-dirty c = λ (had was : ℕ → Bool) rows dirty.
    let i = c.self.inside in
    let a = act.Cut 0 c.args.size in
    dirty_turned i.content.bytes i.rows.blocks a c.touched_by_cut-touched.result c.self.invariant.rows_below (c.touched_by_cut-touched.ensures 0) refl
    had was i.dirty.blocks c.turn_dirty.new.dirty.blocks (ap (λ (w : FileView). w.rows) c.self.view_is ∙ rows) (ap (λ (w : FileView). w.dirty) c.self.view_is ∙ dirty) c.turn_dirty.ensures
    ∙ (λ k. flags (λ b. dirty_by (length (c.self.view_is k).bytes) (length (sym c.truncate.ensures.bytes k)) (had b) a b (was b)) block_count)
