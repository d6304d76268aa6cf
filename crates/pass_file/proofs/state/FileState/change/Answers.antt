use Rattle.std.proofs.Common.{◌∙◌, ℕ, Bool, length, ap, arith}
use Rattle.pass_plain.specs.Files.{file_act}
use Rattle.pass_plain.specs.Recording.{block_count, flags}
use Rattle.pass_file.specs.FileViews.{FileView, dirty_by}
use Rattle.pass_file.proofs.Turning.{row_turned, dirty_turned, state_after, rows_room, dirty_room, edge_room}
use Rattle.pass_file.proofs.state.FileState.change.Goals as goal

pub touched_by-touched-requires : goal.touched_by-touched-requires
touched_by-touched-requires c =
    let v = c.self.invariant in
    let limit = v.limit in
    let room = c.requires.room in
    let mine = ap (λ (w : FileView). w.room) c.self.view_is in
    record { below = v.rows_below; small = v.small; change = c.requires.act; limit = omega (arith, limit, room, mine) }

pub apply-requires : goal.apply-requires
apply-requires c =
    let covered = c.self.invariant.covered in
    let room = c.requires.room in
    let mine = ap (λ (w : FileView). w.room) c.self.view_is in
    omega (arith, covered, room, mine)

pub turn_rows-requires : goal.turn_rows-requires
turn_rows-requires c =
    let i = c.self.inside in
    let v = c.self.invariant in
    let is = c.touched_by-touched.ensures in
    let room = c.requires.room in
    let mine = ap (λ (w : FileView). w.room) c.self.view_is in
    record {
      limit = is.limit;
      order = is.order;
      room = rows_room i.content.bytes i.rows.blocks (c.args.act.now) c.touched_by-touched.result is i.room i.rows.room i.dirty.room (omega (arith, room, mine)) v.places;
    }

pub turn_dirty-requires : goal.turn_dirty-requires
turn_dirty-requires c =
    let i = c.self.inside in
    let v = c.self.invariant in
    let is = c.touched_by-touched.ensures in
    let room = c.requires.room in
    let mine = ap (λ (w : FileView). w.room) c.self.view_is in
    record {
      limit = is.limit;
      order = is.order;
      room = dirty_room i.content.bytes i.rows.blocks (c.args.act.now) c.touched_by-touched.result is i.room i.rows.room i.dirty.room (omega (arith, room, mine)) v.places;
      edge = edge_room i.content.bytes i.rows.blocks (c.args.act.now) c.touched_by-touched.result is i.room i.rows.room i.dirty.room (omega (arith, room, mine)) v.places;
    }

pub invariant_of-self : goal.invariant_of-self
invariant_of-self c =
    let i = c.self.inside in
    state_after i.content.bytes i.rows.blocks (c.args.act.now) c.touched_by-touched.result c.self.invariant.rows_below (c.touched_by-touched.ensures) c.requires.act
    c.apply.new.content c.turn_rows.new.rows c.turn_dirty.new.dirty i.dirty.blocks c.apply.ensures c.turn_rows.ensures c.turn_dirty.ensures

pub returns-clause-rows : goal.returns-clause-rows
returns-clause-rows c = λ (had : ℕ → Bool) rows.
    let i = c.self.inside in
    row_turned i.content.bytes i.rows.blocks (c.args.act.now) c.touched_by-touched.result c.self.invariant.rows_below (c.touched_by-touched.ensures) c.requires.act
    had c.turn_rows.new.rows.blocks (ap (λ (w : FileView). w.rows) c.self.view_is ∙ rows) c.turn_rows.ensures

pub returns-clause-dirty : goal.returns-clause-dirty
returns-clause-dirty c = λ (had was : ℕ → Bool) rows dirty.
    let i = c.self.inside in
    let a = c.args.act.now in
    dirty_turned i.content.bytes i.rows.blocks a c.touched_by-touched.result c.self.invariant.rows_below (c.touched_by-touched.ensures) c.requires.act
    had was i.dirty.blocks c.turn_dirty.new.dirty.blocks (ap (λ (w : FileView). w.rows) c.self.view_is ∙ rows) (ap (λ (w : FileView). w.dirty) c.self.view_is ∙ dirty) c.turn_dirty.ensures
    ∙ (λ k. flags (λ b. dirty_by (length (c.self.view_is k).bytes) (length (file_act (c.self.view_is k).bytes a)) (had b) a b (was b)) block_count)
