use Rattle.std.proofs.Common.{◌∙◌, ◌++◌, ◌∷◌, [], refl, ℕ, List, Bool, ap, arith}
use Rattle.pass_entry.specs.declared.objects.Node.{Node}
use Rattle.pass_entry.specs.declared.record.Record.{Record}
use Rattle.pass_entry.specs.declared.record.Record.TheVariants as log
use Rattle.pass_plain.specs.Files.{file_act}
use Rattle.pass_plain.specs.Recording.{block_count, content_by}
use Rattle.pass_file.specs.FileViews.{FileView}
use Rattle.pass_file.specs.Touches.{digests_at}
use Rattle.pass_file.proofs.Turning.{list_recorded}
use Rattle.pass_file.proofs.state.FileState.records.Goals as goal

pub touched_by-touched-requires : goal.touched_by-touched-requires
touched_by-touched-requires c =
    let v = c.self.invariant in
    record { below = v.rows_below; small = v.small; change = c.requires.act; limit = c.requires.limit }

pub push_reserved-requires : goal.push_reserved-requires
push_reserved-requires c =
    let len = c.in_ok-list.ensures.len in
    let exact = c.in_ok-list.ensures.exact in
    omega (arith, len, exact)

pub add_digests-requires : goal.add_digests-requires
add_digests-requires c =
    let is = c.touched_by-touched.ensures in
    let few = is.few in
    let len = c.push_reserved.ensures.len in
    let capacity = c.push_reserved.ensures.capacity in
    let none = c.in_ok-list.ensures.len in
    let exact = c.in_ok-list.ensures.exact in
    record { order = is.order; room = omega (arith, few, len, capacity, none, exact) }

pub returns : goal.returns
returns c = λ (had : ℕ → Bool) rows.
    let i = c.self.inside in
    let a = c.args.act.now in
    let t = c.touched_by-touched.result in
    c.add_digests.ensures
    ∙ ap (λ (xs : List Record). xs ++ digests_at c.current-pnode.result.pnode (file_act i.content.bytes a) t) (c.push_reserved.ensures.items ∙ ap (λ (xs : List Record). xs ++ log.Size c.current-pnode.result.pnode t.size ∷ []) c.in_ok-list.ensures.items)
    ∙ list_recorded i.content.bytes i.rows.blocks a t c.self.invariant.rows_below c.touched_by-touched.ensures c.requires.act c.current-pnode.result.pnode i.versions.lineage.node.pnode [] (file_act i.content.bytes a) had
    (ap (λ (n : Node). n.pnode) c.current-pnode.ensures) refl (ap (λ (w : FileView). w.rows) c.self.view_is ∙ rows)
    ∙ ap (λ (w : FileView). content_by w.lineage.node.pnode w.bytes had a block_count) c.self.view_is
