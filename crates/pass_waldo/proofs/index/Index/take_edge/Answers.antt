use Rattle.std.proofs.Common.{◌≡◌, inl, inr, List, sym, ap, ◌∙◌, subst}
use Rattle.pass_entry.specs.declared.objects.Node.{Node}
use Rattle.pass_entry.specs.declared.record.Record.{Record}
use Rattle.pass_entry.specs.declared.record.Record.TheVariants as log
use Rattle.pass_waldo.specs.Index.{IsIndex}
use Rattle.pass_waldo.specs.Lookups.{value_in}
use Rattle.pass_waldo.proofs.Indexing.{edge_added, texts_stay, put_at}
use Rattle.pass_waldo.proofs.index.Index.take_edge.Goals as goal

pub invariant_of-self-2 : goal.invariant_of-self-2
invariant_of-self-2 c =
    let list : List Record = c.self.inside.taken in
    let r : Record = c.args.one.now in
    let t : Node = c.args.target.now in
    let s : Node = c.args.source.now in
    subst (λ l. IsIndex (record { taken = l; edges = c.put_child.new.self; texts = c.self.inside.texts })) (sym c.in_ok-take.ensures.ok) (record {
      edges = edge_added list r t s c.requires.edge c.self.inside.edges c.put_child.new.self
          (λ n. c.put_child.ensures.parents n ∙ c.put_parent.ensures.parents n ∙ ap (put_at list r t s n) (c.make_room-2.ensures.same.parents n ∙ c.make_room.ensures.same.parents n))
          (λ n. c.put_child.ensures.children n ∙ ap (put_at list r s t n) (c.put_parent.ensures.children n ∙ c.make_room-2.ensures.same.children n ∙ c.make_room.ensures.same.children n))
          c.self.invariant.edges;
      texts = texts_stay list r
          (λ p name at. elim c.requires.edge [ inl is ↦ (let z : log.Input t s ≡ log.Name p name = sym is ∙ at in cc) | inr is ↦ (let z : log.Version t ≡ log.Name p name = sym is.0 ∙ at in cc) ])
          (λ attr. elim c.requires.edge [ inl is ↦ ap (value_in attr) is | inr is ↦ ap (value_in attr) is.0 ])
          c.self.inside.texts c.self.invariant.texts;
    })
