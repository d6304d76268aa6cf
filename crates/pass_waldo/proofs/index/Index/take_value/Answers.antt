use Rattle.std.proofs.Common.{◌≡◌, List, [], ◌∷◌, ◌++◌, sym, ap, ◌∙◌, subst}
use Rattle.std.specs.Prelude.{ℕ, bytes_eq, if◌then◌else◌}
use Rattle.pass_entry.specs.declared.objects.Node.{Node}
use Rattle.pass_entry.specs.declared.record.Record.{Record}
use Rattle.pass_entry.specs.declared.record.Record.TheVariants as log
use Rattle.pass_waldo.specs.Index.{IsIndex}
use Rattle.pass_waldo.proofs.Indexing.{edges_stay, value_added}
use Rattle.pass_waldo.proofs.index.Index.take_value.Goals as goal

pub invariant_of-self-2 : goal.invariant_of-self-2
invariant_of-self-2 c =
    let list : List Record = c.self.inside.taken in
    let r : Record = c.args.one.now in
    let same : c.in_ok-value.value ≡ c.args.value.now = c.in_ok-value.ensures.cases in
    let is : r ≡ log.Attr c.args.node c.args.attr.now c.in_ok-value.value = c.requires.value ∙ ap (log.Attr c.args.node c.args.attr.now) (sym same) in
    let rows : List (Node × List ℕ) → List ℕ → List (Node × List ℕ) = λ row n. if bytes_eq c.args.attr.now n then row ++ (c.args.node, c.in_ok-value.value) ∷ [] else row in
    subst (λ l. IsIndex (record { taken = l; edges = c.self.inside.edges; texts = c.put_value.new.self })) (sym c.in_ok-take.ensures.ok) (record {
      edges = edges_stay list r (λ a b at. let z : log.Attr c.args.node c.args.attr.now c.in_ok-value.value ≡ log.Input a b = sym is ∙ at in cc)
          (λ a at. let z : log.Attr c.args.node c.args.attr.now c.in_ok-value.value ≡ log.Version a = sym is ∙ at in cc) c.self.inside.edges c.self.invariant.edges;
      texts = value_added list r c.args.node c.args.attr.now c.in_ok-value.value is c.self.inside.texts c.put_value.new.self
          (λ n. c.put_value.ensures.values n ∙ ap (λ row. rows row n) (c.make_value_room.ensures.same.values n))
          (λ n. c.put_value.ensures.files n ∙ c.make_value_room.ensures.same.files n) c.self.invariant.texts;
    })
