use Rattle.std.proofs.Common.{◌≡◌, List, sym, ap, ◌∙◌, subst}
use Rattle.std.specs.Prelude.{bytes_eq, if◌then◌else◌}
use Rattle.std.specs.Ordering.{nat_cmp}
use Rattle.std.specs.BTreeSet.{insert_key}
use Rattle.pass_entry.specs.declared.record.Record.{Record}
use Rattle.pass_entry.specs.declared.record.Record.TheVariants as log
use Rattle.pass_waldo.specs.Index.{IsIndex}
use Rattle.pass_waldo.proofs.Indexing.{edges_stay, name_added}
use Rattle.pass_waldo.proofs.index.Index.take_name.Goals as goal

pub invariant_of-self-2 : goal.invariant_of-self-2
invariant_of-self-2 c =
    let list : List Record = c.self.inside.taken in
    let r : Record = c.args.one.now in
    let is : r ≡ log.Name c.args.file c.args.name.now = c.requires.name in
    subst (λ l. IsIndex (record { taken = l; edges = c.self.inside.edges; texts = c.put_file.new.self })) (sym c.in_ok-take.ensures.ok) (record {
      edges = edges_stay list r (λ a b at. let z : log.Name c.args.file c.args.name.now ≡ log.Input a b = sym is ∙ at in cc) (λ a at. let z : log.Name c.args.file c.args.name.now ≡ log.Version a = sym is ∙ at in cc)
          c.self.inside.edges c.self.invariant.edges;
      texts = name_added list r c.args.file c.args.name.now is c.self.inside.texts c.put_file.new.self
          (λ n. c.put_file.ensures.files n ∙ ap (λ row. if bytes_eq c.args.name.now n then insert_key nat_cmp row c.args.file else row) (c.make_file_room.ensures.same.files n))
          (λ n. c.put_file.ensures.values n ∙ c.make_file_room.ensures.same.values n) c.self.invariant.texts;
    })
