use Rattle.std.proofs.Common.{ℕ, Bool, sym, subst, List, [], ◌∷◌}
use Rattle.std.specs.Prelude.{OnOk, Option, not, if◌then◌else◌}
use Rattle.pass_view.specs.Provs.{Adds, association_of, members_in, node_member, tokens_of}
use Rattle.pass_view.specs.declared.provs.Part.{Part}
use Rattle.pass_view.proofs.provs.write_members.Goals as goal

pub returns-in-Entities : goal.returns-in-Entities
returns-in-Entities c =
    subst (λ (p : Part). OnOk c.write_node_if.result (Adds c.args.out.now c.write_node_if.new.out (tokens_of (members_in p c.args.shown.now)))) (sym c.in-Entities.is)
    (subst (λ (b : Bool). OnOk c.write_node_if.result (Adds c.args.out.now c.write_node_if.new.out (tokens_of (if not b then node_member c.args.shown.now ∷ [] else [])))) c.is_activity.ensures
    c.write_node_if.ensures)

pub returns-in-Activities : goal.returns-in-Activities
returns-in-Activities c =
    subst (λ (p : Part). OnOk c.write_node_if-in-Activities.result (Adds c.args.out.now c.write_node_if-in-Activities.new.out (tokens_of (members_in p c.args.shown.now)))) (sym c.in-Activities.is)
    (subst (λ (b : Bool). OnOk c.write_node_if-in-Activities.result (Adds c.args.out.now c.write_node_if-in-Activities.new.out (tokens_of (if b then node_member c.args.shown.now ∷ [] else []))))
    c.is_activity-in-Activities.ensures c.write_node_if-in-Activities.ensures)

pub returns-in-Associations : goal.returns-in-Associations
returns-in-Associations c =
    subst (λ (p : Part). OnOk c.write_association.result (Adds c.args.out.now c.write_association.new.out (tokens_of (members_in p c.args.shown.now)))) (sym c.in-Associations.is)
    (subst (λ (o : Option (List ℕ)). OnOk c.write_association.result (Adds c.args.out.now c.write_association.new.out (tokens_of (association_of c.args.shown.now.node o)))) c.ran.ensures
    c.write_association.ensures)
