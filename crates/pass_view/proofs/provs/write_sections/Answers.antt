use Rattle.std.proofs.Common.{[], ◌∷◌}
use Rattle.std.proofs.lemmas.Result.{on_ok_weaker}
use Rattle.json.specs.Token.{begin_object, end_object}
use Rattle.pass_view.specs.Provs.{agents, member_tokens, part_of, prefixes, relations}
use Rattle.pass_view.specs.declared.picture.Relation.TheVariants.{Used, Generated, Informed, Derived}
use Rattle.pass_view.specs.declared.provs.Part.TheVariants.{Entities, Activities, Associations}
use Rattle.pass_view.proofs.Adding.{both}
use Rattle.pass_view.proofs.provs.write_sections.Goals as goal

pub returns : goal.returns
returns c = on_ok_weaker c.end_object.result (λ wrote.
    both c.args.out.now c.begin_object.new.self c.end_object.new.self (begin_object ∷ []) _ (c.in_ok-begin_object.ensures.ok, c.in_ok-begin_object.ensures.room.0)
    (both c.begin_object.new.self c.write_pair.new.out c.end_object.new.self (member_tokens prefixes) _ c.in_ok-write_pair.ensures
    (both c.write_pair.new.out c.write_part.new.out c.end_object.new.self (member_tokens (part_of Entities c.args.nodes.now)) _ c.in_ok-write_part.ensures
    (both c.write_part.new.out c.write_part-2.new.out c.end_object.new.self (member_tokens (part_of Activities c.args.nodes.now)) _ c.in_ok-write_part-2.ensures
    (both c.write_part-2.new.out c.write_agents.new.out c.end_object.new.self (member_tokens (agents c.args.nodes.now)) _ c.in_ok-write_agents.ensures
    (both c.write_agents.new.out c.write_relations.new.out c.end_object.new.self (member_tokens (relations Used c.args.edges.now)) _ c.in_ok-write_relations.ensures
    (both c.write_relations.new.out c.write_relations-2.new.out c.end_object.new.self (member_tokens (relations Generated c.args.edges.now)) _ c.in_ok-write_relations-2.ensures
    (both c.write_relations-2.new.out c.write_relations-3.new.out c.end_object.new.self (member_tokens (relations Informed c.args.edges.now)) _ c.in_ok-write_relations-3.ensures
    (both c.write_relations-3.new.out c.write_relations-4.new.out c.end_object.new.self (member_tokens (relations Derived c.args.edges.now)) _ c.in_ok-write_relations-4.ensures
    (both c.write_relations-4.new.out c.write_part-3.new.out c.end_object.new.self (member_tokens (part_of Associations c.args.nodes.now)) (end_object ∷ []) c.in_ok-write_part-3.ensures
    (wrote, c.end_object.ensures.room.0))))))))))) c.end_object.ensures.ok
