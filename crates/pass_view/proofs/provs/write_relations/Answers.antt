use Rattle.std.proofs.Common.{ap, arith, refl, sym, [], ◌∷◌}
use Rattle.std.proofs.lemmas.Result.{on_ok_weaker}
use Rattle.json.specs.Token.{begin_object, end_object, key}
use Rattle.pass_view.specs.Provs.{related, relation_word, tokens_of}
use Rattle.pass_view.specs.declared.picture.Link.{Link}
use Rattle.pass_view.proofs.Adding.{item_comes, items_closed, same_added}
use Rattle.pass_view.proofs.Members.{some_are}
use Rattle.pass_view.proofs.provs.write_relations.Goals as goal

pub loop-link-init : goal.loop-link-init
loop-link-init c = (refl, refl)

pub loop-link-preserved : goal.loop-link-preserved
loop-link-preserved c =
    item_comes (λ (s : Link). tokens_of (related c.args.relation s)) c.begin.new.out c.args.edges.now c.loop-link.out c.write_related.new.out c.loop-link.link-index c.link-item.result
    c.loop-link-test.true c.link-item.is c.in_ok-write_related.ensures c.loop-link.invariant

pub returns : goal.returns
returns c = on_ok_weaker c.end_object.result (λ wrote.
    same_added c.args.out.now c.end_object.new.self _ _ (ap (λ ts. key (relation_word c.args.relation) ∷ begin_object ∷ ts) (sym (some_are (related c.args.relation) c.args.edges.now)))
    (items_closed (λ (s : Link). tokens_of (related c.args.relation s)) c.begin.new.out c.args.edges.now c.args.out.now c.loop-link.out c.end_object.new.self
    (key (relation_word c.args.relation) ∷ begin_object ∷ []) end_object c.loop-link.link-index (omega (arith, c.loop-link-test.false))
    (same_added c.args.out.now c.begin.new.out _ _ (ap (λ w. key w ∷ begin_object ∷ []) c.word.ensures) c.in_ok-begin.ensures) c.loop-link.invariant
    (wrote, c.end_object.ensures.room.0))) c.end_object.ensures.ok
