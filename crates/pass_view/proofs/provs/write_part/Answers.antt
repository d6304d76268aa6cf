use Rattle.std.proofs.Common.{ap, arith, refl, sym, [], ◌∷◌}
use Rattle.std.proofs.lemmas.Result.{on_ok_weaker}
use Rattle.json.specs.Token.{begin_object, end_object, key}
use Rattle.pass_view.specs.Provs.{members_in, part_word, tokens_of}
use Rattle.pass_view.specs.declared.picture.Shown.{Shown}
use Rattle.pass_view.proofs.Adding.{item_comes, items_closed, same_added}
use Rattle.pass_view.proofs.Members.{some_are}
use Rattle.pass_view.proofs.provs.write_part.Goals as goal

pub loop-shown-init : goal.loop-shown-init
loop-shown-init c = (refl, refl)

pub loop-shown-preserved : goal.loop-shown-preserved
loop-shown-preserved c =
    item_comes (λ (s : Shown). tokens_of (members_in c.args.part s)) c.begin.new.out c.args.nodes.now c.loop-shown.out c.write_members.new.out c.loop-shown.shown-index c.shown-item.result
    c.loop-shown-test.true c.shown-item.is c.in_ok-write_members.ensures c.loop-shown.invariant

pub returns : goal.returns
returns c = on_ok_weaker c.end_object.result (λ wrote.
    same_added c.args.out.now c.end_object.new.self _ _ (ap (λ ts. key (part_word c.args.part) ∷ begin_object ∷ ts) (sym (some_are (members_in c.args.part) c.args.nodes.now)))
    (items_closed (λ (s : Shown). tokens_of (members_in c.args.part s)) c.begin.new.out c.args.nodes.now c.args.out.now c.loop-shown.out c.end_object.new.self
    (key (part_word c.args.part) ∷ begin_object ∷ []) end_object c.loop-shown.shown-index (omega (arith, c.loop-shown-test.false))
    (same_added c.args.out.now c.begin.new.out _ _ (ap (λ w. key w ∷ begin_object ∷ []) c.word.ensures) c.in_ok-begin.ensures) c.loop-shown.invariant
    (wrote, c.end_object.ensures.room.0))) c.end_object.ensures.ok
