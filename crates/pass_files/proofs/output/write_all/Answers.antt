use Rattle.std.proofs.Common.{ap, arith, refl, sym, [], ◌∷◌}
use Rattle.std.proofs.lemmas.Result.{on_ok_weaker}
use Rattle.json.specs.Token.{begin_array, end_array}
use Rattle.json.specs.Tree.{json_tokens}
use Rattle.pass_files.specs.Texts.{told_object}
use Rattle.pass_files.specs.declared.told.Told.{Told}
use Rattle.pass_view.proofs.Adding.{item_comes, items_closed, same_added}
use Rattle.pass_view.proofs.Members.{items_are}
use Rattle.pass_files.proofs.output.write_all.Goals as goal

pub loop-told-init : goal.loop-told-init
loop-told-init c = (refl, refl)

pub loop-told-preserved : goal.loop-told-preserved
loop-told-preserved c =
    item_comes (λ (t : Told). json_tokens (told_object t)) c.begin_array.new.self c.args.all.now c.loop-told.out c.write_told.new.out c.loop-told.told-index c.told-item.result
    c.loop-told-test.true c.told-item.is c.in_ok-write_told.ensures c.loop-told.invariant

pub returns : goal.returns
returns c = on_ok_weaker c.end_array.result (λ wrote.
    same_added c.args.out.now c.end_array.new.self _ _ (ap (λ ts. begin_array ∷ ts) (sym (items_are told_object c.args.all.now)))
    (items_closed (λ (t : Told). json_tokens (told_object t)) c.begin_array.new.self c.args.all.now c.args.out.now c.loop-told.out c.end_array.new.self
    (begin_array ∷ []) end_array c.loop-told.told-index (omega (arith, c.loop-told-test.false))
    (c.in_ok-begin_array.ensures.ok, c.in_ok-begin_array.ensures.room.0) c.loop-told.invariant
    (wrote, c.end_array.ensures.room.0))) c.end_array.ensures.ok
