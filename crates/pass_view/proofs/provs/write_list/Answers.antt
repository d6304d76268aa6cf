use Rattle.std.proofs.Common.{ℕ, ap, arith, refl, sym, ◌∙◌, List, [], ◌∷◌, ◌++◌}
use Rattle.std.proofs.lemmas.Result.{on_ok_weaker}
use Rattle.json.specs.Json as json
use Rattle.json.specs.Token.{begin_array, end_array, string}
use Rattle.pass_view.specs.Provs.{tag_text}
use Rattle.pass_view.proofs.Adding.{item_comes, items_closed, same_added}
use Rattle.pass_view.proofs.Members.{items_are}
use Rattle.pass_view.proofs.provs.write_list.Goals as goal

pub loop-attr-init : goal.loop-attr-init
loop-attr-init c = (refl, refl)

pub loop-attr-preserved : goal.loop-attr-preserved
loop-attr-preserved c =
    item_comes (λ (t : List ℕ × List ℕ). string (tag_text t) ∷ []) c.begin_array.new.self c.args.tags.now c.loop-attr.out c.string.new.self c.loop-attr.attr-index c.loop-attr-item.result
    c.loop-attr-test.true c.loop-attr-item.is
    (c.in_ok-string.ensures.ok ∙ ap (λ s. c.loop-attr.out.tokens ++ string s ∷ []) (c.as_str.ensures.value ∙ c.in_ok-text.ensures), c.in_ok-string.ensures.room.0) c.loop-attr.invariant

pub returns : goal.returns
returns c = on_ok_weaker c.end_array.result (λ wrote.
    same_added c.args.out.now c.end_array.new.self _ _ (ap (λ ts. begin_array ∷ ts) (sym (items_are (λ (t : List ℕ × List ℕ). json.string (tag_text t)) c.args.tags.now)))
    (items_closed (λ (t : List ℕ × List ℕ). string (tag_text t) ∷ []) c.begin_array.new.self c.args.tags.now c.args.out.now c.loop-attr.out c.end_array.new.self
    (begin_array ∷ []) end_array c.loop-attr.attr-index (omega (arith, c.loop-attr-test.false))
    (c.in_ok-begin_array.ensures.ok, c.in_ok-begin_array.ensures.room.0) c.loop-attr.invariant (wrote, c.end_array.ensures.room.0))) c.end_array.ensures.ok
