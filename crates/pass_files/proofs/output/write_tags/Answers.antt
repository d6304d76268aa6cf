use Rattle.std.proofs.Common.{ℕ, ap, arith, refl, sym, List, [], ◌∷◌}
use Rattle.std.specs.Prelude.{codes}
use Rattle.std.proofs.lemmas.Result.{on_ok_weaker}
use Rattle.json.specs.Token.{Token, begin_array, end_array, key}
use Rattle.json.specs.Tree.{json_tokens}
use Rattle.pass_files.specs.Texts.{tag_json}
use Rattle.pass_view.proofs.Adding.{both, item_comes, items_closed, same_added}
use Rattle.pass_view.proofs.Members.{items_are}
use Rattle.pass_files.proofs.output.write_tags.Goals as goal

abbrev tokens : List ℕ × List ℕ → List Token
tokens tag = json_tokens (tag_json tag)

pub loop-attr-init : goal.loop-attr-init
loop-attr-init c = (refl, refl)

pub loop-attr-preserved : goal.loop-attr-preserved
loop-attr-preserved c =
    item_comes tokens c.begin_array.new.self c.args.tags.now c.loop-attr.out c.write_tag.new.out c.loop-attr.attr-index c.loop-attr-item.result
    c.loop-attr-test.true c.loop-attr-item.is c.in_ok-write_tag.ensures c.loop-attr.invariant

pub returns : goal.returns
returns c = on_ok_weaker c.end_array.result (λ wrote.
    same_added c.args.out.now c.end_array.new.self _ _ (ap (λ ts. key (codes "attributes") ∷ begin_array ∷ ts) (sym (items_are tag_json c.args.tags.now)))
    (items_closed tokens c.begin_array.new.self c.args.tags.now c.args.out.now c.loop-attr.out c.end_array.new.self
    (key (codes "attributes") ∷ begin_array ∷ []) end_array c.loop-attr.attr-index (omega (arith, c.loop-attr-test.false))
    (both c.args.out.now c.key.new.self c.begin_array.new.self (key (codes "attributes") ∷ []) (begin_array ∷ [])
    (c.in_ok-key.ensures.ok, c.in_ok-key.ensures.room.0) (c.in_ok-begin_array.ensures.ok, c.in_ok-begin_array.ensures.room.0))
    c.loop-attr.invariant (wrote, c.end_array.ensures.room.0))) c.end_array.ensures.ok
