use Rattle.std.proofs.Common.{ℕ, sym, ◌∙◌, List, [], ◌∷◌}
use Rattle.std.specs.Prelude.{codes}
use Rattle.std.proofs.lemmas.Result.{on_ok_weaker}
use Rattle.json.specs.Token.{Token, begin_object, end_object, key}
use Rattle.pass_view.specs.Provs.{member_tokens, node_member, object_of, own_members, tags_json, text_at, tokens_of}
use Rattle.pass_view.specs.declared.picture.Shown.{Shown}
use Rattle.pass_view.proofs.Adding.{both, same_added}
use Rattle.pass_view.proofs.Members.{members_are}
use Rattle.pass_view.proofs.provs.write_node.Goals as goal

-- a node of these texts
abbrev written : (id label kind : List ℕ) → List (List ℕ × List ℕ) → Shown → List Token
written id label kind tags shown =
    member_tokens (id, object_of (text_at (codes "prov:label") label ∷ text_at (codes "pass:kind") kind ∷ (codes "pass:attributes", tags_json tags) ∷ own_members shown))

pub returns : goal.returns
returns c = on_ok_weaker c.end_object.result (λ wrote.
    let shown : Shown = c.args.shown.now in
    same_added c.args.out.now c.end_object.new.self (written c.as_str.result.now c.as_str-2.result.now c.word.result.now c.deref.result.now shown) (member_tokens (node_member shown))
    (λ i. written ((c.as_str.ensures.value ∙ c.in_ok-id.ensures) i) ((c.as_str-2.ensures.value ∙ c.in_ok-text.ensures) i) (c.word.ensures i) (c.deref.ensures.value i) shown)
    (both c.args.out.now c.begin.new.out c.end_object.new.self (key c.as_str.result.now ∷ begin_object ∷ []) _ c.in_ok-begin.ensures
    (both c.begin.new.out c.write_text.new.out c.end_object.new.self (member_tokens (text_at (codes "prov:label") c.as_str-2.result.now)) _ c.in_ok-write_text.ensures
    (both c.write_text.new.out c.write_text-2.new.out c.end_object.new.self (member_tokens (text_at (codes "pass:kind") c.word.result.now)) _ c.in_ok-write_text-2.ensures
    (both c.write_text-2.new.out c.write_tags.new.out c.end_object.new.self (member_tokens (codes "pass:attributes", tags_json c.deref.result.now)) _ c.in_ok-write_tags.ensures
    (same_added c.write_tags.new.out c.end_object.new.self _ _ (sym (members_are (own_members shown)))
    (both c.write_tags.new.out c.write_own.new.out c.end_object.new.self (tokens_of (own_members shown)) (end_object ∷ []) c.in_ok-write_own.ensures
    (wrote, c.end_object.ensures.room.0)))))))) c.end_object.ensures.ok
