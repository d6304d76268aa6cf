use Rattle.std.proofs.Common.{ℕ, ap, ◌∙◌, List, [], ◌∷◌, ◌++◌}
use Rattle.std.specs.Prelude.{codes}
use Rattle.std.proofs.lemmas.Result.{on_ok_weaker}
use Rattle.json.specs.Token.{begin_object, end_object}
use Rattle.pass_view.specs.Provs.{member_tokens, text_at, tokens_of}
use Rattle.pass_view.proofs.Adding.{both, same_added}
use Rattle.pass_files.specs.Texts.{kind_members, title_members}
use Rattle.pass_files.specs.declared.told.Told.{Told}
use Rattle.pass_files.proofs.Members.{told_tokens}
use Rattle.pass_files.proofs.output.write_told.Goals as goal

pub returns : goal.returns
returns c = on_ok_weaker c.end_object.result (λ wrote.
    let told : Told = c.args.told.now in
    same_added c.args.out.now c.end_object.new.self _ _
    (ap (λ (node : List ℕ). begin_object ∷ (member_tokens (text_at (codes "node") node) ++ (tokens_of (kind_members told.kind) ++ (tokens_of (title_members told.title) ++ end_object ∷ [])))) (c.as_str.ensures.value ∙ c.in_ok-node.ensures.ok)
    ∙ told_tokens told)
    (both c.args.out.now c.begin_object.new.self c.end_object.new.self (begin_object ∷ []) _ (c.in_ok-begin_object.ensures.ok, c.in_ok-begin_object.ensures.room.0)
    (both c.begin_object.new.self c.write_pair.new.out c.end_object.new.self (member_tokens (text_at (codes "node") c.as_str.result.now)) _ c.in_ok-write_pair.ensures
    (both c.write_pair.new.out c.write_kind.new.out c.end_object.new.self (tokens_of (kind_members told.kind)) _ c.in_ok-write_kind.ensures
    (both c.write_kind.new.out c.write_title.new.out c.end_object.new.self (tokens_of (title_members told.title)) (end_object ∷ []) c.in_ok-write_title.ensures
    (wrote, c.end_object.ensures.room.0)))))) c.end_object.ensures.ok
