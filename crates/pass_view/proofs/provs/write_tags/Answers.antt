use Rattle.std.proofs.Common.{[], ◌∷◌}
use Rattle.std.specs.Prelude.{codes}
use Rattle.std.proofs.lemmas.Result.{on_ok_weaker}
use Rattle.json.specs.Token.{key}
use Rattle.json.specs.Tree.{json_tokens}
use Rattle.pass_view.specs.Provs.{tags_json}
use Rattle.pass_view.proofs.Adding.{both}
use Rattle.pass_view.proofs.provs.write_tags.Goals as goal

pub returns : goal.returns
returns c = on_ok_weaker c.write_list.result (λ wrote.
    both c.args.out.now c.key.new.self c.write_list.new.out (key (codes "pass:attributes") ∷ []) (json_tokens (tags_json c.args.tags.now)) (c.in_ok-key.ensures.ok, c.in_ok-key.ensures.room.0) wrote)
    c.write_list.ensures
