use Rattle.std.proofs.Common.{[], ◌∷◌}
use Rattle.std.proofs.lemmas.Result.{on_ok_weaker}
use Rattle.json.specs.Token.{begin_object, end_object, key}
use Rattle.pass_view.specs.Provs.{member_tokens, text_at}
use Rattle.pass_view.proofs.Adding.{both}
use Rattle.pass_view.proofs.provs.write_pair.Goals as goal

pub returns : goal.returns
returns c = on_ok_weaker c.end_object.result (λ wrote.
    both c.args.out.now c.begin.new.out c.end_object.new.self (key c.args.key.now ∷ begin_object ∷ []) _ c.in_ok-begin.ensures
    (both c.begin.new.out c.write_text.new.out c.end_object.new.self (member_tokens (text_at c.args.first.now c.args.text.now)) _ c.in_ok-write_text.ensures
    (both c.write_text.new.out c.write_text-2.new.out c.end_object.new.self (member_tokens (text_at c.args.second.now c.args.other.now)) (end_object ∷ []) c.in_ok-write_text-2.ensures
    (wrote, c.end_object.ensures.room.0)))) c.end_object.ensures.ok
