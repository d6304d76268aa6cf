use Rattle.std.proofs.Common.{[], ◌∷◌}
use Rattle.std.proofs.lemmas.Result.{on_ok_weaker}
use Rattle.json.specs.Token.{begin_array, end_array, string}
use Rattle.pass_view.proofs.Adding.{both, same_added}
use Rattle.pass_files.proofs.output.write_tag.Goals as goal

pub returns : goal.returns
returns c = on_ok_weaker c.end_array.result (λ wrote.
    same_added c.args.out.now c.end_array.new.self _ _ (λ i. begin_array ∷ string (c.str_of.ensures i) ∷ string (c.str_of-2.ensures i) ∷ end_array ∷ [])
    (both c.args.out.now c.begin_array.new.self c.end_array.new.self (begin_array ∷ []) _ (c.in_ok-begin_array.ensures.ok, c.in_ok-begin_array.ensures.room.0)
    (both c.begin_array.new.self c.string.new.self c.end_array.new.self (string c.str_of.result.now ∷ []) _ (c.in_ok-string.ensures.ok, c.in_ok-string.ensures.room.0)
    (both c.string.new.self c.string-2.new.self c.end_array.new.self (string c.str_of-2.result.now ∷ []) (end_array ∷ [])
    (c.in_ok-string-2.ensures.ok, c.in_ok-string-2.ensures.room.0) (wrote, c.end_array.ensures.room.0))))) c.end_array.ensures.ok
