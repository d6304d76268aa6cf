use Rattle.std.proofs.Common.{ℕ, ◌∙◌, ap, sym, List, [], ◌∷◌}
use Rattle.std.specs.Prelude.{Option, Some, codes}
use Rattle.std.proofs.lemmas.Result.{on_ok_weaker}
use Rattle.json.specs.Token.{Token}
use Rattle.pass_view.specs.Provs.{member_tokens, text_at, tokens_of}
use Rattle.pass_view.proofs.Adding.{alone, both, same_added}
use Rattle.pass_files.specs.Texts.{arguments_members}
use Rattle.pass_files.proofs.output.write_ran.Goals as goal

-- the tokens of these texts
abbrev written : (program : List ℕ) → Option (List ℕ) → List Token
written program arguments = tokens_of (text_at (codes "program") program ∷ arguments_members arguments)

pub returns-in-Some : goal.returns-in-Some
returns-in-Some c = on_ok_weaker c.write_pair-in-Some.result (λ wrote.
    same_added c.args.out.now c.write_pair-in-Some.new.out _ _
    (ap (λ (program : List ℕ). written program (Some c.str_of-in-Some.result.now)) c.str_of.ensures
    ∙ ap (written c.args.ran.now.program) (ap (λ (a : List ℕ). Some a) c.str_of-in-Some.ensures ∙ sym c.in-Some.is))
    (both c.args.out.now c.write_pair.new.out c.write_pair-in-Some.new.out (member_tokens (text_at (codes "program") c.str_of.result.now))
    (tokens_of (text_at (codes "arguments") c.str_of-in-Some.result.now ∷ [])) c.in_ok-write_pair.ensures
    (alone c.write_pair.new.out c.write_pair-in-Some.new.out (text_at (codes "arguments") c.str_of-in-Some.result.now) wrote))) c.write_pair-in-Some.ensures
