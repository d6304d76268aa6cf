use Rattle.std.proofs.Common.{◌∙◌, subst}
use Rattle.std.specs.Prelude.{OnOk}
use Rattle.pass_view.specs.Provs.{Adds, Member, member_tokens, pair_at}
use Rattle.pass_view.proofs.provs.write_link.Goals as goal

pub returns : goal.returns
returns c =
    subst (λ (m : Member). OnOk c.write_pair.result (Adds c.args.out.now c.write_pair.new.out (member_tokens m)))
    (λ i. pair_at ((c.as_str.ensures.value ∙ c.in_ok-id.ensures) i) (c.target_word.ensures i, (c.as_str-2.ensures.value ∙ c.in_ok-target.ensures) i) (c.source_word.ensures i, (c.as_str-3.ensures.value ∙ c.in_ok-source.ensures) i))
    c.write_pair.ensures
