use Rattle.std.proofs.Common.{◌∙◌, subst}
use Rattle.std.specs.Prelude.{OnOk, codes}
use Rattle.pass_view.specs.Provs.{Adds, Member, member_tokens, pair_at}
use Rattle.pass_view.proofs.provs.write_agent.Goals as goal

pub returns : goal.returns
returns c =
    subst (λ (m : Member). OnOk c.write_pair.result (Adds c.args.out.now c.write_pair.new.out (member_tokens m)))
    (λ i. pair_at ((c.as_str.ensures.value ∙ c.in_ok-id.ensures) i) (codes "prov:label", c.str_of.ensures i) (codes "pass:kind", codes "program"))
    c.write_pair.ensures
