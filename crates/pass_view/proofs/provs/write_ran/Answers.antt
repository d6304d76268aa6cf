use Rattle.std.proofs.Common.{◌∙◌, subst}
use Rattle.std.specs.Prelude.{OnOk, codes}
use Rattle.pass_view.specs.Provs.{Adds, Member, member_tokens, pair_at}
use Rattle.pass_view.proofs.provs.write_ran.Goals as goal

pub returns : goal.returns
returns c =
    subst (λ (m : Member). OnOk c.write_pair.result (Adds c.args.out.now c.write_pair.new.out (member_tokens m)))
    (λ i. pair_at ((c.as_str.ensures.value ∙ c.in_ok-id.ensures.ok) i) (codes "prov:activity", (c.as_str-2.ensures.value ∙ c.in_ok-activity.ensures) i) (codes "prov:agent", (c.as_str-3.ensures.value ∙ c.in_ok-program.ensures) i))
    c.write_pair.ensures
