use Rattle.std.proofs.Common.{sym, subst}
use Rattle.std.specs.Prelude.{OnOk, option_map}
use Rattle.std.proofs.lemmas.Result.{on_ok_weaker}
use Rattle.pass_view.specs.Provs.{Adds, association_of, ran_member, tokens_of}
use Rattle.pass_view.proofs.Adding.{alone}
use Rattle.pass_view.proofs.provs.write_association.Goals as goal

pub returns-in-Some : goal.returns-in-Some
returns-in-Some c =
    subst (λ o. OnOk c.write_ran.result (Adds c.args.out.now c.write_ran.new.out (tokens_of (association_of c.args.node.now (option_map (λ t. t.now) o))))) (sym c.in-Some.is)
    (on_ok_weaker c.write_ran.result (alone c.args.out.now c.write_ran.new.out (ran_member c.args.node.now c.in-Some.name.now)) c.write_ran.ensures)
