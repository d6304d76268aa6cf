use Rattle.std.proofs.Common.{ℕ, sym, subst, List}
use Rattle.std.specs.Prelude.{OnOk, Option, Some}
use Rattle.pass_view.specs.Provs.{Adds, name_members, tokens_of}
use Rattle.pass_view.proofs.provs.write_own_name.Goals as goal

pub returns-in-Some : goal.returns-in-Some
returns-in-Some c =
    subst (λ (name : Option (List ℕ)). OnOk c.write_text.result (Adds c.args.out.now c.write_text.new.out (tokens_of (name_members name)))) (sym c.in-Some.is)
    (subst (λ (text : List ℕ). OnOk c.write_text.result (Adds c.args.out.now c.write_text.new.out (tokens_of (name_members (Some text))))) c.str_of.ensures c.write_text.ensures)
