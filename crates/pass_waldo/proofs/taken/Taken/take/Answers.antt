use Rattle.std.proofs.Common.{◌≡◌, List, [], ◌∷◌, ◌++◌, sym, ap, ◌∙◌, subst, arith}
use Rattle.std.specs.Prelude.{None}
use Rattle.std.proofs.lemmas.Grind.{common_steps}
use Rattle.pass_entry.specs.declared.record.Record.{Record}
use Rattle.pass_plain.specs.WellLogged.{flaw_of, IsWellLogged}
use Rattle.pass_graph.specs.Logged.{Summarizes}
use Rattle.pass_graph.proofs.Accepting.{fine-append, fine_one}
use Rattle.pass_waldo.proofs.taken.Taken.take.Goals as goal

pub invariant_of-self-2 : goal.invariant_of-self-2
invariant_of-self-2 c =
    let old : List Record = c.self.inside.records.items in
    let r : Record = c.args.one.now in
    let items : c.push.new.self.items ≡ old ++ r ∷ [] = grind (arith, common_steps) in
    let fine : flaw_of old r ≡ None = ap (λ l. flaw_of l r) c.self.view_is ∙ c.requires in
    record {
      logged = subst IsWellLogged (sym items) (fine-append [] old (r ∷ []) c.self.invariant.logged (fine_one old r fine));
      says = subst (λ l. Summarizes c.add.new.self l) (sym items) (c.in_ok-add.ensures.ok old c.self.invariant.says fine);
    }
