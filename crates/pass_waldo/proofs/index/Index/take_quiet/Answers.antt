use Rattle.std.proofs.Common.{sym, subst}
use Rattle.pass_waldo.specs.Index.{IsIndex}
use Rattle.pass_waldo.proofs.Indexing.{quiet_stays}
use Rattle.pass_waldo.proofs.index.Index.take_quiet.Goals as goal

pub invariant_of-self-2 : goal.invariant_of-self-2
invariant_of-self-2 c =
    subst (λ l. IsIndex (record { taken = l; edges = c.self.inside.edges; texts = c.self.inside.texts })) (sym c.in_ok-take.ensures.ok)
    (quiet_stays c.self.inside.taken c.args.one.now c.requires.quiet c.self.inside.edges c.self.inside.texts c.self.invariant.edges c.self.invariant.texts)
