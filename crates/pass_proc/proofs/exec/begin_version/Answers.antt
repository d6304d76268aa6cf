use Rattle.std.proofs.Common.{ap, subst, arith}
use Rattle.pass_plain.specs.Lineages.{IsAlike, linked}
use Rattle.pass_version.specs.States.{VersionState}
use Rattle.pass_proc.proofs.exec.begin_version.Goals as goal

pub take-requires-clause-version : goal.take-requires-clause-version
take-requires-clause-version c =
    let low = c.requires.version in
    let same = ap (λ (v : VersionState). v.lineage.node.version) c.freeze.ensures.frozen in
    omega (arith, low, same)

pub returns-clause-lineage : goal.returns-clause-lineage
returns-clause-lineage c = subst (λ (v : VersionState). IsAlike c.take.new.self.lineage (linked v.lineage c.args.source.now)) c.freeze.ensures.frozen c.take.ensures.linked
