use Rattle.std.proofs.Common.{ℕ, subst}
use Rattle.std.specs.Prelude.{Result, MatchResult}
use Rattle.pass_file.specs.BlockSets.{IsPlace}
use Rattle.pass_file.proofs.Members.{place_from}
use Rattle.pass_file.proofs.set.place_of.Goals as goal

pub returns-in-Ok : goal.returns-in-Ok
returns-in-Ok c =
    subst (λ (r : Result ℕ ℕ). MatchResult r (IsPlace c.args.blocks.now c.args.block) (IsPlace c.args.blocks.now c.args.block)) c.in-Ok.is
    (place_from c.args.blocks.now c.args.block c.binary_search.result c.binary_search.ensures.position c.requires)

pub returns-in-Err : goal.returns-in-Err
returns-in-Err c =
    subst (λ (r : Result ℕ ℕ). MatchResult r (IsPlace c.args.blocks.now c.args.block) (IsPlace c.args.blocks.now c.args.block)) c.in-Err.is
    (place_from c.args.blocks.now c.args.block c.binary_search.result c.binary_search.ensures.position c.requires)
