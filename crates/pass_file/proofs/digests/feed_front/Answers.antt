use Rattle.std.proofs.Common.{◌++◌, ℕ, List, subst}
use Rattle.md5.specs.Md5.{Holds}
use Rattle.pass_file.proofs.digests.feed_front.Goals as goal

pub returns : goal.returns
returns c = λ (m : List ℕ) holds.
    subst (λ (xs : List ℕ). Holds c.feed-2.new.hasher xs) (λ k. m ++ c.piece-front.ensures k ++ c.gap_of-gap.ensures k)
    (c.feed-2.ensures (m ++ c.piece-front.result.now) (c.feed.ensures m holds))
