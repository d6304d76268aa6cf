use Rattle.std.proofs.Common.{◌≡◌, ◌++◌, ℕ, List}
use Rattle.std.specs.Prelude.{IsTrue}
use Rattle.pass_ask.specs.Follows.{DoesTo, GoesOn}
use Rattle.pass_ask.proofs.following.feed_all.Given as goal

-- these bytes were handed on
abbrev pub invariant-pieces : goal.invariant-pieces
invariant-pieces g l = (bytes : List ℕ) × (IsTrue g.S.Source.tells → g.S.Source.left l.fn.source ≡ bytes ++ g.S.Source.left l.source)
    × GoesOn g.D.Disk.view l.fn.standby bytes l.standby × DoesTo g.D.Disk.view l.fn.standby bytes l.standby ⊥
    × (g.S.Source.fault_count l.source ≡ g.S.Source.fault_count l.fn.source)
