-- What holds of a session's ceiling on every image that a crash leaves.
use Rattle.std.specs.Prelude.{ℕ}
use Rattle.pass_keep.specs.Kept.{Story, IsLeft}
use Rattle.pass_outside.specs.Areas.{Image}
use Rattle.pass_session.specs.Openings.{HasCeiling}

-- an image with the records of some of a session's entries has the session's ceiling, below which the next session gives no number
abbrev pub CeilingLaw : Type 0
CeilingLaw = (s : Story) (least : ℕ) (bound : ℕ → ℕ) (c : Image) → IsLeft s least bound c → HasCeiling s.ceiling c.log
