-- What a crash leaves of a store since it was opened, whatever came of the opening (this project's own rule).
use Rattle.std.specs.Prelude.{◌≡◌, ◌+◌, ◌≤◌}
use Rattle.pass_outside.specs.Areas.{Image}
use Rattle.pass_outside.specs.Moments.{Moment}

-- both syncs with which an opening begins have come: there were two calls at least, and no fault where these were all
abbrev pub HasBothSyncs : Moment → Moment → Type 0
HasBothSyncs old new = (old.calls + 2 ≤ new.calls) × (new.calls ≡ old.calls + 2 → new.faults ≡ old.faults)

-- since both syncs a crash leaves what was read before them
abbrev pub LeavesRead : Moment → Moment → Type 0
LeavesRead old new = HasBothSyncs old new → (c : Image) → new.left_since (old.calls + 2) c → c ≡ old.seen
