-- The line of the text that a process stands at.
use Rattle.std.proofs.Common.{◌≡◌, ◌<◌, ℕ, List, length, subst}
use Rattle.std.specs.Prelude.{Option, Some}
use Rattle.std.proofs.lemmas.Option.{slice_get_within}
use Rattle.pass_plain.specs.Sessions.{Session}
use Rattle.pass_trace.specs.TraceLines.{plain_trace}
use Rattle.pass_trace.specs.declared.trace.TraceLine.{TraceLine}
use Rattle.pass_replay.specs.Lines.{IsLineAt}
use Rattle.pass_walk.specs.declared.walker.Living.{Living}
use Rattle.pass_walk.specs.Walkers.{IsLivingOf}
use Rattle.pass_walk.proofs.Linked.{plain_length}

-- a line stands there
pub within_lines : {J : Type 0} (session : Session) (lines : List TraceLine) (l : Living J) (place : ℕ) → IsLivingOf session (plain_trace lines) l → l.line ≡ Some place → place < length lines
within_lines session lines l place is line =
    let (m, there, own, count) = subst (λ (o : Option ℕ). IsLineAt (plain_trace lines) l.process is.done o) line is.line in
    subst (λ n. place < n) (plain_length lines) (slice_get_within (plain_trace lines) place m there)
