-- The trace that is drawn from a number, as its runs see it. This project's own rule.
use Rattle.std.specs.Prelude.{ℕ, List}
use Rattle.pass_plain.specs.Traces.{Line}
use Rattle.pass_trace.specs.TraceLines.{plain_trace}
use Rattle.pass_gen.specs.Generated.{generated}

-- the lines that a number draws, seen without their words
abbrev pub drawn_trace : ℕ → ℕ → List Line
drawn_trace number lines = plain_trace (generated number lines)
