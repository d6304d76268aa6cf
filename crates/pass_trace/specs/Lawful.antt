-- What holds of every text and of its trace.
use Rattle.std.specs.Prelude.{◌≡◌, ℕ, ◌≤◌, ◌++◌, true, List}
use Rattle.pass_trace.specs.declared.trace.TraceReason.{TraceReason}
use Rattle.pass_trace.specs.declared.limits.Scale.{Scale}
use Rattle.pass_trace.specs.declared.limits.Scale.TheVariants.{Long}
use Rattle.pass_trace.specs.Limits.{most_created}
use Rattle.pass_trace.specs.Lines.{is_too_long}
use Rattle.pass_trace.specs.Rules.{count_created}
use Rattle.pass_trace.specs.Traces.{trace_of, IsTraceText, IsFirstFault}

-- the trace of a text makes no more objects than a trace may, beside its first process
abbrev pub ObjectsLaw : Type 0
ObjectsLaw = (scale : Scale) (bytes : List ℕ) → IsTraceText scale bytes → count_created (trace_of bytes) ≤ most_created scale

-- a text that is too long is none of a trace
abbrev pub TooLongLaw : Type 0
TooLongLaw = (scale : Scale) (bytes : List ℕ) → is_too_long scale bytes ≡ true → ¬ IsTraceText scale bytes

-- a text that is too long has the same first fault however it goes on
abbrev pub StaysLaw : Type 0
StaysLaw = (scale : Scale) (bytes rest : List ℕ) → is_too_long scale bytes ≡ true → (line : ℕ) (reason : TraceReason) → IsFirstFault scale bytes line reason
    → IsFirstFault scale (bytes ++ rest) line reason

-- a text of a trace of any scale is one of the long scale
abbrev pub WiderLaw : Type 0
WiderLaw = (scale : Scale) (bytes : List ℕ) → IsTraceText scale bytes → IsTraceText Long bytes
