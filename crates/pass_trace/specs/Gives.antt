-- What a step of reading returns, against the definition of what it reads.
use Rattle.std.specs.Prelude.{◌≡◌, ℕ, Option, Some, Result, Ok, Err}
use Rattle.pass_trace.specs.declared.trace.TraceReason.{TraceReason}
use Rattle.pass_trace.specs.declared.trace.TraceFault.{TraceFault}
use Rattle.pass_trace.specs.declared.trace.TraceFault.TheVariants as trace
use Rattle.pass_trace.specs.declared.fields.LineFault.{LineFault}
use Rattle.pass_trace.specs.declared.fields.LineFault.TheVariants.{Bad, NoMemory}

-- the fault is the reason that reading gives, unless memory was refused
abbrev pub Fails : {Y : Type 0} → LineFault → Result Y TraceReason → Type 0
Fails (Bad reason) read = read ≡ Err reason
Fails NoMemory read = Unit {0}

-- the result, as view sees it, is what reading gives, unless memory was refused
abbrev pub Gives : {X Y : Type 0} → (X → Y) → Result X LineFault → Result Y TraceReason → Type 0
Gives view (Ok x) read = read ≡ Ok (view x)
Gives view (Err fault) read = Fails fault read

-- the reason of a fault that isn't want of memory
abbrev pub IsReason : LineFault → Option TraceReason → Type 0
IsReason (Bad reason) found = found ≡ Some reason
IsReason NoMemory found = Unit {0}

-- the fault of a text whose first line at fault has this number
abbrev pub fault_at_line : ℕ → LineFault → TraceFault
fault_at_line line (Bad reason) = trace.BadTrace line reason
fault_at_line line NoMemory = trace.NoMemory
