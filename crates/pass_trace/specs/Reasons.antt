-- The words by which the reasons are told. This project's own.
use Rattle.std.specs.Prelude.{ℕ, List, codes}
use Rattle.pass_trace.specs.declared.trace.TraceReason.{TraceReason}
use Rattle.pass_trace.specs.declared.trace.TraceReason.TheVariants as reason

-- the word of a reason
abbrev pub reason_word : TraceReason → List ℕ
reason_word reason.Form = codes "form"
reason_word reason.Number = codes "number"
reason_word reason.Length = codes "length"
reason_word reason.Process = codes "process"
reason_word reason.Many = codes "many"
