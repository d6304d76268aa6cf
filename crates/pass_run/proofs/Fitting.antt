-- A trace makes no more objects than one session may.
use Rattle.std.proofs.Common.{◌≤◌, ap, List, arith}
use Rattle.pass_trace.specs.declared.limits.Scale.TheVariants.{Long}
use Rattle.pass_trace.specs.Lawful.{ObjectsLaw}
use Rattle.pass_trace.specs.Rules.{count_created}
use Rattle.pass_trace.specs.TraceLines.{objects_of}
use Rattle.pass_trace.specs.Traces.{trace_of}
use Rattle.pass_trace.specs.declared.trace.TraceLine.{TraceLine}
use Rattle.pass_run.specs.Ends.{IsTrace}

pub few_objects : ObjectsLaw → (lines : List TraceLine) → IsTrace lines → objects_of lines ≤ 65536
few_objects law lines (bytes, text, is) = let few : count_created (trace_of bytes) ≤ 65535 = law Long bytes text in let same = ap count_created is in omega (arith, few, same)
