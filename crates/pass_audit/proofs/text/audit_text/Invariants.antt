use Rattle.std.proofs.Common.{◌≡◌, take}
use Rattle.std.specs.Prelude.{flat_map, string_bytes}
use Rattle.pass_audit.specs.Audits.{judged_line}
use Rattle.pass_audit.proofs.text.audit_text.Given as goal

abbrev pub invariant-loop-judged : goal.invariant-loop-judged
invariant-loop-judged l = string_bytes l.text ≡ flat_map judged_line (take l.judged-index l.all)
