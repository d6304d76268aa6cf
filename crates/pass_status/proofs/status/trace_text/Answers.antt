use Rattle.std.proofs.Common.{ℕ, ◌≡◌, List, subst, IfOk, codes, decimal, string_bytes}
use Rattle.pass_trace.specs.Reasons.{reason_word}
use Rattle.pass_status.proofs.Texts.{in_order}
use Rattle.pass_status.proofs.status.trace_text.Goals as goal

pub returns : goal.returns
returns c = subst (λ (bytes : List ℕ). IfOk c.format.result (λ text. string_bytes text ≡ bytes)) (in_order (codes "fault trace ") (decimal c.args.line) (reason_word c.args.reason)) c.format.ensures.ok
