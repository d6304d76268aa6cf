use Rattle.std.proofs.Common.{ℕ, List, ap, ◌∙◌, refl, subst}
use Rattle.std.specs.Prelude.{Err}
use Rattle.pass_trace.specs.Traces.{trace_of, IsTraceText, IsFirstFault}
use Rattle.pass_cli.proofs.Judging.{trace_read, fault_read}
use Rattle.pass_cli.proofs.reading.read_trace.Goals as goal
use Rattle.pass_entry.proofs.Variants.{ok_not_err}

pub returns-in-Err-ReadFault-clause-read : goal.returns-in-Err-ReadFault-clause-read
returns-in-Err-ReadFault-clause-read g c = (
  g.S.Source.left c.args.source.now,
  λ t. refl,
  c.in-Err-ReadFault.ensures.fault.0 (ap (λ e. Err e) c.in-Err-ReadFault.field-0-is),
)

pub returns-in-Err-NoMemory-clause-read : goal.returns-in-Err-NoMemory-clause-read
returns-in-Err-NoMemory-clause-read g c = (g.S.Source.left c.args.source.now, λ t. refl, tt)

pub returns-in-Ok-parse_within-clause-read : goal.returns-in-Ok-parse_within-clause-read
returns-in-Ok-parse_within-clause-read g c =
    trace_read c.args.scale g.S.Source.tells c.in-Ok.text.items (g.S.Source.left c.args.source.now) (g.S.Source.left c.read_source.new.source) _ _ c.in-Ok-parse_within.trace
    (λ rose. ok_not_err _ _ (c.in-Ok.ensures.fault.1 rose)) c.in-Ok.ensures.front c.in-Ok.ensures.whole
    (subst (IsTraceText c.args.scale) c.deref.ensures.value c.in-Ok-parse_within.ensures.text) (c.in-Ok-parse_within.ensures.trace ∙ ap trace_of c.deref.ensures.value)

pub returns-in-Err-BadTrace-clause-read : goal.returns-in-Err-BadTrace-clause-read
returns-in-Err-BadTrace-clause-read g c =
    fault_read c.args.scale g.S.Source.tells c.in-Ok.text.items (g.S.Source.left c.args.source.now) (g.S.Source.left c.read_source.new.source) _ _
    c.in-Err-BadTrace.line c.in-Err-BadTrace.reason (λ rose. ok_not_err _ _ (c.in-Ok.ensures.fault.1 rose)) c.in-Ok.ensures.front c.in-Ok.ensures.whole
    (subst (λ (t : List ℕ). IsFirstFault c.args.scale t c.in-Err-BadTrace.line c.in-Err-BadTrace.reason) c.deref.ensures.value
    (c.in-Err-BadTrace.ensures.fault c.in-Err-BadTrace.line c.in-Err-BadTrace.reason (ap (λ e. Err e) c.in-Err-BadTrace.field-0-is)))

pub returns-clause-read : goal.returns-clause-read
returns-clause-read g c = (g.S.Source.left c.args.source.now, λ t. refl, tt)
