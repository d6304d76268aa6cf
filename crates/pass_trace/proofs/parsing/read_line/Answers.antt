use Rattle.std.proofs.Common.{◌∙◌, ap, Ok}
use Rattle.pass_trace.proofs.Good.{child_of-le, line_wide, text_line_is}
use Rattle.pass_trace.proofs.parsing.read_line.Goals as goal

pub rule_of-requires-clause-process : goal.rule_of-requires-clause-process
rule_of-requires-clause-process c =
    (text_line_is c.args.scale c.args.number c.args.text.now c.in-Some.line (c.in_ok-line.ensures.value ∙ ap Ok c.in-Some.is)).from

pub rule_of-requires-clause-process_end : goal.rule_of-requires-clause-process_end
rule_of-requires-clause-process_end c =
    (line_wide c.args.scale c.in-Some.line (text_line_is c.args.scale c.args.number c.args.text.now c.in-Some.line (c.in_ok-line.ensures.value ∙ ap Ok c.in-Some.is))).to

pub rule_of-requires-clause-child : goal.rule_of-requires-clause-child
rule_of-requires-clause-child c =
    child_of-le c.in-Some.line.command (line_wide c.args.scale c.in-Some.line (text_line_is c.args.scale c.args.number c.args.text.now c.in-Some.line (c.in_ok-line.ensures.value ∙ ap Ok c.in-Some.is))).command

pub push-requires-clause-process : goal.push-requires-clause-process
push-requires-clause-process c =
    (text_line_is c.args.scale c.args.number c.args.text.now c.in-Some.line (c.in_ok-line.ensures.value ∙ ap Ok c.in-Some.is)).from

pub push-requires-clause-child : goal.push-requires-clause-child
push-requires-clause-child c =
    child_of-le c.in-Some.line.command (line_wide c.args.scale c.in-Some.line (text_line_is c.args.scale c.args.number c.args.text.now c.in-Some.line (c.in_ok-line.ensures.value ∙ ap Ok c.in-Some.is))).command
