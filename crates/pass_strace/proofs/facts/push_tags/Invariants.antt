use Rattle.std.proofs.Common.{◌≡◌, ◌++◌, take}
use Rattle.pass_strace.specs.Facts.{tag_lines}
use Rattle.pass_strace.proofs.facts.push_tags.Given as goal

abbrev pub invariant-loop-fact : goal.invariant-loop-fact
invariant-loop-fact l = l.lines.items ≡ l.initial.lines.items ++ tag_lines (take l.fact-index l.facts)
