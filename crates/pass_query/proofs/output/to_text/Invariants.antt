use Rattle.std.proofs.Common.{◌≡◌, take}
use Rattle.std.specs.Prelude.{string_bytes}
use Rattle.pass_query.specs.Texts.{text_of}
use Rattle.pass_query.proofs.output.to_text.Given as goal

abbrev pub invariant-loop-node : goal.invariant-loop-node
invariant-loop-node l = string_bytes l.out ≡ text_of (take l.node-index l.nodes)
