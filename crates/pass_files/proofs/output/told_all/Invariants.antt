use Rattle.std.proofs.Common.{◌≡◌, List, take}
use Rattle.pass_entry.specs.declared.record.Record.{Record}
use Rattle.pass_files.specs.Tables.{AreFacts}
use Rattle.pass_files.specs.Texts.{told_all}
use Rattle.pass_files.proofs.output.told_all.Given as goal

abbrev pub invariant-loop-node : goal.invariant-loop-node
invariant-loop-node l = (list : List Record) → AreFacts list l.facts → l.all.items ≡ told_all list (take l.node-index l.nodes)
