use Rattle.std.proofs.Common.{◌≡◌, List, take}
use Rattle.std.specs.Prelude.{filter}
use Rattle.pass_entry.specs.declared.record.Record.{Record}
use Rattle.pass_inputs.specs.Inputs.{is_file}
use Rattle.pass_inputs.specs.Plans.{AreFacts}
use Rattle.pass_inputs.proofs.choosing.files_among.Given as goal

abbrev pub invariant-loop-node : goal.invariant-loop-node
invariant-loop-node l = (list : List Record) → AreFacts list l.facts → l.files.items ≡ filter (is_file list) (take l.node-index l.nodes)
