use Rattle.std.proofs.Common.{◌∙◌}
use Rattle.pass_plain.specs.Legal.{session_of}
use Rattle.pass_plain.specs.Registries.{registry_after}
use Rattle.pass_past.proofs.Growing.{is_file_by}
use Rattle.pass_past.proofs.contents.is_file.Goals as goal

pub returns : goal.returns
returns c = λ start history are. c.contains.ensures ∙ is_file_by c.args.files.now c.args.pnode (registry_after (session_of start 0) history).objects are
