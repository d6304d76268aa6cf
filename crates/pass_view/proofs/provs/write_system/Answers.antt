use Rattle.std.proofs.lemmas.Result.{on_ok_weaker}
use Rattle.pass_view.specs.Provs.{system_type}
use Rattle.pass_view.proofs.Adding.{added_if, none_unless}
use Rattle.pass_view.proofs.provs.write_system.Goals as goal

pub returns-then-is_system : goal.returns-then-is_system
returns-then-is_system c = on_ok_weaker c.write_pair.result (added_if c.args.out.now c.write_pair.new.out c.args.is_system system_type c.if-is_system.true) c.write_pair.ensures

pub returns-else-is_system : goal.returns-else-is_system
returns-else-is_system c = none_unless c.args.out.now c.args.is_system system_type c.if-is_system.false
