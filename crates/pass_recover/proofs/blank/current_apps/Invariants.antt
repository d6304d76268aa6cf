use Rattle.std.proofs.Common.{◌≡◌, map, take}
use Rattle.pass_recover.specs.Starts.{apps_of, current_node}
use Rattle.pass_recover.proofs.blank.current_apps.Given as goal

abbrev pub invariant-loop-one : goal.invariant-loop-one
invariant-loop-one l = l.apps.items ≡ map (current_node l.list) (apps_of (take l.one-index l.list))
