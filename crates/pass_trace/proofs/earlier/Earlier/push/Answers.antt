use Rattle.std.proofs.Common.{◌≡◌, rules}
use Rattle.pass_trace.specs.declared.trace.Command.TheVariants.{Fork}
use Rattle.pass_trace.proofs.Table.{IsTable-fork}
use Rattle.pass_trace.proofs.earlier.Earlier.push.Goals as goal
use Rattle.pass_trace.proofs.earlier.Earlier.push.Goals.{in-Fork, in_default}

pub invariant_of-self-in-Some : goal.invariant_of-self-in-Some
invariant_of-self-in-Some c =
    elim c.match-line.branch [
      | in-Fork w ↦
          let is : c.args.line.command ≡ Fork c.in-Some.child = cc in
          let one : c.from-made.result ≡ 1 = search rules in
          rw (c.in_ok-push.ensures.items, one) (IsTable-fork c.args.scale _ _ _ _ _ c.self.invariant is (search rules) (search rules) (search rules))
      | in_default w ↦ cc
    ]
