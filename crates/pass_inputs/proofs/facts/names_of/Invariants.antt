use Rattle.std.proofs.Common.{ℕ, ◌≡◌, take}
use Rattle.std.specs.Prelude.{nat_eq}
use Rattle.std.specs.HashMap.{get}
use Rattle.pass_inputs.specs.Inputs.{given_to}
use Rattle.pass_inputs.proofs.facts.names_of.Given as goal

abbrev pub invariant-loop-one : goal.invariant-loop-one
invariant-loop-one l = (o : ℕ) → get nat_eq l.names o ≡ given_to (take l.one-index l.records) o
