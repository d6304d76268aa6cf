use Rattle.std.proofs.Common.{ℕ, ◌≡◌, take}
use Rattle.std.specs.Prelude.{nat_eq}
use Rattle.std.specs.HashMap.{get}
use Rattle.pass_plain.specs.WellLogged.{kind_of}
use Rattle.pass_inputs.proofs.facts.kinds_of.Given as goal

abbrev pub invariant-loop-one : goal.invariant-loop-one
invariant-loop-one l = (o : ℕ) → get nat_eq l.kinds o ≡ kind_of (take l.one-index l.records) o
