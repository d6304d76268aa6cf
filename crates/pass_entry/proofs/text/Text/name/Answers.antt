-- What the text is made of is a line.
use Rattle.std.proofs.Common.{arith}
use Rattle.std.proofs.lemmas.Grind.{common_steps}
use Rattle.std.proofs.lemmas.Bool.Decides.{nat_tests}
use Rattle.pass_entry.proofs.NameTexts.{name-line}
use Rattle.pass_entry.proofs.text.Text.name.Goals as goal

pub invariant_of-result : goal.invariant_of-result
invariant_of-result c = grind (arith, common_steps, nat_tests, name-line c.args.bytes.now)
