use Rattle.pass_book.proofs.Adding.{add_law}
use Rattle.pass_book.proofs.laws.adds.Goals as goal

pub returns : goal.returns
returns c = add_law
