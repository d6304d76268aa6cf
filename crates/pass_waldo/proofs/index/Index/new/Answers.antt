use Rattle.pass_waldo.proofs.Indexing.{none_indexed}
use Rattle.pass_waldo.proofs.index.Index.new.Goals as goal

pub invariant_of-result : goal.invariant_of-result
invariant_of-result c = rw c.new.ensures (none_indexed c.new-2.result c.new-3.result c.new-2.ensures.parents c.new-2.ensures.children c.new-3.ensures.files c.new-3.ensures.values)
