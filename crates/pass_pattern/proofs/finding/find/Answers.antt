use Rattle.std.proofs.Common.{List, subst}
use Rattle.std.specs.List.Sorted.{IsPermutation}
use Rattle.pass_pattern.specs.declared.code.Instruction.{Instruction}
use Rattle.pass_pattern.specs.declared.search.Visit.{Visit}
use Rattle.pass_pattern.specs.Patterns.{shape_of}
use Rattle.pass_pattern.specs.Visits.{visit, ends_of, AreVisits}
use Rattle.pass_pattern.proofs.Ordering.{are_joined}
use Rattle.pass_pattern.proofs.finding.find.Goals as goal

pub returns-clause-all : goal.returns-clause-all
returns-clause-all g c =
    let list = c.args.index.now in
    let code = c.in_ok-code.code in
    let keys = c.in_ok-visits.visits.keys in
    let nodes = c.in_ok-ended.field-0.items in
    are_joined list code.instructions.items (shape_of c.args.pattern.now) code.start c.args.from keys nodes c.in_ok-code.ensures
    (subst (λ (xs : List Instruction). AreVisits list xs (visit c.args.from code.start) keys) c.deref.ensures.value c.in_ok-visits.ensures.visits) c.as_slice.ensures.unique
    (subst (λ (xs : List Visit). IsPermutation (ends_of xs) nodes) c.as_slice.ensures.keys c.in_ok-ended.ensures.permuted) c.in_ok-ended.ensures.sorted
