use Rattle.std.proofs.Common.{◌≤◌, ◌+◌, List, length, subst}
use Rattle.std.specs.Prelude.{IfOk, OnOk}
use Rattle.pass_entry.specs.declared.objects.Node.{Node}
use Rattle.pass_query.specs.Searches.{IsWholeSearch, HasAllLed, HasOnlyLed}
use Rattle.pass_query.proofs.search.search.Goals as goal

pub returns-clause-whole : goal.returns-clause-whole
returns-clause-whole g c = subst (λ list. IfOk c.walk_from.result (λ v. IsWholeSearch c.args.way list c.args.first.now v.items)) c.of.ensures c.walk_from.ensures.whole

pub returns-clause-steps : goal.returns-clause-steps
returns-clause-steps g c =
    subst (λ list. (edges : List (Node × Node)) → HasAllLed c.args.way list c.args.first.now edges → c.walk_from.new.steps ≤ c.args.steps.now + length edges) c.of.ensures c.walk_from.ensures.steps

pub returns-clause-counted : goal.returns-clause-counted
returns-clause-counted g c =
    subst (λ list. OnOk c.walk_from.result ((edges : List (Node × Node)) → HasOnlyLed c.args.way list c.args.first.now edges → c.args.steps.now + length edges ≤ c.walk_from.new.steps)) c.of.ensures
    c.walk_from.ensures.counted
