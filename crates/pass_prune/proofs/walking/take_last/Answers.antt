use Rattle.std.proofs.Common.{◌∙◌, sym, ap}
use Rattle.std.specs.Ordering.{nat_cmp}
use Rattle.std.specs.BTreeMap.{get}
use Rattle.pass_leaf.specs.Contents.{last_content}
use Rattle.pass_prune.proofs.Laying.{made_of, taken_out, taken_some}
use Rattle.pass_prune.proofs.walking.take_last.Goals as goal

pub returns-in-Some-clause-content : goal.returns-in-Some-clause-content
returns-in-Some-clause-content c = λ all past more leaf own next are. taken_some all past c.args.contents.now c.args.file c.in-Some.content are (sym c.in-Some.is ∙ c.remove.ensures.value)

pub returns-in-None-clause-content : goal.returns-in-None-clause-content
returns-in-None-clause-content c = λ all past more leaf own next are.
    c.new.ensures.items ∙ sym (made_of all past leaf more c.args.contents.now next are (ap (get nat_cmp c.args.contents.now) own ∙ sym c.remove.ensures.value ∙ c.in-None.is)) ∙ ap (last_content past) own

pub returns-in-Some-clause-others : goal.returns-in-Some-clause-others
returns-in-Some-clause-others c = λ all past are. taken_out all past c.args.contents.now c.remove.new.self c.args.file c.remove.ensures.updates are

pub returns-in-None-clause-others : goal.returns-in-None-clause-others
returns-in-None-clause-others c = λ all past are. taken_out all past c.args.contents.now c.remove.new.self c.args.file c.remove.ensures.updates are
