use Rattle.std.proofs.Common.{◌++◌, ◌∙◌, refl}
use Rattle.pass_leaf.specs.declared.fault.OldFault.TheVariants as faults
use Rattle.pass_past.proofs.Goings.{kept_stops, begins_more, begins_itself}
use Rattle.pass_prune.specs.Tables.{is_chosen_by, chosen_one}
use Rattle.pass_prune.proofs.walking.keep_leaf.Goals as goal

pub returns-in-Err-clause-stopped : goal.returns-in-Err-clause-stopped
returns-in-Err-clause-stopped g c = λ past more next so_far first done h.
    let one = chosen_one (is_chosen_by c.args.choice.now) past c.args.leaf.now in
    kept_stops g.F.Disk.view first done (done ++ one) c.args.old.now faults.NoMemory h (begins_more done one) refl

pub returns-in-Err-keep_where-clause-stopped : goal.returns-in-Err-keep_where-clause-stopped
returns-in-Err-keep_where-clause-stopped g c = λ past more next so_far first done h.
    c.in-Err-keep_where.ensures.stopped past (c.deref.ensures.value ∙ c.in-Ok.ensures.content c.args.choice.now.leaves.now past more next so_far) first done h

pub returns-in-Ok-put_back-clause-contents : goal.returns-in-Ok-put_back-clause-contents
returns-in-Ok-put_back-clause-contents g c = λ past more next so_far.
    c.in-Ok-put_back.ensures past (c.in-Ok.ensures.content c.args.choice.now.leaves.now past more next so_far) (c.take_next.ensures.others c.args.choice.now.leaves.now past so_far)

pub returns-in-Ok-put_back-clause-kept : goal.returns-in-Ok-put_back-clause-kept
returns-in-Ok-put_back-clause-kept g c = λ past more next so_far first done h.
    c.in_default.ensures.kept past (c.deref.ensures.value ∙ c.in-Ok.ensures.content c.args.choice.now.leaves.now past more next so_far) first done h

pub returns-in-Err-put_back-clause-stopped : goal.returns-in-Err-put_back-clause-stopped
returns-in-Err-put_back-clause-stopped g c = λ past more next so_far first done h.
    let all = done ++ chosen_one (is_chosen_by c.args.choice.now) past c.args.leaf.now in
    kept_stops g.F.Disk.view first all all c.keep_where.new.old faults.NoMemory
    (c.in_default.ensures.kept past (c.deref.ensures.value ∙ c.in-Ok.ensures.content c.args.choice.now.leaves.now past more next so_far) first done h) (begins_itself all) refl
