use Rattle.std.proofs.Common.{◌-◌, refl, ◌∙◌, arith}
use Rattle.pass_lives.proofs.ForkSteps.{fork_held, join_may, joined_on}
use Rattle.pass_lives.proofs.forking.join.Goals as goal

pub overflow_sub-keep : goal.overflow_sub-keep
overflow_sub-keep g c =
    let h = c.held-keep in
    let low = fork_held c.requires.forking h.result (h.ensures.held ∙ h.ensures.call) in
    omega (arith, low)

pub join-requires-clause-place : goal.join-requires-clause-place
join-requires-clause-place g c =
    let h = c.held-keep in
    let low = fork_held c.requires.forking h.result (h.ensures.held ∙ h.ensures.call) in
    let same = h.ensures.held in
    omega (arith, low, same)

pub join-requires-clause-entry : goal.join-requires-clause-entry
join-requires-clause-entry g c =
    let h = c.held-keep in
    join_may c.requires.forking c.requires.next c.requires.pipe c.pnode-who.ensures c.end_of.ensures h.result (h.result - 1) (h.ensures.held ∙ h.ensures.call) refl

pub returns-clause-forking : goal.returns-clause-forking
returns-clause-forking g c =
    let e = c.join in
    joined_on c.requires.forking c.requires.next c.requires.pipe c.pnode-who.ensures c.end_of.ensures
    (c.held-keep.result - 1) e.new.caller e.ensures.entry.caller e.ensures.entry.entered e.ensures.entry.few c.pass.new.self c.pass.ensures
