use Rattle.std.proofs.Common.{ap, sym, ◌∙◌}
use Rattle.std.specs.Prelude.{slice_get}
use Rattle.pass_lives.specs.Forks.{ForkingView}
use Rattle.pass_lives.proofs.ForkSteps.{fork_held, born_may, born_source, forked, parent_on, child_is, told_by}
use Rattle.pass_lives.proofs.forking.end_fork.Goals as goal

pub born-pair-requires-clause-entry : goal.born-pair-requires-clause-entry
born-pair-requires-clause-entry g c =
    let is = told_by c.requires.forking c.forking.view_is in
    let all = ap (λ (v : ForkingView). slice_get v.rest 0) c.forking.view_is ∙ c.requires.joined in
    born_may is all c.pnode-who.ensures

pub born-pair-requires-clause-source : goal.born-pair-requires-clause-source
born-pair-requires-clause-source g c =
    let is = told_by c.requires.forking c.forking.view_is in
    let all = ap (λ (v : ForkingView). slice_get v.rest 0) c.forking.view_is ∙ c.requires.joined in
    born_source is all c.pnode-who.ensures

pub born-pair-requires-clause-place : goal.born-pair-requires-clause-place
born-pair-requires-clause-place g c = fork_held c.requires.forking c.args.caller.now.held c.held.ensures.call

pub returns-clause-call : goal.returns-clause-call
returns-clause-call g c =
    let is = told_by c.requires.forking c.forking.view_is in
    let all = ap (λ (v : ForkingView). slice_get v.rest 0) c.forking.view_is ∙ c.requires.joined in
    let e = c.born-pair in
    λ old its sees. forked is all c.pnode-who.ensures e.new.parent e.ensures.entry.caller e.ensures.entry.entered g.J.Whose.places old its (sees ∙ sym (ap (λ (v : ForkingView). v.before) c.forking.view_is))

pub returns-clause-parent : goal.returns-clause-parent
returns-clause-parent g c =
    let is = told_by c.requires.forking c.forking.view_is in
    let all = ap (λ (v : ForkingView). slice_get v.rest 0) c.forking.view_is ∙ c.requires.joined in
    let e = c.born-pair in
    parent_on is all c.pnode-who.ensures e.new.parent e.ensures.entry.caller e.ensures.entry.entered e.ensures.entry.few

pub returns-clause-child : goal.returns-clause-child
returns-clause-child g c =
    let is = told_by c.requires.forking c.forking.view_is in
    let all = ap (λ (v : ForkingView). slice_get v.rest 0) c.forking.view_is ∙ c.requires.joined in
    let e = c.born-pair in
    child_is is all c.pnode-who.ensures e.new.parent e.ensures.entry.caller e.ensures.entry.entered e.result.0 e.ensures.child.0 e.ensures.child.1 c.untouched.ensures e.ensures.child.2 e.ensures.seen e.ensures.state
