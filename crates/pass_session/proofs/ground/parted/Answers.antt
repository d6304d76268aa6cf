use Rattle.std.proofs.Common.{◌∷◌, ◌++◌, ◌∙◌, sym}
use Rattle.pass_session.proofs.Parted.{only, whole}
use Rattle.pass_session.proofs.ground.parted.Goals as goal

pub returns-clause-whole : goal.returns-clause-whole
returns-clause-whole c =
    let r = c.in-Some-Some.registry in
    let f = c.in-Some-Some.first in
    let head = only c.split_off.new.self.items c.pop.new.self.items _ c.pop.result r c.in_ok-files.ensures.len c.pop.ensures.items c.pop.ensures.rest c.in-Some-Some.is-0 in
    let last = only c.split_off-4.new.self.items c.pop-2.new.self.items _ c.pop-2.result f c.in_ok-rest.ensures.len c.pop-2.ensures.items c.pop-2.ensures.rest c.in-Some-Some.is-1 in
    (λ i. r ∷ (c.in_ok-apps.ensures.items i ++ (c.in_ok-first.ensures.items i ++ f ∷ c.in_ok-rest.ensures.tail i)))
    ∙ whole c.args.desks.items c.in_ok-files.files.items c.in_ok-apps.apps.items c.in_ok-first.first.items r f c.len.result c.len-2.result
    (sym c.in_ok-files.ensures.items ∙ head) c.in_ok-files.ensures.tail c.in_ok-apps.ensures.tail c.in_ok-first.ensures.tail (sym c.in_ok-rest.ensures.items ∙ last)
