use Rattle.std.proofs.Common.{◌≡◌, ◌++◌, All, List, subst}
use Rattle.std.proofs.lemmas.List.Elements.{All-append, Contains-append_left}
use Rattle.pass_turns.specs.Turners.{AreAllStill, HasLiving, IsStill, TurnerState}
use Rattle.pass_turns.proofs.crew.Crew.are_still.Goals as goal
use Rattle.pass_turns.proofs.Knowing.{some_living}

living_first : (turning ended : List TurnerState) → HasLiving turning → HasLiving (turning ++ ended)
living_first turning ended h = record { one = h.one; among = Contains-append_left turning ended h.one h.among; lives = h.lives }

pub returns-then-all_still : goal.returns-then-all_still
returns-then-all_still g c still =
    let session = g.J.Whose.book.session in
    let turning : List TurnerState = c.self.inside.turning.items in
    let ended : List TurnerState = c.self.inside.ended.items in
    let still_so : (ts us : List TurnerState) → ts ≡ us → All (IsStill session c.in-Some.count) ts → All (IsStill session c.in-Some.count) us = λ ts us same all. subst (All (IsStill session c.in-Some.count)) same all in
    subst (AreAllStill session) c.self.view_is (record {
      count = c.in-Some.count;
      some = living_first turning ended (subst HasLiving c.as_slice.ensures.value (some_living c.as_slice.result.now _ c.in-Some.ensures.some.0 c.in-Some.ensures.some.1));
      all = All-append (IsStill session c.in-Some.count) turning ended
          (still_so c.as_slice-2.result.now turning c.as_slice-2.ensures.value (c.all_still.ensures c.if-all_still.true))
          (still_so c.as_slice-then-all_still.result.now ended c.as_slice-then-all_still.ensures.value (c.all_still-then-all_still.ensures still));
    })
