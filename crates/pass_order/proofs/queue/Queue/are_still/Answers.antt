use Rattle.std.proofs.Common.{◌∙◌, List, ap, sym}
use Rattle.std.specs.Prelude.{Some, slice_get}
use Rattle.std.proofs.lemmas.Option.{slice_get-get_or}
use Rattle.pass_walk.specs.declared.walker.Walker.{Walker}
use Rattle.pass_order.specs.declared.standing.Standing.{Standing}
use Rattle.pass_order.proofs.queue.Queue.are_still.Goals as goal

pub all_still-requires : goal.all_still-requires
all_still-requires g c i w at = c.requires.knows i w (ap (λ (ws : List (Walker _)). slice_get ws i) (sym c.as_slice.ensures.value) ∙ at)

pub returns-then-all_still : goal.returns-then-all_still
returns-then-all_still g c tried = (
  c.seen-count.result,
  record {
    one = c.in-Living.living;
    place = c.args.self.now.last;
    stands = slice_get-get_or c.args.self.now.walkers.items c.args.self.now.last c.index.result.now c.requires.last ∙ ap (λ (w : Walker _). Some w) (sym c.index.ensures ∙ c.in-Living.is);
    each = λ i w at. c.all_still.ensures c.if-all_still.true i w (ap (λ (ws : List (Walker _)). slice_get ws i) c.as_slice.ensures.value ∙ at);
    tried = λ i s at. c.all_tried.ensures tried i s (ap (λ (ss : List Standing). slice_get ss i) c.as_slice-then-all_still.ensures.value ∙ at);
  },
)
