use Rattle.std.proofs.Common.{◌∙◌, ap, arith, sym}
use Rattle.std.specs.Prelude.{Some, slice_set}
use Rattle.std.proofs.lemmas.Option.{get_or_from_slice_get, slice_get-get_or, slice_get_within}
use Rattle.pass_walk.specs.declared.walker.Walker.{Walker}
use Rattle.pass_walk.specs.declared.walker.Walker.TheVariants as walker
use Rattle.pass_order.proofs.queue.Queue.take.Goals as goal

pub index_mut-requires : goal.index_mut-requires
index_mut-requires g c =
    let (l, at) = c.requires in
    let within = slice_get_within c.args.self.now.walkers.items c.args.place (walker.Living l) at in
    omega (arith, within, c.args.self.now.walkers.ok.0)

pub unreachable-requires : goal.unreachable-requires
unreachable-requires g c =
    let (l, at) = c.requires in
    c.in_default.not-Living l (c.replace.ensures.value ∙ c.index_mut.ensures.value ∙ get_or_from_slice_get c.args.self.now.walkers.items c.args.place (walker.Living l) c.index_mut.result.now at)

pub returns-clause-was : goal.returns-clause-was
returns-clause-was g c =
    let (l, at) = c.requires in
    slice_get-get_or c.args.self.now.walkers.items c.args.place c.index_mut.result.now (slice_get_within c.args.self.now.walkers.items c.args.place (walker.Living l) at)
    ∙ ap (λ (w : Walker _). Some w) (sym c.index_mut.ensures.value ∙ sym c.replace.ensures.value ∙ c.in-Living.is)

pub returns-clause-gone : goal.returns-clause-gone
returns-clause-gone g c = ap (λ (w : Walker _). slice_set c.args.self.now.walkers.items c.args.place w) c.replace.ensures.after
