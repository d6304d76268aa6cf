use Rattle.std.proofs.Common.{◌≡◌, ◌∙◌, List, [], ◌∷◌, ◌++◌, ap, arith, length, map, refl, sym}
use Rattle.std.specs.Prelude.{Some}
use Rattle.std.proofs.lemmas.List.{length-map, map-append}
use Rattle.std.proofs.lemmas.List.Folds.{map_fixed}
use Rattle.std.proofs.lemmas.Option.{slice_get-get_or}
use Rattle.std.proofs.lemmas.Iterator.Adapters.{YieldsList-from_vec}
use Rattle.std.proofs.lemmas.Iterator.Consumers.{YieldsList-end, YieldsList-turn}
use Rattle.pass_proc.specs.Ends.{TrailView}
use Rattle.pass_walk.specs.declared.walker.Walker.{Walker}
use Rattle.pass_walk.specs.Runs.{trail_of}
use Rattle.pass_walk.specs.Walkers.{member_of}
use Rattle.pass_order.proofs.queue.Queue.into_trails.Goals as goal

pub loop-walker-init : goal.loop-walker-init
loop-walker-init g c = record { items = c.requires.room.0; room = omega arith }

pub into_trail-requires : goal.into_trail-requires
into_trail-requires g c =
    let turn = YieldsList-turn (YieldsList-from_vec c.args.self.walkers.items (cc) (cc)) c.loop-walker.yielded c.loop-walker.walker-iterator c.loop-walker.yielded_by c.next.result c.next.new.self c.in-Some.walker c.in-Some.is c.next.ensures.steps in
    c.requires.each (length c.loop-walker.yielded) c.in-Some.walker
    (slice_get-get_or c.args.self.walkers.items (length c.loop-walker.yielded) c.in-Some.walker turn.0 ∙ ap (λ (w : Walker _). Some w) (sym turn.1))

pub push_reserved-requires : goal.push_reserved-requires
push_reserved-requires g c =
    let turn = YieldsList-turn (YieldsList-from_vec c.args.self.walkers.items (cc) (cc)) c.loop-walker.yielded c.loop-walker.walker-iterator c.loop-walker.yielded_by c.next.result c.next.new.self c.in-Some.walker c.in-Some.is c.next.ensures.steps in
    let size = ap length c.loop-walker.invariant.items in
    let seen = length-map c.loop-walker.yielded (λ (w : Walker _). trail_of (member_of w)) in
    omega (arith, turn.0, size, seen, c.loop-walker.invariant.room, c.requires.room.1, c.args.self.walkers.ok.0, c.loop-walker.trails.ok.0)

pub loop-walker-preserved : goal.loop-walker-preserved
loop-walker-preserved g c = record {
  items = c.push_reserved.ensures.items ∙ ap (λ (ts : List TrailView). ts ++ c.into_trail.result ∷ []) c.loop-walker.invariant.items
      ∙ ap (λ (t : TrailView). map (λ (w : Walker _). trail_of (member_of w)) c.loop-walker.yielded ++ t ∷ []) c.into_trail.ensures
      ∙ sym (map-append (λ (w : Walker _). trail_of (member_of w)) c.loop-walker.yielded (c.in-Some.walker ∷ []));
  room = omega arith;
}

pub returns : goal.returns
returns g c =
    let ended = YieldsList-end (YieldsList-from_vec c.args.self.walkers.items (cc) (cc)) c.loop-walker.yielded c.loop-walker.walker-iterator c.loop-walker.yielded_by c.next.result c.next.new.self c.in-None.is c.next.ensures.steps in
    let whole : c.loop-walker.yielded ≡ c.args.self.walkers.items = sym (map_fixed (λ (w : Walker _). w) c.loop-walker.yielded (λ k d low. refl)) ∙ ended.0 in
    c.loop-walker.invariant.items ∙ ap (λ (ws : List (Walker _)). map (λ w. trail_of (member_of w)) ws) whole
