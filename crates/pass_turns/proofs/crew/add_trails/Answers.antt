use Rattle.std.proofs.Common.{◌≡◌, ◌∙◌, List, [], ◌∷◌, ◌++◌, ap, append-nil, append_assoc, arith, length, map, refl, subst, sym}
use Rattle.std.specs.List.{All}
use Rattle.std.proofs.lemmas.List.{length-append, length-map, map-append}
use Rattle.std.proofs.lemmas.List.Elements.{All-append, All-cons, All-nil}
use Rattle.std.proofs.lemmas.List.Folds.{map_fixed}
use Rattle.std.proofs.lemmas.Iterator.Adapters.{YieldsList-from_vec}
use Rattle.std.proofs.lemmas.Iterator.Consumers.{YieldsList-end, YieldsList-turn}
use Rattle.pass_proc.specs.Ends.{TrailView}
use Rattle.pass_turns.specs.Turners.{IsKnown, TurnerState, task_trail}
use Rattle.pass_turns.proofs.crew.add_trails.Goals as goal

pub loop-task-init : goal.loop-task-init
loop-task-init g c = record {
  items = sym (append-nil c.args.trails.now.items);
  known = All-nil (IsKnown g.J.Whose.book.session g.J.Whose.places);
  room = omega arith;
}

pub push_reserved-requires : goal.push_reserved-requires
push_reserved-requires g c =
    let before : List TrailView = c.args.trails.now.items in
    let turn = YieldsList-turn (YieldsList-from_vec c.args.tasks.items (cc) (cc)) c.loop-task.yielded c.loop-task.task-iterator c.loop-task.yielded_by c.next.result c.next.new.self c.in-Some.task c.in-Some.is c.next.ensures.steps in
    let size = ap length c.loop-task.invariant.items in
    let both = length-append before (map task_trail c.loop-task.yielded) in
    let seen = length-map c.loop-task.yielded task_trail in
    omega (arith, turn.0, size, both, seen, c.loop-task.invariant.room, c.requires.room, c.args.tasks.ok.0, c.args.trails.now.ok.0, c.loop-task.trails.ok.0)

pub loop-task-preserved : goal.loop-task-preserved
loop-task-preserved g c =
    let inv = c.loop-task.invariant in
    let before : List TrailView = c.args.trails.now.items in
    let task : TurnerState = c.in-Some.task in
    let knows = IsKnown g.J.Whose.book.session g.J.Whose.places in
    record {
      items = c.push_reserved.ensures.items ∙ ap (λ (ts : List TrailView). ts ++ c.into_trail.result ∷ []) inv.items ∙ append_assoc before (map task_trail c.loop-task.yielded) (c.into_trail.result ∷ [])
          ∙ ap (λ (t : TrailView). before ++ (map task_trail c.loop-task.yielded ++ t ∷ [])) c.into_trail.ensures.trail
          ∙ ap (λ (ts : List TrailView). before ++ ts) (sym (map-append task_trail c.loop-task.yielded (task ∷ [])));
      known = All-append knows c.loop-task.yielded (task ∷ []) inv.known (All-cons knows task [] c.into_trail.ensures.known (All-nil knows));
      room = omega arith;
    }

pub returns : goal.returns
returns g c =
    let ended = YieldsList-end (YieldsList-from_vec c.args.tasks.items (cc) (cc)) c.loop-task.yielded c.loop-task.task-iterator c.loop-task.yielded_by c.next.result c.next.new.self c.in-None.is c.next.ensures.steps in
    let whole : c.loop-task.yielded ≡ c.args.tasks.items = sym (map_fixed (λ (t : TurnerState). t) c.loop-task.yielded (λ k d low. refl)) ∙ ended.0 in
    record {
      trails = c.loop-task.invariant.items ∙ ap (λ (ts : List TurnerState). c.args.trails.now.items ++ map task_trail ts) whole;
      known = subst (λ (ts : List TurnerState). All (IsKnown g.J.Whose.book.session g.J.Whose.places) ts) whole c.loop-task.invariant.known;
      room = c.loop-task.invariant.room;
    }
