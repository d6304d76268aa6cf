use Rattle.std.proofs.Common.{◌≡◌, ◌≤◌, ◌+◌, ◌∙◌, ℕ, List, [], ◌∷◌, ◌++◌, ap, arith, subst, sym, sum_by}
use Rattle.pass_trace.specs.TraceLines.{plain_trace}
use Rattle.pass_proc.specs.Ends.{TrailView}
use Rattle.pass_walk.specs.declared.ends.Last.{Last}
use Rattle.pass_turns.specs.Performed.{IsPerformed}
use Rattle.pass_turns.specs.Tasks.{new_task, task_room}
use Rattle.pass_turns.specs.Turners.{AreTasks, TurnerState}
use Rattle.pass_turns.proofs.Crews.{unmade_so}
use Rattle.pass_walk.proofs.LeftLemmas.{left_some}
use Rattle.pass_turns.proofs.Performing.{first_living, first_is, first_are, trails_fit}
use Rattle.pass_turns.proofs.running.perform.Goals as goal

pub unmade-requires : goal.unmade-requires
unmade-requires g c = record { room = (c.requires.room.empty, (let some = left_some (plain_trace c.args.ground.now.plan.now) 1 in omega (arith, some, c.requires.room.fits))) }

pub returns-in_default : goal.returns-in_default
returns-in_default g c =
    let session = g.J.Whose.book.session in
    let places = g.J.Whose.places in
    let lines = c.args.ground.now.plan.now in
    subst (λ (x : List TrailView × Last). IsPerformed session places lines x.0 x.1) (λ i. (sym c.unmade.ensures.trails i, sym c.unmade.ensures.last i))
    (unmade_so session places lines c.args.first (c.lives.ensures.newborn session c.args.first c.between.ensures c.requires.first.1).0 c.requires.first.0)

pub new-requires-2 : goal.new-requires-2
new-requires-2 g c =
    first_is g.row.J.Denot g.J.Whose.book.session c.args.ground.now.plan.now c.lives.ensures.newborn c.args.first c.between.ensures c.requires.first c.first.result c.first.ensures c.new.result

pub into_trails-requires : goal.into_trails-requires
into_trails-requires g c =
    let lines = c.args.ground.now.plan.now in
    let one : TurnerState = new_task lines (first_living g.row.J.Denot g.J.Whose.book.session lines c.lives.ensures.newborn c.args.first c.between.ensures c.requires.first c.first.result c.first.ensures c.new.result) in
    let tasks : c.push_reserved.new.self.items ≡ one ∷ [] = c.push_reserved.ensures.items ∙ ap (λ (ts : List TurnerState). ts ++ c.new-2.result ∷ []) c.in-Ok.ensures.items ∙ ap (λ (t : TurnerState). t ∷ []) c.new-2.ensures in
    let fewer : sum_by task_room c.passes-crew.result.0 ≤ sum_by task_room (one ∷ []) =
    subst (λ (ts : List TurnerState). sum_by task_room c.passes-crew.result.0 ≤ sum_by task_room ts) (c.new-crew.ensures ∙ tasks) c.passes-crew.ensures.room in
    let fit = trails_fit g.row.J.Denot g.J.Whose.book.session lines c.lives.ensures.newborn c.args.first c.between.ensures c.requires.first c.first.result c.first.ensures c.new.result c.passes-crew.result.0 _ fewer c.requires.room.fits in
    record { room = (c.requires.room.empty, fit) }

pub returns : goal.returns
returns g c =
    let lines = c.args.ground.now.plan.now in
    let number : ℕ = g.J.Whose.book.session.start.ceiling + 1 in
    let one : TurnerState = new_task lines (first_living g.row.J.Denot g.J.Whose.book.session lines c.lives.ensures.newborn c.args.first c.between.ensures c.requires.first c.first.result c.first.ensures c.new.result) in
    let tasks : c.push_reserved.new.self.items ≡ one ∷ [] = c.push_reserved.ensures.items ∙ ap (λ (ts : List TurnerState). ts ++ c.new-2.result ∷ []) c.in-Ok.ensures.items ∙ ap (λ (t : TurnerState). t ∷ []) c.new-2.ensures in
    record {
      tasks = c.passes-crew.result.0;
      are = c.passes-crew.ensures.tasks lines number (subst (λ (ts : List TurnerState). AreTasks lines number ts) (sym (c.new-crew.ensures ∙ tasks))
          (first_are g.row.J.Denot g.J.Whose.book.session lines c.lives.ensures.newborn c.args.first c.between.ensures c.requires.first c.first.result c.first.ensures c.new.result));
      known = c.into_trails.ensures.known;
      trails_are = c.into_trails.ensures.trails;
      done = c.passes-crew.ensures.done;
      stuck = c.passes-crew.ensures.stuck;
      failed = c.passes-crew.ensures.failed;
    }
