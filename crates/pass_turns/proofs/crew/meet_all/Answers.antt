use Rattle.std.proofs.Common.{◌≡◌, ◌∙◌, ◌<◌, ◌++◌, ◌∷◌, ℕ, List, All, IsPermutation, ap, arith, length, refl, subst, sum_by, sym}
use Rattle.std.specs.Prelude.{IsNone, Some, slice_get}
use Rattle.std.proofs.lemmas.List.Elements.{All-contains}
use Rattle.std.proofs.lemmas.List.Sorted.{IsPermutation-swap_remove}
use Rattle.std.proofs.lemmas.Option.{slice_get-get_or}
use Rattle.pass_turns.specs.Meetings.{GoesOn, HasMetEnded}
use Rattle.pass_turns.specs.Tasks.{task_room}
use Rattle.pass_turns.specs.Turners.{AreTasks, TurnerState}
use Rattle.pass_turns.proofs.Gathered.{gathered_met, gathered_room, gathered_tasks}
use Rattle.pass_turns.proofs.Meetings.{are_later_same}
use Rattle.pass_turns.proofs.crew.meet_all.Goals as goal

pub meet_each-requires : goal.meet_each-requires
meet_each-requires g c =
    let ts : List TurnerState = c.args.turning.now.items in
    let place : ℕ = c.in-Some.place in
    let one : TurnerState = c.swap_remove-first.result in
    let same = c.as_slice.ensures.value in
    let within = subst (λ (ts : List TurnerState). place < length ts) same c.in-Some.ensures.some.0 in
    let at : slice_get ts place ≡ Some one = slice_get-get_or ts place one within ∙ ap (λ (t : TurnerState). Some t) (sym c.swap_remove-first.ensures.value) in
    c.in-Some.ensures.some.1 one (ap (λ (ts : List TurnerState). slice_get ts place) same ∙ at)

pub push_reserved-requires : goal.push_reserved-requires
push_reserved-requires g c = omega (arith, c.meet_each.ensures.room.0, c.meet_each.ensures.room.1, c.swap_remove-first.ensures.len, c.swap_remove-first.ensures.capacity, c.args.turning.now.ok.1)

pub returns-in-Some-clause-tasks : goal.returns-in-Some-clause-tasks
returns-in-Some-clause-tasks g c lines number are =
    let ts : List TurnerState = c.args.turning.now.items in
    let one : TurnerState = c.swap_remove-first.result in
    let rest : List TurnerState = c.swap_remove-first.new.self.items in
    let within = subst (λ (ts : List TurnerState). c.in-Some.place < length ts) c.as_slice.ensures.value c.in-Some.ensures.some.0 in
    let out : IsPermutation ts (one ∷ rest) =
    subst (λ (us : List TurnerState). IsPermutation ts (one ∷ us)) (sym c.swap_remove-first.ensures.items) (IsPermutation-swap_remove ts c.in-Some.place one within c.swap_remove-first.ensures.value) in
    subst (λ (us : List TurnerState). AreTasks lines number (us ++ c.meet_each-in-Some.new.others.items)) (sym c.push_reserved.ensures.items)
    (gathered_tasks ts c.args.ended.now.items rest c.meet_each.new.others.items c.meet_each-in-Some.new.others.items one c.meet_each.new.first c.meet_each-in-Some.new.first out c.meet_each.ensures.first
    c.meet_each-in-Some.ensures.first c.meet_each.ensures.others c.meet_each-in-Some.ensures.others lines number are)

pub returns-in-Some-clause-room : goal.returns-in-Some-clause-room
returns-in-Some-clause-room g c =
    let ts : List TurnerState = c.args.turning.now.items in
    let one : TurnerState = c.swap_remove-first.result in
    let rest : List TurnerState = c.swap_remove-first.new.self.items in
    let within = subst (λ (ts : List TurnerState). c.in-Some.place < length ts) c.as_slice.ensures.value c.in-Some.ensures.some.0 in
    let out : IsPermutation ts (one ∷ rest) =
    subst (λ (us : List TurnerState). IsPermutation ts (one ∷ us)) (sym c.swap_remove-first.ensures.items) (IsPermutation-swap_remove ts c.in-Some.place one within c.swap_remove-first.ensures.value) in
    subst (λ (us : List TurnerState). sum_by task_room (us ++ c.meet_each-in-Some.new.others.items) ≡ sum_by task_room (ts ++ c.args.ended.now.items)) (sym c.push_reserved.ensures.items)
    (gathered_room ts c.args.ended.now.items rest c.meet_each.new.others.items c.meet_each-in-Some.new.others.items one c.meet_each.new.first c.meet_each-in-Some.new.first out c.meet_each.ensures.first
    c.meet_each-in-Some.ensures.first c.meet_each.ensures.others c.meet_each-in-Some.ensures.others)

pub returns-in-Some-clause-met : goal.returns-in-Some-clause-met
returns-in-Some-clause-met g c t there goes =
    let ts : List TurnerState = c.args.turning.now.items in
    let place : ℕ = c.in-Some.place in
    let one : TurnerState = c.swap_remove-first.result in
    let rest : List TurnerState = c.swap_remove-first.new.self.items in
    let same = c.as_slice.ensures.value in
    let within = subst (λ (ts : List TurnerState). place < length ts) same c.in-Some.ensures.some.0 in
    let at : slice_get ts place ≡ Some one = slice_get-get_or ts place one within ∙ ap (λ (t : TurnerState). Some t) (sym c.swap_remove-first.ensures.value) in
    let lives = (c.in-Some.ensures.some.1 one (ap (λ (ts : List TurnerState). slice_get ts place) same ∙ at)).0 in
    let out : IsPermutation ts (one ∷ rest) =
    subst (λ (us : List TurnerState). IsPermutation ts (one ∷ us)) (sym c.swap_remove-first.ensures.items) (IsPermutation-swap_remove ts place one within c.swap_remove-first.ensures.value) in
    subst (λ (us : List TurnerState). HasMetEnded (us ++ c.meet_each-in-Some.new.others.items)) (sym c.push_reserved.ensures.items)
    (gathered_met ts c.args.ended.now.items rest c.meet_each.new.others.items c.meet_each-in-Some.new.others.items one c.meet_each.new.first c.meet_each-in-Some.new.first out c.meet_each.ensures.first
    c.meet_each-in-Some.ensures.first c.meet_each.ensures.others c.meet_each-in-Some.ensures.others lives c.meet_each.ensures.met c.meet_each-in-Some.ensures.met)

pub returns-in_default-clause-ended : goal.returns-in_default-clause-ended
returns-in_default-clause-ended g c = are_later_same c.args.ended.now.items

pub returns-in_default-clause-met : goal.returns-in_default-clause-met
returns-in_default-clause-met g c t there goes =
    let none = c.first_living.ensures.none (subst IsNone (sym c.in_default.is) refl) in
    absurd (All-contains (λ (u : TurnerState). GoesOn u → ⊥) c.args.turning.now.items t (subst (λ (ts : List TurnerState). All (λ (u : TurnerState). GoesOn u → ⊥) ts) c.as_slice.ensures.value none) there goes)
