use Rattle.std.proofs.Common.{◌≡◌, ◌∙◌, ◌<◌, ◌++◌, ◌∷◌, [], ℕ, List, take, length, sym, ap, subst, arith, rules}
use Rattle.std.proofs.lemmas.List.{take_more, take_all}
use Rattle.pass_entry.specs.declared.record.Record.{Record}
use Rattle.pass_audit.specs.Courses.{own_steps, AreFresh}
use Rattle.pass_audit.proofs.Coursing.{fresh_courses, none_fresh}
use Rattle.pass_audit.proofs.auditing.courses_of.Goals as goal

pub loop-one-init : goal.loop-one-init
loop-one-init c = none_fresh c.new-courses.result (search rules)

pub loop-one-preserved : goal.loop-one-preserved
loop-one-preserved c =
    let list : List Record = c.args.records.now in
    let i : ℕ = c.loop-one.one-index in
    let one : Record = c.one-item.result in
    let less : i < length list = omega (arith, c.loop-one-test.true) in
    subst (λ (l : List Record). AreFresh (λ file. own_steps file l) c.note.new.courses) (sym (take_more list i one less ∙ ap (λ (r : Record). take i list ++ r ∷ []) (sym c.one-item.is)))
    (c.in_ok-note.ensures (take i list) c.loop-one.invariant)

pub returns : goal.returns
returns c =
    let list : List Record = c.args.records.now in
    let all : take c.loop-one.one-index list ≡ list = take_all c.loop-one.one-index list (omega (arith, c.loop-one-test.false)) in
    fresh_courses list c.loop-one.courses (subst (λ (l : List Record). AreFresh (λ file. own_steps file l) c.loop-one.courses) all c.loop-one.invariant)
