use Rattle.std.proofs.Common.{◌+◌, length, refl, sym, ap, ◌∙◌, subst}
use Rattle.std.specs.Prelude.{IfOk, slice_set}
use Rattle.pass_pattern.specs.declared.code.Instruction.TheVariants.{Both}
use Rattle.pass_pattern.specs.Patterns.{shape_of, atoms}
use Rattle.pass_pattern.specs.Patterns.Shape.{One, Then, Or, Many}
use Rattle.pass_pattern.specs.Codes.{HasCode, edges_in}
use Rattle.pass_pattern.proofs.Coding.{one_put, then_emitted, either_grown, either_put, many_grown, many_code, many_edges}
use Rattle.pass_pattern.proofs.code.+emit.Goals as goal

pub returns-in_ok-name-in-One-clause-code : goal.returns-in_ok-name-in-One-clause-code
returns-in_ok-name-in-One-clause-code t c =
    let old = c.args.code.now.items in
    let new = c.put.new.code.items in
    subst (λ s. IfOk c.put.result (λ start. HasCode new (length old) s start c.args.next))
    (ap (λ n. One c.in-One.edge n) c.in_ok-name-in-One.ensures ∙ ap shape_of (sym c.in-One.is))
    (one_put c.put.result old new c.in-One.edge c.in_ok-name-in-One.name c.args.next c.put.ensures.place c.put.ensures.code)

pub returns-in_ok-middle-in-Then-clause-code : goal.returns-in_ok-middle-in-Then-clause-code
returns-in_ok-middle-in-Then-clause-code t c =
    let old = c.args.code.now.items in
    let b = c.emit.new.code.items in
    let new = c.emit-in-Then.new.code.items in
    let p = shape_of c.deref-in-Then.result.now in
    let q = shape_of c.deref.result.now in
    subst (λ s. IfOk c.emit-in-Then.result (λ start. HasCode new (length old) s start c.args.next))
    (ap (λ v. Then (shape_of v) q) c.deref-in-Then.ensures ∙ ap (λ v. Then (shape_of c.in-Then.first.value) (shape_of v)) c.deref.ensures ∙ ap shape_of (sym c.in-Then.is))
    (then_emitted c.emit-in-Then.result old b new p q c.in_ok-middle-in-Then.middle c.args.next c.in_ok-middle-in-Then.ensures.grown c.in_ok-middle-in-Then.ensures.code c.emit-in-Then.ensures.grown c.emit-in-Then.ensures.code)

pub returns-in_ok-other-in-Or-clause-grown : goal.returns-in_ok-other-in-Or-clause-grown
returns-in_ok-other-in-Or-clause-grown t c =
    either_grown c.put-in-Or.result c.args.code.now.items c.emit-in-Or.new.code.items c.emit-in-Or-2.new.code.items c.put-in-Or.new.code.items (shape_of c.deref-in-Or.result.now) (shape_of c.deref-in-Or-2.result.now)
    c.in_ok-one-in-Or.one c.in_ok-other-in-Or.other c.args.next c.in_ok-one-in-Or.ensures.grown c.in_ok-one-in-Or.ensures.code c.in_ok-other-in-Or.ensures.grown c.in_ok-other-in-Or.ensures.code c.put-in-Or.ensures.code

pub returns-in_ok-other-in-Or-clause-code : goal.returns-in_ok-other-in-Or-clause-code
returns-in_ok-other-in-Or-clause-code t c =
    let old = c.args.code.now.items in
    let new = c.put-in-Or.new.code.items in
    let p = shape_of c.deref-in-Or.result.now in
    let q = shape_of c.deref-in-Or-2.result.now in
    subst (λ s. IfOk c.put-in-Or.result (λ start. HasCode new (length old) s start c.args.next))
    (ap (λ v. Or (shape_of v) q) c.deref-in-Or.ensures ∙ ap (λ v. Or (shape_of c.in-Or.first.value) (shape_of v)) c.deref-in-Or-2.ensures ∙ ap shape_of (sym c.in-Or.is))
    (either_put c.put-in-Or.result old c.emit-in-Or.new.code.items c.emit-in-Or-2.new.code.items new p q c.in_ok-one-in-Or.one c.in_ok-other-in-Or.other c.args.next
    c.in_ok-one-in-Or.ensures.grown c.in_ok-one-in-Or.ensures.code c.in_ok-other-in-Or.ensures.grown c.in_ok-other-in-Or.ensures.code c.put-in-Or.ensures.place c.put-in-Or.ensures.code)

pub returns-in_ok-start-in-Many-clause-grown : goal.returns-in_ok-start-in-Many-clause-grown
returns-in_ok-start-in-Many-clause-grown t c =
    many_grown c.args.code.now.items c.put-in-Many.new.code.items c.emit-in-Many.new.code.items (Both c.args.next c.args.next) (shape_of c.deref-in-Many.result.now) c.in_ok-place-in-Many.place c.in_ok-start-in-Many.start c.args.next
    c.in_ok-place-in-Many.ensures.place c.in_ok-place-in-Many.ensures.code c.in_ok-start-in-Many.ensures.grown c.in_ok-start-in-Many.ensures.code

pub returns-in_ok-start-in-Many-clause-code : goal.returns-in_ok-start-in-Many-clause-code
returns-in_ok-start-in-Many-clause-code t c =
    let written = slice_set c.emit-in-Many.new.code.items c.in_ok-place-in-Many.place (Both c.in_ok-start-in-Many.start c.args.next) in
    subst (λ s. HasCode written (length c.args.code.now.items) s c.in_ok-place-in-Many.place c.args.next) (ap (λ v. Many (shape_of v)) c.deref-in-Many.ensures ∙ ap shape_of (sym c.in-Many.is))
    (many_code c.args.code.now.items c.put-in-Many.new.code.items c.emit-in-Many.new.code.items (Both c.args.next c.args.next) (shape_of c.deref-in-Many.result.now) c.in_ok-place-in-Many.place c.in_ok-start-in-Many.start c.args.next
    c.in_ok-place-in-Many.ensures.place c.in_ok-place-in-Many.ensures.code c.in_ok-start-in-Many.ensures.grown c.in_ok-start-in-Many.ensures.code)

pub returns-in_ok-start-in-Many-clause-edges : goal.returns-in_ok-start-in-Many-clause-edges
returns-in_ok-start-in-Many-clause-edges t c =
    many_edges c.args.code.now.items c.put-in-Many.new.code.items c.emit-in-Many.new.code.items (Both c.args.next c.args.next) (shape_of c.deref-in-Many.result.now) c.in_ok-place-in-Many.place c.in_ok-start-in-Many.start c.args.next
    c.in_ok-place-in-Many.ensures.place c.in_ok-place-in-Many.ensures.code c.in_ok-start-in-Many.ensures.grown c.in_ok-start-in-Many.ensures.code refl c.in_ok-start-in-Many.ensures.edges
    ∙ ap (λ s. edges_in c.args.code.now.items + atoms s) (ap (λ v. Many (shape_of v)) c.deref-in-Many.ensures ∙ ap shape_of (sym c.in-Many.is))
