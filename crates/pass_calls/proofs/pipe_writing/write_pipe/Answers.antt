use Rattle.std.proofs.Common.{◌≡◌, ◌∙◌, sym, subst, ap}
use Rattle.std.specs.Prelude.{Some}
use Rattle.std.specs.FinMap as finite_map
use Rattle.pass_plain.specs.declared.request.Request.TheVariants as requests
use Rattle.pass_flow.specs.Flows.{ObjectView}
use Rattle.pass_answer.specs.Answers.{Answers}
use Rattle.pass_answer.proofs.Waiting.{same_way}
use Rattle.pass_calls.proofs.Begun.{since}
use Rattle.pass_calls.proofs.pipe_writing.write_pipe.Goals as goal

pub go_on-requires-clause-object : goal.go_on-requires-clause-object
go_on-requires-clause-object g c = λ fd bytes is d at.
    let a = c.args in let q = c.requires in
    let goes = sym c.goes_on.ensures ∙ c.if-goes_on.true in
    ap (λ (v : ObjectView). v.what) c.in_ok-reserve_source.ensures.same
    ∙ (q.object d (subst (λ m. finite_map.get a.proc.now.state.descriptors m ≡ Some d) (same_way a.proc.now.way a.fd fd a.bytes.now bytes goes is) at)).1

pub returns-clause-call : goal.returns-clause-call
returns-clause-call g c =
    let a = c.args in
    let copy = c.in_ok-copy.copy in
    let begun = c.in_ok-begin_write.ensures.begun in
    let w = c.go_on-2 in
    subst (λ bs. Answers g.J.Whose.book.session g.J.Whose.places a.proc.now w.new.proc (requests.Write a.fd bs) w.result) c.in_ok-copy.ensures.cases
    (since g.J.Whose.book.session g.J.Whose.places a.proc.now c.begin_write.new.proc w.new.proc a.fd copy begun w.result w.ensures.memory (w.ensures.call a.fd copy begun.way))
