use Rattle.std.proofs.Common.{◌≡◌, ◌+◌, ◌++◌, ◌∙◌, suc, ap, arith, sym, string_bytes}
use Rattle.std.proofs.lemmas.List.{append_assoc}
use Rattle.pass_report.specs.Answered.{line_at, lines_to}
use Rattle.pass_report.proofs.answers.written.Goals as goal

pub loop-place-preserved : goal.loop-place-preserved
loop-place-preserved c =
    let history = c.args.history.now in
    let nodes = c.args.nodes.now in
    let answered = c.args.answered.now in
    let front = lines_to history nodes answered c.args.first in
    let line = line_at history nodes answered c.loop-place.place in
    ap (λ text. front ++ text) c.in_ok-write_at.ensures
    ∙ sym (append_assoc front (string_bytes c.loop-place.text) line)
    ∙ ap (λ text. text ++ line) c.loop-place.invariant
    ∙ ap (lines_to history nodes answered) (let z : suc c.loop-place.place ≡ c.loop-place.place + 1 = omega arith in z)
