use Rattle.std.proofs.Common.{ap, sym, ◌∙◌, ◌++◌, List, ℕ, take, append_assoc}
use Rattle.pass_ask.proofs.Streams.{given_parts}
use Rattle.pass_ask.proofs.questions.read_piece.Goals as goal

pub returns-clause-moved : goal.returns-clause-moved
returns-clause-moved g c = λ told.
    let left = g.S.Source.left c.args.source.now in
    let rest = g.S.Source.left c.read.new.self in
    let old = c.args.text.now.items in
    let count = c.in_ok-count.count in
    let e = c.in_ok-count.ensures in
    ap (λ (l : List ℕ). old ++ l) (given_parts left rest _ c.read.new.into count (e.available told) (e.moved told) (e.rest told))
    ∙ sym (append_assoc old (take count c.read.new.into) rest) ∙ ap (λ (l : List ℕ). l ++ rest) (sym c.in_ok-extend_from_slice.ensures.items)
