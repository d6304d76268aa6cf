use Rattle.std.proofs.Common.{rules, ◌≡◌, ◌∙◌, ◌+◌, ◌-◌, ◌++◌, ◌∷◌, [], length, take, drop, arith}
use Rattle.pass_leaf.proofs.Appending.{batch_on}
use Rattle.pass_leaf.proofs.stock.add_frame.Goals as goal

pub returns-then-end-gt0-clause-batch : goal.returns-then-end-gt0-clause-batch
returns-then-end-gt0-clause-batch c = λ gathered leaf before is fits.
    let old = c.args.frames.now.items in
    let len : c.len-end.result ≡ length old = search rules in
    let items : c.extend_from_slice.new.self.items ≡ old ++ c.args.frame.now = search rules in
    batch_on leaf c.args.frame.now is fits old c.open_gate.new.frames.items gathered before (λ none. absurd (omega (arith, none, len, c.if-end-gt0.true)))
    (λ some. c.open_gate.ensures ∙ (λ i. take (len i - 1) (items i) ++ (1 ∷ []) ++ drop (len i - 1 + 1) (items i)))

pub returns-else-end-gt0-clause-batch : goal.returns-else-end-gt0-clause-batch
returns-else-end-gt0-clause-batch c = λ gathered leaf before is fits.
    let old = c.args.frames.now.items in
    let len : c.len-end.result ≡ length old = search rules in
    let items : c.extend_from_slice.new.self.items ≡ old ++ c.args.frame.now = search rules in
    batch_on leaf c.args.frame.now is fits old c.extend_from_slice.new.self.items gathered before (λ none. items) (λ some. absurd (omega (arith, some, len, c.if-end-gt0.false)))
