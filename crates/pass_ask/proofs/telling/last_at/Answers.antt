use Rattle.std.proofs.Common.{ℕ, ◌≡◌, ◌-◌, ◌∙◌, suc, sym, ap, drop, arith}
use Rattle.pass_ask.specs.Telling.{last_at}
use Rattle.pass_ask.proofs.NamedWords.{here_last}
use Rattle.pass_ask.proofs.telling.last_at.Goals as goal

pub returns-then-word-place-eq64-clause-place : goal.returns-then-word-place-eq64-clause-place
returns-then-word-place-eq64-clause-place c =
    let k : ℕ = c.loop-place.place - 1 in
    let next : suc k ≡ c.loop-place.place = omega (arith, c.loop-place-test.true) in
    sym (here_last c.args.word.now k _ (omega (arith, c.loop-place-test.true, c.loop-place.auto.place)) c.if-word-place-eq64.true
    (ap (λ n. last_at (drop n c.args.word.now)) next ∙ c.loop-place.invariant))
