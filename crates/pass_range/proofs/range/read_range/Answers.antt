use Rattle.std.proofs.Common.{ℕ, ◌≡◌, ◌∙◌, ◌-◌, take, drop, arith, length-take, length-drop, length, replicate, ap, refl, rules}
use Rattle.pass_range.specs.Places.{found_there}
use Rattle.pass_range.proofs.Reading.{read_filled, failed_call}
use Rattle.pass_range.proofs.range.read_range.Goals as goal

pub returns-in_err-count-clause-call : goal.returns-in_err-count-clause-call
returns-in_err-count-clause-call g c = failed_call c.read.result _ c.from_residual.result c.read.ensures.call c.in_err-count.was (search rules)

pub returns-clause-bytes : goal.returns-clause-bytes
returns-clause-bytes g c = λ tells.
    let store = (g.D.Disk.view c.args.disk.now).seen.store in
    let into = c.read.new.into in
    let count = c.in_ok-count.count in
    let rest : length (take (length into - count) (drop count into)) ≡ length into - count = omega (arith, length-take (length into - count) (drop count into), length-drop count into) in
    read_filled _ (length c.args.into.now) count store c.args.into.now into c.fill.new.self (c.in_ok-count.ensures.count tells) (c.in_ok-count.ensures.bytes tells) refl
    (c.fill.ensures.after (λ y h. h) ∙ ap (λ (k : ℕ). replicate k 0) rest)
    ∙ ap (λ (at : ℕ). found_there at (length c.args.into.now) store) c.place.ensures
