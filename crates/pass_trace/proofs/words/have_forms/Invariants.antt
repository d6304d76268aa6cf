use Rattle.std.proofs.Common.{◌≡◌, map, drop}
use Rattle.pass_trace.specs.Words.{have_forms}
use Rattle.pass_trace.proofs.words.have_forms.Given as goal

abbrev pub invariant-loop-form : goal.invariant-loop-form
invariant-loop-form l =
    have_forms (drop l.form-index l.forms) (map (λ w. w.now) l.left) ≡ have_forms l.forms (map (λ w. w.now) l.words)
