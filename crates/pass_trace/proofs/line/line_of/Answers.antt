use Rattle.std.proofs.Common.{◌≡◌, ◌<◌, ℕ, List, [], ◌∷◌, length, Err, refl, arith}
use Rattle.std.proofs.lemmas.List.{length-map}
use Rattle.pass_trace.specs.declared.trace.TraceReason.TheVariants as reason
use Rattle.pass_trace.specs.declared.limits.Scale.{Scale}
use Rattle.pass_trace.specs.Traces.{line_of}
use Rattle.pass_trace.proofs.line.line_of.Goals as goal

line_of_short : (scale : Scale) (number : ℕ) (words : List (List ℕ)) → length words < 2 → line_of scale number words ≡ Err reason.Form
unfolding line_of
line_of_short scale number [] h = refl
line_of_short scale number (process ∷ []) h = refl
line_of_short scale number (process ∷ call ∷ words) h = absurd (omega arith)

pub returns-in_default : goal.returns-in_default
returns-in_default c = line_of_short c.args.scale c.args.number _ (omega (arith, c.in_default.len_below, length-map c.args.words.now (λ w. w.now)))
