-- The text of lines that stand in front of others.
use Rattle.std.proofs.Common.{ℕ, ◌≡◌, ◌∙◌, ◌++◌, List, length, take, ap}
use Rattle.std.proofs.Math.Seq.{take-append_seam}
use Rattle.std.proofs.lemmas.Grind.{flat_map-append}
use Rattle.pass_trace.specs.Texts.{text_of}
use Rattle.pass_trace.specs.declared.trace.TraceLine.{TraceLine}
use Rattle.pass_strace.specs.Facts.{BeginsWith, fact_lines}
use Rattle.pass_strace.specs.declared.facts.Fact.{Fact}

pub begins_with : (facts : List Fact) (rest : List TraceLine) (text : List ℕ) → text ≡ text_of (fact_lines facts ++ rest) → BeginsWith facts text
begins_with facts rest text is =
    ap (take (length (text_of (fact_lines facts)))) (is ∙ flat_map-append _ (fact_lines facts) rest) ∙ take-append_seam (text_of (fact_lines facts)) (text_of rest)
