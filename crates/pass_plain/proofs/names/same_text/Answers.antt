use Rattle.std.proofs.Common.{◌∙◌}
use Rattle.std.specs.Ordering.{nat_cmp, eq_by_cmp}
use Rattle.std.specs.Cmp.Lexicographic.{slice_cmp, texts_ties}
use Rattle.pass_plain.proofs.names.same_text.Goals as goal

pub returns : goal.returns
returns c =
    c.eq.ensures ∙ texts_ties c.as_bytes.result.now c.as_bytes-2.result.now
    ∙ (λ i. eq_by_cmp (slice_cmp nat_cmp) (c.as_bytes.ensures.bytes i) (c.as_bytes-2.ensures.bytes i))
