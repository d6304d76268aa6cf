use Rattle.std.proofs.Common.{◌≡◌, ◌∙◌, Bool, cond, [], length, sym, ap, subst, arith, ⊎_elim}
use Rattle.std.specs.Prelude.{None, IsSome}
use Rattle.std.specs.Cmp.{unsigned_tied}
use Rattle.std.specs.Ordering.{nat_cmp}
use Rattle.std.specs.BTreeMap.{get, is_at}
use Rattle.std.specs.Map.{lookup}
use Rattle.std.proofs.lemmas.Bool.{cases_lt}
use Rattle.std.proofs.lemmas.List.{nil_from_length}
use Rattle.pass_audit.proofs.doubts.doubt_rows.Goals as goal

pub loop-block-preserved : goal.loop-block-preserved
loop-block-preserved c = λ b out.
    let d = c.in_ok-doubt.ensures b out in
    let was = c.loop-block.invariant b d.0 in
    (was.0, c.in-Some.ensures.updates.0 b ∙ ap (λ (t : Bool). cond t None (get nat_cmp c.loop-block.rest b)) (unsigned_tied c.in-Some.block b ∙ d.1) ∙ was.1)

pub returns : goal.returns
returns c = λ b out.
    let was = c.loop-block.invariant b out in
    let entries = c.loop-block.rest.entries in
    let empty : entries ≡ [] = ⊎_elim (λ some. absurd (cc (subst IsSome c.in_default.is (c.pop_first.ensures.variant.1 some)))) (λ none. nil_from_length entries (omega (arith, none))) (cases_lt 0 (length entries)) in
    (was.0, sym was.1 ∙ ap (lookup (is_at (nat_cmp b))) empty)
