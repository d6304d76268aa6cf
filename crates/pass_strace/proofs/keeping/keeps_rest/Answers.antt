use Rattle.std.proofs.Common.{ap, sym, ◌∙◌, ◌≡◌, inl, true, false}
use Rattle.pass_strace.specs.Calls.{is_kept_rest}
use Rattle.pass_strace.proofs.keeping.keeps_rest.Goals as goal
use Rattle.pass_strace.proofs.keeping.keeps_rest.Goals.{then-not-is_kept_rest, else-not-is_kept_rest}

pub returns-then-has_line : goal.returns-then-has_line
returns-then-has_line c told kept = elim c.if-not-is_kept_rest.branch [
  | then-not-is_kept_rest w ↦
      let z : true ≡ false = sym kept ∙ ap is_kept_rest (sym c.line_at.ensures) ∙ sym c.is_kept_rest.ensures ∙ w.if-not-is_kept_rest.true in
      absurd (cc)
  | else-not-is_kept_rest w ↦ inl (w.has_line.ensures (sym w.value-is ∙ told))
]
