use Rattle.std.proofs.Common.{length, ap, refl, ◌∙◌, arith, length-drop}
use Rattle.std.proofs.lemmas.List.{take_rest}
use Rattle.pass_status.proofs.Pieces.{is_part}
use Rattle.pass_status.proofs.writing.write_text.Goals as goal
use Rattle.pass_entry.proofs.Variants.{err_always}
use Rattle.pass_entry.proofs.Places.{one_piece_more}

pub pieces-preserved : goal.pieces-preserved
pieces-preserved g c = record {
  within = omega (arith, c.in_ok-count.ensures.within, ap length (take_rest c.args.text.now c.pieces.written), length-drop c.pieces.written c.args.text.now);
  taken = λ tells. one_piece_more _ _ _ c.args.text.now c.pieces.written c.in_ok-count.count (c.pieces.invariant.taken tells) (c.in_ok-count.ensures.taken tells);
  same = (c.in_ok-count.ensures.faults.ok refl).0 ∙ c.pieces.invariant.same;
  untouched = λ none. absurd (omega (arith, none));
  goes = λ _ end. (c.in_ok-count.ensures.faults.ok refl).1 (c.pieces.invariant.same ∙ end);
}

pub returns-in_err-count-clause-part : goal.returns-in_err-count-clause-part
returns-in_err-count-clause-part g c =
    err_always c.from_residual.result _ (λ tells. is_part c.args.text.now _ _ c.pieces.written (c.in_err-count.ensures.err tells ∙ c.pieces.invariant.taken tells))
