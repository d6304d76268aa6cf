-- The trace of a text makes few objects.
use Rattle.std.proofs.Common.{◌≡◌, ◌∙◌, ◌+◌, ◌<◌, ◌≤◌, ℕ, Bool, true, false, cond, not, ◌&&◌, List, [], ◌∷◌, ◌++◌, length, take, Result, Ok, Err, refl, ap, sym, subst, arith, append_assoc, append-nil, length-append}
use Rattle.std.specs.Prelude.{Option, Some, None, slice_index_or, nat_le}
use Rattle.std.proofs.lemmas.Bool.Decides.{nat_tests}
use Rattle.std.proofs.lemmas.List.Sums.{sum_by_push}
use Rattle.pass_trace.specs.declared.trace.TraceLine.{TraceLine}
use Rattle.pass_trace.specs.declared.trace.TraceReason.{TraceReason}
use Rattle.pass_trace.specs.declared.trace.TraceReason.TheVariants as reason
use Rattle.pass_trace.specs.declared.limits.Scale.{Scale}
use Rattle.pass_trace.specs.Limits.{most_created}
use Rattle.pass_trace.specs.Lines.{lines_of}
use Rattle.pass_trace.specs.Rules.{is_there, may_call, creates, count_created}
use Rattle.pass_trace.specs.Traces.{text_line_of, said, lines_from, reason_behind, fault_at}
use Rattle.pass_trace.proofs.LinesLemmas.{lines_from-push}
use Rattle.pass_trace.proofs.Wider.{same_trace}
use Rattle.pass_trace.specs.Lawful.{ObjectsLaw}

pub place_of_front : (seen rest : List (List ℕ)) (text : List ℕ) → slice_index_or (seen ++ text ∷ rest) (length seen) [] ≡ text
place_of_front [] rest text = refl
place_of_front (x ∷ seen) rest text = place_of_front seen rest text

pub take_front : (seen rest : List (List ℕ)) → take (length seen) (seen ++ rest) ≡ seen
take_front [] rest = refl
take_front (x ∷ seen) rest = ap (λ xs. x ∷ xs) (take_front seen rest)

module _ (scale : Scale) where
  abbrev pub AreFine : List (List ℕ) → Type 0
  AreFine texts = (k : ℕ) → k < length texts → fault_at scale texts k ≡ None

  -- the line that stands first behind the others has no fault
  pub at_front : (seen rest : List (List ℕ)) (text : List ℕ) → AreFine (seen ++ text ∷ rest) → reason_behind scale (lines_from scale 1 seen) (text_line_of scale (length seen + 1) text) ≡ None
  at_front seen rest text fine =
      ap (λ t. reason_behind scale (lines_from scale 1 seen) (text_line_of scale (length seen + 1) t)) (sym (place_of_front seen rest text))
      ∙ ap (λ ts. reason_behind scale (lines_from scale 1 ts) (text_line_of scale (length seen + 1) (slice_index_or (seen ++ text ∷ rest) (length seen) []))) (sym (take_front seen (text ∷ rest)))
      ∙ fine (length seen) (let size = length-append seen (text ∷ rest) in omega (arith, size))

  -- a line that makes an object stands behind fewer than as many as there may be
  created_less : (stands created : Bool) (count : ℕ) → cond (not stands) (Some reason.Process) (cond (created && nat_le (most_created scale) count) (Some reason.Many) None) ≡ None
      → count ≤ (most_created scale) → count + cond created 1 0 ≤ (most_created scale)
  created_less false created count none few = absurd (cc)
  created_less true false count none few = omega (arith, few)
  created_less true true count none few = let z = below (nat_le (most_created scale) count) refl none in omega (arith, z)
    where
      below : (b : Bool) → nat_le (most_created scale) count ≡ b → cond b (Some reason.Many) None ≡ None → count < (most_created scale)
      below true is none = absurd (cc)
      below false is none = grind (arith, nat_tests)

  created_next : (earlier : List TraceLine) (read : Result (Option TraceLine) TraceReason) → reason_behind scale earlier read ≡ None → count_created earlier ≤ (most_created scale) → count_created (earlier ++ said read) ≤ (most_created scale)
  created_next earlier (Ok (Some l)) none few =
      let more : count_created (earlier ++ l ∷ []) ≡ count_created earlier + cond (creates l.command) 1 0 = sum_by_push (λ (x : TraceLine). cond (creates x.command) 1 0) earlier l in
      let less = created_less (is_there earlier l.process && may_call earlier l.process l.command) (creates l.command) (count_created earlier) none few in
      omega (arith, more, less)
  created_next earlier (Ok None) none few = subst (λ (ls : List TraceLine). count_created ls ≤ (most_created scale)) (sym (append-nil earlier)) few
  created_next earlier (Err why) none few = absurd (cc)

  created_from : (seen rest : List (List ℕ)) → AreFine (seen ++ rest) → count_created (lines_from scale 1 seen) ≤ (most_created scale) → count_created (lines_from scale 1 (seen ++ rest)) ≤ (most_created scale)
  created_from seen [] fine few = subst (λ (ts : List (List ℕ)). count_created (lines_from scale 1 ts) ≤ (most_created scale)) (sym (append-nil seen)) few
  created_from seen (text ∷ rest) fine few =
      let whole : (seen ++ text ∷ []) ++ rest ≡ seen ++ text ∷ rest = append_assoc seen (text ∷ []) rest in
      let grown : lines_from scale 1 (seen ++ text ∷ []) ≡ lines_from scale 1 seen ++ said (text_line_of scale (length seen + 1) text) =
      lines_from-push scale 1 seen text ∙ ap (λ n. lines_from scale 1 seen ++ said (text_line_of scale n text)) (let z : 1 + length seen ≡ length seen + 1 = omega arith in z) in
      let next = created_next (lines_from scale 1 seen) (text_line_of scale (length seen + 1) text) (at_front seen rest text fine) few in
      subst (λ (ts : List (List ℕ)). count_created (lines_from scale 1 ts) ≤ (most_created scale)) whole
      (created_from (seen ++ text ∷ []) rest (subst AreFine (sym whole) fine) (subst (λ (ls : List TraceLine). count_created ls ≤ (most_created scale)) (sym grown) next))

pub objects_law : ObjectsLaw
objects_law scale bytes fine = subst (λ (ls : List TraceLine). count_created ls ≤ most_created scale) (same_trace scale bytes fine) (created_from scale [] (lines_of bytes) fine (omega arith))
