-- The text that is written of lines that may follow each other is one of a trace, and says them again.
use Rattle.std.proofs.Common.{◌≡◌, ℕ, ◌+◌, ◌<◌, ◌≤◌, Bool, true, false, not, ◌&&◌, ◌||◌, cond, eqb, leb, ltb, List, [], ◌∷◌, ◌++◌, length, get_or, fold, map, Option, Some, None, Result, Ok, Err, refl, sym, ap, ◌∙◌, subst, inl, inr, arith, append_assoc, append-nil, length-append}
use Rattle.std.specs.List.{list_all, list_any, onto_first}
use Rattle.std.proofs.Math.Seq.{take-append_seam, get_or-append_seam}
use Rattle.std.proofs.lemmas.Bool.{and_parts, cases_eq, ne_eqb, leb-true, ltb-false}
use Rattle.pass_entry.specs.Texts.{is_line_byte}
use Rattle.pass_trace.specs.declared.trace.Command.{Command}
use Rattle.pass_trace.specs.declared.trace.Command.TheVariants.{Fork, Wait, Await}
use Rattle.pass_trace.specs.declared.trace.TraceLine.{TraceLine}
use Rattle.pass_trace.specs.declared.trace.TraceReason.{TraceReason}
use Rattle.pass_trace.specs.declared.trace.TraceReason.TheVariants as reason
use Rattle.pass_trace.specs.declared.limits.Scale.{Scale}
use Rattle.pass_trace.specs.declared.limits.Scale.TheVariants.{Long}
use Rattle.pass_trace.specs.Limits.{most_lines, most_created}
use Rattle.pass_trace.specs.Lines.{lines_of, words_of}
use Rattle.pass_trace.specs.Ranges.{IsGoodLine}
use Rattle.pass_trace.specs.Rules.{is_fork_of, is_there, may_call, creates, count_created, rule_of, LinesFollow}
use Rattle.pass_trace.specs.Commands.{◌>>=◌}
use Rattle.pass_trace.specs.Traces.{line_of, text_line_of, said, lines_from, reason_behind, fault_at, trace_of, IsTraceText}
use Rattle.pass_trace.specs.Texts.{line_text, text_of, renumbered_from}
use Rattle.pass_trace.proofs.LinesLemmas.{lines_from-push}
use Rattle.pass_trace.proofs.Good.{line_wide, text_line_is}
use Rattle.pass_trace.proofs.Wider.{same_trace}
use Rattle.pass_trace.proofs.Written.{renumbered, text_line_of-text, is_printable-text}

module _ (scale : Scale) where
  -- no line has a fault, where the first has this number and stands behind these lines of the trace
  abbrev Sound : ℕ → List TraceLine → List (List ℕ) → Type 0
  Sound number earlier [] = Unit {0}
  Sound number earlier (text ∷ texts) = (reason_behind scale earlier (text_line_of scale number text) ≡ None) × Sound (number + 1) (earlier ++ said (text_line_of scale number text)) texts

  abbrev NoFault : List (List ℕ) → Type 0
  NoFault texts = (k : ℕ) → k < length texts → fault_at scale texts k ≡ None

  -- what stands at the place behind some lines
  fault_at-seam : (before : List (List ℕ)) (text : List ℕ) (texts : List (List ℕ)) → fault_at scale (before ++ text ∷ texts) (length before) ≡ reason_behind scale (lines_from scale 1 before) (text_line_of scale (1 + length before) text)
  fault_at-seam before text texts =
      let next : length before + 1 ≡ 1 + length before = omega arith in
      ap (λ b. reason_behind scale (lines_from scale 1 b) (text_line_of scale (length before + 1) (get_or (before ++ text ∷ texts) (length before) []))) (take-append_seam before (text ∷ texts))
      ∙ ap (λ t. reason_behind scale (lines_from scale 1 before) (text_line_of scale (length before + 1) t)) (get_or-append_seam before text texts [])
      ∙ ap (λ n. reason_behind scale (lines_from scale 1 before) (text_line_of scale n text)) next

  Sound-at : (number n : ℕ) (earlier e : List TraceLine) (texts : List (List ℕ)) → number ≡ n → earlier ≡ e → Sound n e texts → Sound number earlier texts
  Sound-at number n earlier e texts same lines s =
      subst (λ m. Sound m earlier texts) (sym same) (subst (λ ls. Sound n ls texts) (sym lines) s)

  Sound-from : (before texts : List (List ℕ)) → NoFault (before ++ texts) → Sound (1 + length before) (lines_from scale 1 before) texts
  Sound-from before [] h = tt
  Sound-from before (text ∷ texts) h =
      let whole = append_assoc before (text ∷ []) texts in
      let here = sym (fault_at-seam before text texts) ∙ h (length before) (omega (arith, length-append before (text ∷ texts))) in
      let next = Sound-from (before ++ text ∷ []) texts (subst NoFault (sym whole) h) in
      let size = length-append before (text ∷ []) in
      (here, Sound-at ((1 + length before) + 1) (1 + length (before ++ text ∷ [])) (lines_from scale 1 before ++ said (text_line_of scale (1 + length before) text)) (lines_from scale 1 (before ++ text ∷ [])) texts (omega (arith, size)) (sym (lines_from-push scale 1 before text)) next)

  NoFault-from : (before texts : List (List ℕ)) → Sound (1 + length before) (lines_from scale 1 before) texts → (k : ℕ) → length before ≤ k → k < length (before ++ texts) → fault_at scale (before ++ texts) k ≡ None
  NoFault-from before [] s k from to = absurd (omega (arith, length-append before [], from, to))
  NoFault-from before (text ∷ texts) s k from to =
      elim (cases_eq k (length before)) [
        | inl here ↦ ap (fault_at scale (before ++ text ∷ texts)) here ∙ fault_at-seam before text texts ∙ s.0
        | inr other ↦
            let whole = append_assoc before (text ∷ []) texts in
            let size = length-append before (text ∷ []) in
            let rest = Sound-at (1 + length (before ++ text ∷ [])) ((1 + length before) + 1) (lines_from scale 1 (before ++ text ∷ [])) (lines_from scale 1 before ++ said (text_line_of scale (1 + length before) text)) texts (omega (arith, size)) (lines_from-push scale 1 before text) s.1 in
            let at = NoFault-from (before ++ text ∷ []) texts rest k (omega (arith, size, from, other)) (subst (λ ts. k < length ts) (sym whole) to) in
            subst (λ ts. fault_at scale ts k ≡ None) whole at
      ]

  -- the lines that texts without a fault say may follow each other
  LinesFollow-step : (earlier : List TraceLine) (read : Result (Option TraceLine) TraceReason) (rest : List TraceLine) → ((line : TraceLine) → read ≡ Ok (Some line) → IsGoodLine scale line) → reason_behind scale earlier read ≡ None → LinesFollow scale (earlier ++ said read) rest → LinesFollow scale earlier (said read ++ rest)
  LinesFollow-step earlier (Ok (Some line)) rest good fits f = (good line refl, fits, f)
  LinesFollow-step earlier (Ok None) rest good fits f = subst (λ e. LinesFollow scale e rest) (append-nil earlier) f
  LinesFollow-step earlier (Err reason) rest good fits f = cc

  LinesFollow-from : (number : ℕ) (earlier : List TraceLine) (texts : List (List ℕ)) → Sound number earlier texts → LinesFollow scale earlier (lines_from scale number texts)
  LinesFollow-from number earlier [] s = tt
  LinesFollow-from number earlier (text ∷ texts) s =
      LinesFollow-step earlier (text_line_of scale number text) (lines_from scale (number + 1) texts) (text_line_is scale number text) s.0 (LinesFollow-from (number + 1) (earlier ++ said (text_line_of scale number text)) texts s.1)

  -- a text has no more lines than are allowed
  within_cases : (a b c : Bool) (read : Result TraceLine TraceReason) (earlier : List TraceLine) → reason_behind scale earlier (cond a (Err reason.Many) (cond b (Err reason.Length) (cond c (Ok None) (read >>= λ l. Ok (Some l))))) ≡ None → a ≡ false
  within_cases true b c read earlier h = cc
  within_cases false b c read earlier h = refl

  number_within : (number : ℕ) (earlier : List TraceLine) (text : List ℕ) → reason_behind scale earlier (text_line_of scale number text) ≡ None → number ≤ (most_lines scale)
  unfolding text_line_of
  number_within number earlier text h =
      let fits = within_cases (ltb (most_lines scale) number) _ _ (line_of scale number (words_of text)) earlier h in
      omega (arith, ltb-false (most_lines scale) number fits)

  texts_within : (number : ℕ) (earlier : List TraceLine) (texts : List (List ℕ)) → number ≤ (most_lines scale + 1) → Sound number earlier texts → number + length texts ≤ (most_lines scale + 1)
  texts_within number earlier [] h s = omega arith
  texts_within number earlier (text ∷ texts) h s =
      let here = number_within number earlier text s.0 in
      let rest = texts_within (number + 1) (earlier ++ said (text_line_of scale number text)) texts (omega (arith, here)) s.1 in
      omega (arith, rest)

  pub length-said : (read : Result (Option TraceLine) TraceReason) → length (said read) ≤ 1
  length-said (Ok (Some line)) = omega arith
  length-said (Ok None) = omega arith
  length-said (Err reason) = omega arith

  pub length-lines_from : (number : ℕ) (texts : List (List ℕ)) → length (lines_from scale number texts) ≤ length texts
  length-lines_from number [] = omega arith
  length-lines_from number (text ∷ texts) =
      omega (arith, length-append (said (text_line_of scale number text)) (lines_from scale (number + 1) texts), length-said (text_line_of scale number text), length-lines_from (number + 1) texts)

  -- lists of lines with the same processes and commands
  abbrev Same : List TraceLine → List TraceLine → Type 0
  Same [] [] = Unit {0}
  Same [] (b ∷ ys) = ⊥
  Same (a ∷ xs) [] = ⊥
  Same (a ∷ xs) (b ∷ ys) = (a.process ≡ b.process) × (a.command ≡ b.command) × Same xs ys

  Same-push : (xs ys : List TraceLine) (a b : TraceLine) → Same xs ys → a.process ≡ b.process → a.command ≡ b.command → Same (xs ++ a ∷ []) (ys ++ b ∷ [])
  Same-push [] [] a b s p c = (p, c, tt)
  Same-push [] (y ∷ ys) a b s p c = absurd s
  Same-push (x ∷ xs) [] a b s p c = absurd s
  Same-push (x ∷ xs) (y ∷ ys) a b s p c = (s.0, s.1, Same-push xs ys a b s.2 p c)

  list_any-Same : (t : ℕ → Command → Bool) (xs ys : List TraceLine) → Same xs ys → list_any (λ l. t l.process l.command) xs ≡ list_any (λ l. t l.process l.command) ys
  list_any-Same t [] [] s = refl
  list_any-Same t [] (b ∷ ys) s = absurd s
  list_any-Same t (a ∷ xs) [] s = absurd s
  list_any-Same t (a ∷ xs) (b ∷ ys) s =
      ap (λ p. t p a.command || list_any (λ l. t l.process l.command) xs) s.0
      ∙ ap (λ c. t b.process c || list_any (λ l. t l.process l.command) xs) s.1
      ∙ ap (λ r. t b.process b.command || r) (list_any-Same t xs ys s.2)

  fold-Same : (n : ℕ) (xs ys : List TraceLine) → Same xs ys → fold (λ n l. n + cond (creates l.command) 1 0) n xs ≡ fold (λ n l. n + cond (creates l.command) 1 0) n ys
  fold-Same n [] [] s = refl
  fold-Same n [] (b ∷ ys) s = absurd s
  fold-Same n (a ∷ xs) [] s = absurd s
  fold-Same n (a ∷ xs) (b ∷ ys) s =
      ap (λ c. fold (λ n l. n + cond (creates l.command) 1 0) (n + cond (creates c) 1 0) xs) s.1 ∙ fold-Same (n + cond (creates b.command) 1 0) xs ys s.2

  is_there-Same : (xs ys : List TraceLine) (p : ℕ) → Same xs ys → is_there xs p ≡ is_there ys p
  is_there-Same xs ys p s = ap (λ r. eqb p 1 || r) (list_any-Same (λ q c. is_fork_of p c) xs ys s)

  may_call-Same : (xs ys : List TraceLine) (p : ℕ) (c : Command) → Same xs ys → may_call xs p c ≡ may_call ys p c
  may_call-Same xs ys p (Fork child) s = ap not (is_there-Same xs ys child s)
  may_call-Same xs ys p (Wait child) s = list_any-Same (λ q c. eqb q p && is_fork_of child c) xs ys s
  may_call-Same xs ys p (Await child) s = list_any-Same (λ q c. eqb q p && is_fork_of child c) xs ys s
  may_call-Same xs ys p _ s = refl

  rule_of-Same : (xs ys : List TraceLine) (line : TraceLine) (number : ℕ) → Same xs ys → rule_of scale xs line ≡ rule_of scale ys (renumbered number line)
  rule_of-Same xs ys line number s =
      ap (λ t. cond (not (t && may_call xs line.process line.command)) (Some reason.Process) (cond (creates line.command && leb (most_created scale) (count_created xs)) (Some reason.Many) None)) (is_there-Same xs ys line.process s)
      ∙ ap (λ t. cond (not (is_there ys line.process && t)) (Some reason.Process) (cond (creates line.command && leb (most_created scale) (count_created xs)) (Some reason.Many) None)) (may_call-Same xs ys line.process line.command s)
      ∙ ap (λ n. cond (not (is_there ys line.process && may_call ys line.process line.command)) (Some reason.Process) (cond (creates line.command && leb (most_created scale) n) (Some reason.Many) None)) (fold-Same 0 xs ys s)

  -- the texts of lines
  abbrev line_texts : List TraceLine → List (List ℕ)
  line_texts lines = map line_text lines

  Sound-texts : (number : ℕ) (xs ys lines : List TraceLine) → Same xs ys → LinesFollow scale xs lines → number + length lines ≤ (most_lines scale + 1) → Sound number ys (line_texts lines)
  Sound-texts number xs ys [] s f within = tt
  Sound-texts number xs ys (line ∷ lines) s f within =
      let read = text_line_of-text scale number line (omega (arith, within)) f.0 in
      let rule = sym (rule_of-Same xs ys line number s) ∙ f.1 in
      let next = Same-push xs ys line (renumbered number line) s refl refl in
      let rest = Sound-texts (number + 1) (xs ++ line ∷ []) (ys ++ renumbered number line ∷ []) lines next f.2 (omega (arith, within)) in
      (ap (reason_behind scale ys) read ∙ rule, subst (λ r. Sound (number + 1) (ys ++ said r) (line_texts lines)) (sym read) rest)

  lines_from-texts : (number : ℕ) (earlier lines : List TraceLine) → LinesFollow scale earlier lines → number + length lines ≤ (most_lines scale + 1) → lines_from scale number (line_texts lines) ≡ renumbered_from number lines
  lines_from-texts number earlier [] f within = refl
  lines_from-texts number earlier (line ∷ lines) f within =
      let read = text_line_of-text scale number line (omega (arith, within)) f.0 in
      ap (λ r. said r ++ lines_from scale (number + 1) (line_texts lines)) read ∙ ap (λ ls. renumbered number line ∷ ls) (lines_from-texts (number + 1) (earlier ++ line ∷ []) lines f.2 (omega (arith, within)))

  -- the lines of what is written
  lines_of-line : (text rest : List ℕ) → list_all is_line_byte text ≡ true → lines_of (text ++ 10 ∷ rest) ≡ text ∷ lines_of rest
  lines_of-line [] rest h = refl
  lines_of-line (b ∷ text) rest h =
      let parts = and_parts (is_line_byte b) (list_all is_line_byte text) h in
      let other = ne_eqb b 10 (λ e. omega (arith, e, leb-true 32 b (and_parts (leb 32 b) (leb b 126) parts.0).0)) in
      ap (λ t. cond t ([] ∷ lines_of (text ++ 10 ∷ rest)) (onto_first b (lines_of (text ++ 10 ∷ rest)))) other ∙ ap (onto_first b) (lines_of-line text rest parts.1)

  lines_of-text : (earlier lines : List TraceLine) → LinesFollow scale earlier lines → lines_of (text_of lines) ≡ line_texts lines
  lines_of-text earlier [] f = refl
  lines_of-text earlier (line ∷ lines) f =
      let whole = append_assoc (line_text line) (10 ∷ []) (text_of lines) in
      ap lines_of whole ∙ lines_of-line (line_text line) (text_of lines) (is_printable-text line (line_wide scale line f.0)) ∙ ap (λ ts. line_text line ∷ ts) (lines_of-text (earlier ++ line ∷ []) lines f.2)

-- what a text of a trace says of its lines
pub follows : (scale : Scale) (bytes : List ℕ) → IsTraceText scale bytes → LinesFollow scale [] (trace_of bytes)
follows scale bytes h = subst (LinesFollow scale []) (same_trace scale bytes h) (LinesFollow-from scale 1 [] (lines_of bytes) (Sound-from scale [] (lines_of bytes) h))

pub within : (scale : Scale) (bytes : List ℕ) → IsTraceText scale bytes → length (trace_of bytes) ≤ most_lines scale
within scale bytes h =
    let texts = texts_within scale 1 [] (lines_of bytes) (omega arith) (Sound-from scale [] (lines_of bytes) h) in
    omega (arith, texts, length-lines_from Long 1 (lines_of bytes))

-- lines that may follow each other are the trace of what is written of them
pub text_of-follows : (scale : Scale) (lines : List TraceLine) → LinesFollow scale [] lines → length lines ≤ most_lines scale → IsTraceText scale (text_of lines)
text_of-follows scale lines f few =
    let sound = Sound-texts scale 1 [] [] lines tt f (omega (arith, few)) in
    let none : NoFault scale (line_texts scale lines) = λ k to. NoFault-from scale [] (line_texts scale lines) sound k (omega arith) to in
    subst (NoFault scale) (sym (lines_of-text scale [] lines f)) none

pub trace_of-follows : (scale : Scale) (lines : List TraceLine) → LinesFollow scale [] lines → length lines ≤ most_lines scale → trace_of (text_of lines) ≡ renumbered_from 1 lines
trace_of-follows scale lines f few =
    sym (same_trace scale (text_of lines) (text_of-follows scale lines f few)) ∙ ap (lines_from scale 1) (lines_of-text scale [] lines f) ∙ lines_from-texts scale 1 [] lines f (omega (arith, few))
