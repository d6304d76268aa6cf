-- The lines of a text, one after another.
use Rattle.std.proofs.Common.{◌≡◌, ℕ, suc, ◌-◌, ltb, ◌+◌, ◌<◌, ◌≤◌, true, false, not, cond, eqb, List, [], ◌∷◌, ◌++◌, length, take, drop, get_or, Option, Some, None, refl, sym, ap, ◌∙◌, subst, append_assoc, append-nil, length-drop, drop-cons, arith}
use Rattle.std.specs.List.{position_or_len, position, onto_first}
use Rattle.std.proofs.lemmas.List.{take_more, length-take-le, take_all, drop_all}
use Rattle.std.proofs.lemmas.Bool.Decides.{nat_tests}
use Rattle.pass_trace.specs.declared.trace.TraceLine.{TraceLine}
use Rattle.pass_trace.specs.declared.trace.TraceReason.{TraceReason}
use Rattle.pass_trace.specs.declared.trace.TraceFault.TheVariants as trace
use Rattle.pass_trace.specs.declared.fields.LineFault.{LineFault}
use Rattle.pass_trace.specs.declared.fields.LineFault.TheVariants.{Bad, NoMemory}
use Rattle.pass_trace.specs.Gives.{IsReason, fault_at_line}
use Rattle.pass_trace.specs.declared.limits.Scale.{Scale}
use Rattle.pass_trace.specs.Lines.{lines_of}
use Rattle.pass_trace.specs.Traces.{text_line_of, said, lines_from, reason_behind, fault_at, IsFirstFault}

abbrev pub line_end : List ℕ → ℕ
line_end bytes = position_or_len (λ b. eqb b 10) bytes

onto_first-cons : (b : ℕ) (front : List ℕ) (texts rest : List (List ℕ)) → texts ≡ front ∷ rest → onto_first b texts ≡ (b ∷ front) ∷ rest
onto_first-cons b front texts rest e = ap (onto_first b) e

-- the first line ends before the first LF
pub lines_of-first : (bytes : List ℕ) → 0 < length bytes → lines_of bytes ≡ take (line_end bytes) bytes ∷ lines_of (drop (line_end bytes + 1) bytes)
lines_of-first [] some = absurd (omega arith)
lines_of-first (b ∷ []) some =
    elim (eqb b 10) as (λ v. cond v ([] ∷ []) (onto_first b []) ≡ take (cond (not v) 1 0) (b ∷ []) ∷ lines_of (drop (cond (not v) 1 0 + 1) (b ∷ []))) [
      | true ↦ refl
      | false ↦ refl
    ]
lines_of-first (b ∷ c ∷ bs) some =
    let rest = lines_of-first (c ∷ bs) (omega arith) in
    let p = line_end (c ∷ bs) in
    elim (eqb b 10) as (λ v. cond v ([] ∷ lines_of (c ∷ bs)) (onto_first b (lines_of (c ∷ bs))) ≡ take (cond (not v) (1 + p) 0) (b ∷ c ∷ bs) ∷ lines_of (drop (cond (not v) (1 + p) 0 + 1) (b ∷ c ∷ bs))) [
      | true ↦ refl
      | false ↦
          let one : suc p ≡ 1 + p = omega arith in
          let two : suc (p + 1) ≡ (1 + p) + 1 = omega arith in
          onto_first-cons b (take p (c ∷ bs)) (lines_of (c ∷ bs)) (lines_of (drop (p + 1) (c ∷ bs))) rest
          ∙ ap (λ n. take n (b ∷ c ∷ bs) ∷ lines_of (drop (p + 1) (c ∷ bs))) one
          ∙ ap (λ n. take (1 + p) (b ∷ c ∷ bs) ∷ lines_of (drop n (b ∷ c ∷ bs))) two
    ]

place_at_some : (p n e : ℕ) → cond (ltb p n) (Some p) None ≡ Some e → (p ≡ e) × (p < n)
place_at_some p n e h = grind (arith, nat_tests)

place_at_none : (p n : ℕ) → cond (ltb p n) (Some p) None ≡ None → n ≤ p
place_at_none p n h = grind (arith, nat_tests)

pub lines_of_some : (bytes : List ℕ) (end : ℕ) → 0 < length bytes → position (λ b. eqb b 10) bytes ≡ Some end → lines_of bytes ≡ take end bytes ∷ lines_of (take (length bytes - (end + 1)) (drop (end + 1) bytes))
lines_of_some bytes end some e =
    let found = place_at_some (line_end bytes) (length bytes) end e in
    let rest = take_all (length bytes - (end + 1)) (drop (end + 1) bytes) (omega (arith, length-drop (end + 1) bytes)) in
    lines_of-first bytes some ∙ ap (λ n. take n bytes ∷ lines_of (drop (n + 1) bytes)) found.0 ∙ ap (λ bs. take end bytes ∷ lines_of bs) (sym rest)

pub lines_of_none : (bytes : List ℕ) → 0 < length bytes → position (λ b. eqb b 10) bytes ≡ None → lines_of bytes ≡ bytes ∷ []
lines_of_none bytes some e =
    let none = place_at_none (line_end bytes) (length bytes) e in
    lines_of-first bytes some ∙ ap (λ bs. bs ∷ lines_of (drop (line_end bytes + 1) bytes)) (take_all (line_end bytes) bytes none) ∙ ap (λ bs. bytes ∷ lines_of bs) (drop_all (line_end bytes + 1) bytes (omega arith))

-- a list whose part from i on begins with x
pub record Stands {X : Type 0} (xs : List X) (i : ℕ) (x : X) (rest : List X) (d : X) : Type 0 where
  pub there : i < length xs
  pub here : get_or xs i d ≡ x
  pub behind : drop (i + 1) xs ≡ rest
  pub front : take (i + 1) xs ≡ take i xs ++ x ∷ []

pub Stands-from_drop : {X : Type 0} (xs : List X) (i : ℕ) (x : X) (rest : List X) (d : X) → drop i xs ≡ x ∷ rest → Stands xs i x rest d
Stands-from_drop xs i x rest d e =
    let size = ap length e in
    let there : i < length xs = omega (arith, length-drop i xs, size) in
    let parts = drop-cons xs i d there in
    let here : get_or xs i d ≡ x = cc in
    let behind : drop (suc i) xs ≡ rest = cc in
    let next : i + 1 ≡ suc i = omega arith in
    record {
      there = there;
      here = here;
      behind = ap (λ n. drop n xs) next ∙ behind;
      front = take_more xs i d there ∙ ap (λ y. take i xs ++ y ∷ []) here;
    }

module _ (scale : Scale) where
  pub lines_from-push : (number : ℕ) (texts : List (List ℕ)) (text : List ℕ) → lines_from scale number (texts ++ text ∷ []) ≡ lines_from scale number texts ++ said (text_line_of scale (number + length texts) text)
  lines_from-push number [] text =
      let e : number ≡ number + 0 = omega arith in
      append-nil (said (text_line_of scale number text)) ∙ ap (λ n. said (text_line_of scale n text)) e
  lines_from-push number (t ∷ texts) text =
      let e : (number + 1) + length texts ≡ number + suc (length texts) = omega arith in
      ap (λ ls. said (text_line_of scale number t) ++ ls) (lines_from-push (number + 1) texts text ∙ ap (λ n. lines_from scale (number + 1) texts ++ said (text_line_of scale n text)) e)
      ∙ sym (append_assoc (said (text_line_of scale number t)) (lines_from scale (number + 1) texts) (said (text_line_of scale (number + suc (length texts)) text)))

  -- the trace of one more line of the text
  pub lines_from-take : (texts : List (List ℕ)) (i : ℕ) (text : List ℕ) (rest : List (List ℕ)) → Stands texts i text rest [] → lines_from scale 1 (take (i + 1) texts) ≡ lines_from scale 1 (take i texts) ++ said (text_line_of scale (i + 1) text)
  lines_from-take texts i text rest at =
      let size = length-take-le i texts (omega (arith, at.there)) in
      let e : 1 + length (take i texts) ≡ i + 1 = omega (arith, size) in
      ap (lines_from scale 1) at.front ∙ lines_from-push 1 (take i texts) text ∙ ap (λ n. lines_from scale 1 (take i texts) ++ said (text_line_of scale n text)) e

  -- what the reader finds at a line is what the text has there
  pub fault_at-read : (texts : List (List ℕ)) (i : ℕ) (text : List ℕ) (rest : List (List ℕ)) (earlier : List TraceLine) (found : Option TraceReason) → Stands texts i text rest [] → earlier ≡ lines_from scale 1 (take i texts) → reason_behind scale earlier (text_line_of scale (i + 1) text) ≡ found → fault_at scale texts i ≡ found
  fault_at-read texts i text rest earlier found at lines e =
      ap (λ t. reason_behind scale (lines_from scale 1 (take i texts)) (text_line_of scale (i + 1) t)) at.here ∙ ap (λ ls. reason_behind scale ls (text_line_of scale (i + 1) text)) (sym lines) ∙ e

  -- the reader's fault at a line behind lines with none is the first fault of the text
  pub IsFirstFault-read : (bytes : List ℕ) (i : ℕ) (text : List ℕ) (rest : List (List ℕ)) (earlier : List TraceLine) (fault : LineFault) → Stands (lines_of bytes) i text rest [] → earlier ≡ lines_from scale 1 (take i (lines_of bytes)) → ((k : ℕ) → k < i → fault_at scale (lines_of bytes) k ≡ None) → IsReason fault (reason_behind scale earlier (text_line_of scale (i + 1) text)) → (line : ℕ) (reason : TraceReason) → fault_at_line (i + 1) fault ≡ trace.BadTrace line reason → IsFirstFault scale bytes line reason
  IsFirstFault-read bytes i text rest earlier NoMemory at lines sound found line reason e = cc
  IsFirstFault-read bytes i text rest earlier (Bad r) at lines sound found line reason e =
      let place : i + 1 ≡ line = cc in
      let same : r ≡ reason = cc in
      let before : (i + 1) - 1 ≡ i = omega arith in
      let here = fault_at-read (lines_of bytes) i text rest earlier (Some r) at lines found in
      let first : IsFirstFault scale bytes (i + 1) r = record {
        number = omega arith;
        there = omega (arith, at.there);
        fault = ap (fault_at scale (lines_of bytes)) before ∙ here;
        first = λ k h. sound k (omega (arith, h));
      } in
      subst (λ x. IsFirstFault scale bytes line x) same (subst (λ n. IsFirstFault scale bytes n r) place first)
