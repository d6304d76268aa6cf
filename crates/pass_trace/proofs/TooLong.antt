-- A text in which a line is too long, or is one too many, has the same first fault however it goes on.
use Rattle.std.proofs.Common.{◌≡◌, ◌<◌, ◌≤◌, ◌+◌, ◌-◌, ℕ, suc, List, [], ◌∷◌, ◌++◌, length, take, get_or, refl, ap, sym, ◌∙◌, arith, ◌⊎◌, inl, inr, Bool, true, false, ◌||◌, cond, ◌==◌, length-append}
use Rattle.std.specs.Prelude.{Option, Some, None, Result, Err, nat_lt}
use Rattle.std.specs.List.{list_any, onto_first}
use Rattle.std.proofs.lemmas.List.{take-append-le, get_or_append_left, get_or_at}
use Rattle.std.proofs.lemmas.Bool.{cases_order, lt-ltb, le-ltb}
use Rattle.pass_trace.specs.declared.trace.TraceReason.{TraceReason}
use Rattle.pass_trace.specs.declared.trace.TraceReason.TheVariants as reason
use Rattle.pass_trace.specs.declared.limits.Scale.{Scale}
use Rattle.pass_trace.specs.Limits.{most_lines}
use Rattle.pass_trace.specs.Lines.{lines_of, is_too_long}
use Rattle.pass_trace.specs.Traces.{text_line_of, lines_from, reason_behind, fault_at, IsTraceText, IsFirstFault}
use Rattle.pass_entry.proofs.Lists.{below_is}

-- the lines of a text, and those of one that begins with it: they part in the text's last line, which may go on
record Parts (texts more : List (List ℕ)) : Type 0 where
  init : List (List ℕ)
  line : List ℕ
  tail : List ℕ
  rest : List (List ℕ)
  short : texts ≡ init ++ line ∷ []
  long : more ≡ init ++ (line ++ tail) ∷ rest

-- one line before both
line_before : (line : List ℕ) (texts more : List (List ℕ)) → Parts texts more → Parts (line ∷ texts) (line ∷ more)
line_before line texts more p = record {
  init = line ∷ p.init;
  line = p.line;
  tail = p.tail;
  rest = p.rest;
  short = ap (λ (ls : List (List ℕ)). line ∷ ls) p.short;
  long = ap (λ (ls : List (List ℕ)). line ∷ ls) p.long;
}

-- one byte before both
byte_before : (b : ℕ) (texts more : List (List ℕ)) → Parts texts more → Parts (onto_first b texts) (onto_first b more)
byte_before b texts more p = by p.init p.short p.long
  where
    by : (init : List (List ℕ)) → texts ≡ init ++ p.line ∷ [] → more ≡ init ++ (p.line ++ p.tail) ∷ p.rest → Parts (onto_first b texts) (onto_first b more)
    by [] short long = record {
      init = [];
      line = b ∷ p.line;
      tail = p.tail;
      rest = p.rest;
      short = ap (onto_first b) short;
      long = ap (onto_first b) long;
    }
    by (l ∷ ls) short long = record {
      init = (b ∷ l) ∷ ls;
      line = p.line;
      tail = p.tail;
      rest = p.rest;
      short = ap (onto_first b) short;
      long = ap (onto_first b) long;
    }

-- a byte that ends no line
byte_alone : (b : ℕ) (more : List (List ℕ)) → Parts (onto_first b []) (onto_first b more)
byte_alone b [] = record { init = []; line = b ∷ []; tail = []; rest = []; short = refl; long = refl }
byte_alone b (l ∷ ls) = record { init = []; line = b ∷ []; tail = l; rest = ls; short = refl; long = refl }

parts_of : (b : ℕ) (bs rest : List ℕ) → Parts (lines_of (b ∷ bs)) (lines_of ((b ∷ bs) ++ rest))
parts_of b [] rest =
    elim (b == 10) as (λ t. Parts (cond t ([] ∷ []) (onto_first b [])) (cond t ([] ∷ lines_of rest) (onto_first b (lines_of rest)))) [
      | true ↦ record { init = []; line = []; tail = []; rest = lines_of rest; short = refl; long = refl }
      | false ↦ byte_alone b (lines_of rest)
    ]
parts_of b (c ∷ cs) rest =
    let p = parts_of c cs rest in
    elim (b == 10) as (λ t. Parts (cond t ([] ∷ lines_of (c ∷ cs)) (onto_first b (lines_of (c ∷ cs)))) (cond t ([] ∷ lines_of ((c ∷ cs) ++ rest)) (onto_first b (lines_of ((c ∷ cs) ++ rest))))) [
      | true ↦ line_before [] (lines_of (c ∷ cs)) (lines_of ((c ∷ cs) ++ rest)) p
      | false ↦ byte_before b (lines_of (c ∷ cs)) (lines_of ((c ∷ cs) ++ rest)) p
    ]

module _ (scale : Scale) where
  -- a line before the parting has the same fault
  same_inside : (init texts more : List (List ℕ)) (k : ℕ) → k < length init → fault_at scale (init ++ texts) k ≡ fault_at scale (init ++ more) k
  same_inside init texts more k inside =
      let front : take k (init ++ texts) ≡ take k (init ++ more) = take-append-le k init texts (omega (arith, inside)) ∙ sym (take-append-le k init more (omega (arith, inside))) in
      let here : get_or (init ++ texts) k [] ≡ get_or (init ++ more) k [] = get_or_append_left init texts [] k inside ∙ sym (get_or_append_left init more [] k inside) in
      ap (λ (ls : List (List ℕ)). reason_behind scale (lines_from scale 1 ls) (text_line_of scale (k + 1) (get_or (init ++ texts) k []))) front
      ∙ ap (λ (l : List ℕ). reason_behind scale (lines_from scale 1 (take k (init ++ more))) (text_line_of scale (k + 1) l)) here

  -- a line that is too long, or is one too many
  abbrev IsOver : List (List ℕ) → ℕ → Type 0
  IsOver texts k = (k < length texts) × (((most_lines scale) ≤ k) ⊎ (8400 < length (get_or texts k [])))

  -- its reason
  abbrev over_reason : ℕ → TraceReason
  over_reason k = cond (nat_lt (most_lines scale) (k + 1)) reason.Many reason.Length

  chosen : {A : Type 0} (many long : Bool) (a b c : A) → (many ≡ true) ⊎ (long ≡ true) → cond many a (cond long b c) ≡ cond many a b
  chosen true long a b c h = refl
  chosen false true a b c h = refl
  chosen false false a b c (inl h) = absurd (cc)
  chosen false false a b c (inr h) = absurd (cc)

  as_reason : {A : Type 0} (many : Bool) (a b : TraceReason) → ◌≡◌ {A = Result A TraceReason} (cond many (Err a) (Err b)) (Err (cond many a b))
  as_reason true a b = refl
  as_reason false a b = refl

  tested : (k size : ℕ) → ((most_lines scale) ≤ k) ⊎ (8400 < size) → (nat_lt (most_lines scale) (k + 1) ≡ true) ⊎ (nat_lt 8400 size ≡ true)
  tested k size (inl many) = inl (lt-ltb (most_lines scale) (k + 1) (omega (arith, many)))
  tested k size (inr long) = inr (lt-ltb 8400 size long)

  over_line : (k : ℕ) (line : List ℕ) → ((most_lines scale) ≤ k) ⊎ (8400 < length line) → text_line_of scale (k + 1) line ≡ Err (over_reason k)
  unfolding text_line_of
  over_line k line over =
      chosen (nat_lt (most_lines scale) (k + 1)) (nat_lt 8400 (length line)) (Err reason.Many) (Err reason.Length) _ (tested k (length line) over)
      ∙ as_reason (nat_lt (most_lines scale) (k + 1)) reason.Many reason.Length

  over_fault : (texts : List (List ℕ)) (k : ℕ) → IsOver texts k → fault_at scale texts k ≡ Some (over_reason k)
  over_fault texts k over = ap (reason_behind scale (lines_from scale 1 (take k texts))) (over_line k (get_or texts k []) over.1)

  more_size : (init : List (List ℕ)) (line : List ℕ) (rest : List (List ℕ)) → length (init ++ line ∷ rest) ≡ length init + suc (length rest)
  more_size init line rest = length-append init (line ∷ rest)

  over_goes : (texts more : List (List ℕ)) (p : Parts texts more) (k : ℕ) → IsOver texts k → IsOver more k
  over_goes texts more p k over =
      let size = ap length p.short ∙ more_size p.init p.line [] in
      let sizes = ap length p.long ∙ more_size p.init (p.line ++ p.tail) p.rest in
      let there : k < length more = omega (arith, size, sizes, over.0) in
      (there, by over.1)
    where
      at_line : (length p.init ≡ k) ⊎ ((length p.init < k) ⊎ (k < length p.init)) → 8400 < length (get_or texts k []) → 8400 < length (get_or more k [])
      at_line (inl seam) long =
          let before : get_or texts k [] ≡ p.line = ap (λ (ls : List (List ℕ)). get_or ls k []) p.short ∙ get_or_at p.init p.line [] [] k seam in
          let after : get_or more k [] ≡ p.line ++ p.tail = ap (λ (ls : List (List ℕ)). get_or ls k []) p.long ∙ get_or_at p.init (p.line ++ p.tail) p.rest [] k seam in
          let one = ap length before in
          let two = ap length after in
          let three = length-append p.line p.tail in
          omega (arith, one, two, three, long)
      at_line (inr (inl behind)) long =
          let size = ap length p.short ∙ more_size p.init p.line [] in
          absurd (omega (arith, size, over.0, behind))
      at_line (inr (inr inside)) long =
          let same : get_or texts k [] ≡ get_or more k [] =
          ap (λ (ls : List (List ℕ)). get_or ls k []) p.short ∙ get_or_append_left p.init (p.line ∷ []) [] k inside
          ∙ sym (ap (λ (ls : List (List ℕ)). get_or ls k []) p.long ∙ get_or_append_left p.init ((p.line ++ p.tail) ∷ p.rest) [] k inside)
          in let one = ap length same in omega (arith, one, long)

      by : ((most_lines scale) ≤ k) ⊎ (8400 < length (get_or texts k [])) → ((most_lines scale) ≤ k) ⊎ (8400 < length (get_or more k []))
      by (inl many) = inl many
      by (inr long) = inr (at_line (cases_order (length p.init) k) long)

  -- a text that is too long has a line that is
  any_at : (ls : List (List ℕ)) → list_any (λ line. nat_lt 8400 (length line)) ls ≡ true → (k : ℕ) × (k < length ls) × (8400 < length (get_or ls k []))
  any_at [] h = absurd (cc)
  any_at (l ∷ ls) h = by (nat_lt 8400 (length l)) refl h (any_at ls)
    where
      by : (long : Bool) → nat_lt 8400 (length l) ≡ long → long || list_any (λ line. nat_lt 8400 (length line)) ls ≡ true
          → (list_any (λ line. nat_lt 8400 (length line)) ls ≡ true → (k : ℕ) × (k < length ls) × (8400 < length (get_or ls k [])))
          → (k : ℕ) × (k < length (l ∷ ls)) × (8400 < length (get_or (l ∷ ls) k []))
      by true is h later = (0, omega arith, below_is 8400 (length l) is)
      by false is h later = let (k, there, long) = later h in (suc k, omega (arith, there), long)

  over_at : (texts : List (List ℕ)) → nat_lt (most_lines scale) (length texts) || list_any (λ line. nat_lt 8400 (length line)) texts ≡ true → (k : ℕ) × IsOver texts k
  over_at texts h = by (nat_lt (most_lines scale) (length texts)) refl h
    where
      by : (many : Bool) → nat_lt (most_lines scale) (length texts) ≡ many → many || list_any (λ line. nat_lt 8400 (length line)) texts ≡ true → (k : ℕ) × IsOver texts k
      by true is h = let many = below_is (most_lines scale) (length texts) is in ((most_lines scale), (many, inl (omega arith)))
      by false is h = let (k, there, long) = any_at texts h in (k, (there, inr long))

  -- a line that is the first at fault
  record IsFirstOf (texts : List (List ℕ)) (line : ℕ) (why : TraceReason) : Type 0 where
    number : 0 < line
    there : line ≤ length texts
    fault : fault_at scale texts (line - 1) ≡ Some why
    first : (k : ℕ) → k + 1 < line → fault_at scale texts k ≡ None

  first_goes : (texts more : List (List ℕ)) (p : Parts texts more) (k : ℕ) → IsOver texts k → (line : ℕ) (why : TraceReason) → IsFirstOf texts line why → IsFirstOf more line why
  first_goes texts more p k over line why f =
      let size = ap length p.short ∙ more_size p.init p.line [] in
      let sizes = ap length p.long ∙ more_size p.init (p.line ++ p.tail) p.rest in
      record {
        number = f.number;
        there = let z = f.there in omega (arith, size, sizes, z);
        fault = here (cases_order (length p.init) (line - 1));
        first = λ j before. sym (same j (let z = f.there in omega (arith, size, before, z))) ∙ f.first j before;
      }
    where
      same : (j : ℕ) → j < length p.init → fault_at scale texts j ≡ fault_at scale more j
      same j inside =
          ap (λ (ts : List (List ℕ)). fault_at scale ts j) p.short ∙ same_inside p.init (p.line ∷ []) ((p.line ++ p.tail) ∷ p.rest) j inside
          ∙ sym (ap (λ (ts : List (List ℕ)). fault_at scale ts j) p.long)

      not_later : k + 1 < line → ⊥
      not_later before = let z : ◌≡◌ {A = Option TraceReason} (Some (over_reason k)) None = sym (over_fault texts k over) ∙ f.first k before in cc

      at_seam : length p.init ≡ line - 1 → (line ≡ k + 1) ⊎ ((line < k + 1) ⊎ (k + 1 < line)) → fault_at scale more (line - 1) ≡ Some why
      at_seam seam (inl last) =
          let place : line - 1 ≡ k = omega (arith, last) in
          ap (fault_at scale more) place ∙ over_fault more k (over_goes texts more p k over) ∙ sym (over_fault texts k over) ∙ sym (ap (fault_at scale texts) place) ∙ f.fault
      at_seam seam (inr (inl early)) =
          let size = ap length p.short ∙ more_size p.init p.line [] in
          let number = f.number in
          absurd (omega (arith, size, seam, early, over.0, number))
      at_seam seam (inr (inr late)) = absurd (not_later late)

      here : (length p.init ≡ line - 1) ⊎ ((length p.init < line - 1) ⊎ (line - 1 < length p.init)) → fault_at scale more (line - 1) ≡ Some why
      here (inl seam) = at_seam seam (cases_order line (k + 1))
      here (inr (inl behind)) =
          let size = ap length p.short ∙ more_size p.init p.line [] in
          let z = f.there in
          absurd (omega (arith, size, behind, z))
      here (inr (inr inside)) = sym (same (line - 1) inside) ∙ f.fault

  -- a text that is too long is none of a trace
  pub too_long_is_none : (bytes : List ℕ) → is_too_long scale bytes ≡ true → IsTraceText scale bytes → ⊥
  too_long_is_none bytes long text =
      let (k, over) = over_at (lines_of bytes) long in
      let z : ◌≡◌ {A = Option TraceReason} (Some (over_reason k)) None = sym (over_fault (lines_of bytes) k over) ∙ text k over.0 in cc

  -- and has the same first fault however it goes on
  pub too_long_stays : (bytes rest : List ℕ) → is_too_long scale bytes ≡ true → (line : ℕ) (why : TraceReason) → IsFirstFault scale bytes line why → IsFirstFault scale (bytes ++ rest) line why
  too_long_stays [] rest long line why f =
      let none : nat_lt (most_lines scale) 0 || false ≡ false = ap (λ b. b || false) (le-ltb (most_lines scale) 0 (omega arith)) in
      absurd (let z : false ≡ true = sym none ∙ long in cc)
  too_long_stays (b ∷ bs) rest long line why f =
      let (k, over) = over_at (lines_of (b ∷ bs)) long in
      let first : IsFirstOf (lines_of (b ∷ bs)) line why = record { number = f.number; there = f.there; fault = f.fault; first = f.first } in
      let goes = first_goes (lines_of (b ∷ bs)) (lines_of ((b ∷ bs) ++ rest)) (parts_of b bs rest) k over line why first in
      record { number = goes.number; there = goes.there; fault = goes.fault; first = goes.first }
