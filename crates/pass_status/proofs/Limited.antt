-- What is counted of a text says whether it is too long.
use Rattle.std.proofs.Common.{◌≡◌, ◌<◌, ◌≤◌, ◌+◌, ◌-◌, ◌*◌, ℕ, suc, List, [], ◌∷◌, ◌++◌, length, take, refl, ap, sym, ◌∙◌, arith, Bool, true, false, ◌||◌, ◌==◌, cond, length-append}
use Rattle.std.specs.Prelude.{fold, nat_lt, nat_le}
use Rattle.std.specs.List.{list_any, onto_first}
use Rattle.std.proofs.lemmas.List.{take-append-le, take_all}
use Rattle.std.proofs.lemmas.List.Sums.{fold-append}
use Rattle.std.proofs.lemmas.Bool.{lt-ltb, le-ltb, leb-false, cond-true}
use Rattle.pass_trace.specs.declared.limits.Scale.{Scale}
use Rattle.pass_trace.specs.Limits.{most_lines}
use Rattle.pass_trace.specs.Lines.{lines_of, is_too_long}
use Rattle.pass_trace.proofs.Wider.{lines_low}
use Rattle.pass_status.specs.Reading.{counted, none_counted, counted_of, StopsInTime}
use Rattle.pass_status.specs.declared.reading.Limits.{Limits}
use Rattle.pass_entry.proofs.Lists.{or_true, at_most}

-- the beginning of a line that hasn't ended, where there is one
abbrev begun_line : List ℕ → List (List ℕ)
begun_line [] = []
begun_line (b ∷ bs) = (b ∷ bs) ∷ []

-- the lines of a text that stands behind the beginning of a line
abbrev lines_with : List ℕ → List ℕ → List (List ℕ)
lines_with front [] = begun_line front
lines_with front (b ∷ bs) = cond (b == 10) (front ∷ lines_with [] bs) (lines_with (front ++ b ∷ []) bs)

abbrev onto_all : List ℕ → List (List ℕ) → List (List ℕ)
onto_all [] ls = ls
onto_all (b ∷ front) ls = onto_first b (onto_all front ls)

onto_all-nil : (front : List ℕ) → onto_all front [] ≡ begun_line front
onto_all-nil [] = refl
onto_all-nil (b ∷ []) = refl
onto_all-nil (b ∷ c ∷ front) = ap (onto_first b) (onto_all-nil (c ∷ front))

onto_all-ended : (front : List ℕ) (ls : List (List ℕ)) → onto_all front ([] ∷ ls) ≡ front ∷ ls
onto_all-ended [] ls = refl
onto_all-ended (b ∷ front) ls = ap (onto_first b) (onto_all-ended front ls)

onto_all-more : (front : List ℕ) (b : ℕ) (ls : List (List ℕ)) → onto_all front (onto_first b ls) ≡ onto_all (front ++ b ∷ []) ls
onto_all-more [] b ls = refl
onto_all-more (c ∷ front) b ls = ap (onto_first c) (onto_all-more front b ls)

with_is : (front text : List ℕ) → lines_with front text ≡ onto_all front (lines_of text)
with_is front [] = sym (onto_all-nil front)
with_is front (b ∷ bs) =
    at_byte (b == 10) (with_is [] bs) (with_is (front ++ b ∷ []) bs)
  where
    at_byte : (t : Bool) → lines_with [] bs ≡ lines_of bs → lines_with (front ++ b ∷ []) bs ≡ onto_all (front ++ b ∷ []) (lines_of bs)
        → cond t (front ∷ lines_with [] bs) (lines_with (front ++ b ∷ []) bs) ≡ onto_all front (cond t ([] ∷ lines_of bs) (onto_first b (lines_of bs)))
    at_byte true ended more = ap (λ (ls : List (List ℕ)). front ∷ ls) ended ∙ sym (onto_all-ended front (lines_of bs))
    at_byte false ended more = more ∙ sym (onto_all-more front b (lines_of bs))

-- tests

abbrev is_long : List ℕ → Bool
is_long line = nat_lt 8400 (length line)

-- behind a beginning there is a line
some_line : (front text : List ℕ) → 0 < length front → 0 < length (lines_with front text)
some_line [] [] some = absurd (omega (arith, some))
some_line (c ∷ front) [] some = omega arith
some_line front (b ∷ bs) some = at_byte (b == 10) (some_line (front ++ b ∷ []) bs (let z = length-append front (b ∷ []) in omega (arith, z)))
  where
    at_byte : (t : Bool) → 0 < length (lines_with (front ++ b ∷ []) bs) → 0 < length (cond t (front ∷ lines_with [] bs) (lines_with (front ++ b ∷ []) bs))
    at_byte true more = omega arith
    at_byte false more = more

-- and behind one that is too long, one that is too long
long_line : (front text : List ℕ) → 8400 < length front → list_any is_long (lines_with front text) ≡ true
long_line [] [] long = absurd (omega (arith, long))
long_line (c ∷ front) [] long = ap (λ b. b || false) (lt-ltb 8400 (length (c ∷ front)) long)
long_line front (b ∷ bs) long = at_byte (b == 10) (long_line (front ++ b ∷ []) bs (let z = length-append front (b ∷ []) in omega (arith, z, long)))
  where
    at_byte : (t : Bool) → list_any is_long (lines_with (front ++ b ∷ []) bs) ≡ true → list_any is_long (cond t (front ∷ lines_with [] bs) (lines_with (front ++ b ∷ []) bs)) ≡ true
    at_byte true more = ap (λ b. b || list_any is_long (lines_with [] bs)) (lt-ltb 8400 (length front) long)
    at_byte false more = more

module _ (scale : Scale) where
  -- lines behind others are too long, or too many
  abbrev too_long_with : ℕ → List (List ℕ) → Bool
  too_long_with lines ls = nat_lt (most_lines scale) (lines + length ls) || list_any is_long ls

  over_stays : (limits : Limits) (text : List ℕ) → limits.over ≡ true → fold (counted scale) limits text ≡ limits
  over_stays limits [] over = refl
  over_stays limits (b ∷ bs) over = ap (λ (c : Limits). fold (counted scale) c bs) (cond-true limits.over limits _ over) ∙ over_stays limits bs over

  counting : (lines bytes : ℕ) (front text : List ℕ) → length front ≡ bytes → lines ≤ (most_lines scale) → bytes ≤ 8400 → (0 < bytes → lines < (most_lines scale))
      → (fold (counted scale) (record { lines = lines; bytes = bytes; over = false }) text).over ≡ too_long_with lines (lines_with front text)
  counting lines bytes [] [] size few short room = sym (ap (λ b. b || false) (le-ltb (most_lines scale) (lines + 0) (omega (arith, few))))
  counting lines bytes (c ∷ front) [] size few short room =
      sym (ap (λ b. b || (nat_lt 8400 (length (c ∷ front)) || false)) (le-ltb (most_lines scale) (lines + 1) (omega (arith, room, size)))
      ∙ ap (λ b. b || false) (le-ltb 8400 (length (c ∷ front)) (omega (arith, size, short))))
  counting lines bytes front (b ∷ bs) size few short room =
      at_lines (nat_le (most_lines scale) lines) refl (b == 10) refl (nat_le 8400 bytes) refl
      (λ below. counting (lines + 1) 0 [] bs refl (omega (arith, below)) (omega arith) (λ some. absurd (omega (arith, some))))
      (λ below shorter. counting lines (bytes + 1) (front ++ b ∷ []) bs (length-append front (b ∷ []) ∙ ap (λ n. n + 1) size) few (omega (arith, shorter)) (λ some. below))
    where
      grown : length (front ++ b ∷ []) ≡ length front + 1
      grown = length-append front (b ∷ [])

      some_of : (t : Bool) → 0 < length (cond t (front ∷ lines_with [] bs) (lines_with (front ++ b ∷ []) bs))
      some_of true = omega arith
      some_of false = some_line (front ++ b ∷ []) bs (omega (arith, grown))

      at_lines : (many : Bool) → nat_le (most_lines scale) lines ≡ many → (ends : Bool) → (b == 10) ≡ ends → (long : Bool) → nat_le 8400 bytes ≡ long
          → (lines < (most_lines scale) → (fold (counted scale) (record { lines = lines + 1; bytes = 0; over = false }) bs).over ≡ too_long_with (lines + 1) (lines_with [] bs))
          → (lines < (most_lines scale) → bytes < 8400 → (fold (counted scale) (record { lines = lines; bytes = bytes + 1; over = false }) bs).over ≡ too_long_with lines (lines_with (front ++ b ∷ []) bs))
          → (fold (counted scale) (cond many (record { lines = lines; bytes = bytes; over = true }) (cond ends (record { lines = lines + 1; bytes = 0; over = false })
          (cond long (record { lines = lines; bytes = bytes; over = true }) (record { lines = lines; bytes = bytes + 1; over = false })))) bs).over
          ≡ too_long_with lines (cond ends (front ∷ lines_with [] bs) (lines_with (front ++ b ∷ []) bs))
      at_lines true many ends e long l ended more =
          let above = at_most (most_lines scale) lines many in
          let some = some_of ends in
          ap (λ (c : Limits). c.over) (over_stays (record { lines = lines; bytes = bytes; over = true }) bs refl)
          ∙ sym (ap (λ t. t || list_any is_long (cond ends (front ∷ lines_with [] bs) (lines_with (front ++ b ∷ []) bs)))
          (lt-ltb (most_lines scale) (lines + length (cond ends (front ∷ lines_with [] bs) (lines_with (front ++ b ∷ []) bs))) (omega (arith, above, some))))
      at_lines false many true e long l ended more =
          let below = leb-false (most_lines scale) lines many in
          ended below
          ∙ ap (λ n. nat_lt (most_lines scale) n || list_any is_long (lines_with [] bs)) (let z : lines + 1 + length (lines_with [] bs) ≡ lines + suc (length (lines_with [] bs)) = omega arith in z)
          ∙ ap (λ t. nat_lt (most_lines scale) (lines + suc (length (lines_with [] bs))) || (t || list_any is_long (lines_with [] bs))) (sym (le-ltb 8400 (length front) (omega (arith, size, short))))
      at_lines false many false e true l ended more =
          let above = at_most 8400 bytes l in
          ap (λ (c : Limits). c.over) (over_stays (record { lines = lines; bytes = bytes; over = true }) bs refl)
          ∙ sym (ap (λ t. nat_lt (most_lines scale) (lines + length (lines_with (front ++ b ∷ []) bs)) || t) (long_line (front ++ b ∷ []) bs (omega (arith, grown, size, above)))
          ∙ or_true (nat_lt (most_lines scale) (lines + length (lines_with (front ++ b ∷ []) bs))))
      at_lines false many false e false l ended more = more (leb-false (most_lines scale) lines many) (leb-false 8400 bytes l)

  -- a text is too long where its count says so
  pub over_is : (text : List ℕ) → (counted_of scale text).over ≡ is_too_long scale text
  over_is text =
      counting 0 0 [] text refl (omega arith) (omega arith) (λ some. absurd (omega (arith, some)))
      ∙ ap (too_long_with 0) (with_is [] text)
      ∙ ap (λ n. nat_lt (most_lines scale) n || list_any is_long (lines_of text)) (let z : 0 + length (lines_of text) ≡ length (lines_of text) = omega arith in z)

  -- a text that isn't too long is no longer than its count says

  abbrev Grown : ℕ → ℕ → ℕ → Limits → Type 0
  Grown lines bytes more r = (r.lines ≤ (most_lines scale)) × (r.bytes ≤ 8400) × (more + (8401 * lines + bytes) ≤ 8401 * r.lines + r.bytes)

  -- the count after one more byte, by its tests
  abbrev next_count : ℕ → ℕ → Bool → Bool → Bool → Limits
  next_count lines bytes many ends long =
      cond many (record { lines = lines; bytes = bytes; over = true })
      (cond ends (record { lines = lines + 1; bytes = 0; over = false }) (cond long (record { lines = lines; bytes = bytes; over = true }) (record { lines = lines; bytes = bytes + 1; over = false })))

  growing : (lines bytes : ℕ) (text : List ℕ) → lines ≤ (most_lines scale) → bytes ≤ 8400 → (fold (counted scale) (record { lines = lines; bytes = bytes; over = false }) text).over ≡ false
      → Grown lines bytes (length text) (fold (counted scale) (record { lines = lines; bytes = bytes; over = false }) text)
  growing lines bytes [] few short over = (few, short, omega arith)
  growing lines bytes (b ∷ bs) few short over =
      at_lines (nat_le (most_lines scale) lines) refl (b == 10) (nat_le 8400 bytes) refl
      (λ below over. growing (lines + 1) 0 bs (omega (arith, below)) (omega arith) over) (λ shorter over. growing lines (bytes + 1) bs few (omega (arith, shorter)) over) over
    where
      at_lines : (many : Bool) → nat_le (most_lines scale) lines ≡ many → (ends long : Bool) → nat_le 8400 bytes ≡ long
          → (lines < (most_lines scale) → (fold (counted scale) (record { lines = lines + 1; bytes = 0; over = false }) bs).over ≡ false
          → Grown (lines + 1) 0 (length bs) (fold (counted scale) (record { lines = lines + 1; bytes = 0; over = false }) bs))
          → (bytes < 8400 → (fold (counted scale) (record { lines = lines; bytes = bytes + 1; over = false }) bs).over ≡ false
          → Grown lines (bytes + 1) (length bs) (fold (counted scale) (record { lines = lines; bytes = bytes + 1; over = false }) bs))
          → (fold (counted scale) (next_count lines bytes many ends long) bs).over ≡ false → Grown lines bytes (length (b ∷ bs)) (fold (counted scale) (next_count lines bytes many ends long) bs)
      at_lines true many ends long l ended more over =
          absurd (let z : true ≡ false = sym (ap (λ (c : Limits). c.over) (over_stays (record { lines = lines; bytes = bytes; over = true }) bs refl)) ∙ over in cc)
      at_lines false many true long l ended more over =
          let (a, c, grown) = ended (leb-false (most_lines scale) lines many) over in (a, c, omega (arith, grown, short))
      at_lines false many false true l ended more over =
          absurd (let z : true ≡ false = sym (ap (λ (c : Limits). c.over) (over_stays (record { lines = lines; bytes = bytes; over = true }) bs refl)) ∙ over in cc)
      at_lines false many false false l ended more over = let (a, c, grown) = more (leb-false 8400 bytes l) over in (a, c, omega (arith, grown))

  pub text_short : (text : List ℕ) → (counted_of scale text).over ≡ false → length text ≤ 8401008400
  text_short text over = let (few, short, grown) = growing 0 0 text (omega arith) (omega arith) over in (let low = lines_low scale in omega (arith, few, short, grown, low))

  -- one piece more

  pub counted-append : (text piece : List ℕ) → counted_of scale (text ++ piece) ≡ fold (counted scale) (counted_of scale text) piece
  counted-append text piece = fold-append (counted scale) none_counted text piece

  pub stops_at : (text piece : List ℕ) → (counted_of scale text).over ≡ false → length piece ≤ 4096 → StopsInTime scale (text ++ piece)
  stops_at text piece over short = record {
    piece = length piece;
    short = short;
    before =
        ap (is_too_long scale) (ap (λ n. take n (text ++ piece)) (let size = length-append text piece in let z : length (text ++ piece) - length piece ≡ length text = omega (arith, size) in z)
        ∙ take-append-le (length text) text piece (omega arith) ∙ take_all (length text) text (omega arith))
        ∙ sym (over_is text) ∙ over;
  }
