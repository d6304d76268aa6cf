-- The code of a shape stands where code grows.
use Rattle.std.proofs.Common.{ℕ, ◌≡◌, ◌≢◌, ◌≤◌, ◌<◌, ◌+◌, sym, ap, ◌∙◌, subst, List, [], ◌∷◌, ◌++◌, length, get_or, set, arith, length-append}
use Rattle.std.specs.Prelude.{Option, Some, Result, Ok, Err, IfOk, OnOk, slice_get, slice_set}
use Rattle.std.specs.List.{sum_by}
use Rattle.std.proofs.lemmas.List.{get_or-set_other, length-set}
use Rattle.std.proofs.lemmas.List.Sums.{sum_by-set, sum_by-append}
use Rattle.std.proofs.lemmas.Option.{slice_get_within, get_or_from_slice_get, slice_get-get_or}
use Rattle.pass_plain.proofs.Appends.{slice_get-append}
use Rattle.pass_pattern.specs.declared.pattern.EdgeTest.{EdgeTest}
use Rattle.pass_pattern.specs.declared.code.Instruction.{Instruction}
use Rattle.pass_pattern.specs.declared.code.Instruction.TheVariants.{Along, Both}
use Rattle.pass_pattern.specs.Patterns.{Shape, atoms}
use Rattle.pass_pattern.specs.Patterns.Shape.{One, Then, Or, Many}
use Rattle.pass_pattern.specs.Codes.{HasCode, IsGrown, edges_of, edges_in}
use Rattle.pass_pattern.specs.Codes.HasCode.{one, both, either, many}
use Rattle.pass_entry.proofs.Places.{set_here, slice_get-last}

-- code stands where all from its first place on is kept
pub kept_code : {code : List Instruction} {from : ℕ} {p : Shape} {start next : ℕ} → HasCode code from p start next → (new : List Instruction) (low : ℕ) → low ≤ from
    → ((place : ℕ) (i : Instruction) → from ≤ place → slice_get code place ≡ Some i → slice_get new place ≡ Some i) → HasCode new low p start next
kept_code (one {start = start} after at) new low under kept = one (omega (arith, under, after)) (kept start _ after at)
kept_code (both first second) new low under kept = both (kept_code first new low under kept) (kept_code second new low under kept)
kept_code (either {start = start} after at first second) new low under kept = either (omega (arith, under, after)) (kept start _ after at) (kept_code first new low under kept) (kept_code second new low under kept)
kept_code (many {start = start} after at inner) new low under kept = many (omega (arith, under, after)) (kept start _ after at) (kept_code inner new low under kept)

pub grown_code : {old : List Instruction} {from : ℕ} {p : Shape} {start next : ℕ} (new : List Instruction) (low : ℕ) → IsGrown old new → low ≤ from → HasCode old from p start next → HasCode new low p start next
grown_code new low grown under has = kept_code has new low under (λ place i after at. grown.kept place i at)

-- one more instruction
pub grown_put : (code : List Instruction) (i : Instruction) → IsGrown code (code ++ i ∷ [])
grown_put code i = record {
  longer = let size = length-append code (i ∷ []) in omega (arith, size);
  kept = λ place j at. slice_get-append code (i ∷ []) place j at;
}

pub grown_on : {a b c : List Instruction} → IsGrown a b → IsGrown b c → IsGrown a c
grown_on first second = record {
  longer = omega (arith, first.longer, second.longer);
  kept = λ place i at. second.kept place i (first.kept place i at);
}

set_other : (code : List Instruction) (place at : ℕ) (i j : Instruction) → at ≢ place → slice_get code at ≡ Some j → slice_get (slice_set code place i) at ≡ Some j
set_other code place at i j apart is =
    slice_get-get_or (set code place i) at j (let size = length-set code place i in let within = slice_get_within code at j is in omega (arith, size, within))
    ∙ ap (λ x. Some x) (get_or-set_other code place at i j apart ∙ get_or_from_slice_get code at j j is)

-- The choice of going on was put with a place that isn't known yet; then comes the code behind it, and the place is written.
module _ (old put behind : List Instruction) (placed : Instruction) (p : Shape) (place inner next : ℕ) (at : place ≡ length old) (is : put ≡ old ++ placed ∷ [])
    (grown : IsGrown put behind) (has : HasCode behind (length put) p inner place) where
  size : length put ≡ length old + 1
  size = ap length is ∙ length-append old (placed ∷ [])

  within : place < length behind
  within = omega (arith, at, size, grown.longer)

  there : slice_get behind place ≡ Some placed
  there = grown.kept place placed (ap (slice_get put) at ∙ ap (λ c. slice_get c (length old)) is ∙ slice_get-last old placed)

  pub many_grown : IsGrown old (slice_set behind place (Both inner next))
  many_grown = record {
    longer = let same = length-set behind place (Both inner next) in omega (arith, same, size, grown.longer);
    kept = λ k i found.
        let low = slice_get_within old k i found in
        let before : slice_get put k ≡ Some i = ap (λ c. slice_get c k) is ∙ slice_get-append old (placed ∷ []) k i found in
        set_other behind place k (Both inner next) i (omega (arith, low, at)) (grown.kept k i before);
  }

  pub many_code : HasCode (slice_set behind place (Both inner next)) (length old) (Many p) place next
  many_code =
      many (omega (arith, at)) (set_here behind place (Both inner next) within)
      (kept_code has (slice_set behind place (Both inner next)) (length old) (omega (arith, size)) (λ k i after found. set_other behind place k (Both inner next) i (omega (arith, after, at, size)) found))

  pub many_edges : edges_of placed ≡ 0 → edges_in behind ≡ edges_in put + atoms p → edges_in (slice_set behind place (Both inner next)) ≡ edges_in old + atoms (Many p)
  many_edges none more =
      let written = sum_by-set edges_of behind place (Both inner next) placed within in
      let was : edges_of (get_or behind place placed) ≡ 0 = ap edges_of (get_or_from_slice_get behind place placed placed there) ∙ none in
      let before : edges_in put ≡ edges_in old + sum_by edges_of (placed ∷ []) = ap edges_in is ∙ sum_by-append edges_of old (placed ∷ []) in
      omega (arith, written, was, before, more, none)

-- The code of a pattern's part is put or emitted last, with this result.
module _ {E : Type 0} (r : Result ℕ E) where
  pub one_put : (old new : List Instruction) (edge : EdgeTest) (name : Option (List ℕ)) (next : ℕ) → IfOk r (λ place. place ≡ length old) → OnOk r (new ≡ old ++ Along edge name next ∷ [])
      → IfOk r (λ start. HasCode new (length old) (One edge name) start next)
  one_put old new edge name next = at_result r
    where
      at_result : (r : Result ℕ E) → IfOk r (λ place. place ≡ length old) → OnOk r (new ≡ old ++ Along edge name next ∷ []) → IfOk r (λ start. HasCode new (length old) (One edge name) start next)
      at_result (Ok place) at is =
          one (omega (arith, at)) (ap (slice_get new) at ∙ ap (λ c. slice_get c (length old)) is ∙ slice_get-last old (Along edge name next))
      at_result (Err e) at is = tt

  pub then_emitted : (old b new : List Instruction) (p q : Shape) (middle next : ℕ) → IsGrown old b → HasCode b (length old) q middle next → OnOk r (IsGrown b new)
      → IfOk r (λ start. HasCode new (length b) p start middle) → IfOk r (λ start. HasCode new (length old) (Then p q) start next)
  then_emitted old b new p q middle next first has = at_result r
    where
      at_result : (r : Result ℕ E) → OnOk r (IsGrown b new) → IfOk r (λ start. HasCode new (length b) p start middle) → IfOk r (λ start. HasCode new (length old) (Then p q) start next)
      at_result (Ok start) second more = both (kept_code more new (length old) first.longer (λ place i after at. at)) (grown_code new (length old) second (omega arith) has)
      at_result (Err e) second more = tt

  module _ (old b c new : List Instruction) (p q : Shape) (left right next : ℕ) (first : IsGrown old b) (has : HasCode b (length old) p left next) (second : IsGrown b c) (more : HasCode c (length b) q right next) where
    or_grown : new ≡ c ++ Both left right ∷ [] → IsGrown old new
    or_grown is = subst (IsGrown old) (sym is) (grown_on (grown_on first second) (grown_put c (Both left right)))

    pub either_grown : OnOk r (new ≡ c ++ Both left right ∷ []) → OnOk r (IsGrown old new)
    either_grown = at_result r
      where
        at_result : (r : Result ℕ E) → OnOk r (new ≡ c ++ Both left right ∷ []) → OnOk r (IsGrown old new)
        at_result (Ok place) is = or_grown is
        at_result (Err e) is = tt

    pub either_put : IfOk r (λ place. place ≡ length c) → OnOk r (new ≡ c ++ Both left right ∷ []) → IfOk r (λ start. HasCode new (length old) (Or p q) start next)
    either_put = at_result r
      where
        last : new ≡ c ++ Both left right ∷ [] → IsGrown c new
        last is = subst (IsGrown c) (sym is) (grown_put c (Both left right))

        at_result : (r : Result ℕ E) → IfOk r (λ place. place ≡ length c) → OnOk r (new ≡ c ++ Both left right ∷ []) → IfOk r (λ start. HasCode new (length old) (Or p q) start next)
        at_result (Ok place) at is =
            either (let long = first.longer in let longer = second.longer in omega (arith, at, long, longer))
            (ap (slice_get new) at ∙ ap (λ d. slice_get d (length c)) is ∙ slice_get-last c (Both left right))
            (grown_code new (length old) (grown_on second (last is)) (omega arith) has)
            (grown_code new (length old) (last is) first.longer more)
        at_result (Err e) at is = tt
