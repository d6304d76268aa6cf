-- Which of a stream's bytes stand in a log, and which have begun the next frame.
use Rattle.std.proofs.Common.{◌≡◌, ℕ, zero, suc, ◌+◌, ◌-◌, ◌≤◌, Bool, true, false, List, [], ◌∷◌, ◌++◌, length, take, drop, refl, sym, ◌∙◌, ap, subst, arith, append_assoc, length-append, length-drop}
use Rattle.std.specs.Prelude.{Option, Some, None, if◌then◌else◌}
use Rattle.std.specs.Option.{option_map_or}
use Rattle.std.proofs.lemmas.List.{append-nil, drop_all}
use Rattle.pass_entry.specs.declared.record.Record.{Record}
use Rattle.pass_standby.specs.declared.frame.Judgement.{Judgement}
use Rattle.pass_standby.specs.declared.frame.Judgement.TheVariants.{Begun, Bad, Whole}
use Rattle.pass_standby.specs.Streams.{head, judgement, batch_in, Told, spoiled, with_batch, judged, arrived, followed, bytes_as, bytes_with}
use Rattle.pass_standby.proofs.Coming.{followed-append, bad_stays}
use Rattle.pass_standby.proofs.Lawful.{grows}

-- some bytes of a list, and then some of what is left and of what comes behind it
pub take_on : (a b : ℕ) (xs rest : List ℕ) → a ≤ length xs → take a xs ++ take b (drop a xs ++ rest) ≡ take (a + b) (xs ++ rest)
take_on zero b xs rest le = let same : 0 + b ≡ b = omega arith in ap (λ (n : ℕ). take n (xs ++ rest)) (sym same)
take_on (suc a) b [] rest le = absurd (omega (arith, le))
take_on (suc a) b (x ∷ xs) rest le =
    let same : suc a + b ≡ suc (a + b) = omega arith in
    ap (λ (l : List ℕ). x ∷ l) (take_on a b xs rest (omega (arith, le))) ∙ ap (λ (n : ℕ). take n (x ∷ (xs ++ rest))) (sym same)

pub drop_on : (a b : ℕ) (xs rest : List ℕ) → a ≤ length xs → drop b (drop a xs ++ rest) ≡ drop (a + b) (xs ++ rest)
drop_on zero b xs rest le = let same : 0 + b ≡ b = omega arith in ap (λ (n : ℕ). drop n (xs ++ rest)) (sym same)
drop_on (suc a) b [] rest le = absurd (omega (arith, le))
drop_on (suc a) b (x ∷ xs) rest le =
    let same : suc a + b ≡ suc (a + b) = omega arith in
    drop_on a b xs rest (omega (arith, le)) ∙ ap (λ (n : ℕ). drop n (x ∷ (xs ++ rest))) (sym same)

-- what has begun is what is left behind the place
pub record Carries (t : Told) (bytes : List ℕ) (u : Told) : Type 0 where
  pub more : t.at ≤ u.at
  pub within : u.at - t.at ≤ length (t.begun ++ bytes)
  pub begun : u.begun ≡ drop (u.at - t.at) (t.begun ++ bytes)

carried_none : (t : Told) → Carries t [] t
carried_none t =
    let none : t.at - t.at ≡ 0 = omega arith in
    record { more = omega arith; within = omega (arith, none); begun = sym (ap (λ (n : ℕ). drop n (t.begun ++ [])) none ∙ append-nil t.begun) }

carried_both : (t u v : Told) (front rest : List ℕ) → Carries t front u → Carries u rest v → Carries t (front ++ rest) v
carried_both t u v front rest a b =
    let xs = t.begun ++ front in
    let left : length u.begun ≡ length xs - (u.at - t.at) = ap length a.begun ∙ length-drop (u.at - t.at) xs in
    let sum : (u.at - t.at) + (v.at - u.at) ≡ v.at - t.at = omega (arith, a.more, b.more) in
    let all : xs ++ rest ≡ t.begun ++ (front ++ rest) = append_assoc t.begun front rest in
    record {
      more = omega (arith, a.more, b.more);
      within = omega (arith, a.more, b.more, a.within, b.within, length-append xs rest, length-append u.begun rest, left, ap length all);
      begun = b.begun ∙ ap (λ (l : List ℕ). drop (v.at - u.at) (l ++ rest)) a.begun ∙ drop_on (u.at - t.at) (v.at - u.at) xs rest a.within
          ∙ ap (λ (n : ℕ). drop n (xs ++ rest)) sum ∙ ap (drop (v.at - t.at)) all;
    }

judged_carries : (t : Told) (x : ℕ) (j : Judgement) → (judged t (t.begun ++ x ∷ []) j).bad ≡ false → Carries t (x ∷ []) (judged t (t.begun ++ x ∷ []) j)
judged_carries t x Begun good =
    let none : t.at - t.at ≡ 0 = omega arith in
    record { more = omega arith; within = omega (arith, none); begun = sym (ap (λ (n : ℕ). drop n (t.begun ++ x ∷ [])) none) }
judged_carries t x Bad good = absurd (cc good)
judged_carries t x Whole good = by_case (batch_in t.list (drop head (t.begun ++ x ∷ []))) good
  where
    by_case : (o : Option (List Record)) → (option_map_or (with_batch t (t.begun ++ x ∷ [])) o (spoiled t (t.begun ++ x ∷ []))).bad ≡ false
        → Carries t (x ∷ []) (option_map_or (with_batch t (t.begun ++ x ∷ [])) o (spoiled t (t.begun ++ x ∷ [])))
    by_case None good = absurd (cc good)
    by_case (Some batch) good =
        let moved : t.at + length (t.begun ++ x ∷ []) - t.at ≡ length (t.begun ++ x ∷ []) = omega arith in
        record {
          more = omega arith;
          within = omega (arith, moved);
          begun = sym (drop_all (t.at + length (t.begun ++ x ∷ []) - t.at) (t.begun ++ x ∷ []) (omega (arith, moved)));
        }

arrived_carries : (t : Told) (x : ℕ) → t.bad ≡ false → (arrived t x).bad ≡ false → Carries t (x ∷ []) (arrived t x)
arrived_carries t x fine good =
    let one : arrived t x ≡ judged t (t.begun ++ x ∷ []) (judgement t.at (t.begun ++ x ∷ [])) =
    ap (λ (b : Bool). if b then t else judged t (t.begun ++ x ∷ []) (judgement t.at (t.begun ++ x ∷ []))) fine in
    subst (Carries t (x ∷ [])) (sym one) (judged_carries t x (judgement t.at (t.begun ++ x ∷ [])) (sym (ap (λ (u : Told). u.bad) one) ∙ good))

pub carried : (t : Told) (bytes : List ℕ) → t.bad ≡ false → (followed t bytes).bad ≡ false → Carries t bytes (followed t bytes)
carried t [] fine good = carried_none t
carried t (x ∷ xs) fine good = by_first (arrived t x).bad refl (λ first. carried (arrived t x) xs first good)
  where
    by_first : (b : Bool) → (arrived t x).bad ≡ b → ((arrived t x).bad ≡ false → Carries (arrived t x) xs (followed (arrived t x) xs)) → Carries t (x ∷ xs) (followed (arrived t x) xs)
    by_first true bad rest =
        let stays : (followed (arrived t x) xs).bad ≡ true = ap (λ (u : Told). u.bad) (bad_stays (arrived t x) xs bad) ∙ bad in
        absurd (cc (stays, good))
    by_first false first rest = carried_both t (arrived t x) (followed (arrived t x) xs) (x ∷ []) xs (arrived_carries t x fine first) (rest first)

-- where the place hasn't moved nothing was kept
pub bytes_none : (kept : List ℕ) (t : Told) (bytes : List ℕ) (u : Told) → u.at ≡ t.at → bytes_as kept t bytes u ≡ kept
bytes_none kept t bytes u is = let none : u.at - t.at ≡ 0 = omega (arith, is) in ap (λ (n : ℕ). kept ++ take n bytes) none ∙ append-nil kept

-- what was kept of bytes in two parts is what was kept of all
pub bytes_then : (kept : List ℕ) (t : Told) (front rest : List ℕ) → t.bad ≡ false → (followed t front).bad ≡ false
    → bytes_with (bytes_with kept t front) (followed t front) rest ≡ bytes_with kept t (front ++ rest)
bytes_then kept t front rest fine good =
    let u = followed t front in
    let v = followed (followed t front) rest in
    let c = carried t front fine good in
    let on : u.at ≤ v.at = (grows u rest).1 in
    let sum : (u.at - t.at) + (v.at - u.at) ≡ v.at - t.at = omega (arith, c.more, on) in
    append_assoc kept (take (u.at - t.at) (t.begun ++ front)) (take (v.at - u.at) (u.begun ++ rest))
    ∙ ap (λ (l : List ℕ). kept ++ l) (
    ap (λ (l : List ℕ). take (u.at - t.at) (t.begun ++ front) ++ take (v.at - u.at) (l ++ rest)) c.begun
    ∙ take_on (u.at - t.at) (v.at - u.at) (t.begun ++ front) rest c.within
    ∙ ap (λ (n : ℕ). take n ((t.begun ++ front) ++ rest)) sum
    ∙ ap (take (v.at - t.at)) (append_assoc t.begun front rest)
    ∙ ap (λ (w : Told). take (w.at - t.at) (t.begun ++ (front ++ rest))) (sym (followed-append t front rest)))
