-- Blocks that pass a test, counted one after the other.
use Rattle.std.proofs.Common.{◌≡◌, ◌≢◌, ◌+◌, ◌-◌, ◌*◌, ◌<◌, ◌≤◌, ◌==◌, ℕ, zero, suc, [], ◌∷◌, ◌++◌, length, ◌∙◌, ap, sym, refl, Bool, true, false, ◌&&◌, ◌||◌, not, arith}
use Rattle.std.specs.Prelude.{filter, nat_lt, if◌then◌else◌}
use Rattle.std.specs.List.{range_with_len}
use Rattle.std.proofs.lemmas.List.{length-append}
use Rattle.std.proofs.lemmas.List.Elements.{filter-append}
use Rattle.std.proofs.lemmas.Bool.{or_from}
use Rattle.std.proofs.lemmas.Bool.Decides.{nat_tests}
use Rattle.pass_plain.specs.Records.{touches, range_len}
use Rattle.pass_report.specs.Digests.{passing, is_stretched, gets_digest}

pub range-more : (a n : ℕ) → range_with_len a (suc n) ≡ range_with_len a n ++ (a + n) ∷ []
range-more a zero = ap (λ k. k ∷ []) (let z : a ≡ a + 0 = omega arith in z)
range-more a (suc n) = ap (λ ks. a ∷ ks) (range-more (a + 1) n ∙ ap (λ k. range_with_len (a + 1) n ++ k ∷ []) (let z : a + 1 + n ≡ a + suc n = omega arith in z))

pub passing-none : (test : ℕ → Bool) → 0 ≡ passing test 0
unfolding passing
passing-none test = refl

pub one_more : {X : Type 0} (b : Bool) (n : ℕ) (x : X) → n + length (if b then x ∷ [] else []) ≡ (if b then n + 1 else n)
one_more true n x = refl
one_more false n x = omega arith

pub passing-more : (test : ℕ → Bool) (n : ℕ) → passing test (n + 1) ≡ (if test n then passing test n + 1 else passing test n)
unfolding passing
passing-more test n =
    ap (λ k. length (filter test (range_with_len 0 k))) (let z : n + 1 ≡ suc n = omega arith in z)
    ∙ ap (λ ks. length (filter test ks)) (range-more 0 n)
    ∙ ap length (filter-append test (range_with_len 0 n) ((0 + n) ∷ []))
    ∙ length-append (filter test (range_with_len 0 n)) (filter test ((0 + n) ∷ []))
    ∙ ap (λ k. length (filter test (range_with_len 0 n)) + length (filter test (k ∷ []))) (let z : 0 + n ≡ n = omega arith in z)
    ∙ one_more (test n) (length (filter test (range_with_len 0 n))) n

-- one more block, which passes or doesn't
pub counted : (test : ℕ → Bool) (n count : ℕ) → test n ≡ true → count ≡ passing test n → count + 1 ≡ passing test (n + 1)
counted test n count passes is = ap (λ k. k + 1) is ∙ sym (passing-more test n ∙ ap (λ b. if b then passing test n + 1 else passing test n) passes)

pub skipped : (test : ℕ → Bool) (n count : ℕ) → test n ≡ false → count ≡ passing test n → count ≡ passing test (n + 1)
skipped test n count fails is = is ∙ sym (passing-more test n ∙ ap (λ b. if b then passing test n + 1 else passing test n) fails)

tested : (b c : Bool) → b ≡ c → (n m : ℕ) → n ≡ m → (if b then n + 1 else n) ≡ (if c then m + 1 else m)
tested b c same n m e = λ i. if same i then e i + 1 else e i

-- tests that agree on the first blocks let as many pass
pub passing-same : (p q : ℕ → Bool) (n : ℕ) → ((k : ℕ) → k < n → p k ≡ q k) → passing p n ≡ passing q n
passing-same p q zero same = sym (passing-none p) ∙ passing-none q
passing-same p q (suc n) same =
    let one : n + 1 ≡ suc n = omega arith in
    ap (passing p) (sym one) ∙ passing-more p n
    ∙ tested (p n) (q n) (same n (omega arith)) (passing p n) (passing q n) (passing-same p q n (λ k low. same k (omega arith)))
    ∙ sym (passing-more q n) ∙ ap (passing q) one

-- as many of more blocks pass, where none of the further ones does
more_none : (test : ℕ → Bool) (m d : ℕ) → ((k : ℕ) → m ≤ k → k < m + d → test k ≡ false) → passing test m ≡ passing test (m + d)
more_none test m zero none = ap (passing test) (let z : m ≡ m + 0 = omega arith in z)
more_none test m (suc d) none =
    skipped test (m + d) (passing test m) (none (m + d) (omega arith) (omega arith)) (more_none test m d (λ k from to. none k from (omega arith)))
    ∙ ap (passing test) (let z : m + d + 1 ≡ m + suc d = omega arith in z)

pub none_between : (test : ℕ → Bool) (m n : ℕ) → m ≤ n → ((k : ℕ) → m ≤ k → k < n → test k ≡ false) → passing test m ≡ passing test n
none_between test m n low none =
    more_none test m (n - m) (λ k from to. none k from (omega arith)) ∙ ap (passing test) (let z : m + (n - m) ≡ n = omega arith in z)

pub none_below : (test : ℕ → Bool) (n : ℕ) → ((k : ℕ) → k < n → test k ≡ false) → 0 ≡ passing test n
none_below test n none = passing-none test ∙ none_between test 0 n (omega arith) (λ k from to. none k to)

second_false : (a b c : Bool) → b ≡ false → (a && b && c) ≡ false
second_false false b c is = refl
second_false true false c is = refl
second_false true true c is = absurd (cc)

third_false : (a b c : Bool) → c ≡ false → (a && b && c) ≡ false
third_false false b c is = refl
third_false true false c is = refl
third_false true true c is = is

pub untouched_below : (at len k : ℕ) → (0 < len → (k + 1) * 4096 ≤ at) → touches at len k ≡ false
untouched_below at zero k from = refl
untouched_below at (suc n) k from =
    let low = from (omega arith) in
    third_false (nat_lt 0 (suc n)) (nat_lt (k * 4096) (at + suc n)) (nat_lt at ((k + 1) * 4096)) (grind (arith, nat_tests))

pub untouched_behind : (at len k : ℕ) → (0 < len → at + len ≤ k * 4096) → touches at len k ≡ false
untouched_behind at zero k to = refl
untouched_behind at (suc n) k to =
    let high = to (omega arith) in
    second_false (nat_lt 0 (suc n)) (nat_lt (k * 4096) (at + suc n)) (nat_lt at ((k + 1) * 4096)) (grind (arith, nat_tests))

unstretched : (had : ℕ → Bool) (old new k : ℕ) → range_len old k ≡ range_len new k → is_stretched had old new k ≡ false
unstretched had old new k same =
    third_false (had k) (nat_lt (k * 4096) new) (not (range_len old k == range_len new k)) (let z : (range_len old k == range_len new k) ≡ true = grind (arith, nat_tests) in ap not z)

module _ (had : ℕ → Bool) (old at len new : ℕ) where
  unstretched_below : (k : ℕ) → (old ≢ new → ((k + 1) * 4096 ≤ old) × ((k + 1) * 4096 ≤ new)) → (b : Bool) → (old == new) ≡ b → is_stretched had old new k ≡ false
  unstretched_below k from true is = unstretched had old new k (let z : old ≡ new = grind (arith, nat_tests) in ap (λ size. range_len size k) z)
  unstretched_below k from false is =
      let (low, least) = from (λ (e : old ≡ new). absurd (grind (arith, nat_tests))) in
      unstretched had old new k (omega arith)

  unstretched_behind : (k : ℕ) → (old ≢ new → new ≤ k * 4096) → (b : Bool) → (old == new) ≡ b → is_stretched had old new k ≡ false
  unstretched_behind k to true is = unstretched had old new k (let z : old ≡ new = grind (arith, nat_tests) in ap (λ size. range_len size k) z)
  unstretched_behind k to false is =
      let high = to (λ (e : old ≡ new). absurd (grind (arith, nat_tests))) in
      second_false (had k) (nat_lt (k * 4096) new) (not (range_len old k == range_len new k)) (grind (arith, nat_tests))

  -- no block gets a digest that ends before what changes
  pub none_gets_below : (k : ℕ) → (0 < len → (k + 1) * 4096 ≤ at) → (old ≢ new → ((k + 1) * 4096 ≤ old) × ((k + 1) * 4096 ≤ new)) → gets_digest had old at len new k ≡ false
  none_gets_below k from low = or_from (touches at len k) (is_stretched had old new k) (untouched_below at len k from) (unstretched_below k low (old == new) refl)

  -- and none that begins behind it
  pub none_gets_behind : (k : ℕ) → (0 < len → at + len ≤ k * 4096) → (old ≢ new → new ≤ k * 4096) → gets_digest had old at len new k ≡ false
  none_gets_behind k to high = or_from (touches at len k) (is_stretched had old new k) (untouched_behind at len k to) (unstretched_behind k high (old == new) refl)

-- a row stays where the block isn't touched
pub row_stays : (had touched : Bool) → touched ≡ false → had ≡ (had || touched)
row_stays false touched none = sym none
row_stays true touched none = refl
