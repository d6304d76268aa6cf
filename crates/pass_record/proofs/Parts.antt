-- A field that was read is the field that was written, what was written is read again, and what comes behind changes nothing.
use Rattle.std.proofs.Common.{◌≡◌, ℕ, ◌+◌, ◌^◌, ◌%◌, ◌<◌, ◌≤◌, Bool, true, false, cond, ltb, List, [], ◌∷◌, ◌++◌, length, take, drop, Result, Ok, Err, refl, sym, ap, subst, ◌∙◌, append_assoc, arith, inl, inr}
use Rattle.std.specs.List.{list_all}
use Rattle.std.specs.Int.{Width, w8, w16, w32, w64, byte_len, from_be_bytes, to_be_bytes}
use Rattle.std.proofs.lemmas.Bool.{cases_lt, ltb-false, le-ltb, lt-ltb}
use Rattle.std.proofs.lemmas.List.{take_at, drop_at, take-append-drop, take-append-le, drop-append-le, length-append, length-take, get_or-drop, get_or-take, get_or_past}
use Rattle.std.proofs.lemmas.Nat.{be_bytes_2, be_bytes_4, be_bytes_8, from_be_bytes-to_be_bytes_2, from_be_bytes-to_be_bytes_4, from_be_bytes-to_be_bytes_8}
use Rattle.pass_record.specs.declared.fault.RecordFault.{RecordFault}
use Rattle.pass_record.specs.declared.fault.RecordFault.TheVariants as fault
use Rattle.pass_record.specs.Faults.{Extends}
use Rattle.pass_record.specs.Fields.{◌>>=◌, number_at, bytes_at, text_at, md5_at}
use Rattle.pass_record.specs.Spelling.{AreBytes, text_bytes}
use Rattle.pass_entry.proofs.Variants.{guard_ok}

AreBytes-drop : (n : ℕ) (bytes : List ℕ) → AreBytes bytes → AreBytes (drop n bytes)
AreBytes-drop n bytes h i = rw get_or-drop (h (n + i))

AreBytes-take : (n : ℕ) (bytes : List ℕ) → AreBytes bytes → AreBytes (take n bytes)
AreBytes-take n bytes h i =
    elim (cases_lt i n) [
      | inl lt ↦ rw (get_or-take n bytes i 0 lt) (h i)
      | inr le ↦ rw (get_or_past (take n bytes) i 0 (omega (arith, length-take n bytes))) (omega arith)
    ]

-- ---- results

-- the value of a step that did not fail
pub bind_ok : {A B : Type 0} (r : Result A RecordFault) (f : A → Result B RecordFault) (y : B) → (r >>= f) ≡ Ok y → (x : A) × (r ≡ Ok x) × (f x ≡ Ok y)
bind_ok (Ok x) f y e = (x, refl, e)
bind_ok (Err d) f y e = absurd cc

-- a test that was passed
pub passed : {A : Type 0} (b : Bool) (d : RecordFault) (r : Result A RecordFault) (y : A) → cond b (Err d) r ≡ Ok y → (b ≡ false) × (r ≡ Ok y)
passed true d r y e = absurd cc
passed false d r y e = (refl, e)

abbrev done : {A : Type 0} → A → Result A RecordFault
done x = Ok x

pub ok_is : {A : Type 0} (x y : A) → done x ≡ done y → x ≡ y
ok_is x y e = cc

-- a step behind a step
pub Extends-bind : {A B : Type 0} (r s : Result (A × List ℕ) RecordFault) (more : List ℕ) (f : A × List ℕ → Result (B × List ℕ) RecordFault)
    → Extends r more s → ((a : A) (rest : List ℕ) → Extends (f (a, rest)) more (f (a, rest ++ more))) → Extends (r >>= f) more (s >>= f)
Extends-bind (Ok x) s more f first next = rw first (next x.0 x.1)
Extends-bind (Err fault.Short) s more f first next = tt
Extends-bind (Err fault.Tag) s more f first next = rw first refl
Extends-bind (Err fault.Value) s more f first next = rw first refl
Extends-bind (Err fault.NoMemory) s more f first next = absurd first

-- the last test of a field
pub Extends-met : {A : Type 0} (b : Bool) (x : A) (rest more : List ℕ) → Extends (cond b (Ok (x, rest)) (Err fault.Value)) more (cond b (Ok (x, rest ++ more)) (Err fault.Value))
Extends-met true x rest more = refl
Extends-met false x rest more = refl

-- ---- fields

-- what a reader took from the front
pub record Takes (bytes text rest : List ℕ) : Type 0 where
  pub parts : bytes ≡ text ++ rest
  pub rest_fits : AreBytes rest

pub Takes-then : (a x b y c : List ℕ) → Takes a x b → Takes b y c → Takes a (x ++ y) c
Takes-then a x b y c p q = record { parts = p.parts ∙ ap (λ (t : List ℕ). x ++ t) q.parts ∙ sym (append_assoc x y c); rest_fits = q.rest_fits }

-- a field's reader, what it spells, and which values have a spelling
pub record IsField {A : Type 0} (at : List ℕ → Result (A × List ℕ) RecordFault) (spelled : A → List ℕ) (Fits : A → Type 0) : Type 0 where
  pub takes : (bytes : List ℕ) (x : A) (rest : List ℕ) → AreBytes bytes → at bytes ≡ Ok (x, rest) → Takes bytes (spelled x) rest × Fits x
  pub again : (x : A) (rest : List ℕ) → Fits x → at (spelled x ++ rest) ≡ Ok (x, rest)
  pub stays : (bytes more : List ℕ) → Extends (at bytes) more (at (bytes ++ more))

-- ---- numbers

pub record IsWide (w : Width) (limit : ℕ) : Type 0 where
  pub len : (n : ℕ) → length (to_be_bytes w n) ≡ byte_len w
  pub back : (bytes : List ℕ) → length bytes ≡ byte_len w → AreBytes bytes → to_be_bytes w (from_be_bytes w bytes) ≡ bytes
  pub again : (n : ℕ) → n < limit → from_be_bytes w (to_be_bytes w n) ≡ n
  pub below : (bytes : List ℕ) → AreBytes bytes → from_be_bytes w bytes < limit

back8 : (bytes : List ℕ) → length bytes ≡ 1 → AreBytes bytes → to_be_bytes w8 (from_be_bytes w8 bytes) ≡ bytes
back8 [] len fits = absurd (omega arith)
back8 (b ∷ []) len fits = let small : b < 256 = fits 0 in let same : b % 256 ≡ b = omega arith in ap (λ (x : ℕ). x ∷ []) same
back8 (b ∷ c ∷ bytes) len fits = absurd (omega arith)

pub wide8 : IsWide w8 (2 ^ 8)
wide8 = record {
  len = λ n. refl;
  back = back8;
  again = λ n lt. omega arith;
  below = λ bytes fits. omega (arith, fits 0);
}

pub wide16 : IsWide w16 (2 ^ 16)
wide16 = record {
  len = λ n. refl;
  back = λ bytes len fits. be_bytes_2 bytes _ len fits refl;
  again = λ n lt. from_be_bytes-to_be_bytes_2 n lt;
  below = λ bytes fits. omega (arith, fits 0, fits 1);
}

pub wide32 : IsWide w32 (2 ^ 32)
wide32 = record {
  len = λ n. refl;
  back = λ bytes len fits. be_bytes_4 bytes _ len fits refl;
  again = λ n lt. from_be_bytes-to_be_bytes_4 n lt;
  below = λ bytes fits. omega (arith, fits 0, fits 1, fits 2, fits 3);
}

pub wide64 : IsWide w64 (2 ^ 64)
wide64 = record {
  len = λ n. refl;
  back = λ bytes len fits. be_bytes_8 bytes _ len fits refl;
  again = λ n lt. from_be_bytes-to_be_bytes_8 n lt;
  below = λ bytes fits. omega (arith, fits 0, fits 1, fits 2, fits 3, fits 4, fits 5, fits 6, fits 7);
}

abbrev pub NumberFits : ℕ → (ℕ → Bool) → ℕ → Type 0
NumberFits limit is_within n = (n < limit) × (is_within n ≡ true)

number_takes : (w : Width) (limit : ℕ) → IsWide w limit → (is_within : ℕ → Bool) (bytes : List ℕ) (n : ℕ) (rest : List ℕ) → AreBytes bytes → number_at w is_within bytes ≡ Ok (n, rest)
    → Takes bytes (to_be_bytes w n) rest × NumberFits limit is_within n
number_takes w limit wide is_within bytes n rest fits e =
    let k = byte_len w in
    let v = from_be_bytes w (take k bytes) in
    let g = passed (ltb (length bytes) k) fault.Short (cond (is_within v) (Ok (v, drop k bytes)) (Err fault.Value)) (n, rest) e in
    let m = guard_ok (is_within v) (v, drop k bytes) (n, rest) fault.Value g.1 in
    let long : k ≤ length bytes = ltb-false _ _ g.0 in
    let n-is : v ≡ n = ap (λ (p : ℕ × List ℕ). p.0) m.1 in
    let rest-is : drop k bytes ≡ rest = ap (λ (p : ℕ × List ℕ). p.1) m.1 in
    let taken = AreBytes-take k bytes fits in
    let front : to_be_bytes w n ≡ take k bytes = ap (to_be_bytes w) (sym n-is) ∙ wide.back (take k bytes) (omega (arith, length-take k bytes)) taken in
    let below : n < limit = subst (λ (x : ℕ). x < limit) n-is (wide.below (take k bytes) taken) in
    let within : is_within n ≡ true = ap is_within (sym n-is) ∙ m.0 in (
      record {
        parts = sym (take-append-drop k bytes) ∙ ap (λ (t : List ℕ). t ++ drop k bytes) (sym front) ∙ ap (λ (t : List ℕ). to_be_bytes w n ++ t) rest-is;
        rest_fits = subst AreBytes rest-is (AreBytes-drop k bytes fits);
      },
      (below, within),
    )

number_again : (w : Width) (limit : ℕ) → IsWide w limit → (is_within : ℕ → Bool) (n : ℕ) (rest : List ℕ) → NumberFits limit is_within n → number_at w is_within (to_be_bytes w n ++ rest) ≡ Ok (n, rest)
number_again w limit wide is_within n rest fits =
    let len = wide.len n in
    let long : ltb (length (to_be_bytes w n ++ rest)) (byte_len w) ≡ false = le-ltb _ _ (omega (arith, length-append (to_be_bytes w n) rest)) in
    rw (long, take_at (to_be_bytes w n) rest (byte_len w) len, drop_at (to_be_bytes w n) rest (byte_len w) len, wide.again n fits.0, fits.1) refl

number_stays : (w : Width) (is_within : ℕ → Bool) (bytes more : List ℕ) → Extends (number_at w is_within bytes) more (number_at w is_within (bytes ++ more))
number_stays w is_within bytes more =
    elim (cases_lt (length bytes) (byte_len w)) [
      | inl short ↦ rw (lt-ltb _ _ short) tt
      | inr long ↦
          let longer : ltb (length (bytes ++ more)) (byte_len w) ≡ false = le-ltb _ _ (omega (arith, length-append bytes more)) in
          rw (le-ltb _ _ long, longer, take-append-le (byte_len w) bytes more long, drop-append-le (byte_len w) bytes more long)
          (Extends-met (is_within (from_be_bytes w (take (byte_len w) bytes))) _ _ more)
    ]

pub number_field : (w : Width) (limit : ℕ) → IsWide w limit → (is_within : ℕ → Bool) → IsField (number_at w is_within) (to_be_bytes w) (NumberFits limit is_within)
number_field w limit wide is_within = record {
  takes = number_takes w limit wide is_within;
  again = number_again w limit wide is_within;
  stays = number_stays w is_within;
}

-- ---- bytes

bytes_take : (count : ℕ) (is_within : ℕ → Bool) (bytes text rest : List ℕ) → AreBytes bytes → bytes_at count is_within bytes ≡ Ok (text, rest)
    → Takes bytes text rest × ((length text ≡ count) × (list_all is_within text ≡ true))
bytes_take count is_within bytes text rest fits e =
    let g = passed (ltb (length bytes) count) fault.Short (cond (list_all is_within (take count bytes)) (Ok (take count bytes, drop count bytes)) (Err fault.Value)) (text, rest) e in
    let m = guard_ok (list_all is_within (take count bytes)) (take count bytes, drop count bytes) (text, rest) fault.Value g.1 in
    let long : count ≤ length bytes = ltb-false _ _ g.0 in
    let len : length (take count bytes) ≡ count = omega (arith, length-take count bytes) in
    let front : Takes bytes (take count bytes) (drop count bytes) = record { parts = sym (take-append-drop count bytes); rest_fits = AreBytes-drop count bytes fits } in
    subst (λ (p : List ℕ × List ℕ). Takes bytes p.0 p.1 × ((length p.0 ≡ count) × (list_all is_within p.0 ≡ true))) m.1 (front, (len, m.0))

bytes_again : (is_within : ℕ → Bool) (text rest : List ℕ) → list_all is_within text ≡ true → bytes_at (length text) is_within (text ++ rest) ≡ Ok (text, rest)
bytes_again is_within text rest within =
    let long : ltb (length (text ++ rest)) (length text) ≡ false = le-ltb _ _ (omega (arith, length-append text rest)) in
    rw (long, take_at text rest (length text) refl, drop_at text rest (length text) refl, within) refl

bytes_stay : (count : ℕ) (is_within : ℕ → Bool) (bytes more : List ℕ) → Extends (bytes_at count is_within bytes) more (bytes_at count is_within (bytes ++ more))
bytes_stay count is_within bytes more =
    elim (cases_lt (length bytes) count) [
      | inl short ↦ rw (lt-ltb _ _ short) tt
      | inr long ↦
          let longer : ltb (length (bytes ++ more)) count ≡ false = le-ltb _ _ (omega (arith, length-append bytes more)) in
          rw (le-ltb _ _ long, longer, take-append-le count bytes more long, drop-append-le count bytes more long)
          (Extends-met (list_all is_within (take count bytes)) _ _ more)
    ]

-- ---- texts

abbrev pub TextFits : ℕ → (ℕ → Bool) → (ℕ → Bool) → List ℕ → Type 0
TextFits limit is_length is_byte text = NumberFits limit is_length (length text) × (list_all is_byte text ≡ true)

text_takes : (w : Width) (limit : ℕ) → IsWide w limit → (is_length is_byte : ℕ → Bool) (bytes text rest : List ℕ) → AreBytes bytes → text_at w is_length is_byte bytes ≡ Ok (text, rest)
    → Takes bytes (text_bytes w text) rest × TextFits limit is_length is_byte text
text_takes w limit wide is_length is_byte bytes text rest fits e =
    let a = bind_ok (number_at w is_length bytes) (λ (n : ℕ × List ℕ). bytes_at n.0 is_byte n.1) (text, rest) e in
    let t = number_takes w limit wide is_length bytes a.0.0 a.0.1 fits a.1 in
    let b = bytes_take a.0.0 is_byte a.0.1 text rest t.0.rest_fits a.2 in
    let both = Takes-then bytes (to_be_bytes w a.0.0) a.0.1 text rest t.0 b.0 in
    let len = b.1.0 in
    (subst (λ (k : ℕ). Takes bytes (to_be_bytes w k ++ text) rest) (sym len) both, (subst (NumberFits limit is_length) (sym len) t.1, b.1.1))

text_again : (w : Width) (limit : ℕ) → IsWide w limit → (is_length is_byte : ℕ → Bool) (text rest : List ℕ) → TextFits limit is_length is_byte text
    → text_at w is_length is_byte (text_bytes w text ++ rest) ≡ Ok (text, rest)
text_again w limit wide is_length is_byte text rest fits =
    ap (text_at w is_length is_byte) (append_assoc (to_be_bytes w (length text)) text rest)
    ∙ rw (number_again w limit wide is_length (length text) (text ++ rest) fits.0) (bytes_again is_byte text rest fits.1)

text_stays : (w : Width) (is_length is_byte : ℕ → Bool) (bytes more : List ℕ) → Extends (text_at w is_length is_byte bytes) more (text_at w is_length is_byte (bytes ++ more))
text_stays w is_length is_byte bytes more =
    Extends-bind (number_at w is_length bytes) (number_at w is_length (bytes ++ more)) more (λ (n : ℕ × List ℕ). bytes_at n.0 is_byte n.1) (number_stays w is_length bytes more) (λ n rest. bytes_stay n is_byte rest more)

pub text_field : (w : Width) (limit : ℕ) → IsWide w limit → (is_length is_byte : ℕ → Bool) → IsField (text_at w is_length is_byte) (text_bytes w) (TextFits limit is_length is_byte)
text_field w limit wide is_length is_byte = record {
  takes = text_takes w limit wide is_length is_byte;
  again = text_again w limit wide is_length is_byte;
  stays = text_stays w is_length is_byte;
}

-- ---- the 16 bytes of an MD5

abbrev IsMd5 : List ℕ → Type 0
IsMd5 md5 = length md5 ≡ 16

md5_takes : (bytes md5 rest : List ℕ) → AreBytes bytes → md5_at bytes ≡ Ok (md5, rest) → Takes bytes md5 rest × IsMd5 md5
md5_takes bytes md5 rest fits e =
    let g = passed (ltb (length bytes) 16) fault.Short (Ok (take 16 bytes, drop 16 bytes)) (md5, rest) e in
    let long : 16 ≤ length bytes = ltb-false _ _ g.0 in
    let len : length (take 16 bytes) ≡ 16 = omega (arith, length-take 16 bytes) in
    let front : Takes bytes (take 16 bytes) (drop 16 bytes) = record { parts = sym (take-append-drop 16 bytes); rest_fits = AreBytes-drop 16 bytes fits } in
    subst (λ (p : List ℕ × List ℕ). Takes bytes p.0 p.1 × IsMd5 p.0) (ok_is (take 16 bytes, drop 16 bytes) (md5, rest) g.1) (front, len)

md5_again : (md5 rest : List ℕ) → IsMd5 md5 → md5_at (md5 ++ rest) ≡ Ok (md5, rest)
md5_again md5 rest len =
    let long : ltb (length (md5 ++ rest)) 16 ≡ false = le-ltb _ _ (omega (arith, length-append md5 rest)) in
    rw (long, take_at md5 rest 16 len, drop_at md5 rest 16 len) refl

md5_stays : (bytes more : List ℕ) → Extends (md5_at bytes) more (md5_at (bytes ++ more))
md5_stays bytes more =
    elim (cases_lt (length bytes) 16) [
      | inl short ↦ rw (lt-ltb _ _ short) tt
      | inr long ↦
          let longer : ltb (length (bytes ++ more)) 16 ≡ false = le-ltb _ _ (omega (arith, length-append bytes more)) in
          rw (le-ltb _ _ long, longer, take-append-le 16 bytes more long, drop-append-le 16 bytes more long) refl
    ]

pub md5_field : IsField md5_at (λ md5. md5) IsMd5
md5_field = record { takes = md5_takes; again = md5_again; stays = md5_stays }
