-- A log that reads as some frames is at rest with them.
use Rattle.std.proofs.Common.{◌≡◌, ◌≢◌, ℕ, zero, suc, ◌+◌, ◌-◌, ◌<◌, ◌≤◌, List, [], ◌∷◌, ◌++◌, length, take, drop, Result, Ok, Err, inl, inr, refl, sym, ◌∙◌, ap, subst, arith, append_assoc, length-append, length-drop, length-take, take-append-drop}
use Rattle.std.specs.Int.{w32, from_be_bytes}
use Rattle.std.proofs.lemmas.Bool.{cases_eq, cases_lt}
use Rattle.std.proofs.lemmas.List.{take-take, drop-take}
use Rattle.pass_log.specs.Frames.{Frames, before, number, scan, frames_of, longest, IsFront, Rests}
use Rattle.pass_log.proofs.Scan.{scan_skip, scan_shut, scan_open, scan_broken, front_nil, front_append, front_one}
use Rattle.pass_log.proofs.Crash.{image_scan, image_long, found, broken}

-- the parts of bytes of which a scan from a place tells that
pub record Parts (place : ℕ) (bytes : List ℕ) (r : Frames) : Type 0 where
  pub front : List ℕ
  pub gate : ℕ
  pub tail : List ℕ
  pub is : bytes ≡ front ++ gate ∷ tail
  pub shut : gate ≢ 1
  pub passes : IsFront front r.list
  pub place_is : r.end ≡ place + length front

-- what comes before something that is Ok
pub record Rest (fs : List (List ℕ)) (s : Result Frames ℕ) (r : Frames) : Type 0 where
  pub rest : Frames
  pub is : s ≡ Ok rest
  pub list : r.list ≡ fs ++ rest.list
  pub end : r.end ≡ rest.end

pub before_ok : (fs : List (List ℕ)) (s : Result Frames ℕ) (r : Frames) → before fs s ≡ Ok r → Rest fs s r
before_ok fs (Ok x) r h = record { rest = x; is = refl; list = sym (ap list_of h); end = sym (ap end_of h) }
  where
    list_of : Result Frames ℕ → List (List ℕ)
    list_of (Ok r) = r.list
    list_of (Err e) = []

    end_of : Result Frames ℕ → ℕ
    end_of (Ok r) = r.end
    end_of (Err e) = 0
before_ok fs (Err e) r h = absurd (cc h)

drop_front : (n : ℕ) (l : List ℕ) → drop 4 (take (n + 4) l) ≡ take n (drop 4 l)
drop_front n l = let turned : n + 4 ≡ 4 + n = omega arith in ap (λ (k : ℕ). drop 4 (take k l)) turned ∙ drop-take 4 n l

parts : (fuel place : ℕ) (bytes : List ℕ) (r : Frames) → length bytes ≤ fuel → 0 < length bytes → scan 0 place bytes ≡ Ok r → Parts place bytes r
parts fuel place [] r le some h = absurd (omega arith)
parts zero place (gate ∷ rest) r le some h = absurd (omega arith)
parts (suc fuel) place (gate ∷ rest) r le some h = elim (cases_eq gate 1) [
  | inr shut ↦
      let is : found [] place ≡ Ok r = sym (scan_shut place gate rest shut) ∙ h in
      let same : record { list = []; end = place } ≡ r = cc is in
      subst (λ (q : Frames). Parts place (gate ∷ rest) q) same
      (record { front = []; gate = gate; tail = rest; is = refl; shut = shut; passes = front_nil; place_is = omega arith })
  | inl one ↦
      let open_here : scan 0 place (1 ∷ rest) ≡ Ok r = ap (λ (g : ℕ). scan 0 place (g ∷ rest)) (sym one) ∙ h in
      elim (cases_lt (number rest + 4) (length rest)) [
        | inr short ↦ let bad : broken place ≡ Ok r = sym (scan_broken place rest short) ∙ open_here in absurd (cc bad)
        | inl fits ↦
            let n = number rest + 4 in
            let xs = take n rest in
            let ys = drop n rest in
            let long : length xs ≡ n = length-take n rest ∙ omega (arith, fits) in
            let behind : length ys ≡ length rest - n = length-drop n rest in
            let after = before_ok (take (number rest) (drop 4 rest) ∷ []) (scan (number rest + 4) (place + 1) rest) r (sym (scan_open place rest fits) ∙ open_here) in
            let shifted : scan n (place + 1) rest ≡ scan 0 (place + 1 + n) ys =
            ap (scan n (place + 1)) (sym (take-append-drop n rest)) ∙ ap (λ (k : ℕ). scan k (place + 1) (xs ++ ys)) (sym long) ∙ scan_skip (place + 1) xs ys ∙ ap (λ (k : ℕ). scan 0 (place + 1 + k) ys) long in
            let below = parts fuel (place + 1 + n) ys after.rest (omega (arith, le, behind)) (omega (arith, behind, fits)) (sym shifted ∙ after.is) in
            let number_is : number xs ≡ number rest = ap (from_be_bytes w32) (take-take 4 n rest (omega arith)) in
            let piece : drop 4 xs ≡ take (number rest) (drop 4 rest) = drop_front (number rest) rest in
            let first : IsFront (1 ∷ xs) (take (number rest) (drop 4 rest) ∷ []) =
            subst (λ (l : List ℕ). IsFront (1 ∷ xs) (l ∷ [])) piece (front_one xs (omega (arith, long, number_is))) in
            record {
              front = (1 ∷ xs) ++ below.front;
              gate = below.gate;
              tail = below.tail;
              is = ap (λ (g : ℕ). g ∷ rest) one ∙ ap (λ (l : List ℕ). 1 ∷ l) (sym (take-append-drop n rest) ∙ ap (λ (l : List ℕ). xs ++ l) below.is)
                  ∙ sym (append_assoc (1 ∷ xs) below.front (below.gate ∷ below.tail));
              shut = below.shut;
              passes = subst (IsFront ((1 ∷ xs) ++ below.front)) (sym after.list) (front_append (1 ∷ xs) below.front _ _ first below.passes);
              place_is = after.end ∙ below.place_is ∙ omega (arith, long, length-append (1 ∷ xs) below.front);
            }
      ]
]

-- an area of two bytes or more
pub rests : (bytes : List ℕ) (r : Frames) → 1 < length bytes → frames_of bytes ≡ Ok r → (length bytes ≤ longest) × Rests r.list r.end bytes
rests bytes r some h = elim (cases_lt longest (length bytes)) [
  | inl long ↦ let bad : broken longest ≡ Ok r = sym (image_long bytes long) ∙ h in absurd (cc bad)
  | inr fits ↦
      let p = parts (length bytes) 0 bytes r (omega arith) (omega (arith, some)) (sym (image_scan bytes some fits) ∙ h) in
      (fits, record { front = p.front; gate = p.gate; tail = p.tail; is = p.is; shut = p.shut; passes = p.passes; place = omega (arith, p.place_is) })
]
