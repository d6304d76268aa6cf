-- How a scan goes over the front of a log.
use Rattle.std.proofs.Common.{◌≡◌, ◌≢◌, ℕ, suc, ◌+◌, ◌<◌, ◌≤◌, ◌^◌, List, [], ◌∷◌, ◌++◌, length, take, drop, Result, Ok, Err, refl, sym, ◌∙◌, ap, subst, arith, append_assoc, length-append, length-drop, length-take, take-append-drop, add-zero, get_or}
use Rattle.std.specs.Int.{w32, to_be_bytes, from_be_bytes}
use Rattle.std.proofs.lemmas.Bool.Decides.{nat_tests}
use Rattle.std.proofs.lemmas.List.{append-nil, take_at, drop_at, take-append-le, drop-append-le}
use Rattle.std.proofs.lemmas.Nat.{from_be_bytes-to_be_bytes_4}
use Rattle.pass_log.specs.Frames.{Frames, before, number, scan, IsFront, Rests}

-- bytes that are passed over
pub scan_skip : (place : ℕ) (xs ys : List ℕ) → scan (length xs) place (xs ++ ys) ≡ scan 0 (place + length xs) ys
scan_skip place [] ys = ap (λ (n : ℕ). scan 0 n ys) (sym (add-zero place))
scan_skip place (x ∷ xs) ys =
    let shifted : place + 1 + length xs ≡ place + suc (length xs) = omega arith in
    scan_skip (place + 1) xs ys ∙ ap (λ (n : ℕ). scan 0 n ys) shifted

-- a gate that isn't open
pub scan_shut : (place gate : ℕ) (rest : List ℕ) → gate ≢ 1 → scan 0 place (gate ∷ rest) ≡ Ok (record { list = []; end = place })
scan_shut place gate rest shut = grind (arith, nat_tests)

-- a gate that is open
pub scan_open : (place : ℕ) (rest : List ℕ) → number rest + 4 < length rest → scan 0 place (1 ∷ rest) ≡ before (take (number rest) (drop 4 rest) ∷ []) (scan (number rest + 4) (place + 1) rest)
scan_open place rest fits = grind (arith, nat_tests)

pub scan_broken : (place : ℕ) (rest : List ℕ) → length rest ≤ number rest + 4 → scan 0 place (1 ∷ rest) ≡ Err place
scan_broken place rest short = grind (arith, nat_tests)

pub before_nil : (r : Result Frames ℕ) → before [] r ≡ r
before_nil (Ok r) = refl
before_nil (Err e) = refl

before_before : (fs gs : List (List ℕ)) (r : Result Frames ℕ) → before fs (before gs r) ≡ before (fs ++ gs) r
before_before fs gs (Ok r) = ap (λ (l : List (List ℕ)). Ok (record { list = l; end = r.end })) (sym (append_assoc fs gs r.list))
before_before fs gs (Err e) = refl

pub front_nil : IsFront [] []
front_nil = record { passes = λ place rest some. ap (λ (n : ℕ). scan 0 n rest) (sym (add-zero place)) ∙ sym (before_nil (scan 0 (place + 0) rest)) }

pub front_append : (a b : List ℕ) (fs gs : List (List ℕ)) → IsFront a fs → IsFront b gs → IsFront (a ++ b) (fs ++ gs)
front_append a b fs gs x y = record {
  passes = λ place rest some.
      let longer : 0 < length (b ++ rest) = omega (arith, length-append b rest) in
      let ends : place + length a + length b ≡ place + length (a ++ b) = omega (arith, length-append a b) in
      ap (λ (l : List ℕ). scan 0 place l) (append_assoc a b rest)
      ∙ x.passes place (b ++ rest) longer
      ∙ ap (before fs) (y.passes (place + length a) rest some)
      ∙ before_before fs gs (scan 0 (place + length a + length b) rest)
      ∙ ap (λ (n : ℕ). before (fs ++ gs) (scan 0 n rest)) ends;
}

-- Four bytes that spell a length, and what is left behind them.
module _ (count : ℕ) (behind left : List ℕ) (fits : count < 2 ^ 32) (is : behind ≡ to_be_bytes w32 count ++ left) where
  four : length (to_be_bytes w32 count) ≡ 4
  four = refl

  pub spells : number behind ≡ count
  spells = ap number is ∙ ap (from_be_bytes w32) (take_at (to_be_bytes w32 count) left 4 four) ∙ from_be_bytes-to_be_bytes_4 count fits

  pub left_length : length behind ≡ 4 + length left
  left_length = omega (arith, ap length is, length-append (to_be_bytes w32 count) left, four)

  -- too few bytes for a frame and the next gate
  pub too_short : length left ≤ count → length behind ≤ number behind + 4
  too_short few = omega (arith, spells, left_length, few)

  module _ (frame after : List ℕ) (parts : left ≡ frame ++ after) (whole : length frame ≡ count) where
    pub frame_is : frame ≡ take (number behind) (drop 4 behind)
    frame_is =
        sym (ap (λ (n : ℕ). take n (drop 4 behind)) spells
        ∙ ap (λ (l : List ℕ). take count (drop 4 l)) is
        ∙ ap (take count) (drop_at (to_be_bytes w32 count) left 4 four ∙ parts)
        ∙ take_at frame after count whole)

    pub after_is : after ≡ drop (number behind + 4) behind
    after_is =
        let head = to_be_bytes w32 count in
        let long : length (head ++ frame) ≡ count + 4 = omega (arith, length-append head frame, whole, four) in
        sym (ap (λ (n : ℕ). drop (n + 4) behind) spells
        ∙ ap (drop (count + 4)) (is ∙ ap (λ (l : List ℕ). head ++ l) parts ∙ sym (append_assoc head frame after))
        ∙ drop_at (head ++ frame) after (count + 4) long)

    pub room_behind : 0 < length after → number behind + 4 < length behind
    room_behind some = omega (arith, spells, left_length, ap length parts, length-append frame after, whole, some)

-- one frame: a length, and so many bytes
pub front_one : (xs : List ℕ) → length xs ≡ number xs + 4 → IsFront (1 ∷ xs) (drop 4 xs ∷ [])
front_one xs long = record {
  passes = λ place rest some.
      let n = number xs in
      let same : number (xs ++ rest) ≡ n = ap (from_be_bytes w32) (take-append-le 4 xs rest (omega (arith, long))) in
      let fits : number (xs ++ rest) + 4 < length (xs ++ rest) = omega (arith, same, long, some, length-append xs rest) in
      let piece : take (number (xs ++ rest)) (drop 4 (xs ++ rest)) ≡ drop 4 xs =
      ap (λ (k : ℕ). take k (drop 4 (xs ++ rest))) same
      ∙ ap (take n) (drop-append-le 4 xs rest (omega (arith, long)))
      ∙ take_at (drop 4 xs) rest n (omega (arith, length-drop 4 xs, long)) in
      let far : number (xs ++ rest) + 4 ≡ length xs = omega (arith, same, long) in
      let ends : place + 1 + length xs ≡ place + length (1 ∷ xs) = omega arith in
      scan_open place (xs ++ rest) fits
      ∙ ap (λ (f : List ℕ). before (f ∷ []) (scan (number (xs ++ rest) + 4) (place + 1) (xs ++ rest))) piece
      ∙ ap (λ (k : ℕ). before (drop 4 xs ∷ []) (scan k (place + 1) (xs ++ rest))) far
      ∙ ap (before (drop 4 xs ∷ [])) (scan_skip (place + 1) xs rest)
      ∙ ap (λ (n : ℕ). before (drop 4 xs ∷ []) (scan 0 n rest)) ends;
}

-- the bytes of a frame
pub front_frame : (frame : List ℕ) → length frame < 2 ^ 32 → IsFront (1 ∷ to_be_bytes w32 (length frame) ++ frame) (frame ∷ [])
front_frame frame fits =
    let head = to_be_bytes w32 (length frame) in
    let four : length head ≡ 4 = refl in
    let is : number (head ++ frame) ≡ length frame = ap (from_be_bytes w32) (take_at head frame 4 four) ∙ from_be_bytes-to_be_bytes_4 (length frame) fits in
    let rest : drop 4 (head ++ frame) ≡ frame = drop_at head frame 4 four in
    subst (λ (l : List ℕ). IsFront (1 ∷ head ++ frame) (l ∷ [])) rest (front_one (head ++ frame) (omega (arith, is, four, length-append head frame)))

-- a log at rest is read so
pub scan_rests : (list : List (List ℕ)) (end : ℕ) (bytes : List ℕ) → Rests list end bytes → scan 0 0 bytes ≡ Ok (record { list = list; end = end })
scan_rests list end bytes r =
    let some : 0 < length (r.gate ∷ r.tail) = omega arith in
    let places : 0 + length r.front ≡ end = omega (arith, r.place) in
    ap (scan 0 0) r.is
    ∙ r.passes.passes 0 (r.gate ∷ r.tail) some
    ∙ ap (before list) (scan_shut (0 + length r.front) r.gate r.tail r.shut)
    ∙ ap (λ (l : List (List ℕ)). Ok (record { list = l; end = 0 + length r.front })) (append-nil list)
    ∙ ap (λ (n : ℕ). Ok (record { list = list; end = n })) places

-- one frame more
pub more_frames : (fs : List (List ℕ)) (place : ℕ) (rest frame after : List ℕ) (total : Result Frames ℕ)
    → before fs (scan 0 place rest) ≡ total → rest ≡ 1 ∷ drop 1 rest → number (drop 1 rest) + 4 < length (drop 1 rest)
    → frame ≡ take (number (drop 1 rest)) (drop 4 (drop 1 rest)) → after ≡ drop (number (drop 1 rest) + 4) (drop 1 rest)
    → before (fs ++ frame ∷ []) (scan 0 (place + (5 + length frame)) after) ≡ total
more_frames fs place rest frame after total told gate fits is_frame is_after =
    let behind = drop 1 rest in
    let n = number behind in
    let long : length frame ≡ n = ap length is_frame ∙ length-take n (drop 4 behind) ∙ omega (arith, fits, length-drop 4 behind) in
    let passed : length (take (n + 4) behind) ≡ n + 4 = length-take (n + 4) behind ∙ omega (arith, fits) in
    let skip : scan (n + 4) (place + 1) behind ≡ scan 0 (place + (5 + length frame)) after =
    ap (scan (n + 4) (place + 1)) (sym (take-append-drop (n + 4) behind))
    ∙ ap (λ (k : ℕ). scan k (place + 1) (take (n + 4) behind ++ drop (n + 4) behind)) (sym passed)
    ∙ scan_skip (place + 1) (take (n + 4) behind) (drop (n + 4) behind)
    ∙ (λ i. scan 0 (ends passed long i) (sym is_after i)) in
    let opened : scan 0 place rest ≡ before (frame ∷ []) (scan 0 (place + (5 + length frame)) after) =
    ap (scan 0 place) gate ∙ scan_open place behind fits ∙ (λ i. before (sym is_frame i ∷ []) (skip i)) in
    sym (before_before fs (frame ∷ []) (scan 0 (place + (5 + length frame)) after))
    ∙ ap (before fs) (sym opened)
    ∙ told
  where
    ends : length (take (number (drop 1 rest) + 4) (drop 1 rest)) ≡ number (drop 1 rest) + 4 → length frame ≡ number (drop 1 rest)
        → place + 1 + length (take (number (drop 1 rest) + 4) (drop 1 rest)) ≡ place + (5 + length frame)
    ends passed long = omega (arith, passed, long)

-- no gate is open here: these are all frames
pub no_more : (fs : List (List ℕ)) (place : ℕ) (rest : List ℕ) (total : Result Frames ℕ)
    → before fs (scan 0 place rest) ≡ total → (0 < length rest → get_or rest 0 0 ≡ 1 → ⊥) → total ≡ Ok (record { list = fs; end = place })
no_more fs place [] total told shut = sym told ∙ ap (λ (l : List (List ℕ)). Ok (record { list = l; end = place })) (append-nil fs)
no_more fs place (gate ∷ rest) total told shut =
    sym told ∙ ap (before fs) (scan_shut place gate rest (shut (omega arith))) ∙ ap (λ (l : List (List ℕ)). Ok (record { list = l; end = place })) (append-nil fs)

-- the frames so far begin all frames
pub begins : (fs : List (List ℕ)) (scanned : Result Frames ℕ) (r : Frames) → before fs scanned ≡ Ok r → (more : List (List ℕ)) × (r.list ≡ fs ++ more)
begins fs (Ok x) r h = (x.list, sym (ap list_of h))
  where
    list_of : Result Frames ℕ → List (List ℕ)
    list_of (Ok r) = r.list
    list_of (Err e) = []
begins fs (Err e) r h = absurd (cc h)
