-- The bytes of a frame as they come.
use Rattle.std.proofs.Common.{◌≡◌, ◌⊎◌, ℕ, ◌+◌, ◌<◌, ◌≤◌, Bool, true, false, List, [], ◌∷◌, ◌++◌, length, drop, inl, inr, refl, sym, ◌∙◌, ap, subst, arith, append_assoc, length-append, length-drop}
use Rattle.std.specs.Prelude.{not, nat_lt, if◌then◌else◌}
use Rattle.std.specs.Int.{w32, from_be_bytes}
use Rattle.std.proofs.lemmas.Bool.Decides.{nat_tests}
use Rattle.std.proofs.lemmas.List.{append-nil, take-append-le, drop-append-le}
use Rattle.std.proofs.lemmas.List.Sums.{fold-append}
use Rattle.std.proofs.lemmas.Bool.{lt-ltb, le-ltb}
use Rattle.pass_log.specs.Frames.{number}
use Rattle.pass_standby.specs.declared.frame.Judgement.{Judgement}
use Rattle.pass_standby.specs.declared.frame.Judgement.TheVariants.{Begun, Bad, Whole}
use Rattle.pass_standby.specs.Streams.{head, claimed, is_open, is_fit, judgement, Told, judged, arrived, followed, next_stop, IsBegun, IsWhole}
use Rattle.pass_entry.proofs.Lists.{below_is, not_below}

-- the bytes in two parts
pub followed-append : (t : Told) (xs ys : List ℕ) → followed t (xs ++ ys) ≡ followed (followed t xs) ys
followed-append t xs ys = fold-append arrived t xs ys

-- behind a bad frame nothing counts
pub bad_stays : (t : Told) (xs : List ℕ) → t.bad ≡ true → followed t xs ≡ t
bad_stays t [] bad = refl
bad_stays t (x ∷ xs) bad =
    let one : arrived t x ≡ t = ap (λ (b : Bool). if b then t else judged t (t.begun ++ x ∷ []) (judgement t.at (t.begun ++ x ∷ []))) bad in
    ap (λ (u : Told). followed u xs) one ∙ bad_stays t xs bad

-- a judgement by its four tests
abbrev pub by_tests : Bool → Bool → Bool → Bool → Judgement
by_tests gate few fit less = if not gate then Bad else (if few then Begun else (if not fit then Bad else (if less then Begun else Whole)))

record IsBegunBy (gate few fit less : Bool) : Type 0 where
  gate_is : gate ≡ true
  few_or : (few ≡ true) ⊎ ((few ≡ false) × (fit ≡ true) × (less ≡ true))

begun_by : (gate few fit less : Bool) → by_tests gate few fit less ≡ Begun → IsBegunBy gate few fit less
begun_by false few fit less h = absurd (cc h)
begun_by true true fit less h = record { gate_is = refl; few_or = inl refl }
begun_by true false false less h = absurd (cc h)
begun_by true false true false h = absurd (cc h)
begun_by true false true true h = record { gate_is = refl; few_or = inr (refl, refl, refl) }

record IsWholeBy (gate few fit less : Bool) : Type 0 where
  gate_is : gate ≡ true
  few_is : few ≡ false
  fit_is : fit ≡ true
  less_is : less ≡ false

whole_by : (gate few fit less : Bool) → by_tests gate few fit less ≡ Whole → IsWholeBy gate few fit less
whole_by false few fit less h = absurd (cc h)
whole_by true true fit less h = absurd (cc h)
whole_by true false false less h = absurd (cc h)
whole_by true false true true h = absurd (cc h)
whole_by true false true false h = record { gate_is = refl; few_is = refl; fit_is = refl; less_is = refl }

-- where a frame of so many bytes is judged next
stop_at_first : (frame : List ℕ) → length frame < 1 → next_stop frame ≡ 1
stop_at_first frame few = grind (arith, nat_tests)

stop_in_head : (frame : List ℕ) → 1 ≤ length frame → length frame < head → next_stop frame ≡ head
stop_in_head frame some few = grind (arith, nat_tests)

pub stop_at_end : (frame : List ℕ) → head ≤ length frame → next_stop frame ≡ head + claimed frame
stop_at_end frame enough = grind (arith, nat_tests)

-- what a beginning of a frame says stays, whatever comes behind it
pub claimed_stays : (frame more : List ℕ) → head ≤ length frame → claimed (frame ++ more) ≡ claimed frame
claimed_stays frame more enough =
    ap number (drop-append-le 1 frame more (omega (arith, enough)))
    ∙ ap (from_be_bytes w32) (take-append-le 4 (drop 1 frame) more (omega (arith, enough, length-drop 1 frame)))

open_stays : (frame more : List ℕ) → 1 ≤ length frame → is_open (frame ++ more) ≡ is_open frame
open_stays [] more some = absurd (omega arith)
open_stays (b ∷ frame) more some = refl

-- the beginning of a frame, so judged
pub begun_is : (at : ℕ) (frame : List ℕ) → judgement at frame ≡ Begun → IsBegun at frame
begun_is at frame is = elim (by.few_or) [
  | inl few ↦ in_head (below_is (length frame) head few)
  | inr rest ↦ behind (not_below (length frame) head rest.0) rest.1 (below_is (length frame) (head + claimed frame) rest.2)
]
  where
    by : IsBegunBy (is_open frame) (nat_lt (length frame) head) (is_fit at (claimed frame)) (nat_lt (length frame) (head + claimed frame))
    by = begun_by (is_open frame) (nat_lt (length frame) head) (is_fit at (claimed frame)) (nat_lt (length frame) (head + claimed frame)) is

    in_head : length frame < head → IsBegun at frame
    in_head few = record {
      open_gate = λ some. by.gate_is;
      fits = λ enough. absurd (omega (arith, few, enough));
      short = grind (arith, nat_tests);
    }

    behind : head ≤ length frame → is_fit at (claimed frame) ≡ true → length frame < head + claimed frame → IsBegun at frame
    behind enough fit less = record {
      open_gate = λ some. by.gate_is;
      fits = λ enough. fit;
      short = subst (λ (n : ℕ). length frame < n) (sym (stop_at_end frame enough)) less;
    }

-- a beginning of a frame below its next stop, and one byte more below it
module _ (at : ℕ) (frame : List ℕ) (begun : IsBegun at frame) (byte : ℕ) (below : length frame + 1 < next_stop frame) where
  abbrev pub longer : List ℕ
  longer = frame ++ byte ∷ []

  size_more : length longer ≡ length frame + 1
  size_more = length-append frame (byte ∷ [])

  some : 1 ≤ length frame
  some = elim (lt_or (length frame)) [ inl few ↦ absurd (omega (arith, stop_at_first frame few, below, few)) | inr more ↦ more ]
    where
      lt_or : (n : ℕ) → (n < 1) ⊎ (1 ≤ n)
      lt_or n = grind arith

  case_head : (length frame < head) ⊎ (head ≤ length frame)
  case_head = grind arith

  pub still_begun : judgement at longer ≡ Begun
  still_begun = elim case_head [
    | inl few ↦
        let gate : is_open longer ≡ true = open_stays frame (byte ∷ []) some ∙ begun.open_gate some in
        let stop : next_stop frame ≡ head = stop_in_head frame some few in
        let less : nat_lt (length longer) head ≡ true = lt-ltb (length longer) head (omega (arith, size_more, below, stop)) in
        by_few gate less
    | inr enough ↦
        let gate : is_open longer ≡ true = open_stays frame (byte ∷ []) some ∙ begun.open_gate some in
        let same : claimed longer ≡ claimed frame = claimed_stays frame (byte ∷ []) enough in
        let fit : is_fit at (claimed longer) ≡ true = ap (is_fit at) same ∙ begun.fits enough in
        let stop : next_stop frame ≡ head + claimed frame = stop_at_end frame enough in
        let more : nat_lt (length longer) head ≡ false = le-ltb (length longer) head (omega (arith, size_more, enough)) in
        let less : nat_lt (length longer) (head + claimed longer) ≡ true = lt-ltb (length longer) (head + claimed longer) (omega (arith, size_more, below, stop, same)) in
        by_all gate more fit less
  ]
    where
      by_few : is_open longer ≡ true → nat_lt (length longer) head ≡ true → judgement at longer ≡ Begun
      by_few gate less = ap (λ (b : Bool). by_tests b (nat_lt (length longer) head) (is_fit at (claimed longer)) (nat_lt (length longer) (head + claimed longer))) gate
          ∙ ap (λ (b : Bool). by_tests true b (is_fit at (claimed longer)) (nat_lt (length longer) (head + claimed longer))) less

      by_all : is_open longer ≡ true → nat_lt (length longer) head ≡ false → is_fit at (claimed longer) ≡ true → nat_lt (length longer) (head + claimed longer) ≡ true → judgement at longer ≡ Begun
      by_all gate more fit less = ap (λ (b : Bool). by_tests b (nat_lt (length longer) head) (is_fit at (claimed longer)) (nat_lt (length longer) (head + claimed longer))) gate
          ∙ ap (λ (b : Bool). by_tests true b (is_fit at (claimed longer)) (nat_lt (length longer) (head + claimed longer))) more
          ∙ ap (λ (b : Bool). by_tests true false b (nat_lt (length longer) (head + claimed longer))) fit
          ∙ ap (λ (b : Bool). by_tests true false true b) less

  pub same_stop : next_stop longer ≡ next_stop frame
  same_stop = elim case_head [
    | inl few ↦
        let stop : next_stop frame ≡ head = stop_in_head frame some few in
        stop_in_head longer (omega (arith, size_more)) (omega (arith, size_more, below, stop)) ∙ sym stop
    | inr enough ↦
        stop_at_end longer (omega (arith, size_more, enough)) ∙ ap (λ (n : ℕ). head + n) (claimed_stays frame (byte ∷ []) enough) ∙ sym (stop_at_end frame enough)
  ]

-- bytes up to the next stop are judged as one
pub gathered : (t : Told) (x : ℕ) (xs : List ℕ) → t.bad ≡ false → IsBegun t.at t.begun → length t.begun + length (x ∷ xs) ≤ next_stop t.begun
    → followed t (x ∷ xs) ≡ judged t (t.begun ++ x ∷ xs) (judgement t.at (t.begun ++ x ∷ xs))
gathered t x [] fine begun within = ap (λ (b : Bool). if b then t else judged t (t.begun ++ x ∷ []) (judgement t.at (t.begun ++ x ∷ []))) fine
gathered t x (y ∷ ys) fine begun within =
    let below : length t.begun + 1 < next_stop t.begun = omega (arith, within) in
    let still : judgement t.at (t.begun ++ x ∷ []) ≡ Begun = still_begun t.at t.begun begun x below in
    let one : arrived t x ≡ record t { begun = t.begun ++ x ∷ [] } =
    ap (λ (b : Bool). if b then t else judged t (t.begun ++ x ∷ []) (judgement t.at (t.begun ++ x ∷ []))) fine
    ∙ ap (judged t (t.begun ++ x ∷ [])) still in
    let size : length (t.begun ++ x ∷ []) ≡ length t.begun + 1 = length-append t.begun (x ∷ []) in
    let stop : next_stop (t.begun ++ x ∷ []) ≡ next_stop t.begun = same_stop t.at t.begun begun x below in
    let rest = gathered (record t { begun = t.begun ++ x ∷ [] }) y ys fine (begun_is t.at (t.begun ++ x ∷ []) still) (omega (arith, size, stop, within)) in
    ap (λ (u : Told). followed u (y ∷ ys)) one ∙ rest ∙ ap (λ (f : List ℕ). judged t f (judgement t.at f)) (append_assoc t.begun (x ∷ []) (y ∷ ys))

-- below the next stop they only come
pub below_stop : (t : Told) (xs : List ℕ) → t.bad ≡ false → IsBegun t.at t.begun → length t.begun + length xs < next_stop t.begun → followed t xs ≡ record t { begun = t.begun ++ xs }
below_stop t [] fine begun within = ap (λ (l : List ℕ). record t { begun = l }) (sym (append-nil t.begun))
below_stop t (x ∷ xs) fine begun within =
    let below : length t.begun + 1 < next_stop t.begun = omega (arith, within) in
    let still : judgement t.at (t.begun ++ x ∷ []) ≡ Begun = still_begun t.at t.begun begun x below in
    let one : arrived t x ≡ record t { begun = t.begun ++ x ∷ [] } =
    ap (λ (b : Bool). if b then t else judged t (t.begun ++ x ∷ []) (judgement t.at (t.begun ++ x ∷ []))) fine
    ∙ ap (judged t (t.begun ++ x ∷ [])) still in
    let size : length (t.begun ++ x ∷ []) ≡ length t.begun + 1 = length-append t.begun (x ∷ []) in
    let stop : next_stop (t.begun ++ x ∷ []) ≡ next_stop t.begun = same_stop t.at t.begun begun x below in
    let rest = below_stop (record t { begun = t.begun ++ x ∷ [] }) xs fine (begun_is t.at (t.begun ++ x ∷ []) still) (omega (arith, size, stop, within)) in
    ap (λ (u : Told). followed u xs) one ∙ rest ∙ ap (λ (l : List ℕ). record t { begun = l }) (append_assoc t.begun (x ∷ []) xs)

-- what is judged whole at its stop is all of a frame
pub whole_is : (at : ℕ) (begun more : List ℕ) → IsBegun at begun → length begun + length more ≤ next_stop begun → judgement at (begun ++ more) ≡ Whole → IsWhole at (begun ++ more)
whole_is at begun more is within whole =
    record { gate = by.gate_is; fit = by.fit_is; size = exact }
  where
    frame : List ℕ
    frame = begun ++ more

    by : IsWholeBy (is_open (begun ++ more)) (nat_lt (length (begun ++ more)) head) (is_fit at (claimed (begun ++ more))) (nat_lt (length (begun ++ more)) (head + claimed (begun ++ more)))
    by = whole_by (is_open (begun ++ more)) (nat_lt (length (begun ++ more)) head) (is_fit at (claimed (begun ++ more))) (nat_lt (length (begun ++ more)) (head + claimed (begun ++ more))) whole

    sum : length (begun ++ more) ≡ length begun + length more
    sum = length-append begun more

    enough : head ≤ length (begun ++ more)
    enough = not_below (length (begun ++ more)) head by.few_is

    all : head + claimed (begun ++ more) ≤ length (begun ++ more)
    all = not_below (length (begun ++ more)) (head + claimed (begun ++ more)) by.less_is

    one_at_least : (n : ℕ) → is_fit at n ≡ true → 1 ≤ n
    one_at_least n fit = grind (arith, nat_tests)

    some : 1 ≤ claimed (begun ++ more)
    some = one_at_least (claimed (begun ++ more)) by.fit_is

    case_begun : (length begun < 1) ⊎ ((1 ≤ length begun) × (length begun < head)) ⊎ (head ≤ length begun)
    case_begun = grind arith

    exact : length (begun ++ more) ≡ head + claimed (begun ++ more)
    exact = elim case_begun [
      | inl none ↦ absurd (omega (arith, stop_at_first begun none, within, sum, all, some))
      | inr (inl few) ↦ absurd (omega (arith, stop_in_head begun few.0 few.1, within, sum, all, some))
      | inr (inr full) ↦ omega (arith, stop_at_end begun full, claimed_stays begun more full, within, sum, all)
    ]
