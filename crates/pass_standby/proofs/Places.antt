-- The places of a log's frames, one after another.
use Rattle.std.proofs.Common.{◌≡◌, ◌⊎◌, ℕ, zero, suc, ◌+◌, ◌<◌, ◌≤◌, ◌^◌, true, List, [], ◌∷◌, ◌++◌, length, get_or, Result, Ok, Err, inl, inr, refl, sym, ◌∙◌, ap, subst, arith, length-append}
use Rattle.std.specs.Prelude.{Contains, IsTrue, ◌↔◌, ◌==◌}
use Rattle.std.specs.Int.{w32, to_be_bytes}
use Rattle.std.proofs.lemmas.Bool.Decides.{nat_tests}
use Rattle.std.proofs.lemmas.Map.Made.{Contains-tail}
use Rattle.pass_log.specs.Frames.{Frames, before, scan, frames_of}
use Rattle.pass_log.proofs.Scan.{front_frame, scan_shut, scan_broken}
use Rattle.pass_log.proofs.Crash.{image_short}
use Rattle.pass_standby.specs.Logs.{IsBroken}
use Rattle.pass_standby.specs.Sending.{places}
use Rattle.pass_standby.specs.Streams.{is_open}
use Rattle.pass_entry.proofs.Places.{Contains-behind}

abbrev frames_in : Result Frames ℕ → List (List ℕ)
frames_in (Ok frames) = frames.list
frames_in (Err place) = []

-- one place alone
pub only : (y x : ℕ) → Contains (y ∷ []) x → y ≡ x
only y x (zero, below, is) = is
only y x (suc k, below, is) = absurd (omega (arith, below))

-- the first place
pub in_front : (at : ℕ) (frames : List (List ℕ)) → Contains (places at frames) at
in_front at [] = (0, omega arith, refl)
in_front at (frame ∷ frames) = (0, omega arith, refl)

-- none is in front of it
places_least : (at : ℕ) (frames : List (List ℕ)) (x : ℕ) → Contains (places at frames) x → at ≤ x
places_least at [] x (zero, below, is) = omega (arith, is)
places_least at [] x (suc k, below, is) = absurd (omega (arith, below))
places_least at (frame ∷ frames) x (zero, below, is) = omega (arith, is)
places_least at (frame ∷ frames) x (suc k, below, is) =
    let further : at + 5 + length frame ≤ x = places_least (at + 5 + length frame) frames x (k, omega (arith, below), is) in
    omega (arith, further)

-- The gates in front of the rest were passed over, and none of them stands at the place that is sought: it is one of the log's
-- where it is one of the rest's.
pub record IsSought (bytes rest : List ℕ) (place from : ℕ) : Type 0 where
  pub size : place + length rest ≡ length bytes
  pub some : 0 < length rest
  pub same : (frames : Frames) → scan 0 0 bytes ≡ Ok frames
      → (behind : Frames) × (scan 0 place rest ≡ Ok behind) × (Contains (places 0 frames.list) from ↔ Contains (places place behind.list) from)

pub sought_none : (bytes : List ℕ) (from : ℕ) → 0 < length bytes → IsSought bytes bytes 0 from
sought_none bytes from some = record { size = omega arith; some = some; same = λ frames found. (frames, found, (λ x. x, λ x. x)) }

module _ (bytes rest : List ℕ) (place from : ℕ) (s : IsSought bytes rest place from) where
  -- one frame more
  module _ (below : place < from) (frame after : List ℕ) (fits : length frame < 2 ^ 32) (is : rest ≡ 1 ∷ to_be_bytes w32 (length frame) ++ frame ++ after) (more : 0 < length after) where
    four : length (to_be_bytes w32 (length frame)) ≡ 4
    four = refl

    one_size : length (1 ∷ to_be_bytes w32 (length frame) ++ frame) ≡ 5 + length frame
    one_size = omega (arith, four, length-append (to_be_bytes w32 (length frame)) frame)

    rest_size : length rest ≡ 5 + length frame + length after
    rest_size = omega (arith, ap length is, length-append (1 ∷ to_be_bytes w32 (length frame) ++ frame) after, one_size)

    opened : scan 0 place rest ≡ before (frame ∷ []) (scan 0 (place + (5 + length frame)) after)
    opened = ap (scan 0 place) is ∙ (front_frame frame fits).passes place after more
        ∙ ap (λ (n : ℕ). before (frame ∷ []) (scan 0 (place + n) after)) one_size

    next : (frames behind : Frames) (r : Result Frames ℕ) → scan 0 (place + (5 + length frame)) after ≡ r → before (frame ∷ []) r ≡ Ok behind
        → (Contains (places 0 frames.list) from ↔ Contains (places place behind.list) from)
        → (last : Frames) × (scan 0 (place + (5 + length frame)) after ≡ Ok last) × (Contains (places 0 frames.list) from ↔ Contains (places (place + (5 + length frame)) last.list) from)
    next frames behind (Err e) scanned joined both = absurd (cc joined)
    next frames behind (Ok last) scanned joined both = (last, scanned, (λ x. on (both.0 x), λ y. both.1 (back y)))
      where
        list_is : frame ∷ last.list ≡ behind.list
        list_is = ap frames_in joined

        sums : place + 5 + length frame ≡ place + (5 + length frame)
        sums = omega arith

        on : Contains (places place behind.list) from → Contains (places (place + (5 + length frame)) last.list) from
        on x = subst (λ (n : ℕ). Contains (places n last.list) from) sums
            (Contains-tail place (places (place + 5 + length frame) last.list) from (λ here. omega (arith, here, below)) (subst (λ (l : List (List ℕ)). Contains (places place l) from) (sym list_is) x))

        back : Contains (places (place + (5 + length frame)) last.list) from → Contains (places place behind.list) from
        back y = subst (λ (l : List (List ℕ)). Contains (places place l) from) list_is
            (Contains-behind place (places (place + 5 + length frame) last.list) from (subst (λ (n : ℕ). Contains (places n last.list) from) (sym sums) y))

    pub sought_more : IsSought bytes after (place + (5 + length frame)) from
    sought_more = record {
      size = omega (arith, s.size, rest_size);
      some = more;
      same = λ frames found.
          let (behind, scanned, both) = s.same frames found in
          next frames behind (scan 0 (place + (5 + length frame)) after) refl (sym opened ∙ scanned) both;
    }

  -- a frame that is broken: the log isn't whole
  pub sought_broken : is_open rest ≡ true → IsBroken rest → (frames : Frames) → scan 0 0 bytes ≡ Ok frames → ⊥
  sought_broken gate broken frames found = let (behind, scanned, both) = s.same frames found in by_rest rest gate broken behind scanned
    where
      open_is : (n : ℕ) → (n == 1) ≡ true → n ≡ 1
      open_is n h = grind (arith, nat_tests)

      by_rest : (l : List ℕ) → is_open l ≡ true → IsBroken l → (behind : Frames) → scan 0 place l ≡ Ok behind → ⊥
      by_rest [] gate broken behind scanned = absurd (cc gate)
      by_rest (g ∷ tail) gate broken behind scanned = absurd (let e = sym (ap (λ (n : ℕ). scan 0 place (n ∷ tail)) (open_is g gate) ∙ scan_broken place tail broken) ∙ scanned in cc)

  -- here the search ends: at the place, behind it, or at the log's end
  pub sought_ends : (place < from → get_or rest 0 0 ≡ 1 → ⊥) → (frames : Frames) → scan 0 0 bytes ≡ Ok frames → (place ≡ from) ↔ Contains (places 0 frames.list) from
  sought_ends shut frames found =
      let (behind, scanned, both) = s.same frames found in (
        λ is. both.1 (subst (λ (n : ℕ). Contains (places place behind.list) n) is (in_front place behind.list)),
        λ x. here rest s.some shut behind scanned (both.0 x),
      )
    where
      below_or : (m n : ℕ) → m ≤ n → (m < n) ⊎ (m ≡ n)
      below_or m n le = grind arith

      here : (l : List ℕ) → 0 < length l → (place < from → get_or l 0 0 ≡ 1 → ⊥) → (behind : Frames) → scan 0 place l ≡ Ok behind → Contains (places place behind.list) from → place ≡ from
      here [] some shut behind scanned x = absurd (omega (arith, some))
      here (gate ∷ tail) some shut behind scanned x = elim (below_or place from (places_least place behind.list from x)) [
        | inl below ↦
            let none : behind.list ≡ [] = ap frames_in (sym scanned ∙ scan_shut place gate tail (shut below)) in
            only place from (subst (λ (l : List (List ℕ)). Contains (places place l) from) none x)
        | inr is ↦ is
      ]

-- a test of two places, and what it means
pub same_place : (m n : ℕ) (P : Type 0) → (m ≡ n) ↔ P → IsTrue (m == n) ↔ P
same_place m n P both = (λ is. both.0 (to m n is), λ there. back m n (both.1 there))
  where
    to : (a b : ℕ) → (a == b) ≡ true → a ≡ b
    to a b is = grind (arith, nat_tests)

    back : (a b : ℕ) → a ≡ b → (a == b) ≡ true
    back a b is = grind (arith, nat_tests)

-- a log area that is empty
sought_empty : (bytes : List ℕ) (from : ℕ) → length bytes ≤ 1 → (frames : Frames) → frames_of bytes ≡ Ok frames → (from ≡ 0) ↔ Contains (places 0 frames.list) from
sought_empty bytes from few frames found =
    let none : frames.list ≡ [] = ap frames_in (sym found ∙ image_short bytes few) in (
      λ is. subst (λ (l : List (List ℕ)). Contains (places 0 l) from) (sym none) (subst (λ (n : ℕ). Contains (places 0 []) n) (sym is) (in_front 0 [])),
      λ x. sym (only 0 from (subst (λ (l : List (List ℕ)). Contains (places 0 l) from) none x)),
    )

pub empty_is : (bytes : List ℕ) (from : ℕ) → length bytes ≤ 1 → (frames : Frames) → frames_of bytes ≡ Ok frames → IsTrue (from == 0) ↔ Contains (places 0 frames.list) from
empty_is bytes from few frames found = same_place from 0 (Contains (places 0 frames.list) from) (sought_empty bytes from few frames found)
