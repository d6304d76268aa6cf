-- What is read of an area, and of a content.
use Rattle.std.proofs.Common.{◌≡◌, ◌∙◌, ℕ, ◌-◌, min, List, [], ◌++◌, length, take, drop, replicate, refl, sym, ap, subst, arith, length-append, length-drop, length-take}
use Rattle.std.specs.Prelude.{Result, Ok, Err, IsErr}
use Rattle.std.proofs.lemmas.List.{append-nil, take_min, take-replicate, drop_all, take_at}
use borrow.Rule.Slice.PartMut.{put_mid}
use Rattle.pass_outside.specs.Moments.{Moment, IsDeviceCall}
use Rattle.pass_range.specs.Places.{found_there}
use Rattle.pass_entry.proofs.Places.{take_append}

-- bytes that were read, and zeros behind them
pub read_filled : (at len count : ℕ) (area old into zeros : List ℕ) → count ≡ min len (length area - at) → into ≡ take count (drop at area) ++ drop count old → length old ≡ len
    → zeros ≡ replicate (length into - count) 0 → put_mid count (length into - count) into zeros ≡ found_there at len area
read_filled at len count area old into zeros counted is long zero =
    let there : length (drop at area) ≡ length area - at = length-drop at area in
    let front : length (take count (drop at area)) ≡ count = omega (arith, length-take count (drop at area), there, counted) in
    let all : length into ≡ len = omega (arith, ap length is, length-append (take count (drop at area)) (drop count old), front, length-drop count old, long, counted) in
    let none : drop (length into - count) (drop count into) ≡ [] = drop_all (length into - count) (drop count into) (omega (arith, length-drop count into)) in
    let head : take count into ≡ take count (drop at area) = ap (take count) is ∙ take_at (take count (drop at area)) (drop count old) count front in
    let left : len - length (drop at area) ≡ length into - count = omega (arith, all, there, counted) in
    let found : found_there at len area ≡ take count (drop at area) ++ replicate (length into - count) 0 =
    take_append len (drop at area) (replicate len 0)
    ∙ ap (λ (l : List ℕ). l ++ take (len - length (drop at area)) (replicate len 0))
    (sym (take_min len (drop at area)) ∙ ap (λ (k : ℕ). take k (drop at area)) (omega (arith, there, counted)))
    ∙ ap (λ (l : List ℕ). take count (drop at area) ++ l)
    (take-replicate (len - length (drop at area)) len 0 (omega arith) ∙ ap (λ (k : ℕ). replicate k 0) left) in
    ap (λ (l : List ℕ). take count into ++ (zeros ++ l)) none
    ∙ ap (λ (l : List ℕ). take count into ++ l) (append-nil zeros ∙ zero)
    ∙ ap (λ (l : List ℕ). l ++ replicate (length into - count) 0) head ∙ sym found

-- what is answered for a call that failed
pub failed_call : {T E U F : Type 0} {old new : Moment} (r : Result T E) (e : E) (s : Result U F) → IsDeviceCall old new r → r ≡ Err e → IsErr s → IsDeviceCall old new s
failed_call r e (Ok x) call is err = absurd (cc err)
failed_call {T} {E} r e (Err f) call is err =
    let failed : IsErr r = subst IsErr (sym is) refl in
    record {
      tells = call.tells;
      rises = call.rises;
      one_more = call.one_more;
      ok = λ h. absurd (cc h);
      err = λ _. call.err failed;
      adds = call.adds;
      keeps = call.keeps;
    }
