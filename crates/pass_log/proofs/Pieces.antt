-- How an area is read piece after piece.
use Rattle.std.proofs.Common.{◌≡◌, ℕ, min, ◌+◌, ◌-◌, ◌<◌, ◌≤◌, List, ◌++◌, length, take, drop, sym, ◌∙◌, ap, arith, length-append, length-drop, length-take}
use Rattle.std.proofs.Math.Seq.{take-add}
use Rattle.std.proofs.lemmas.List.{take_at}

-- one piece more
pub more_bytes : (log bytes new piece old : List ℕ) (n : ℕ) → bytes ≡ take (length bytes) log → n ≤ length log - length bytes
    → piece ≡ take n (drop (length bytes) log) ++ drop n old → new ≡ bytes ++ take n piece → new ≡ take (length new) log
more_bytes log bytes new piece old n so_far fits got pushed =
    let here = drop (length bytes) log in
    let long : length (take n here) ≡ n = length-take n here ∙ omega (arith, fits, length-drop (length bytes) log) in
    let front : take n piece ≡ take n here = ap (take n) got ∙ take_at (take n here) (drop n old) n long in
    let size : length bytes + n ≡ length new = omega (arith, ap length pushed, length-append bytes (take n piece), ap length front, long) in
    pushed
    ∙ ap (λ (l : List ℕ). bytes ++ l) front
    ∙ ap (λ (l : List ℕ). l ++ take n here) so_far
    ∙ sym (take-add (length bytes) n log)
    ∙ ap (λ (k : ℕ). take k log) size

pub size_more : (bytes new piece : List ℕ) (n size : ℕ) → new ≡ bytes ++ take n piece → length bytes < size → n ≤ 65536 → length new ≤ size + 65536
size_more bytes new piece n size pushed below most = omega (arith, ap length pushed, length-append bytes (take n piece), length-take n piece)

-- one piece more, read at the place behind the bytes so far
pub more_piece : (log now bytes new into old : List ℕ) (n at : ℕ) → now ≡ log → at ≡ length bytes → bytes ≡ take (length bytes) log → n ≡ min (length old) (length now - at)
    → into ≡ take n (drop at now) ++ drop n old → new ≡ bytes ++ take n into → new ≡ take (length new) log
more_piece log now bytes new into old n at same place so_far count got pushed =
    more_bytes log bytes new into old n so_far (omega (arith, count, place, ap length same))
    (got ∙ ap (λ (l : List ℕ). take n (drop at l) ++ drop n old) same ∙ ap (λ (k : ℕ). take n (drop k log) ++ drop n old) place)
    pushed
