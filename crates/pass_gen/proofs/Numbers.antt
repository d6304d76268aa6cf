-- The lines of a generated trace are numbered from 1, and are as many as were asked for.
use Rattle.std.proofs.Common.{◌≡◌, ℕ, zero, suc, ◌+◌, ◌-◌, ◌≤◌, List, [], ◌∷◌, ◌++◌, length, map, refl, sym, ap, ◌∙◌, arith, length-append}
use Rattle.std.specs.List.{range_with_len}
use Rattle.std.proofs.lemmas.List.FromFn.{length-map-range_with_len}
use Rattle.pass_trace.specs.declared.trace.Command.{Command}
use Rattle.pass_trace.specs.declared.trace.Command.TheVariants.{Wait}
use Rattle.pass_trace.specs.declared.trace.TraceLine.{TraceLine}
use Rattle.pass_trace.specs.Texts.{renumbered_from}
use Rattle.pass_gen.specs.Generated.{line, word_at, child_at, command_of, first_lines, drawn_lines, last_lines, generated}

renumbered_from-append : (n m : ℕ) (xs ys : List TraceLine) → n + length xs ≡ m → renumbered_from n (xs ++ ys) ≡ renumbered_from n xs ++ renumbered_from m ys
renumbered_from-append n m [] ys at = ap (λ k. renumbered_from k ys) (let e : n ≡ m = omega (arith, at) in e)
renumbered_from-append n m (x ∷ xs) ys at =
    ap (λ ls. record { number = n; process = x.process; command = x.command } ∷ ls) (renumbered_from-append (n + 1) m xs ys (omega (arith, at)))

-- lines that are numbered from the place of a range on
renumbered_from-mapped : (k n a count : ℕ) (process : ℕ → ℕ) (command : ℕ → Command) → k + a ≡ n → renumbered_from n (map (λ i. line (k + i) (process i) (command i)) (range_with_len a count)) ≡ map (λ i. line (k + i) (process i) (command i)) (range_with_len a count)
renumbered_from-mapped k n a zero process command at = refl
renumbered_from-mapped k n a (suc count) process command at =
    ap (λ m. line m (process a) (command a) ∷ renumbered_from (n + 1) (map (λ i. line (k + i) (process i) (command i)) (range_with_len (a + 1) count))) (sym at)
    ∙ ap (λ ls. line (k + a) (process a) (command a) ∷ ls) (renumbered_from-mapped k (n + 1) (a + 1) count process command (omega (arith, at)))

length-drawn_lines : (number count : ℕ) → length (drawn_lines number count) ≡ count
length-drawn_lines number count = length-map-range_with_len (λ i. line (9 + i) (child_at i) (command_of i (word_at number i))) 0 count

front_length : (number count : ℕ) → length (first_lines ++ drawn_lines number count) ≡ 8 + count
front_length number count = omega (arith, length-append first_lines (drawn_lines number count), length-drawn_lines number count)

pub length-generated : (number lines : ℕ) → 15 ≤ lines → length (generated number lines) ≡ lines
length-generated number lines least =
    let count = lines - 15 in
    let front = front_length number count in
    omega (arith, least, front, length-append (first_lines ++ drawn_lines number count) (last_lines count))

pub numbered : (number lines : ℕ) → renumbered_from 1 (generated number lines) ≡ generated number lines
numbered number lines =
    let count = lines - 15 in
    let drawn = drawn_lines number count in
    let front = front_length number count in
    renumbered_from-append 1 (9 + count) (first_lines ++ drawn) (last_lines count) (omega (arith, front))
    ∙ ap (λ ls. ls ++ renumbered_from (9 + count) (last_lines count)) (renumbered_from-append 1 9 first_lines drawn refl)
    ∙ ap (λ ls. (first_lines ++ ls) ++ renumbered_from (9 + count) (last_lines count)) (renumbered_from-mapped 9 9 0 count child_at (λ i. command_of i (word_at number i)) refl)
    ∙ ap (λ ls. (first_lines ++ drawn) ++ ls) (renumbered_from-mapped (7 + count) (9 + count) 2 7 (λ child. 1) Wait (omega arith))
