use Rattle.std.proofs.Common.{◌≡◌, ◌∙◌, ℕ, ◌+◌, ◌*◌, ◌-◌, ◌/◌, ◌%◌, ◌++◌, List, length, take, drop, replicate, ap, sym, arith}
use Rattle.pass_table.specs.Tables.{flat}
use Rattle.pass_table.proofs.Flats.{starts, flat_length}
use Rattle.pass_table.proofs.Parts.{cleared, clear_already, zero_is}
use Rattle.pass_table.proofs.table.clear_behind.Goals as goal

pub returns-then-is_made-clause-flat : goal.returns-then-is_made-clause-flat
returns-then-is_made-clause-flat c =
    let a = c.args in
    let old : List ℕ = flat a.table.now in
    let low = c.requires.low in
    let last = c.requires.last in
    let size : length old ≡ length a.table.now * 4096 = flat_length 4096 a.table.now c.requires.whole ∙ starts (length a.table.now) in
    let now : length (flat c.put_in.new.table) ≡ length c.put_in.new.table * 4096 = flat_length 4096 c.put_in.new.table c.put_in.ensures.whole ∙ starts (length c.put_in.new.table) in
    let z = c.zeros.ensures in
    c.put_in.ensures.flat
    ∙ ap (λ (xs : List ℕ). take (a.at / 4096 * 4096 + a.at % 4096) old ++ xs ++ drop (a.at / 4096 * 4096 + a.at % 4096 + length xs) old) z
    ∙ cleared old (a.at / 4096 * 4096 + a.at % 4096) a.at (4096 - a.at % 4096) (length a.table.now * 4096 - a.at) (omega arith) (omega (arith, size, low)) (omega (arith, low, last))
    ∙ ap (λ n. take a.at old ++ replicate (n - a.at) 0) (let n = c.put_in.auto.table in let z : length old ≡ length (flat c.put_in.new.table) = omega (arith, size, now, n) in z)

pub returns-else-is_made-clause-flat : goal.returns-else-is_made-clause-flat
returns-else-is_made-clause-flat c =
    let a = c.args in
    let low = c.requires.low in
    let last = c.requires.last in
    let at_is : a.at / 4096 * 4096 + a.at % 4096 ≡ a.at = omega arith in
    let starts_at = ap (λ n. n + a.at % 4096) (starts (a.at / 4096)) ∙ at_is in
    clear_already 4096 a.table.now (a.at / 4096) (a.at % 4096) zero_is c.requires.whole (omega (arith, low, last)) (omega arith) (sym c.is_made.ensures ∙ c.if-is_made.false)
    ∙ ap (λ (n : ℕ). take n (flat a.table.now) ++ replicate (length (flat a.table.now) - n) 0) starts_at
