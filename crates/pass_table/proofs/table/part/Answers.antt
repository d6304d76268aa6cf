use Rattle.std.proofs.Common.{◌≡◌, ◌∙◌, ◌+◌, ◌/◌, ◌%◌, ℕ, List, length, take, drop, ap, sym, arith}
use Rattle.std.specs.Prelude.{Some}
use Rattle.pass_table.specs.Tables.{bytes_of, flat}
use Rattle.pass_table.proofs.Flats.{Block, starts, whole_at}
use Rattle.pass_table.proofs.Parts.{part_at, part_zero}
use Rattle.pass_table.proofs.table.part.Goals as goal

pub piece-requires : goal.piece-requires
piece-requires c =
    let a = c.args in
    let low = c.requires.low in
    let whole = whole_at 4096 a.table.now (a.at / 4096) c.in-Some.own c.requires.whole (omega (arith, low)) (sym c.block_of.ensures ∙ c.in-Some.is) in
    let same = ap length c.deref.ensures.value in
    let within = c.requires.within in
    omega (arith, whole, same, within)

pub returns-in-Some : goal.returns-in-Some
returns-in-Some c =
    let a = c.args in
    let low = c.requires.low in
    let own : c.deref.result.now ≡ bytes_of (Some c.in-Some.own) = c.deref.ensures.value in
    c.piece.ensures
    ∙ ap (λ (xs : List ℕ). take a.len (drop (a.at % 4096) xs)) (own ∙ ap (λ (x : Block). bytes_of x) (sym c.in-Some.is ∙ c.block_of.ensures))
    ∙ part_at 4096 a.table.now (a.at / 4096) (a.at % 4096) a.len c.requires.whole (omega (arith, low)) c.requires.within
    ∙ ap (λ (n : ℕ). take a.len (drop n (flat a.table.now))) (ap (λ n. n + a.at % 4096) (starts (a.at / 4096)) ∙ (omega arith))

pub returns-in-None : goal.returns-in-None
returns-in-None c =
    let a = c.args in
    let low = c.requires.low in
    c.zeros.ensures
    ∙ part_zero (a.at % 4096) a.len c.requires.within
    ∙ ap (λ (x : Block). take a.len (drop (a.at % 4096) (bytes_of x))) (sym c.in-None.is ∙ c.block_of.ensures)
    ∙ part_at 4096 a.table.now (a.at / 4096) (a.at % 4096) a.len c.requires.whole (omega (arith, low)) c.requires.within
    ∙ ap (λ (n : ℕ). take a.len (drop n (flat a.table.now))) (ap (λ n. n + a.at % 4096) (starts (a.at / 4096)) ∙ (omega arith))
