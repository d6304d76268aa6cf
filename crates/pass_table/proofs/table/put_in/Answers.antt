use Rattle.std.proofs.Common.{◌∙◌, ◌+◌, ◌++◌, ap, sym, subst, ℕ, List, arith, length, take, drop, Vec, Global}
use Rattle.std.specs.Prelude.{Option, Some, slice_set}
use Rattle.pass_table.specs.Tables.{flat, AreWhole}
use Rattle.pass_table.proofs.Flats.{starts, put_length, flat_put, whole_put, whole_at}
use Rattle.pass_table.proofs.table.put_in.Goals as goal

pub overwrite-requires : goal.overwrite-requires
overwrite-requires c =
    let a = c.args in
    let whole = whole_at 4096 a.table.now a.block c.in-Some.own c.requires.whole c.requires.low (sym c.taken.ensures.result ∙ c.in-Some.is) in
    let within = c.requires.within in
    omega (arith, whole, within)

pub returns-clause-whole : goal.returns-clause-whole
returns-clause-whole c =
    let a = c.args in
    let own = c.in-Some.own in
    let new : Vec ℕ Global = c.overwrite.new.own in
    let is = sym c.taken.ensures.result ∙ c.in-Some.is in
    let whole = whole_at 4096 a.table.now a.block own c.requires.whole c.requires.low is in
    let same = put_length own.items new.items a.from a.bytes.now c.overwrite.ensures (let within = c.requires.within in omega (arith, whole, within)) in
    let now = c.put_back.ensures ∙ ap (λ (t : List (Option (Vec ℕ Global))). slice_set t a.block (Some new)) c.taken.ensures.table in
    subst (λ (t : List (Option (Vec ℕ Global))). AreWhole 4096 t) (sym now) (whole_put 4096 own new a.from a.bytes.now c.requires.within c.overwrite.ensures a.table.now a.block c.requires.whole (same ∙ whole))

pub returns-clause-flat : goal.returns-clause-flat
returns-clause-flat c =
    let a = c.args in
    let own = c.in-Some.own in
    let new : Vec ℕ Global = c.overwrite.new.own in
    let is = sym c.taken.ensures.result ∙ c.in-Some.is in
    let now = c.put_back.ensures ∙ ap (λ (t : List (Option (Vec ℕ Global))). slice_set t a.block (Some new)) c.taken.ensures.table in
    ap flat now
    ∙ flat_put 4096 own new a.from a.bytes.now c.requires.within c.overwrite.ensures a.table.now a.block c.requires.whole c.requires.low is
    ∙ ap (λ (n : ℕ). take (n + a.from) (flat a.table.now) ++ a.bytes.now ++ drop (n + a.from + length a.bytes.now) (flat a.table.now)) (starts a.block)
