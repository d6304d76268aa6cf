use Rattle.std.proofs.Common.{◌≡◌, ◌∙◌, ◌-◌, ◌++◌, List, length, take, drop, replicate, ap, sym, subst, arith}
use Rattle.pass_plain.proofs.Overwriting.{put_back}
use Rattle.pass_table.specs.Tables.{flat, AreWhole}
use Rattle.pass_table.proofs.Flats.{Block}
use Rattle.pass_table.proofs.Parts.{first_whole, cut_flat, cut_even}
use Rattle.pass_table.proofs.table.cut.Goals as goal

pub clear_behind-requires-clause-whole : goal.clear_behind-requires-clause-whole
clear_behind-requires-clause-whole c =
    subst (λ (t : List Block). AreWhole 4096 t) (sym (c.deref_mut.ensures.value ∙ c.truncate.ensures.items)) (first_whole 4096 c.args.table.now.items c.blocks_for-count.result c.requires.whole)

pub returns-then-size-count-clause-flat : goal.returns-then-size-count-clause-flat
returns-then-size-count-clause-flat c =
    let a = c.args in
    let t = c.truncate.new.self in
    let value = c.deref_mut.ensures.value in
    let whole : length t.items ≡ t.len = omega (arith, ap length value, c.deref_mut.ensures.len) in
    let back = put_back t.len c.clear_behind.new.table t.items (omega (arith, c.clear_behind.auto.table, c.deref_mut.ensures.len)) whole in
    let e = c.blocks_for-count.ensures in
    let covers = e.covers in
    let least = e.least in
    cut_flat a.table.now.items (take t.len (c.clear_behind.new.table ++ drop (length c.clear_behind.new.table) t.items)) c.blocks_for-count.result a.size c.requires.whole c.requires.low covers least
    (subst
    (λ (x : List Block). flat x ≡ take a.size (flat (take c.blocks_for-count.result a.table.now.items)) ++ replicate (length (flat x) - a.size) 0) (sym back)
    (c.clear_behind.ensures.flat ∙ ap (λ (x : List Block). take a.size (flat x) ++ replicate (length (flat c.clear_behind.new.table) - a.size) 0) (value ∙ c.truncate.ensures.items)))

pub returns-else-size-count-clause-whole : goal.returns-else-size-count-clause-whole
returns-else-size-count-clause-whole c =
    subst (λ (t : List Block). AreWhole 4096 t) (sym c.truncate.ensures.items) (first_whole 4096 c.args.table.now.items c.blocks_for-count.result c.requires.whole)

pub returns-else-size-count-clause-flat : goal.returns-else-size-count-clause-flat
returns-else-size-count-clause-flat c =
    let a = c.args in
    let e = c.blocks_for-count.ensures in
    let covers = e.covers in
    subst (λ (x : List Block). flat x ≡ take a.size (flat a.table.now.items) ++ replicate (length (flat x) - a.size) 0) (sym c.truncate.ensures.items)
    (cut_even a.table.now.items c.blocks_for-count.result a.size c.requires.whole c.requires.low (omega (arith, covers, c.if-size-count.false)))
