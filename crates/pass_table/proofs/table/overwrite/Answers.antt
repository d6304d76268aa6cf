use Rattle.std.proofs.Common.{◌≡◌, ◌∙◌, ◌+◌, ◌++◌, ap, List, ℕ, arith, length, take, drop}
use Rattle.pass_plain.proofs.Overwriting.{put_back}
use Rattle.pass_table.proofs.table.overwrite.Goals as goal

pub returns : goal.returns
returns c =
    let own = c.args.own.now in
    let value = c.deref_mut.ensures.value in
    let whole : length own.items ≡ own.len = omega (arith, ap length value, c.deref_mut.ensures.len) in
    put_back own.len c.put.new.own own.items (omega (arith, c.put.auto.own, c.deref_mut.ensures.len)) whole
    ∙ c.put.ensures ∙ ap (λ (xs : List ℕ). take c.args.from xs ++ c.args.bytes.now ++ drop (c.args.from + length c.args.bytes.now) xs) value
