use Rattle.std.proofs.Common.{ℕ, ◌≡◌, ◌∙◌, ◌-◌, ◌+◌, ◌*◌, ◌<◌, List, take, drop, length, bytes_eq, ap, sym, arith, length-take, length-drop}
use Rattle.md5.specs.Md5.{md5}
use Rattle.pass_plain.specs.Records.{range_len}
use Rattle.pass_range.specs.Places.{place, found_there}
use Rattle.pass_recover.proofs.Filling.{range-put, range-other}
use Rattle.pass_recover.proofs.fill.read_block.Goals as goal

part_long : (block len : ℕ) (bytes : List ℕ) → block * 4096 < length bytes → len ≡ range_len (length bytes) block
    → length (take (block * 4096 + len - block * 4096) (drop (block * 4096) bytes)) ≡ len
part_long block len bytes inside is = omega (arith, inside, is, length-take (block * 4096 + len - block * 4096) (drop (block * 4096) bytes), length-drop (block * 4096) bytes)

pub returns-clause-given : goal.returns-clause-given
returns-clause-given g c = λ tells.
    let long = part_long c.args.block c.range_len.result c.args.bytes.now c.requires c.range_len.ensures.len in
    range-put c.args.block c.range_len.result c.args.bytes.now c.read_range.new.into c.requires c.range_len.ensures.len (c.read_range.auto.into ∙ long)
    ∙ c.in_ok-read_range.ensures.bytes tells
    ∙ ap (λ (n : ℕ). found_there (place c.args.number c.args.block) n (g.D.Disk.view c.args.disk.now).seen.store) (long ∙ c.range_len.ensures.len)

pub returns-clause-matched : goal.returns-clause-matched
returns-clause-matched g c =
    let long = part_long c.args.block c.range_len.result c.args.bytes.now c.requires c.range_len.ensures.len in
    let got = range-put c.args.block c.range_len.result c.args.bytes.now c.read_range.new.into c.requires c.range_len.ensures.len (c.read_range.auto.into ∙ long) in
    c.eq.ensures ∙ ap (λ (l : List ℕ). bytes_eq l c.args.digest.now) (c.digest.ensures ∙ ap md5 (sym got))

pub returns-clause-others : goal.returns-clause-others
returns-clause-others g c = λ other apart.
    let long = part_long c.args.block c.range_len.result c.args.bytes.now c.requires c.range_len.ensures.len in
    range-other c.args.block c.range_len.result c.args.bytes.now c.read_range.new.into c.requires c.range_len.ensures.len (c.read_range.auto.into ∙ long) other apart
