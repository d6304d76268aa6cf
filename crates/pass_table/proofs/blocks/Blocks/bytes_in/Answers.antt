use Rattle.std.proofs.Common.{◌≡◌, ◌∙◌, ◌*◌, ◌-◌, ◌%◌, ℕ, take, drop, ap, arith}
use Rattle.pass_table.proofs.blocks.Blocks.bytes_in.Goals as goal

pub returns : goal.returns
returns c = c.rest.ensures ∙ ap (λ (n : ℕ). take n (drop (c.args.block * 4096) c.args.self.now.bytes)) (let z : 4096 - c.args.block * 4096 % 4096 ≡ 4096 = omega arith in z)
