use Rattle.std.proofs.Common.{◌≡◌, ◌∙◌, ◌+◌, ◌-◌, ◌%◌, ◌++◌, ℕ, length, take, drop, ap, arith, length-take, length-drop}
use Rattle.pass_table.proofs.Growing.{read_more, rest_front}
use Rattle.pass_table.proofs.blocks.Blocks.read_into.Goals as goal

pub put-requires : goal.put-requires
put-requires c =
    let len = c.min-len.ensures in
    let count = c.min-count.ensures in
    let test = c.pieces-test.true in
    let n = length-take c.min-len.result c.rest-piece.result.now in
    let same = c.pieces.auto.into in
    omega (arith, len, count, test, n, same)

pub pieces-preserved : goal.pieces-preserved
pieces-preserved c =
    let a = c.args in
    let bytes = a.self.now.bytes in
    let done = c.pieces.done in
    let len = c.min-len.result in
    let rest = c.rest-piece.result.now in
    let is = c.min-len.ensures in
    let count = c.min-count.ensures in
    let test = c.pieces-test.true in
    let size = c.size.ensures in
    let src = length-drop a.at bytes in
    let n = length-take len rest in
    record {
      within = omega (arith, is, test);
      read = read_more (drop a.at bytes) a.into.now c.pieces.into c.put.new.own (take len rest) done len (omega (arith, n, is)) (omega (arith, test, count, src, size)) c.pieces.invariant.read
          (rest_front bytes rest a.at done (4096 - (a.at + done) % 4096) len c.rest-piece.ensures (omega (arith, is))) c.put.ensures;
    }

pub pieces-smaller : goal.pieces-smaller
pieces-smaller c =
    let a = c.args in
    let bytes = a.self.now.bytes in
    let done = c.pieces.done in
    let rest = ap length c.rest-piece.ensures ∙ length-take (4096 - (a.at + done) % 4096) (drop (a.at + done) bytes) in
    let behind = length-drop (a.at + done) bytes in
    let is = c.min-len.ensures in
    let count = c.min-count.ensures in
    let test = c.pieces-test.true in
    let size = c.size.ensures in
    omega (arith, rest, behind, is, count, test, size)

pub returns-clause-slice : goal.returns-clause-slice
returns-clause-slice c =
    let within = c.pieces.invariant.within in
    let z : c.pieces.done ≡ c.min-count.result = omega (arith, within, c.pieces-test.false) in
    c.pieces.invariant.read ∙ ap (λ (n : ℕ). take n (drop c.args.at c.args.self.now.bytes) ++ drop n c.args.into.now) z
